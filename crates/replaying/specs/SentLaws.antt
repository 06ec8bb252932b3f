-- Only a slot sends, so the frame that a row shows can be read off the room that the slot was lent.
use Prim.Native.Nat.{ℕ, zero, suc, ◌+◌, ◌≤◌, min}
use native.Mathlib.Omega.{arith}
use Rattle.std.proofs.Math.Nat.{min-eq_left}
use Rattle.std.specs.Prelude.{◌≡◌, Bool, true, false, ◌||◌, not, drop, replicate, eqb, ltb, leb}
use Rattle.std.proofs.Math.Path.{refl, ap}
use Rattle.std.proofs.Common.{sym, ◌∙◌, drop_at}
use Rattle.std.proofs.lemmas.Bool.{false≢true}
use mathlib.Core.List.{List, ◌∷◌, ◌++◌}
use Rattle.std.proofs.Math.ListN.{length, length-append, take}
use Rattle.std.proofs.Math.Seq.{take-append_seam, take_all}
use Rattle.masks.specs.PickLaws.{pick-keeps}
use Rattle.contents.specs.declared.Contents.{Contents}
use Rattle.contents.specs.Bytes.{Head, frame_of, fill_room}
use Rattle.sending.specs.CodeRoom.{frame-fits, fill_none, fill-size}
use Rattle.rules.specs.declared.Answer.{Answer}
use Rattle.rules.specs.declared.Register.{Register}
use Rattle.rules.specs.declared.Control.{Control}
use Rattle.rules.specs.Answers.{is_sent, given_of, number_in, bytes, detail_of}
use Rattle.rules.specs.AnswerLaws.{detail-same}
use Rattle.rules.specs.Registers.{Region, send_place, receive_place, fifo_place, control_of, elsewhere, region_of, register_at}
use Rattle.rules.specs.Kinds.{is_locked}
use Rattle.rules.specs.Waiting.{is_free, asleep}
use Rattle.rules.specs.Modes.{cancel}
use Rattle.rules.specs.Reads.{window_reply, reply_in, read_reply}
use Rattle.rules.specs.Bus.{due_sync, lookup, to_place, to_buffer, fifo_takes, to_fifo, raise_last, found, judged, received}
use Rattle.rules.specs.Refusals.{refusal}
use Rattle.rules.specs.Steps.{Step, slot, room_in, hide}
use Rattle.rules.specs.Plan.{Reply, say, show, send, Plan}
use Rattle.rules.specs.Rules.{on_bus, act, decide}
use Rattle.rules.specs.SendingLaws.{says_sent}
use Rattle.rules.proofs.SendingLaws.{never-says-sent}
use Rattle.controller.specs.declared.Controller.{Controller}
use Rattle.controller.specs.declared.Call.{Call}
use Rattle.controller.specs.declared.Call.TheVariants.{Reset, Read, Write, Sync, SyncDue, Slot, Frame, Fault, Timeout}
use Rattle.controller.specs.Carry.{heads, row_at, answer_of, sent_of, carry}
use Rattle.controller.specs.Session.{step_of}
use Rattle.controller.specs.Calls.{step_for, room_for}

-- ---- plans that send nothing

abbrev sends : Reply → Bool
sends (say a) = false
sends (show n j) = false
sends (send n) = true

record Quiet (p : Plan) : Type 0 where
  quiet : sends p.reply ≡ false

record QuietReply (r : Reply) : Type 0 where
  quiet : sends r ≡ false

ok : (p : Plan) → sends p.reply ≡ false → Quiet p
ok p e = record { quiet = e }

window-quiet : (hs : List Head) (n p : ℕ) → QuietReply (window_reply hs n p)
unfolding window_reply
window-quiet hs n p =
    pick-keeps QuietReply (ltb p 2) (λ t. record { quiet = refl })
    (λ t. pick-keeps QuietReply (ltb n 16) (λ u. record { quiet = refl }) (λ u. record { quiet = refl }))

reply-quiet : (c : Control) (hs : List Head) (g : Region) (v : ℕ) → QuietReply (reply_in c hs g v)
reply-quiet c hs (send_place p) v = window-quiet hs _ p
reply-quiet c hs (receive_place p) v = window-quiet hs _ p
reply-quiet c hs (fifo_place p) v = window-quiet hs _ p
reply-quiet c hs (control_of n) v = record { quiet = refl }
reply-quiet c hs elsewhere v = record { quiet = refl }

read-quiet : (c : Control) (hs : List Head) (r : Register) → QuietReply (read_reply c hs r)
unfolding read_reply
read-quiet c hs r = reply-quiet c hs (region_of r) _

bus-quiet : (c : Control) (p q : Plan) → Quiet p → Quiet q → Quiet (on_bus c p q)
unfolding on_bus
bus-quiet c p q x y = pick-keeps Quiet c.mode.init (λ t. ok _ refl) (λ t. pick-keeps Quiet (asleep c) (λ u. x) (λ u. y))

due-quiet : (c : Control) (hs : List Head) → Quiet (due_sync c hs)
unfolding due_sync
due-quiet c hs = pick-keeps Quiet c.mode.master (λ t. ok _ refl) (λ t. ok _ refl)

buffer-quiet : (c : Control) (n : ℕ) → Quiet (to_buffer c n)
unfolding to_buffer to_place
buffer-quiet c n =
    pick-keeps Quiet (is_locked c n)
    (λ t. pick-keeps Quiet (is_free c 0) (λ u. ok _ refl) (λ u. pick-keeps Quiet (is_free c 1) (λ x. ok _ refl) (λ x. ok _ refl))) (λ t. ok _ refl)

fifo-quiet : (c : Control) (i : ℕ) → Quiet (to_fifo c i)
unfolding to_fifo
fifo-quiet c i =
    pick-keeps Quiet (fifo_takes c i)
    (λ t. pick-keeps Quiet (leb c.config.fsiz c.fifo.count) (λ u. ok _ refl) (λ u. ok _ refl)) (λ t. ok _ refl)

frame-quiet : (c : Control) (hs : List Head) (good : Bool) (i : ℕ) → Quiet (received c hs good i)
unfolding received judged found
frame-quiet c hs good i =
    pick-keeps Quiet (not c.mode.synced) (λ t. ok _ refl)
    (λ t. pick-keeps Quiet (not good || eqb i 0) (λ u. ok _ refl)
    (λ u. ok _ (pick-keeps Quiet (ltb (lookup c hs i) 16) (λ x. buffer-quiet (raise_last (cancel c) i) (lookup c hs i)) (λ x. fifo-quiet (raise_last (cancel c) i) i)).quiet))

abbrev is_slot : Call → Bool
is_slot Reset = false
is_slot (Read a) = false
is_slot (Write a v) = false
is_slot (Sync k) = false
is_slot SyncDue = false
is_slot (Slot i) = true
is_slot (Frame good) = false
is_slot (Fault k) = false
is_slot Timeout = false

act-quiet : (c : Control) (hs : List Head) (call : Call) (f room : List ℕ) → is_slot call ≡ false → Quiet (act c hs (hide (step_for call f room)))
unfolding act
act-quiet c hs Reset f room s = ok _ refl
act-quiet c hs (Read a) f room s = ok _ (read-quiet c hs (register_at a)).quiet
act-quiet c hs (Write a v) f room s = ok _ refl
act-quiet c hs (Sync k) f room s = bus-quiet c _ _ (ok _ refl) (ok _ refl)
act-quiet c hs SyncDue f room s = bus-quiet c _ _ (ok _ refl) (due-quiet c hs)
act-quiet c hs (Slot i) f room s = absurd (false≢true (sym s))
act-quiet c hs (Frame good) f room s = bus-quiet c _ _ (ok _ refl) (frame-quiet c hs good _)
act-quiet c hs (Fault k) f room s = bus-quiet c _ _ (ok _ refl) (ok _ refl)
act-quiet c hs Timeout f room s = bus-quiet c _ _ (ok _ refl) (ok _ refl)

decide-quiet : (c : Control) (hs : List Head) (call : Call) (f room : List ℕ) → is_slot call ≡ false → Quiet (decide c hs (hide (step_for call f room)))
unfolding decide
decide-quiet c hs call f room s =
    pick-keeps Quiet (eqb (refusal c (hide (step_for call f room))) 0) (λ t. act-quiet c hs call f room s) (λ t. ok _ refl)

-- ---- the sent frame, read off the room

-- how many of the room's n bytes an answer shows
abbrev size_if : Bool → ℕ → ℕ → ℕ
size_if true k n = min k n
size_if false k n = 0

abbrev pub sent_size : Answer → ℕ → ℕ
sent_size a n = size_if (is_sent a) (number_in (given_of a)) n

if-le : (t : Bool) (k n : ℕ) → size_if t k n ≤ n
if-le true k n = omega arith
if-le false k n = omega arith

pub size-le : (a : Answer) (n : ℕ) → sent_size a n ≤ n
size-le a n = if-le (is_sent a) (number_in (given_of a)) n

pub size-unsent : (a : Answer) (n : ℕ) → is_sent a ≡ false → 0 ≡ sent_size a n
size-unsent a n s = sym (ap (λ (t : Bool). size_if t (number_in (given_of a)) n) s)

module _ (e : Step) (rows : List Contents) where
  detail-sent : (n : ℕ) (room : List ℕ) → room ≡ fill_room (frame_of (row_at rows n)) (room_in e)
      → take 14 (take (min (length (frame_of (row_at rows n))) (length room)) room) ≡ frame_of (row_at rows n)
  unfolding fill_room
  detail-sent n room q =
      let f : List ℕ = frame_of (row_at rows n) in
      let l : length room ≡ length f + length (drop (length f) (room_in e)) = ap length q ∙ length-append f (drop (length f) (room_in e)) in
      let m : length f ≤ length room = omega arith in
      ap (λ (k : ℕ). take 14 (take k room)) (min-eq_left m)
      ∙ ap (λ (r : List ℕ). take 14 (take (length f) r)) q
      ∙ ap (take 14) (take-append_seam f (drop (length f) (room_in e)))
      ∙ take_all 14 f (frame-fits (row_at rows n))

  detail-read : (r : Reply) → says_sent r ≡ false → (room : List ℕ) → (sends r ≡ true → room ≡ fill_room (sent_of rows r) (room_in e))
      → detail_of (answer_of e rows r) (take 14 (take (sent_size (answer_of e rows r) (length room)) room)) ≡ detail_of (answer_of e rows r) (sent_of rows r)
  detail-read (say a) s room q = detail-same a _ _ s
  detail-read (show n j) s room q = refl
  detail-read (send n) s room q = ap (bytes (length (frame_of (row_at rows n)))) (detail-sent n room (q refl))

  room-read : (r : Reply) → length (room_in e) ≡ 14 → length (fill_room (sent_of rows r) (room_in e)) ≡ 14
  room-read (say a) l = ap length (fill_none (room_in e)) ∙ l
  room-read (show n j) l = ap length (fill_none (room_in e)) ∙ l
  room-read (send n) l = let h : length (frame_of (row_at rows n)) ≤ 14 = frame-fits (row_at rows n) in fill-size (frame_of (row_at rows n)) (room_in e) (omega arith) ∙ l

module _ (c : Controller) (f room : List ℕ) where
  abbrev reply_to : Call → Reply
  reply_to call = (decide c.control (heads c.rows) (hide (step_for call f room))).reply

  quiet-call : (call : Call) → is_slot call ≡ false → sends (reply_to call) ≡ false
  quiet-call call s = (decide-quiet c.control (heads c.rows) call f room s).quiet

  quiet-room : {G : Type 0} (call : Call) → is_slot call ≡ false → sends (reply_to call) ≡ true → G
  quiet-room call s t = absurd (false≢true (sym (quiet-call call s) ∙ t))

  -- where a frame was sent the room is the one that the slot was lent
  room-sent : (call : Call) → sends (reply_to call) ≡ true → room_for c call room ≡ fill_room (sent_of c.rows (reply_to call)) (room_in (step_for call f room))
  unfolding step_of carry
  room-sent Reset t = quiet-room Reset refl t
  room-sent (Read a) t = quiet-room (Read a) refl t
  room-sent (Write a v) t = quiet-room (Write a v) refl t
  room-sent (Sync k) t = quiet-room (Sync k) refl t
  room-sent SyncDue t = quiet-room SyncDue refl t
  room-sent (Slot i) t = refl
  room-sent (Frame good) t = quiet-room (Frame good) refl t
  room-sent (Fault k) t = quiet-room (Fault k) refl t
  room-sent Timeout t = quiet-room Timeout refl t

  -- the detail as a caller reads it off the answer and the room
  pub detail-shown : (call : Call) → detail_of (step_of c (step_for call f room)).answer (take 14 (take (sent_size (step_of c (step_for call f room)).answer (length (room_for c call room))) (room_for c call room)))
      ≡ detail_of (step_of c (step_for call f room)).answer (step_of c (step_for call f room)).sent
  unfolding step_of carry
  detail-shown call =
      detail-read (step_for call f room) c.rows (reply_to call) (never-says-sent c.control (heads c.rows) (hide (step_for call f room))) (room_for c call room) (room-sent call)

  -- the room keeps its size
  pub room-size : (call : Call) → length room ≡ 14 → length (room_for c call room) ≡ 14
  unfolding step_of carry
  room-size Reset l = l
  room-size (Read a) l = l
  room-size (Write a v) l = l
  room-size (Sync k) l = l
  room-size SyncDue l = l
  room-size (Slot i) l = room-read (slot i room) c.rows (reply_to (Slot i)) l
  room-size (Frame good) l = l
  room-size (Fault k) l = l
  room-size Timeout l = l

-- ---- the room made clear again

abbrev zeros : ℕ → List ℕ
zeros n = replicate n 0

-- the first bytes zero, as many as the answer shows
abbrev pub cleared_by : Answer → List ℕ → List ℕ
cleared_by a room = zeros (sent_size a (length room)) ++ drop (sent_size a (length room)) room

cleared-unsent : (a : Answer) (room : List ℕ) → is_sent a ≡ false → cleared_by a room ≡ room
cleared-unsent a room s = rw (sym (size-unsent a (length room) s)) refl

-- nothing is shown that isn't sent
unsent : (e : Step) (rows : List Contents) (r : Reply) → sends r ≡ false → says_sent r ≡ false → is_sent (answer_of e rows r) ≡ false
unsent e rows (say a) q s = s
unsent e rows (show n j) q s = refl
unsent e rows (send n) q s = absurd (false≢true (sym q))

zeros-rest : (k n : ℕ) → k ≤ n → zeros k ++ drop k (zeros n) ≡ zeros n
zeros-rest zero n h = refl
zeros-rest (suc k) zero h = absurd (omega arith)
zeros-rest (suc k) (suc n) h = ap (λ (l : List ℕ). 0 ∷ l) (zeros-rest k n (omega arith))

sent-cleared : (f : List ℕ) → length f ≤ 14 → (room : List ℕ) → room ≡ fill_room f (zeros 14) →
    zeros (min (length f) (length room)) ++ drop (min (length f) (length room)) room ≡ zeros 14
unfolding fill_room
sent-cleared f h room q =
    let l : length room ≡ length f + length (drop (length f) (zeros 14)) = ap length q ∙ length-append f (drop (length f) (zeros 14)) in
    let m : length f ≤ length room = omega arith in
    ap (λ (k : ℕ). zeros k ++ drop k room) (min-eq_left m)
    ∙ ap (λ (r : List ℕ). zeros (length f) ++ drop (length f) r) q
    ∙ ap (λ (r : List ℕ). zeros (length f) ++ r) (drop_at f (drop (length f) (zeros 14)) (length f) refl)
    ∙ zeros-rest (length f) 14 h

-- a clear room is clear again once the bytes that the answer shows are zero
module _ (c : Controller) (f : List ℕ) where
  abbrev answer_to : Call → Answer
  answer_to call = (step_of c (step_for call f (zeros 14))).answer

  quiet-cleared : (call : Call) → is_slot call ≡ false → (room : List ℕ) → cleared_by (answer_to call) room ≡ room
  unfolding step_of carry
  quiet-cleared call s room =
      cleared-unsent (answer_to call) room
      (unsent (step_for call f (zeros 14)) c.rows (reply_to c f (zeros 14) call) (quiet-call c f (zeros 14) call s) (never-says-sent c.control (heads c.rows) (hide (step_for call f (zeros 14)))))

  slot-cleared : (i : ℕ) (r : Reply) → says_sent r ≡ false →
      cleared_by (answer_of (slot i (zeros 14)) c.rows r) (fill_room (sent_of c.rows r) (zeros 14)) ≡ zeros 14
  slot-cleared i (say a) s = ap (cleared_by a) (fill_none (zeros 14)) ∙ cleared-unsent a (zeros 14) s
  slot-cleared i (show n j) s = fill_none (zeros 14)
  slot-cleared i (send n) s = sent-cleared (frame_of (row_at c.rows n)) (frame-fits (row_at c.rows n)) _ refl

  pub room-cleared : (call : Call) → cleared_by (answer_to call) (room_for c call (zeros 14)) ≡ zeros 14
  unfolding step_of carry
  room-cleared Reset = quiet-cleared Reset refl (zeros 14)
  room-cleared (Read a) = quiet-cleared (Read a) refl (zeros 14)
  room-cleared (Write a v) = quiet-cleared (Write a v) refl (zeros 14)
  room-cleared (Sync k) = quiet-cleared (Sync k) refl (zeros 14)
  room-cleared SyncDue = quiet-cleared SyncDue refl (zeros 14)
  room-cleared (Slot i) = slot-cleared i (reply_to c f (zeros 14) (Slot i)) (never-says-sent c.control (heads c.rows) (hide (slot i (zeros 14))))
  room-cleared (Frame good) = quiet-cleared (Frame good) refl (zeros 14)
  room-cleared (Fault k) = quiet-cleared (Fault k) refl (zeros 14)
  room-cleared Timeout = quiet-cleared Timeout refl (zeros 14)

-- a sent frame has at most fourteen bytes
sent-small : (e : Step) (rows : List Contents) (r : Reply) → length (sent_of rows r) ≤ 14
sent-small e rows (say a) = omega arith
sent-small e rows (show n j) = omega arith
sent-small e rows (send n) = frame-fits (row_at rows n)

pub sent-fits : (c : Controller) (e : Step) → length (step_of c e).sent ≤ 14
unfolding step_of carry
sent-fits c e = sent-small e c.rows (decide c.control (heads c.rows) (hide e)).reply
