-- Towards proofs/BufferBytesLaws.antt: a buffer's bytes after each kind of step, and the registers that show one.
use Rattle.std.specs.Prelude.{◌≡◌, Bool, true, false, ◌&&◌, ◌||◌, not, set, length, eqb, ltb}
use Rattle.std.proofs.Math.Path.{refl, ap}
use Rattle.std.proofs.Common.{sym, ◌∙◌, get_or-set_same, get_or-set_other}
use Prim.Native.Nat.{ℕ, zero, suc, ◌+◌, ◌-◌, ◌≤◌, ◌<◌}
use Rattle.std.proofs.Math.Bool.{and-eq-true_iff, false≢true}
use mathlib.Core.List.{List, []}
use native.Mathlib.Omega.{arith}
use borrow.Author.Tests.{eqb-true, eqb-false, eq-eqb, ne_eqb, lt-ltb, le-ltb, ltb-true, ltb-false}
use Rattle.std.proofs.Math.ListN.{get_or, get_or-eq_default}
use Rattle.std.proofs.Math.Seq.{set_out}
use Rattle.masks.specs.Pick.{pick}
use Rattle.masks.specs.PickLaws.{pick_true, pick-false, by-test}
use Rattle.contents.specs.declared.Contents.{Contents}
use Rattle.contents.specs.Bytes.{Head, no_contents, cut, image_of}
use Rattle.contents.specs.BytesLaws.{image-behind, ident-other, length-other, data-other}
use Rattle.rules.specs.declared.Register.{Register}
use Rattle.rules.specs.declared.Register.TheVariants.{TransmitWindow, ReceiveWindow, FifoWindow, Reserved}
use Rattle.rules.specs.declared.Answer.{Answer}
use Rattle.rules.specs.declared.Answer.TheVariants.{Value, Refused}
use Rattle.rules.specs.declared.Control.{Control}
use Rattle.rules.specs.Registers.{Region, send_place, receive_place, fifo_place, control_of, elsewhere, region_of, register_at, low_map, has, LOCK}
use Rattle.rules.specs.Kinds.{fifo_holder}
use Rattle.rules.specs.Refusals.{refusal, write_refusal, refuses11}
use Rattle.rules.specs.Reads.{window_reply}
use Rattle.rules.specs.Writes.{window_moves, moves_in, write_moves}
use Rattle.rules.specs.Waiting.{deliveries}
use Rattle.waiting.specs.Code.{is_awaited}
use Rattle.rules.specs.Answers.{is_put, is_put_in, is_held, word_of, WAITING, number_in, given_of}
use Rattle.rules.specs.Steps.{Step, read, write, frame, data_register}
use Rattle.rules.specs.Plan.{Plan}
use Rattle.rules.specs.Rules.{decide}
use Rattle.rules.specs.BusPlanLaws.{FramePlan, drops, waits, puts, SlotPlan, says, sends}
use Rattle.controller.specs.declared.Controller.{Controller}
use Rattle.controller.specs.declared.Done.{Done}
use Rattle.controller.specs.Carry.{heads, row_at, move_all, answer_of, Outcome, carry}
use Rattle.controller.specs.Session.{step_of}
use Rattle.controller.specs.Calls.{done_of}
use Rattle.controller.specs.BufferBytes.{byte_at, is_place_of, is_release_of, shows, delivers, may_change}
use Rattle.controller.specs.Code.{changed, event_change, write_place}
use Rattle.controller.specs.CodeLaws.{step-plain}
use Rattle.controller.specs.AccessLaws.{window-moves, deliveries-rows, write-accepted, write-refused}
use Rattle.controller.specs.ViewLaws.{head_at_lem}

-- ---- a frame

-- the answers "stored" and "queued" name one buffer
same-put : (m n : ℕ) (a : Answer) → is_put_in m a ≡ true → is_put_in n a ≡ true → m ≡ n
same-put m n a x y =
    sym (eqb-true (number_in (given_of a)) m ((and-eq-true_iff (is_put a) (eqb (number_in (given_of a)) m)).0 x).1)
    ∙ eqb-true (number_in (given_of a)) n ((and-eq-true_iff (is_put a) (eqb (number_in (given_of a)) n)).0 y).1

-- one that names no buffer names not this one
no-put : (n : ℕ) (a : Answer) → is_put a ≡ false → is_put_in n a ≡ false
no-put n a e = simp e

-- nor does "waiting"
held-unput : (n : ℕ) (a : Answer) → is_held a ≡ true → is_put_in n a ≡ false
held-unput n a e = let w = eqb-true (word_of a) WAITING e in ap (λ (x : ℕ). (eqb x 2 || eqb x 3) && eqb (number_in (given_of a)) n) w

pub put-plan : (rows held : List Contents) (good : Bool) (f : List ℕ) (n : ℕ) (p : Plan) → FramePlan p →
    is_put_in n (carry (frame good f) rows held p).answer ≡ true → (carry (frame good f) rows held p).next.rows ≡ set rows n (image_of f)
unfolding carry move_all
put-plan rows held good f n p (drops d a k q r) x = absurd (false≢true (sym (no-put n a q) ∙ x))
put-plan rows held good f n p (waits d j a k h q) x = absurd (false≢true (sym (held-unput n a q) ∙ x))
put-plan rows held good f n p (puts d m a k q) x = ap (λ (i : ℕ). set rows i (image_of f)) (same-put m n a q x)

-- a frame of another size is refused
pub size-refused : (c : Controller) (good : Bool) (f : List ℕ) → eqb (length f) (2 + cut (get_or f 1 0)) ≡ false → (step_of c (frame good f)).answer ≡ Refused 11
unfolding carry decide refusal refuses11 pick
size-refused c good f t = ap (λ (o : Outcome). o.answer) (step-plain c (frame good f)) ∙ simp t

-- one that is put elsewhere, or nowhere, leaves the buffer
pub unput-plan : (rows held : List Contents) (good : Bool) (f : List ℕ) (n : ℕ) (p : Plan) → FramePlan p →
    is_put_in n (carry (frame good f) rows held p).answer ≡ false → row_at (carry (frame good f) rows held p).next.rows n ≡ row_at rows n
unfolding carry move_all
unput-plan rows held good f n p (drops d a k q r) x = refl
unput-plan rows held good f n p (waits d j a k h q) x = refl
unput-plan rows held good f n p (puts d m a k q) x =
    get_or-set_other rows m n (image_of f) no_contents (λ e. false≢true (sym x ∙ ap (λ (i : ℕ). is_put_in i a) e ∙ q))

-- the bytes behind a frame whose image is in buffer n, also past the last buffer
pub zero-at : (rows : List Contents) (f : List ℕ) (n k : ℕ) → 2 ≤ k → length f ≤ k → get_or (row_at (set rows n (image_of f)) n).bytes k 0 ≡ 0
zero-at rows f n k d h =
    by-test (ltb n (length rows))
    (λ t. ap byte (get_or-set_same rows n (image_of f) no_contents (ltb-true n (length rows) t)) ∙ image-behind f k d h)
    (λ t. let past = ltb-false n (length rows) t in
    ap (λ (x : List Contents). byte (row_at x n)) (set_out rows n (image_of f) past) ∙ ap byte (get_or-eq_default rows no_contents past))
  where
    byte : Contents → ℕ
    byte b = get_or b.bytes k 0

-- ---- a write

-- place p of a buffer's window written leaves its other bytes
place_other : (b : Contents) (p v k : ℕ) → (k ≡ p → ⊥) → get_or (write_place b p v).bytes k 0 ≡ get_or b.bytes k 0
unfolding write_place
place_other b p v k apart =
    by-test (eqb p 0)
    (λ t. simp (pick_true, t) (ident-other b v k (λ e. apart (e ∙ sym (eqb-true p 0 t)))))
    (λ t. by-test (eqb p 1)
    (λ u. simp (pick_true, pick-false, t, u) (length-other b _ k (λ e. apart (e ∙ sym (eqb-true p 1 u)))))
    (λ u. simp (pick-false, t, u) (data-other b (p - 2) v k (λ e. apart (e ∙ back (eqb-false p 0 t) (eqb-false p 1 u))))))
  where
    back : (p ≡ 0 → ⊥) → (p ≡ 1 → ⊥) → suc (suc (p - 2)) ≡ p
    back x y = omega (arith, x, y)

-- buffer h with place p written: every other byte of every buffer stays
written-other : (rows : List Contents) (h p v n k : ℕ) → (eqb h n && eqb p k) ≡ false →
    get_or (row_at (set rows h (write_place (row_at rows h) p v)) n).bytes k 0 ≡ get_or (row_at rows n).bytes k 0
written-other rows h p v n k apart = by-test (eqb h n) own (λ t. ap byte (get_or-set_other rows h n _ no_contents (λ e. eqb-false h n t (sym e))))
  where
    byte : Contents → ℕ
    byte b = get_or b.bytes k 0

    other : eqb h n ≡ true → k ≡ p → ⊥
    other t e = false≢true (sym apart ∙ simp (t, eq-eqb p k (sym e)))

    own : eqb h n ≡ true → get_or (row_at (set rows h (write_place (row_at rows h) p v)) n).bytes k 0 ≡ get_or (row_at rows n).bytes k 0
    own t =
        let same = eqb-true h n t in
        ap (λ (i : ℕ). byte (row_at (set rows h (write_place (row_at rows h) p v)) i)) (sym same)
        ∙ by-test (ltb h (length rows))
        (λ u. ap byte (get_or-set_same rows h _ no_contents (ltb-true h (length rows) u)) ∙ place_other (row_at rows h) p v k (other t))
        (λ u. ap (λ (x : List Contents). byte (row_at x h)) (set_out rows h _ (ltb-false h (length rows) u)))
        ∙ ap (λ (i : ℕ). byte (row_at rows i)) same

first-false : (x y : Bool) → (x || y) ≡ false → x ≡ false
first-false true y e = e
first-false false y e = refl

module _ (c : Controller) (a v n k : ℕ) where
  window-other : (h p : ℕ) → (eqb h n && eqb p k) ≡ false → get_or (row_at (move_all (write a v) c.held (window_moves h p v) c.rows) n).bytes k 0 ≡ byte_at c n k
  window-other h p apart =
      ap (λ (rows : List Contents). get_or (row_at rows n).bytes k 0) (sym (window-moves c a v h p)) ∙ written-other c.rows h p v n k apart

  -- LOCK of buffer m written: where that stores no frame in n, n stays
  release_other : (m : ℕ) → (eqb m n && not (has v LOCK) && is_awaited c.control.places n) ≡ false →
      get_or (row_at (move_all (write a v) c.held (pick (has v LOCK) [] (deliveries c.control m)) c.rows) n).bytes k 0 ≡ byte_at c n k
  unfolding move_all
  release_other m e =
      by-test (has v LOCK) (λ t. simp (t, pick_true))
      (λ t. simp (t, pick-false)
      (ap byte_in (deliveries-rows c a v m)
      ∙ by-test (is_awaited c.control.places m)
      (λ u. ap byte_in (pick_true _ _ _ u) ∙ ap (λ (b : Contents). get_or b.bytes k 0) (get_or-set_other c.rows m n _ no_contents (apart t u)))
      (λ u. ap byte_in (pick-false _ _ _ u))))
    where
      byte_in : List Contents → ℕ
      byte_in rows = get_or (row_at rows n).bytes k 0

      apart : has v LOCK ≡ false → is_awaited c.control.places m ≡ true → n ≡ m → ⊥
      apart t u same =
          let awaited = ap (is_awaited c.control.places) same ∙ u in
          false≢true (sym e ∙ simp (eq-eqb m n (sym same), t, awaited))

  region-other : (g : Region) → (is_place_of c.control n k g || is_release_of c.control n v g) ≡ false →
      get_or (row_at (move_all (write a v) c.held (moves_in c.control g v) c.rows) n).bytes k 0 ≡ byte_at c n k
  unfolding move_all is_awaited
  region-other (send_place p) e = window-other c.control.transmit.holder p (first-false _ _ e)
  region-other (receive_place p) e = window-other c.control.receive.holder p (first-false _ _ e)
  region-other (fifo_place p) e = refl
  region-other (control_of m) e = release_other m e
  region-other elsewhere e = refl

  pub write_keeps : may_change c n k (write a v) ≡ false → byte_at (step_of c (write a v)).next n k ≡ byte_at c n k
  unfolding may_change refusal shows delivers write_moves
  write_keeps e =
      by-test (eqb (write_refusal c.control a v) 0)
      (λ t. ap (λ (d : Done). byte_at d.next n k) (write-accepted c a v (eqb-true (write_refusal c.control a v) 0 t)) ∙ region-other (region_of (register_at a)) (simp t at e))
      (λ t. ap (λ (d : Done). byte_at d.next n k) (write-refused c a v t))

-- ---- any step

pub slot-rows : (e : Step) (rows held : List Contents) (p : Plan) → SlotPlan p → (carry e rows held p).next.rows ≡ rows
unfolding carry move_all
slot-rows e rows held p (says d a u) = refl
slot-rows e rows held p (sends d n) = refl

module _ (c : Controller) (n k : ℕ) where
  -- a step that only answers
  pub event-keeps : (e : Step) → changed c (event_change c e) ≡ done_of (step_of c e) → byte_at (step_of c e).next n k ≡ byte_at c n k
  event-keeps e same = ap (λ (d : Done). byte_at d.next n k) (sym same)

-- ---- a read

-- the map of the windows

module _ (p : ℕ) (h : p < 14) where
  transmit-at : register_at (0x20 + p) ≡ TransmitWindow p
  unfolding register_at pick
  transmit-at = let back : 0x20 + p - 0x20 ≡ p = omega arith in simp (le-ltb (0x20 + p) 0x20 (omega arith), lt-ltb (0x20 + p) 0x30 (omega arith), back, lt-ltb p 14 h)

  receive-at : register_at (0x30 + p) ≡ ReceiveWindow p
  unfolding register_at pick
  receive-at =
      let back : 0x30 + p - 0x30 ≡ p = omega arith in
      simp (le-ltb (0x30 + p) 0x20 (omega arith), le-ltb (0x30 + p) 0x30 (omega arith), lt-ltb (0x30 + p) 0x40 (omega arith), back, lt-ltb p 14 h)

  fifo-at : register_at (0x40 + p) ≡ FifoWindow p
  unfolding register_at pick
  fifo-at =
      let back : 0x40 + p - 0x40 ≡ p = omega arith in
      simp (le-ltb (0x40 + p) 0x20 (omega arith), le-ltb (0x40 + p) 0x30 (omega arith), le-ltb (0x40 + p) 0x40 (omega arith), lt-ltb (0x40 + p) 0x50 (omega arith), back, lt-ltb p 14 h)

own-place : (n p : ℕ) → (eqb n n && eqb p p) ≡ true
own-place n p = simp (eq-eqb n n refl, eq-eqb p p refl)

module _ (c : Control) (p : ℕ) (h : p < 14) where
  shown-as : (n a : ℕ) {r : Register} → register_at a ≡ r → is_place_of c n p (region_of r) ≡ true → shows c n p a ≡ true
  unfolding shows
  shown-as n a e t = ap (λ (r : Register). is_place_of c n p (region_of r)) e ∙ t

  pub transmit-shows : shows c c.transmit.holder p (0x20 + p) ≡ true
  transmit-shows = shown-as c.transmit.holder (0x20 + p) (transmit-at p h) (own-place c.transmit.holder p)

  pub receive-shows : shows c c.receive.holder p (0x30 + p) ≡ true
  receive-shows = shown-as c.receive.holder (0x30 + p) (receive-at p h) (own-place c.receive.holder p)

  pub fifo-shows : shows c (fifo_holder c) p (0x40 + p) ≡ true
  fifo-shows = shown-as (fifo_holder c) (0x40 + p) (fifo-at p h) (own-place (fifo_holder c) p)

-- no register past the last address is in a window
past-map : (a : ℕ) → 0x60 ≤ a → register_at a ≡ Reserved
unfolding register_at pick
past-map a h = simp (le-ltb a 0x20 (omega arith), le-ltb a 0x30 (omega arith), le-ltb a 0x40 (omega arith), le-ltb a 0x50 (omega arith), le-ltb a 0x60 h)

none-shown : (d : Bool) (x : ℕ) → x ≡ 0 → pick d x 0 ≡ 0
unfolding pick
none-shown true x e = e
none-shown false x e = refl

module _ (c : Controller) (a n : ℕ) where
  -- place k of the window of n, whose byte k is 0
  pub place-reads : (k : ℕ) → byte_at c n k ≡ 0 → answer_of (read a) c.rows (window_reply (heads c.rows) n k) ≡ Value 0
  unfolding window_reply pick
  place-reads zero z = ap Value (ap (λ (h : Head). h.ident) (head_at_lem c.rows n) ∙ z)
  place-reads (suc zero) z = ap Value (ap (λ (h : Head). h.len) (head_at_lem c.rows n) ∙ z)
  place-reads (suc (suc j)) z =
      let back : suc (suc j) - 2 ≡ j = omega arith in
      simp (le-ltb (suc (suc j)) 2 (omega arith), back) (by-test (ltb n 16) (λ t. simp t (ap Value (none-shown (data_register a) _ z))) (λ t. simp t))

module _ (c : Controller) (n k a : ℕ) (shown : shows c.control n k a ≡ true) where
  pub in_map : ltb 0x5F a ≡ false
  unfolding shows
  in_map =
      by-test (ltb 0x5F a)
      (λ t. let past = ltb-true 0x5F a t in
      absurd (false≢true (ap (λ (r : Register). is_place_of c.control n k (region_of r)) (sym (past-map a (omega arith))) ∙ shown)))
      (λ t. t)

  pub not-mcr : eqb a 0 ≡ false
  unfolding shows register_at low_map pick
  not-mcr = ne_eqb a 0 (λ e. false≢true (ap (λ (x : ℕ). is_place_of c.control n k (region_of (register_at x))) (sym e) ∙ shown))
