-- The rules keep to bytes: from a control state and buffers whose numbers are below 256, a step that writes a byte gives a plan
-- whose control state, moves and answer have none above 255.
use Rattle.std.specs.Prelude.{ℕ, ◌-◌, ◌%◌, ◌<◌, Bool, true, false, ◌&&◌, ◌||◌, not, List, [], ◌∷◌, ◌++◌, map, get_or, set, replicate, eqb, ltb, leb}
use native.Mathlib.Omega.{arith}
use Rattle.std.proofs.Common.{ltb-true}
use Rattle.std.specs.Int.Bits.{bit_and, bit_or}
use Rattle.masks.specs.Pick.{pick}
use Rattle.masks.specs.PickLaws.{pick-keeps}
use Rattle.masks.specs.Bits.{highest}
use Rattle.locks.specs.declared.Locks.{Locks}
use Rattle.contents.specs.Bytes.{Head}
use Rattle.rules.specs.declared.SyncKind.{SyncKind}
use Rattle.rules.specs.declared.SyncKind.TheVariants.{Normal, Alarm}
use Rattle.rules.specs.declared.Fault.{Fault}
use Rattle.rules.specs.declared.Fault.TheVariants.{Early, Lost, Illegal, Mismatch}
use Rattle.rules.specs.declared.Register.{Register}
use Rattle.rules.specs.declared.Register.TheVariants.{Mcr, Fsizr, Tcr1, Tcr2, Tcr3, Risr, Gisr, Rier, Gier, Rivec, Tivec, Fidac, Fidmr, Mvr, Pctlbf, Buflock, Fidrj, Fidrmr, TransmitWindow, ReceiveWindow, FifoWindow, Bufctl, Reserved}
use Rattle.rules.specs.declared.Answer.{Answer}
use Rattle.rules.specs.declared.Answer.TheVariants.{Ok, Ignored, Woke}
use Rattle.rules.specs.declared.Events.{Events}
use Rattle.rules.specs.declared.Fifo.{Fifo}
use Rattle.rules.specs.declared.Mode.{Mode}
use Rattle.rules.specs.declared.Control.{Control}
use Rattle.rules.specs.Record.{with_events, with_fifo}
use Rattle.rules.specs.Registers.{Region, send_place, receive_place, fifo_place, control_of, elsewhere, region_of, register_at, reset_control, has, LOCK, LOCKIE, WAKEIF, SYNLIF}
use Rattle.rules.specs.Kinds.{is_transmit, is_receive, is_locked, place_after}
use Rattle.rules.specs.Flags.{risr, gisr, receive_vector, transmit_vector, write_risr, write_gisr, defers_clear}
use Rattle.rules.specs.Waiting.{is_free, asleep, deliver, delivery, deliver_both, delivered, deliveries, waits_for}
use Rattle.rules.specs.Modes.{enter, leave, wake, cancel, write_sleep, mode_by, write_mcr}
use Rattle.rules.specs.Writes.{enters_by_lock, lock_error, lock, release_fifo, release_all, unlock, write_cfg, write_iena, write_iflg, write_abtrq, write_lock, write_bufctl, write_gier, written, window_moves, moves_in, write_moves}
use Rattle.rules.specs.Reads.{mcr, buflock, bufctl, value_of, window_reply, reply_in, read_reply}
use Rattle.rules.specs.Bus.{woken, sync_events, sync_flag, synced, due_kind, due_sync, timed_out, lost_events, faulted, lookup, to_place, to_buffer, fifo_takes, to_fifo, raise_last, found, judged, received, offers, send_from, slot_for, slotted}
use Rattle.rules.specs.Refusals.{refuses11, refuses12, read_refusal, write_refusal, refusal}
use Rattle.rules.specs.Answers.{given_of, number_in, sync_number}
use Rattle.rules.specs.Steps.{Step, reset, read, write, sync, sync_due, slot, frame, fault, timeout, value_in}
use Rattle.rules.specs.Plan.{head_at, Move, wipe, set_ident, set_length, set_data, store, hold, release, Reply, say, show, send, Plan, plain, with_looked}
use Rattle.rules.specs.Rules.{on_bus, act, decide}
use Rattle.encoding.specs.Bytes.{Bytes}
use Rattle.encoding.specs.ByteListLaws.{set-bytes, zero-bytes, no_bytes_lem, cons-bytes, or_byte, and_byte, flag-byte, lowest-byte, highest-byte, first_byte}

-- the numbers of the control state that an answer can show
abbrev pub shown_by : Control → List ℕ
shown_by c =
    c.config.fsiz ∷ c.config.tcr1 ∷ c.config.tcr2 ∷ c.config.tcr3 ∷ c.config.rier ∷ c.config.gier
    ∷ c.config.accept.pattern ∷ c.config.accept.mask ∷ c.config.reject.pattern ∷ c.config.reject.mask
    ∷ c.events.risr ∷ c.events.gisr ∷ c.fifo.next ∷ []

abbrev pub InBytes : Control → Type 0
InBytes c = Bytes (shown_by c)

-- the identifier or length that a move puts
abbrev pub put_by : Move → ℕ
put_by wipe = 0
put_by (set_ident n v) = v
put_by (set_length n v) = v
put_by (set_data n j) = 0
put_by (store n) = 0
put_by (hold k) = 0
put_by (release k n) = 0

-- the detail that a reply says
abbrev pub said_by : Reply → ℕ
said_by (say a) = number_in (given_of a)
said_by (show n j) = 0
said_by (send n) = 0

pub record PlanBytes (p : Plan) : Type 0 where
  pub state : InBytes p.control
  pub put : Bytes (map put_by p.moves)
  pub said : said_by p.reply < 256

pub record HeadBytes (hs : List Head) : Type 0 where
  pub ident : (n : ℕ) → (head_at hs n).ident < 256
  pub len : (n : ℕ) → (head_at hs n).len < 256

small : (n : ℕ) → n < 16 → n < 256
small n h = omega arith

-- a number put at a place of `shown_by`
put-at : (c : Control) (k : ℕ) {v : ℕ} → InBytes c → v < 256 → Bytes (set (shown_by c) k v)
put-at c k {v} p h = set-bytes (shown_by c) k v p h

-- ---- modes

enter-bytes : (c : Control) → InBytes c → InBytes (enter c)
unfolding enter
enter-bytes c p =
    let a : List ℕ = set (shown_by c) 4 0 in
    let b : List ℕ = set a 5 (bit_and c.config.gier LOCKIE) in
    let d : List ℕ = set b 10 0 in
    let e : List ℕ = set d 11 0 in
    set-bytes e 12 0
    (set-bytes d 11 0 (set-bytes b 10 0 (set-bytes a 5 _ (put-at c 4 p (omega arith)) (and_byte LOCKIE (p 5))) (omega arith)) (omega arith))
    (omega arith)

sleep-bytes : (c : Control) (s : Bool) → InBytes c → InBytes (write_sleep c s)
unfolding write_sleep wake cancel
sleep-bytes c true p = pick-keeps InBytes c.config.bfen (λ e. p) (λ e. p)
sleep-bytes c false p = pick-keeps InBytes (asleep c) (λ e. p) (λ e. p)

mode-bytes : (i q s : Bool) (c : Control) → InBytes c → InBytes (mode_by i q s c)
unfolding mode_by leave
mode-bytes true true s c p = p
mode-bytes true false s c p = p
mode-bytes false true s c p = enter-bytes c p
mode-bytes false false s c p = sleep-bytes c s p

-- ---- a buffer's control register

lock-error-bytes : (l : Locks) (c : Control) → InBytes c → InBytes (lock_error l c)
unfolding lock_error
lock-error-bytes l c p = pick-keeps InBytes (enters_by_lock l c) (λ e. enter-bytes c p) (λ e. p)

lock-bytes : (c : Control) (n : ℕ) → InBytes c → InBytes (lock c n)
unfolding lock
lock-bytes c n p =
    pick-keeps InBytes (is_transmit c n) (λ e. lock-error-bytes c.transmit _ p)
    (λ e. pick-keeps InBytes (is_receive c n) (λ f. lock-error-bytes c.receive _ p) (λ f. p))

release-bytes : (c : Control) (n : ℕ) → InBytes c → InBytes (release_all c n)
unfolding release_all release_fifo
release-bytes c n p = pick-keeps (λ (f : Fifo). InBytes (with_fifo c f)) (c.fifo.locked && eqb n c.fifo.oldest) (λ e. p) (λ e. p)

-- a frame that waited is delivered: IFLG and the places are in no answer's number
deliver-bytes : (c : Control) (k n : ℕ) → InBytes c → InBytes (deliver c k n)
unfolding deliver
deliver-bytes c k n p = pick-keeps InBytes (eqb (waits_for c.places k) n) (λ e. p) (λ e. p)

both_bytes : (c : Control) (k j n : ℕ) → InBytes c → InBytes (deliver_both c k j n)
unfolding deliver_both
both_bytes c k j n p = deliver-bytes _ j n (deliver-bytes c k n p)

delivered-bytes : (c : Control) (n : ℕ) → InBytes c → InBytes (delivered c n)
unfolding delivered
delivered-bytes c n p = pick-keeps InBytes c.places.swapped (λ e. both_bytes c 1 0 n p) (λ e. both_bytes c 0 1 n p)

unlock-bytes : (c : Control) (n : ℕ) → InBytes c → InBytes (unlock c n)
unfolding unlock
unlock-bytes c n p = release-bytes _ n (delivered-bytes c n p)

iflg-bytes : (c : Control) (n v : ℕ) → InBytes c → InBytes (write_iflg c n v)
unfolding write_iflg
iflg-bytes c n v p = pick-keeps InBytes _ (λ e. p) (λ e. p)

abtrq-bytes : (c : Control) (n v : ℕ) → InBytes c → InBytes (write_abtrq c n v)
unfolding write_abtrq
abtrq-bytes c n v p = pick-keeps InBytes _ (λ e. p) (λ e. p)

lock-written : (c : Control) (n v : ℕ) → InBytes c → InBytes (write_lock c n v)
unfolding write_lock
lock-written c n v p = pick-keeps InBytes _ (λ e. pick-keeps InBytes (is_locked c n) (λ f. p) (λ f. lock-bytes c n p)) (λ e. unlock-bytes c n p)

bufctl-bytes : (c : Control) (n v : ℕ) → InBytes c → InBytes (write_bufctl c n v)
unfolding write_bufctl write_iena write_cfg
bufctl-bytes c n v p = lock-written _ n v (abtrq-bytes _ n v (iflg-bytes _ n v p))

-- ---- the other registers

gier-byte : (init : Bool) (old v : ℕ) → old < 256 → v < 256 → write_gier init old v < 256
unfolding write_gier
gier-byte init old v h k = pick-keeps (λ (x : ℕ). x < 256) init (λ e. k) (λ e. or_byte (and_byte _ k) (and_byte _ h))

gisr-bytes : (c : Control) (v : ℕ) → InBytes c → InBytes (with_events c (write_gisr c.mode.synced c.events v))
unfolding write_gisr
gisr-bytes c v p =
    pick-keeps (λ (f : Events). InBytes (with_events c f)) (defers_clear c.mode.synced c.events v)
    (λ e. put-at c 11 p (and_byte _ (p 11))) (λ e. put-at c 11 p (and_byte _ (p 11)))

written-bytes : (c : Control) (r : Register) (v : ℕ) → InBytes c → v < 256 → InBytes (written c r v)
unfolding written write_mcr write_risr
written-bytes c Mcr v p h = mode-bytes _ _ _ _ p
written-bytes c Fsizr v p h = put-at c 0 p (omega arith)
written-bytes c Tcr1 v p h = put-at c 1 p h
written-bytes c Tcr2 v p h = put-at c 2 p h
written-bytes c Tcr3 v p h = put-at c 3 p h
written-bytes c Risr v p h = put-at c 10 p (and_byte _ (p 10))
written-bytes c Gisr v p h = gisr-bytes c v p
written-bytes c Rier v p h = put-at c 4 p (and_byte _ h)
written-bytes c Gier v p h = put-at c 5 p (gier-byte c.mode.init _ v (p 5) h)
written-bytes c Rivec v p h = p
written-bytes c Tivec v p h = p
written-bytes c Fidac v p h = put-at c 6 p h
written-bytes c Fidmr v p h = put-at c 7 p h
written-bytes c Mvr v p h = p
written-bytes c Pctlbf v p h = p
written-bytes c Buflock v p h = p
written-bytes c Fidrj v p h = put-at c 8 p h
written-bytes c Fidrmr v p h = put-at c 9 p h
written-bytes c (TransmitWindow q) v p h = p
written-bytes c (ReceiveWindow q) v p h = p
written-bytes c (FifoWindow q) v p h = p
written-bytes c (Bufctl n) v p h = bufctl-bytes c n v p
written-bytes c Reserved v p h = p

window-moves : (n q v : ℕ) → v < 256 → Bytes (map put_by (window_moves n q v))
unfolding window_moves
window-moves n q v h =
    pick-keeps (λ (ms : List Move). Bytes (map put_by ms)) (eqb q 0) (λ e. cons-bytes v [] h no_bytes_lem)
    (λ e. pick-keeps (λ (ms : List Move). Bytes (map put_by ms)) (eqb q 1) (λ f. cons-bytes (v % 16) [] (omega arith) no_bytes_lem)
    (λ f. cons-bytes 0 [] (omega arith) no_bytes_lem))

-- moves that put no number
abbrev Puts : List Move → Type 0
Puts ms = Bytes (map put_by ms)

-- a release copies what was there
two-put : (t u : Bool) (k j n : ℕ) → Puts (pick t (release k n ∷ []) [] ++ pick u (release j n ∷ []) [])
unfolding pick
two-put true true k j n = cons-bytes 0 (0 ∷ []) (omega arith) (cons-bytes 0 [] (omega arith) no_bytes_lem)
two-put true false k j n = cons-bytes 0 [] (omega arith) no_bytes_lem
two-put false true k j n = cons-bytes 0 [] (omega arith) no_bytes_lem
two-put false false k j n = no_bytes_lem

deliveries-put : (c : Control) (n : ℕ) → Puts (deliveries c n)
unfolding deliveries delivery
deliveries-put c n =
    let first = eqb c.places.first n in
    let second = eqb c.places.second n in
    pick-keeps Puts c.places.swapped (λ e. two-put second first 1 0 n) (λ e. two-put first second 0 1 n)

moves-in : (c : Control) (g : Region) (v : ℕ) → v < 256 → Bytes (map put_by (moves_in c g v))
moves-in c (send_place q) v h = window-moves _ q v h
moves-in c (receive_place q) v h = window-moves _ q v h
moves-in c (fifo_place q) v h = no_bytes_lem
moves-in c (control_of n) v h = pick-keeps Puts (has v LOCK) (λ e. no_bytes_lem) (λ e. deliveries-put c n)
moves-in c elsewhere v h = no_bytes_lem

-- ---- reads

mcr-byte : (slpak : Bool) (m : Mode) → mcr slpak m < 256
unfolding mcr
mcr-byte slpak m =
    flag-byte _ (omega arith) (flag-byte _ (omega arith) (flag-byte _ (omega arith) (flag-byte _ (omega arith)
    (flag-byte _ (omega arith) (flag-byte _ (omega arith) (flag-byte _ (omega arith) (flag-byte _ (omega arith) (omega arith))))))))

value-byte : (c : Control) (r : Register) → InBytes c → value_of c r < 256
unfolding value_of risr gisr receive_vector transmit_vector buflock bufctl
value-byte c Mcr p = mcr-byte (asleep c) c.mode
value-byte c Fsizr p = p 0
value-byte c Tcr1 p = p 1
value-byte c Tcr2 p = p 2
value-byte c Tcr3 p = p 3
value-byte c Risr p = flag-byte _ (omega arith) (flag-byte _ (omega arith) (p 10))
value-byte c Gisr p = flag-byte _ (omega arith) (flag-byte _ (omega arith) (p 11))
value-byte c Rier p = p 4
value-byte c Gier p = p 5
value-byte c Rivec p = lowest-byte _ 0 16 (omega arith)
value-byte c Tivec p = highest-byte _ 16 (omega arith)
value-byte c Fidac p = p 6
value-byte c Fidmr p = p 7
value-byte c Mvr p = omega arith
value-byte c Pctlbf p = flag-byte _ (omega arith) (omega arith)
value-byte c Buflock p = flag-byte _ (omega arith) (flag-byte _ (omega arith) (omega arith))
value-byte c Fidrj p = p 8
value-byte c Fidrmr p = p 9
value-byte c (TransmitWindow q) p = omega arith
value-byte c (ReceiveWindow q) p = omega arith
value-byte c (FifoWindow q) p = omega arith
value-byte c (Bufctl n) p =
    flag-byte _ (omega arith) (flag-byte _ (omega arith) (flag-byte _ (omega arith) (flag-byte _ (omega arith) (flag-byte _ (omega arith) (omega arith)))))
value-byte c Reserved p = omega arith

-- a reply whose detail is a byte
abbrev Says : Reply → Type 0
Says r = said_by r < 256

module _ (hs : List Head) (q : HeadBytes hs) where
  window-byte : (n p : ℕ) → Says (window_reply hs n p)
  unfolding window_reply
  window-byte n p =
      pick-keeps Says (ltb p 2) (λ e. pick-keeps (λ (x : ℕ). x < 256) (eqb p 0) (λ f. q.ident n) (λ f. q.len n))
      (λ e. pick-keeps Says (ltb n 16) (λ f. omega arith) (λ f. omega arith))

  reply-byte : (c : Control) (g : Region) (v : ℕ) → v < 256 → Says (reply_in c hs g v)
  reply-byte c (send_place p) v h = window-byte _ p
  reply-byte c (receive_place p) v h = window-byte _ p
  reply-byte c (fifo_place p) v h = window-byte _ p
  reply-byte c (control_of n) v h = h
  reply-byte c elsewhere v h = h

  read_byte : (c : Control) (r : Register) → InBytes c → Says (read_reply c hs r)
  unfolding read_reply
  read_byte c r p = reply-byte c (region_of r) _ (value-byte c r p)

-- ---- refusals

refusal-byte : (c : Control) (e : Step) → refusal c e < 256
unfolding refusal read_refusal write_refusal
refusal-byte c reset = omega arith
refusal-byte c (read a) = first_byte 1 _ (omega arith)
refusal-byte c (write a v) = first_byte 1 _ (omega arith)
refusal-byte c (sync k) = omega arith
refusal-byte c sync_due = omega arith
refusal-byte c (slot i room) = pick-keeps (λ (x : ℕ). x < 256) (refuses12 room) (λ e. omega arith) (λ e. omega arith)
refusal-byte c (frame good f) = pick-keeps (λ (x : ℕ). x < 256) (refuses11 f) (λ e. omega arith) (λ e. omega arith)
refusal-byte c (fault k) = omega arith
refusal-byte c timeout = omega arith

-- ---- the bus

-- a plan that changes the control state alone
plain-bytes : (c : Control) (a : Answer) → InBytes c → number_in (given_of a) < 256 → PlanBytes (plain c a)
plain-bytes c a p h = record { state = p; put = no_bytes_lem; said = h }

gisr-raised : (c : Control) (b : ℕ) → InBytes c → b < 256 → Bytes (set (shown_by c) 11 (bit_or c.events.gisr b))
gisr-raised c b p h = put-at c 11 p (or_byte (p 11) h)

woken-bytes : (c : Control) → InBytes c → InBytes (woken c)
unfolding woken wake
woken-bytes c p = gisr-raised c WAKEIF p (omega arith)

flag-of : (k : SyncKind) → sync_flag k < 256
flag-of Normal = omega arith
flag-of Alarm = omega arith

synced-bytes : (k : SyncKind) (c : Control) (hs : List Head) → InBytes c → InBytes (synced k c hs)
unfolding synced sync_events
synced-bytes k c hs p =
    set-bytes (set (shown_by c) 10 _) 11 _ (put-at c 10 p (or_byte (or_byte (p 10) (flag-of k)) (omega arith)))
    (pick-keeps (λ (x : ℕ). x < 256) c.events.clearing (λ e. and_byte _ (p 11)) (λ e. p 11))

number_of : (k : SyncKind) → sync_number k < 256
number_of Normal = omega arith
number_of Alarm = omega arith

cancel-bytes : (c : Control) → InBytes c → InBytes (cancel c)
unfolding cancel
cancel-bytes c p = p

due-bytes : (c : Control) (hs : List Head) → InBytes c → PlanBytes (due_sync c hs)
unfolding due_sync
due-bytes c hs p =
    pick-keeps PlanBytes c.mode.master (λ e. plain-bytes _ _ (synced-bytes (due_kind c) (cancel c) hs (cancel-bytes c p)) (number_of (due_kind c)))
    (λ e. plain-bytes _ _ p (omega arith))

faulted-bytes : (k : Fault) (c : Control) → InBytes c → InBytes (faulted k c)
unfolding faulted lost_events
faulted-bytes Early c p = gisr-raised c _ p (omega arith)
faulted-bytes Lost c p = gisr-raised c SYNLIF p (omega arith)
faulted-bytes Illegal c p = gisr-raised c _ p (omega arith)
faulted-bytes Mismatch c p = put-at c 10 p (or_byte (p 10) (omega arith))

place_byte : (fsiz n : ℕ) → fsiz < 256 → place_after fsiz n < 256
unfolding place_after
place_byte fsiz n h =
    pick-keeps (λ (x : ℕ). x < 256) (ltb n (fsiz - 1)) (λ e. let l : n < fsiz - 1 = ltb-true n (fsiz - 1) e in omega arith) (λ e. omega arith)

stored_bytes : Bytes (0 ∷ [])
stored_bytes = cons-bytes 0 [] (omega arith) no_bytes_lem

buffer-bytes : (c : Control) (n : ℕ) → InBytes c → n < 256 → PlanBytes (to_buffer c n)
unfolding to_buffer to_place
buffer-bytes c n p h =
    pick-keeps PlanBytes (is_locked c n)
    (λ e. pick-keeps PlanBytes (is_free c 0) (λ f. record { state = p; put = stored_bytes; said = h })
    (λ f. pick-keeps PlanBytes (is_free c 1) (λ t. record { state = p; put = stored_bytes; said = h }) (λ t. plain-bytes _ _ p h)))
    (λ e. record { state = p; put = stored_bytes; said = h })

fifo-bytes : (c : Control) (i : ℕ) → InBytes c → PlanBytes (to_fifo c i)
unfolding to_fifo
fifo-bytes c i p =
    pick-keeps PlanBytes (fifo_takes c i)
    (λ e. pick-keeps PlanBytes (leb c.config.fsiz c.fifo.count) (λ f. plain-bytes _ _ (gisr-raised c _ p (omega arith)) (omega arith))
    (λ f. record { state = put-at c 12 p (place_byte c.config.fsiz c.fifo.next (p 0)); put = stored_bytes; said = p 12 }))
    (λ e. plain-bytes _ _ p (omega arith))

-- a count is in no register
counted-bytes : (p : Plan) (k : ℕ) → PlanBytes p → PlanBytes (with_looked p k)
counted-bytes p k b = record { state = b.state; put = b.put; said = b.said }

frame-bytes : (c : Control) (hs : List Head) (good : Bool) (i : ℕ) → InBytes c → PlanBytes (received c hs good i)
unfolding received judged found raise_last cancel
frame-bytes c hs good i p =
    pick-keeps PlanBytes (not c.mode.synced) (λ e. plain-bytes _ _ p (omega arith))
    (λ e. pick-keeps PlanBytes (not good || eqb i 0) (λ f. plain-bytes _ _ (gisr-raised c _ p (omega arith)) (omega arith))
    (λ f. counted-bytes _ _ (pick-keeps PlanBytes (ltb (lookup c hs i) 16) (λ t. buffer-bytes _ _ p (small _ (ltb-true (lookup c hs i) 16 t))) (λ t. fifo-bytes _ i p))))

slot-bytes : (c : Control) (hs : List Head) (i : ℕ) → InBytes c → PlanBytes (slotted c hs i)
unfolding slotted slot_for send_from
slot-bytes c hs i p =
    let n = highest (offers c hs i) 16 in
    pick-keeps PlanBytes (not c.mode.synced) (λ e. plain-bytes _ _ p (omega arith))
    (λ e. pick-keeps PlanBytes (ltb c.mode.last i && ltb n 16)
    (λ f. record { state = p; put = no_bytes_lem; said = omega arith })
    (λ f. plain-bytes _ _ p (omega arith)))

bus-bytes : (c : Control) (x y : Plan) → InBytes c → PlanBytes x → PlanBytes y → PlanBytes (on_bus c x y)
unfolding on_bus
bus-bytes c x y p q r =
    pick-keeps PlanBytes c.mode.init (λ e. plain-bytes _ _ p (omega arith)) (λ e. pick-keeps PlanBytes (asleep c) (λ f. q) (λ f. r))

-- ---- every step

pub reset-control-bytes : InBytes reset_control
unfolding reset_control
reset-control-bytes = set-bytes (set (replicate 13 0) 7 255) 9 255 (set-bytes (replicate 13 0) 7 255 (zero-bytes 13) (omega arith)) (omega arith)

module _ (c : Control) (hs : List Head) (p : InBytes c) (q : HeadBytes hs) where
  wakes-bytes : (x : Plan) → PlanBytes x → PlanBytes (on_bus c (plain (woken c) Woke) x)
  wakes-bytes x r = bus-bytes c _ x p (plain-bytes _ _ (woken-bytes c p) (omega arith)) r

  sleeps-bytes : (x : Plan) → PlanBytes x → PlanBytes (on_bus c (plain c Ignored) x)
  sleeps-bytes x r = bus-bytes c _ x p (plain-bytes _ _ p (omega arith)) r

  act-bytes : (e : Step) → value_in e < 256 → PlanBytes (act c hs e)
  unfolding act write_moves timed_out
  act-bytes reset h = record { state = reset-control-bytes; put = stored_bytes; said = omega arith }
  act-bytes (read a) h = record { state = p; put = no_bytes_lem; said = read_byte hs q c (register_at a) p }
  act-bytes (write a v) h =
      record { state = written-bytes c (register_at a) v p h; put = moves-in c (region_of (register_at a)) v h; said = omega arith }
  act-bytes (sync k) h = wakes-bytes _ (plain-bytes _ _ (synced-bytes k (cancel c) hs (cancel-bytes c p)) (omega arith))
  act-bytes sync_due h = sleeps-bytes _ (due-bytes c hs p)
  act-bytes (slot i room) h = sleeps-bytes _ (slot-bytes c hs i p)
  act-bytes (frame good f) h = wakes-bytes _ (frame-bytes c hs good (get_or f 0 0) p)
  act-bytes (fault k) h = wakes-bytes _ (plain-bytes _ _ (faulted-bytes k (cancel c) (cancel-bytes c p)) (omega arith))
  act-bytes timeout h = sleeps-bytes _ (plain-bytes (timed_out c) Ok p (omega arith))

  pub decide-bytes : (e : Step) → value_in e < 256 → PlanBytes (decide c hs e)
  unfolding decide
  decide-bytes e h = pick-keeps PlanBytes (eqb (refusal c e) 0) (λ t. act-bytes e h) (λ t. plain-bytes _ _ p (refusal-byte c e))
