-- Towards proofs/StillWaitingLaws.antt: writes, and bus steps but for frames, that leave the newest frame for a buffer in its place.
use Rattle.std.specs.Prelude.{◌≡◌, ℕ, ◌+◌, ◌<◌, Bool, ◌&&◌, length, ltb, leb}
use Rattle.std.proofs.Math.Path.{refl, sym, ap}
use Rattle.std.proofs.Common.{◌∙◌}
use Rattle.std.proofs.Math.Bool.{true, false, not, false≢true}
use mathlib.Core.List.{List, [], ◌∷◌}
use native.Mathlib.Omega.{arith}
use borrow.Author.Tests.{eq-eqb, eqb-true}
use Rattle.std.proofs.Math.Seq.{get_or-set_same}
use Rattle.std.proofs.Math.Dec.{eqb}
use Rattle.std.proofs.lemmas.Bool.{and_from, and_parts, or_left, or_right}
use Rattle.masks.specs.Pick.{pick}
use Rattle.masks.specs.PickLaws.{pick_true, pick-false, pick-keeps}
use Rattle.locks.specs.declared.Locks.{Locks}
use Rattle.contents.specs.declared.Contents.{Contents}
use Rattle.contents.specs.Bytes.{no_contents, image_of}
use Rattle.rules.specs.declared.Register.{Register}
use Rattle.rules.specs.declared.Register.TheVariants.{Mcr, Fsizr, Tcr1, Tcr2, Tcr3, Risr, Gisr, Rier, Gier, Rivec, Tivec, Fidac, Fidmr, Mvr, Pctlbf, Buflock, Fidrj, Fidrmr, TransmitWindow, ReceiveWindow, FifoWindow, Bufctl, Reserved}
use Rattle.rules.specs.declared.Places.{Places}
use Rattle.rules.specs.declared.Control.{Control}
use Rattle.rules.specs.Registers.{has, LOCK, INITRQ, SLPRQ}
use Rattle.rules.specs.Kinds.{is_transmit, is_receive, is_locked}
use Rattle.rules.specs.Waiting.{is_free, asleep, deliveries}
use Rattle.rules.specs.Modes.{enter, leave, wake, cancel, write_sleep, mode_by, write_mcr}
use Rattle.rules.specs.Writes.{enters_by_lock, lock_error, lock, release_all, unlock, write_lock, write_bufctl, written, window_moves, write_moves}
use Rattle.rules.specs.Bus.{to_place, fifo_takes, to_fifo, raise_last}
use Rattle.rules.specs.Steps.{Step, frame_in}
use Rattle.rules.specs.Plan.{Move, hold, Plan}
use Rattle.rules.specs.Rules.{on_bus}
use Rattle.controller.specs.Carry.{row_at, hold_all, answer_of}
use Rattle.invariants.specs.TestLaws.{impossible, both-keep}
use Rattle.invariants.specs.AcceptedLaws.{is_address}
use Rattle.invariants.specs.ControlWriteLaws.{prepared-by}
use Rattle.invariants.specs.Newest.{is_waited_for, newest, is_waiting_for}
use Rattle.invariants.specs.DeliveredLaws.{without, delivered-places, held-left, waited-still, newest-still}

-- one place alone has a frame for n
pub only-first : (p : Places) (n : ℕ) → eqb p.first n ≡ true → eqb p.second n ≡ false → newest p n ≡ 0
only-first p n t u = pick-keeps (λ (k : ℕ). k ≡ 0) p.swapped (λ s. pick_true (eqb p.first n) 0 1 t) (λ s. pick-false (eqb p.second n) 1 0 u)

pub only-second : (p : Places) (n : ℕ) → eqb p.first n ≡ false → eqb p.second n ≡ true → newest p n ≡ 1
only-second p n t u = pick-keeps (λ (k : ℕ). k ≡ 1) p.swapped (λ s. pick-false (eqb p.first n) 0 1 t) (λ s. pick_true (eqb p.second n) 1 0 u)

-- ---- a frame answered "waiting" for n is the newest

module _ (e : Step) (rows held : List Contents) (n : ℕ) where
  abbrev pub Begins : Plan → Type 0
  Begins q =
      is_waiting_for n (answer_of e rows q.reply) ≡ true → length held ≡ 2 →
      (n < 16) × (is_waited_for q.control.places n ≡ true) × (row_at (hold_all e q.moves held) (newest q.control.places n) ≡ image_of (frame_in e))

  pub place-begins : (c : Control) (m : ℕ) → m < 16 → Begins (to_place c m)
  unfolding to_place hold_all pick
  place-begins c m h =
      pick-keeps Begins (is_free c 0)
      (λ u a two. (
        let z = eqb-true m n a in omega arith,
        or_left (eqb m n) (eqb c.places.second n) a,
        ap (row_at (hold_all e (hold 0 ∷ []) held)) (pick_true (eqb m n) 0 1 a) ∙ get_or-set_same held 0 _ no_contents (omega arith),
      ))
      (λ u. pick-keeps Begins (is_free c 1)
      (λ x a two. (
        let z = eqb-true m n a in omega arith,
        or_right (eqb c.places.first n) (eqb m n) a,
        ap (row_at (hold_all e (hold 1 ∷ []) held)) (pick_true (eqb m n) 1 0 a) ∙ get_or-set_same held 1 _ no_contents (omega arith),
      ))
      (λ x a. impossible a))

  pub fifo-begins : (c : Control) (i : ℕ) → Begins (to_fifo c i)
  unfolding to_fifo
  fifo-begins c i =
      pick-keeps Begins (fifo_takes c i)
      (λ t. pick-keeps Begins (leb c.config.fsiz c.fifo.count) (λ u a. impossible a) (λ u a. impossible a)) (λ t a. impossible a)

-- ---- and stays so

module _ (c : Control) (e : Step) (rows held : List Contents) (n : ℕ) (small : n < 16) (waited : is_waited_for c.places n ≡ true) where
  -- the places q and the moves ms leave it there
  pub record Stays (q : Places) (ms : List Move) : Type 0 where
    pub waited-still : is_waited_for q n ≡ true
    pub newest-same : newest q n ≡ newest c.places n
    pub bytes_same : row_at (hold_all e ms held) (newest c.places n) ≡ row_at held (newest c.places n)

  -- where initialization, i, isn't entered
  abbrev pub Unless : Bool → Places → List Move → Type 0
  Unless i q ms = i ≡ false → Stays q ms

  abbrev pub Steady : Control → List Move → Type 0
  Steady d ms = Unless d.mode.init d.places ms

  pub entered : {i : Bool} {q : Places} {ms : List Move} → i ≡ true → Unless i q ms
  entered t o = absurd (false≢true (sym o ∙ t))

  -- the same places, and no frame held
  pub same : {i : Bool} {q : Places} {ms : List Move} → q ≡ c.places → hold_all e ms held ≡ held → Unless i q ms
  same p m o =
      record {
        waited-still = ap (λ (q : Places). is_waited_for q n) p ∙ waited;
        newest-same = ap (λ (q : Places). newest q n) p;
        bytes_same = ap (λ (hs : List Contents). row_at hs (newest c.places n)) m;
      }

  pub unmoved : {i : Bool} {q : Places} → q ≡ c.places → Unless i q []
  unfolding hold_all
  unmoved p = same p refl

  -- ---- writes

  mode-steady : (d : Control) → d.places ≡ c.places → (i q s : Bool) → Steady (mode_by i q s d) []
  unfolding mode_by write_sleep leave enter wake cancel
  mode-steady d p true true s = unmoved p
  mode-steady d p true false s = unmoved p
  mode-steady d p false true s = entered refl
  mode-steady d p false false true = pick-keeps (λ (x : Control). Steady x []) d.config.bfen (λ t. unmoved p) (λ t. unmoved p)
  mode-steady d p false false false = pick-keeps (λ (x : Control). Steady x []) (asleep d) (λ t. unmoved p) (λ t. unmoved p)

  error-steady : (d : Control) → d.places ≡ c.places → (l : Locks) → Steady (lock_error l d) []
  unfolding lock_error enter
  error-steady d p l = pick-keeps (λ (x : Control). Steady x []) (enters_by_lock l d) (λ t. entered refl) (λ t. unmoved p)

  lock-steady : (d : Control) → d.places ≡ c.places → (m : ℕ) → Steady (lock d m) []
  unfolding lock
  lock-steady d p m =
      pick-keeps (λ (x : Control). Steady x []) (is_transmit d m) (λ t. error-steady _ p _)
      (λ t. pick-keeps (λ (x : Control). Steady x []) (is_receive d m) (λ u. error-steady _ p _) (λ u. unmoved p))

  -- a release of another buffer
  unlock-steady : (d : Control) → d.places ≡ c.places → (m : ℕ) → (m ≡ n → ⊥) → Steady (unlock d m) (deliveries c m)
  unfolding unlock release_all
  unlock-steady d p m apart i =
      let q = delivered-places d m ∙ ap (λ (x : Places). without x m) p in
      record {
        waited-still = ap (λ (x : Places). is_waited_for x n) q ∙ waited-still c.places m n small apart ∙ waited;
        newest-same = ap (λ (x : Places). newest x n) q ∙ newest-still c.places m n small apart;
        bytes_same = ap (λ (hs : List Contents). row_at hs (newest c.places n)) (held-left e m c held);
      }

  bufctl-steady : (m v : ℕ) → (has v LOCK ≡ false → m ≡ n → ⊥) → Steady (write_bufctl c m v) (pick (has v LOCK) [] (deliveries c m))
  unfolding write_bufctl write_lock
  bufctl-steady m v other =
      prepared-by (λ (d : Control). Steady (write_lock d m v) (pick (has v LOCK) [] (deliveries c m))) c m v
      (λ b p. both-keep Steady (has v LOCK)
      (λ t. pick-keeps (λ (d : Control). Steady d []) (is_locked _ m) (λ u. unmoved refl) (λ u. lock-steady _ refl m))
      (λ t. unlock-steady _ refl m (other t)))

  window-steady : (m q v : ℕ) → Steady c (window_moves m q v)
  unfolding window_moves hold_all
  window-steady m q v =
      pick-keeps (Steady c) (eqb q 0) (λ t. same refl refl) (λ t. pick-keeps (Steady c) (eqb q 1) (λ u. same refl refl) (λ u. same refl refl))

  pub write-steady : (a v : ℕ) → (eqb a (0x50 + n) && not (has v LOCK)) ≡ false → (r : Register) → is_address a r ≡ true →
      Steady (written c r v) (write_moves c r v)
  unfolding written write_moves write_mcr is_address
  write-steady a v other Mcr at = mode-steady _ refl c.mode.init (has v INITRQ) (has v SLPRQ)
  write-steady a v other Fsizr at = unmoved refl
  write-steady a v other Tcr1 at = unmoved refl
  write-steady a v other Tcr2 at = unmoved refl
  write-steady a v other Tcr3 at = unmoved refl
  write-steady a v other Risr at = unmoved refl
  write-steady a v other Gisr at = unmoved refl
  write-steady a v other Rier at = unmoved refl
  write-steady a v other Gier at = unmoved refl
  write-steady a v other Rivec at = unmoved refl
  write-steady a v other Tivec at = unmoved refl
  write-steady a v other Fidac at = unmoved refl
  write-steady a v other Fidmr at = unmoved refl
  write-steady a v other Mvr at = unmoved refl
  write-steady a v other Pctlbf at = unmoved refl
  write-steady a v other Buflock at = unmoved refl
  write-steady a v other Fidrj at = unmoved refl
  write-steady a v other Fidrmr at = unmoved refl
  write-steady a v other (TransmitWindow q) at = window-steady c.transmit.holder q v
  write-steady a v other (ReceiveWindow q) at = window-steady c.receive.holder q v
  write-steady a v other (FifoWindow q) at = unmoved refl
  write-steady a v other (Bufctl m) at =
      bufctl-steady m v (λ t same.
      let here = eqb-true a (0x50 + m) (and_parts (eqb a (0x50 + m)) (ltb m 16) at).0 in
      false≢true (sym other ∙ and_from (eqb a (0x50 + n)) (not (has v LOCK)) (eq-eqb a (0x50 + n) (omega arith)) (ap not t)))
  write-steady a v other Reserved at = unmoved refl

  -- ---- bus steps

  -- a plan that isn't answered "waiting" for n
  abbrev pub Fine : Plan → Type 0
  Fine q = is_waiting_for n (answer_of e rows q.reply) ≡ false → Steady q.control q.moves

  pub fifo-fine : (i : ℕ) → Fine (to_fifo (raise_last (cancel c) i) i)
  unfolding to_fifo raise_last cancel hold_all
  fifo-fine i =
      pick-keeps Fine (fifo_takes _ i) (λ t. pick-keeps Fine (leb c.config.fsiz c.fifo.count) (λ u a. unmoved refl) (λ u a. same refl refl))
      (λ t a. unmoved refl)

  pub bus-fine : (x y : Plan) → Fine x → Fine y → Fine (on_bus c x y)
  unfolding on_bus
  bus-fine x y p q = pick-keeps Fine c.mode.init (λ t a. unmoved refl) (λ t. pick-keeps Fine (asleep c) (λ u. p) (λ u. q))
