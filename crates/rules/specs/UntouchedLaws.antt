-- Towards proofs/UntouchedLaws.antt: what leaves a locked buffer alone, so that no byte of it moves, its control register reads the same,
-- it is armed if it was, and holders and contenders stay.
use Rattle.std.specs.Prelude.{◌≡◌, refl, ℕ, ◌<◌, Bool, true, ◌&&◌, not, List, [], ◌∷◌, leb}
use Rattle.std.proofs.Math.Path.{sym}
use Rattle.std.proofs.Common.{ap, ◌∙◌, ne_eqb, leb-false, ltb-true}
use Rattle.std.proofs.Math.Bool.{false, and-false, and-eq-true_iff}
use Rattle.std.proofs.lemmas.Bool.{false≢true}
use Rattle.std.proofs.Math.Dec.{eqb, ltb}
use Rattle.masks.specs.PickLaws.{pick-keeps, by-test}
use Rattle.masks.specs.Bits.{bit_of, mask_of, put_bit, highest}
use Rattle.masks.specs.Laws.{bit-none, bit_mask, put_other}
use Rattle.masks.specs.SearchLaws.{never_both, highest-holds}
use Rattle.contents.specs.Bytes.{Head}
use Rattle.rules.specs.declared.Fault.{Fault}
use Rattle.rules.specs.declared.Fault.TheVariants.{Early, Lost, Illegal, Mismatch}
use Rattle.rules.specs.declared.Answer.{Answer}
use Rattle.rules.specs.declared.Answer.TheVariants.{Ok, BadFrame, Ignored, Woke}
use Rattle.rules.specs.declared.Control.{Control}
use Rattle.rules.specs.Registers.{with_flag, LOCK, IFLG, ABTAK, IENA, CFG, ERRIF}
use Rattle.rules.specs.Kinds.{is_armed, is_full_transmit, is_locked, fifo_holder}
use Rattle.rules.specs.Reads.{bufctl}
use Rattle.rules.specs.Waiting.{asleep, is_free}
use Rattle.rules.specs.Modes.{wake, cancel}
use Rattle.rules.specs.Bus.{raise_gisr, woken, arms, timed_out, faulted, to_place, to_buffer, fifo_takes, to_fifo, raise_last, offers, send_from, slot_for, slotted}
use Rattle.rules.specs.Plan.{Move, store, hold, head_at, Plan, plain, with_looked}
use Rattle.rules.specs.Rules.{on_bus}
use Rattle.rules.specs.Untouched.{TargetsFree, roles_of}

-- moves that leave buffer n alone
pub data Avoids (n : ℕ) : List Move → Type 0 where
  none : Avoids n []
  stores : {m : ℕ} → eqb n m ≡ false → Avoids n (store m ∷ [])
  holds : {k : ℕ} → Avoids n (hold k ∷ [])

pub record Spares (c : Control) (n : ℕ) (p : Plan) : Type 0 where
  pub same-bufctl : bufctl p.control n ≡ bufctl c n
  pub same-arming : is_armed p.control n ≡ is_armed c n
  pub same_roles : roles_of p.control ≡ roles_of c
  pub avoided : Avoids n p.moves

pub counted-spares : {c : Control} {n : ℕ} (p : Plan) (k : ℕ) → Spares c n p → Spares c n (with_looked p k)
counted-spares p k s = record { same-bufctl = s.same-bufctl; same-arming = s.same-arming; same_roles = s.same_roles; avoided = s.avoided }

-- IFLG of another buffer
flag-other : (abtak locked iena cfg : Bool) (m n k : ℕ) → n < 16 → eqb n k ≡ false →
    with_flag abtak ABTAK (with_flag locked LOCK (with_flag (bit_of (put_bit m k true) n) IFLG (with_flag iena IENA (with_flag cfg CFG 0))))
    ≡ with_flag abtak ABTAK (with_flag locked LOCK (with_flag (bit_of m n) IFLG (with_flag iena IENA (with_flag cfg CFG 0))))
flag-other abtak locked iena cfg m n k h d =
    ap (λ (t : Bool). with_flag abtak ABTAK (with_flag locked LOCK (with_flag t IFLG (with_flag iena IENA (with_flag cfg CFG 0))))) (put_other m k true n d h)

-- the buffer that a slot would send is armed
pub offered-armed : (c : Control) (hs : List Head) (i : ℕ) → highest (offers c hs i) 16 < 16 → is_armed c (highest (offers c hs i) 16) ≡ true
unfolding offers
offered-armed c hs i b =
    let m = highest (offers c hs i) 16 in
    ((and-eq-true_iff (is_armed c m) (eqb (head_at hs m).ident i)).0 (highest-holds (offers c hs i) 16 b)).0

module _ (c : Control) (n : ℕ) (small : n < 16) (locked : is_locked c n ≡ true) (free : TargetsFree c) where
  -- an unlocked buffer is another one
  another : (m : ℕ) → is_locked c m ≡ false → eqb n m ≡ false
  another m u = ne_eqb n m (λ e. false≢true (sym u ∙ ap (is_locked c) (sym e) ∙ locked))

  -- buffer n is not armed, so that what disarms it changes nothing
  unarmed : is_armed c n ≡ false
  unarmed = by-test (is_armed c n) (λ a. absurd (never_both (is_locked c n) locked (free.armed-free n small a))) (λ a. a)

  disarmed : bit_of 0 n ≡ is_armed c n
  disarmed = bit-none n ∙ sym unarmed

  -- a locked buffer isn't armed by a sync
  pub unarmed-on : (hs : List Head) → bit_of (mask_of (arms c hs)) n ≡ is_armed c n
  unfolding arms
  unarmed-on hs =
      let off : arms c hs n ≡ false = simp (locked, and-false (is_full_transmit c n)) in
      bit_mask (arms c hs) n small ∙ off ∙ sym unarmed

  pub same : (a : Answer) → Spares c n (plain c a)
  same a = record { same-bufctl = refl; same-arming = refl; same_roles = refl; avoided = none }

  pub woken-spares : Spares c n (plain (woken c) Woke)
  unfolding woken wake bufctl is_locked fifo_holder
  woken-spares = record { same-bufctl = refl; same-arming = disarmed; same_roles = refl; avoided = none }

  pub faulted-spares : (k : Fault) → Spares c n (plain (faulted k (cancel c)) Ok)
  unfolding cancel faulted bufctl is_locked fifo_holder
  faulted-spares Early = record { same-bufctl = refl; same-arming = refl; same_roles = refl; avoided = none }
  faulted-spares Lost = record { same-bufctl = refl; same-arming = disarmed; same_roles = refl; avoided = none }
  faulted-spares Illegal = record { same-bufctl = refl; same-arming = refl; same_roles = refl; avoided = none }
  faulted-spares Mismatch = record { same-bufctl = refl; same-arming = refl; same_roles = refl; avoided = none }

  pub timed-out-spares : Spares c n (plain (timed_out c) Ok)
  unfolding timed_out bufctl is_locked fifo_holder
  timed-out-spares = record { same-bufctl = refl; same-arming = refl; same_roles = refl; avoided = none }

  pub bus-spares : (x y : Plan) → Spares c n x → (c.mode.init ≡ false → Spares c n y) → Spares c n (on_bus c x y)
  unfolding on_bus
  bus-spares x y p q =
      pick-keeps (Spares c n) c.mode.init (λ t. same Ignored) (λ t. pick-keeps (Spares c n) (asleep c) (λ u. p) (λ u. q t))

  -- locked, it waits or is dropped
  pub buffer-spares : (i m : ℕ) → Spares c n (to_buffer (raise_last (cancel c) i) m)
  unfolding cancel to_buffer to_place raise_last bufctl is_locked fifo_holder
  buffer-spares i m =
      pick-keeps (Spares c n) (is_locked c m)
      (λ t. pick-keeps (Spares c n) (is_free c 0) (λ u. record { same-bufctl = refl; same-arming = refl; same_roles = refl; avoided = holds })
      (λ u. pick-keeps (Spares c n) (is_free c 1) (λ x. record { same-bufctl = refl; same-arming = refl; same_roles = refl; avoided = holds })
      (λ x. record { same-bufctl = refl; same-arming = refl; same_roles = refl; avoided = none })))
      (λ t. record { same-bufctl = flag-other _ _ _ _ c.buffers.iflg n m small (another m t); same-arming = refl; same_roles = refl; avoided = stores (another m t) })

  pub fifo-spares : (i : ℕ) → c.mode.init ≡ false → Spares c n (to_fifo (raise_last (cancel c) i) i)
  unfolding cancel to_fifo raise_last bufctl is_locked fifo_holder
  fifo-spares i o =
      pick-keeps (Spares c n) (fifo_takes (raise_last (cancel c) i) i)
      (λ t. pick-keeps (Spares c n) (leb c.config.fsiz c.fifo.count) (λ u. record { same-bufctl = refl; same-arming = refl; same_roles = refl; avoided = none })
      (λ u. record { same-bufctl = refl; same-arming = refl; same_roles = refl; avoided = stores (another c.fifo.next (free.next-free o (leb-false c.config.fsiz c.fifo.count u))) }))
      (λ t. record { same-bufctl = refl; same-arming = refl; same_roles = refl; avoided = none })

  pub bad-spares : Spares c n (plain (raise_gisr (cancel c) ERRIF) BadFrame)
  unfolding cancel bufctl is_locked fifo_holder
  bad-spares = record { same-bufctl = refl; same-arming = refl; same_roles = refl; avoided = none }

  -- what is sent is armed, so not locked, and another buffer
  sent-other : (hs : List Head) (i : ℕ) → highest (offers c hs i) 16 < 16 → eqb n (highest (offers c hs i) 16) ≡ false
  sent-other hs i b =
      let m = highest (offers c hs i) 16 in
      another m (free.armed-free m b (offered-armed c hs i b))

  pub slot-spares : (hs : List Head) (i : ℕ) → Spares c n (slotted c hs i)
  unfolding slotted slot_for send_from bufctl is_locked fifo_holder
  slot-spares hs i =
      let m = highest (offers c hs i) 16 in
      pick-keeps (Spares c n) (not c.mode.synced) (λ t. same Ignored)
      (λ t. pick-keeps (Spares c n) (ltb c.mode.last i && ltb m 16)
      (λ u. let other = sent-other hs i (ltb-true m 16 ((and-eq-true_iff (ltb c.mode.last i) (ltb m 16)).0 u).1) in
      record { same-bufctl = flag-other _ _ _ _ c.buffers.iflg n m small other; same-arming = put_other c.buffers.armed m false n other small; same_roles = refl; avoided = none })
      (λ u. record { same-bufctl = refl; same-arming = refl; same_roles = refl; avoided = none }))
