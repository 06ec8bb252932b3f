-- Towards proofs/KeptLockLaws.antt: what leaves the locks sound, takes or releases one, and that the kind of a locked buffer stays.
use Rattle.std.specs.Prelude.{◌≡◌, refl, ℕ, ◌<◌, ◌≤◌, Bool, true, false, ◌&&◌, not, List, eqb, ltb, leb}
use Rattle.std.proofs.Common.{sym, ap, ◌∙◌, subst, arith}
use Rattle.std.proofs.lemmas.Bool.{and_from, and_parts, or_left, or_parts, or_right}
use borrow.Author.Tests.{eqb-false, ltb-true, ltb-false, eq-eqb, le-ltb, le-leb}
use Rattle.masks.specs.PickLaws.{pick-keeps}
use Rattle.masks.specs.Bits.{bit_of, some_of}
use Rattle.masks.specs.SearchLaws.{some-false}
use Rattle.locks.specs.declared.Locks.{Locks}
use Rattle.locks.specs.Pair.{none, no_locks, has_holder, in_pair, take_lock, release_lock}
use Rattle.contents.specs.Bytes.{Head}
use Rattle.rules.specs.declared.Buffers.{Buffers}
use Rattle.rules.specs.declared.Control.{Control}
use Rattle.rules.specs.Record.{with_config, with_buffers, with_fsiz}
use Rattle.rules.specs.Registers.{reset_control}
use Rattle.rules.specs.Kinds.{is_transmit, is_receive, is_locked}
use Rattle.rules.specs.Modes.{enter}
use Rattle.rules.specs.Writes.{cfg_after}
use Rattle.rules.specs.Refusals.{moved_by_fsiz, moved_by_cfg}
use Rattle.controller.specs.View.{View}
use Rattle.invariants.specs.Sound.{PairSound, LocksSound}
use Rattle.invariants.specs.KeptLaws.{at, reset_view}
use Rattle.invariants.specs.TestLaws.{and-rest, beq_same}
use Rattle.invariants.specs.BitLaws.{put_keeps}
use Rattle.invariants.specs.ViewLaws.{receive-high}
use Rattle.invariants.specs.LockLaws.{receive-locked, transmit-locked}
use Rattle.invariants.specs.ControlWriteLaws.{Prepared}

-- ---- a pair of locks

-- a holder alone, or none
alone-sound : (kind : ℕ → Bool) (m : ℕ) → m ≤ 16 → (m < 16 → kind m ≡ true) → PairSound kind (record { holder = m; contender = none })
alone-sound kind m b k =
    record {
      holder-le = b;
      contender-le = omega arith;
      holder-kind = k;
      contender-kind = λ h. absurd (omega arith);
      contender-held = λ h. absurd (omega arith);
      apart = λ h e. omega arith;
    }

module _ (kind : ℕ → Bool) (l : Locks) (n : ℕ) (s : PairSound kind l) where
  -- a buffer of the kind that isn't locked may become holder or contender
  pub take-sound : n < 16 → kind n ≡ true → in_pair l n ≡ false → PairSound kind (take_lock l n)
  unfolding take_lock in_pair
  take-sound h k free = pick-keeps (PairSound kind) (has_holder l)
      (λ t. record {
        holder-le = s.holder-le;
        contender-le = omega arith;
        holder-kind = s.holder-kind;
        contender-kind = λ b. k;
        contender-held = λ b. ltb-true l.holder 16 t;
        apart = λ b e. eqb-false n l.holder (or_parts (eqb n l.holder) (eqb n l.contender) free).0 (sym e);
      })
      (λ t. record {
        holder-le = omega arith;
        contender-le = s.contender-le;
        holder-kind = λ b. k;
        contender-kind = s.contender-kind;
        contender-held = λ b. h;
        apart = λ b e. let alone = ltb-false l.holder 16 t in omega (arith, s.contender-held b);
      })

  -- a released holder's contender becomes holder
  pub release-sound : PairSound kind (release_lock l n)
  unfolding release_lock
  release-sound = pick-keeps (PairSound kind) (eqb n l.holder)
      (λ t. alone-sound kind l.contender s.contender-le s.contender-kind)
      (λ t. pick-keeps (PairSound kind) (eqb n l.contender)
      (λ u. alone-sound kind l.holder s.holder-le s.holder-kind)
      (λ u. s))

-- a pair is as sound by any other kind that its locked buffers have
kinds-stay : (kind after : ℕ → Bool) (l : Locks) → ((m : ℕ) → m < 16 → in_pair l m ≡ true → kind m ≡ true → after m ≡ true) →
    PairSound kind l → PairSound after l
unfolding in_pair
kinds-stay kind after l stay s =
    record {
      holder-le = s.holder-le;
      contender-le = s.contender-le;
      holder-kind = λ h.
          stay l.holder h (or_left (eqb l.holder l.holder) _ (eq-eqb l.holder l.holder refl)) (s.holder-kind h);
      contender-kind = λ h.
          stay l.contender h (or_right (eqb l.contender l.holder) _ (eq-eqb l.contender l.contender refl))
          (s.contender-kind h);
      contender-held = s.contender-held;
      apart = s.apart;
    }

-- ---- both pairs

-- the pairs alone make a view's locks sound, whatever its other parts
pub locks-by : {c : Control} {hs ps : List Head} → PairSound (is_receive c) c.receive → PairSound (is_transmit c) c.transmit →
    LocksSound (record { control = c; heads = hs; held = ps })
locks-by r t = record { receive = r; transmit = t }

-- ---- FSIZ

-- a locked receive buffer isn't moved into the FIFO
receive-stays : (c : Control) (size m : ℕ) → moved_by_fsiz c size m ≡ false → is_locked c m ≡ true → is_receive c m ≡ true →
    is_receive (with_config c (with_fsiz c.config size)) m ≡ true
unfolding moved_by_fsiz
receive-stays c size m unmoved k e =
    let plain = (and_parts (not (is_transmit c m)) _ e).0 in
    let above = receive-high c m e in
    let place =
    beq_same (ltb m size) (ltb m c.config.fsiz)
    (and-rest (is_locked c m && not (is_transmit c m)) _ unmoved (and_from (is_locked c m) _ k plain)) in
    and_from (not (is_transmit c m)) _ plain (le-leb size m (ltb-false m size (place ∙ le-ltb m c.config.fsiz above)))

pub resize-keeps : (w : View) (size : ℕ) → some_of (moved_by_fsiz w.control size) 16 ≡ false → LocksSound w →
    LocksSound (at w (with_config w.control (with_fsiz w.control.config size)))
resize-keeps w size still s =
    let c = w.control in
    locks-by
    (kinds-stay (is_receive c) _ c.receive
    (λ m h i. receive-stays c size m (some-false (moved_by_fsiz c size) 16 still m h) (receive-locked c m i)) s.receive)
    s.transmit

-- ---- a control write

-- CFG of a locked buffer stays
locked-kind : (c : Control) (n v : ℕ) (b : Buffers) → Prepared c n v b → moved_by_cfg c n v ≡ false → (m : ℕ) → m < 16 → is_locked c m ≡ true →
    bit_of b.cfg m ≡ is_transmit c m
unfolding moved_by_cfg
locked-kind c n v b p unmoved m h k =
    ap (λ (x : ℕ). bit_of x m) p.cfg-as
    ∙ put_keeps (λ (x : Bool). x ≡ is_transmit c m) c.buffers.cfg n (cfg_after c n v) m h
    (λ e. beq_same (cfg_after c n v) (is_transmit c n) (and-rest (is_locked c n) _ unmoved (subst (λ (i : ℕ). is_locked c i ≡ true) e k)) ∙ ap (is_transmit c) (sym e))
    (λ d. refl)

pub prepared-locks : (w : View) (n v : ℕ) (b : Buffers) → Prepared w.control n v b → moved_by_cfg w.control n v ≡ false → LocksSound w →
    LocksSound (at w (with_buffers w.control b))
prepared-locks w n v b p unmoved s =
    let c = w.control in
    let stays = locked-kind c n v b p unmoved in
    locks-by
    (kinds-stay (is_receive c) _ c.receive
    (λ m h i e. ap (λ (t : Bool). not t && leb c.config.fsiz m) (stays m h (receive-locked c m i)) ∙ e) s.receive)
    (kinds-stay (is_transmit c) _ c.transmit (λ m h i e. stays m h (transmit-locked c m i) ∙ e) s.transmit)

pub enter-locks : (w : View) (c : Control) → LocksSound (at w c) → LocksSound (at w (enter c))
unfolding enter
enter-locks w c s = locks-by s.receive s.transmit

-- ---- reset

pub locks-reset : LocksSound reset_view
unfolding reset_control
locks-reset = locks-by (empty _) (empty _)
  where
    empty : (kind : ℕ → Bool) → PairSound kind no_locks
    empty kind = alone-sound kind none (omega arith) (λ h. absurd (omega arith))
