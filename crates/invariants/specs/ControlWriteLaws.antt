-- A write of a buffer's control register acts in parts, CFG, IENA, IFLG, ABTRQ and LOCK: what the first four make of the
-- buffers' bits, and what the refusals leave for LOCK.
use Rattle.std.specs.Prelude.{◌≡◌, refl, ℕ, ◌<◌, Bool, true, false, ◌&&◌, eqb, ltb, leb}
use Rattle.std.proofs.Common.{sym, ap, ◌∙◌}
use Rattle.std.proofs.Math.Bool.{not}
use Rattle.std.proofs.lemmas.Bool.{and_parts}
use borrow.Author.Tests.{eqb-true, ltb-true, leb-false, lt-ltb, not-true, not-false}
use Rattle.masks.specs.Pick.{pick}
use Rattle.masks.specs.PickLaws.{pick-false, pick-keeps}
use Rattle.masks.specs.Bits.{bit_of, put_bit}
use Rattle.masks.specs.Laws.{put_same}
use Rattle.masks.specs.SearchLaws.{never_both}
use Rattle.rules.specs.declared.Buffers.{Buffers}
use Rattle.rules.specs.declared.Control.{Control}
use Rattle.rules.specs.Record.{with_buffers, with_cfg, with_iena}
use Rattle.rules.specs.Registers.{has, CFG, IENA, IFLG, ABTRQ, LOCK}
use Rattle.rules.specs.Kinds.{is_transmit, is_receive, is_full_transmit, has_iflg, is_armed, is_locked, is_oldest}
use Rattle.rules.specs.Writes.{cfg_after, write_cfg, write_iena, clear_iflg, write_iflg, abort, write_abtrq}
use Rattle.rules.specs.Refusals.{new_lock, not_oldest, no_lock_left}
use Rattle.locks.specs.Pair.{is_full}
use Rattle.invariants.specs.KeptLaws.{prepared}
use Rattle.invariants.specs.TestLaws.{and-rest}
use Rattle.invariants.specs.BitLaws.{put_keeps, put-own, put-clear}

-- ---- before LOCK

-- what CFG, IENA, IFLG and ABTRQ of v, written to buffer n, make of the buffers' bits
pub record Prepared (c : Control) (n v : ℕ) (b : Buffers) : Type 0 where
  pub cfg-as : b.cfg ≡ put_bit c.buffers.cfg n (cfg_after c n v)
  pub iena-as : b.iena ≡ put_bit c.buffers.iena n (has v IENA)
  pub armed-less : (k : ℕ) → k < 16 → bit_of b.armed k ≡ true → is_armed c k ≡ true
  -- a new IFLG only by an abort
  pub iflg-new : (k : ℕ) → k < 16 → has_iflg c k ≡ false → bit_of b.iflg k ≡ true → (bit_of b.cfg k ≡ true) × (bit_of b.armed k ≡ false)
  -- in initialization flags and arming stay
  pub init-iflg : c.mode.init ≡ true → b.iflg ≡ c.buffers.iflg
  pub init-abtak : c.mode.init ≡ true → b.abtak ≡ c.buffers.abtak
  pub init-armed : c.mode.init ≡ true → b.armed ≡ c.buffers.armed

-- what holds at all such bits holds after IFLG, and after ABTRQ
module _ (Q : Control → Type 0) (c : Control) (n v : ℕ) where
  iflg-by : (b : Buffers) → Prepared c n v b → ((x : Buffers) → Prepared c n v x → Q (with_buffers c x)) → Q (write_iflg (with_buffers c b) n v)
  unfolding write_iflg
  iflg-by b p f =
      pick-keeps Q (has v IFLG && not c.mode.init)
      (λ t. let out = not-true c.mode.init (and_parts (has v IFLG) (not c.mode.init) t).1 in
      f (clear_iflg (with_buffers c b) n)
      (record {
        cfg-as = p.cfg-as;
        iena-as = p.iena-as;
        armed-less = p.armed-less;
        iflg-new = λ k l g s. p.iflg-new k l g (put-clear b.iflg n k l s);
        init-iflg = λ i. absurd (never_both c.mode.init i out);
        init-abtak = λ i. absurd (never_both c.mode.init i out);
        init-armed = λ i. absurd (never_both c.mode.init i out);
      }))
      (λ t. f b p)

  -- buffer n is a transmit buffer, and disarmed
  abort-new : (b : Buffers) → Prepared c n v b → bit_of b.cfg n ≡ true → (k : ℕ) → k < 16 → has_iflg c k ≡ false →
      bit_of (put_bit b.iflg n true) k ≡ true → (bit_of b.cfg k ≡ true) × (bit_of (put_bit b.armed n false) k ≡ false)
  abort-new b p kind k l g s =
      put_keeps (λ (x : Bool). (bit_of b.cfg k ≡ true) × (x ≡ false)) b.armed n false k l
      (λ e. (ap (bit_of b.cfg) e ∙ kind, refl))
      (λ d. p.iflg-new k l g (put_keeps (λ (x : Bool). x ≡ true → bit_of b.iflg k ≡ true) b.iflg n true k l (λ e. absurd (d e)) (λ o t. t) s))

  abtrq-by : (b : Buffers) → Prepared c n v b → ((x : Buffers) → Prepared c n v x → Q (with_buffers c x)) → Q (write_abtrq (with_buffers c b) n v)
  unfolding write_abtrq
  abtrq-by b p f =
      let asked = has v ABTRQ in
      let normal = not c.mode.init in
      let full = is_full_transmit (with_buffers c b) n in
      pick-keeps Q (asked && normal && full)
      (λ t. let out = not-true c.mode.init (and_parts asked normal (and_parts (asked && normal) full t).0).1 in
      f (abort (with_buffers c b) n)
      (record {
        cfg-as = p.cfg-as;
        iena-as = p.iena-as;
        armed-less = λ k l a. p.armed-less k l (put-clear b.armed n k l a);
        iflg-new = abort-new b p (and_parts (bit_of b.cfg n) (not (bit_of b.iflg n)) (and_parts (asked && normal) full t).1).0;
        init-iflg = λ i. absurd (never_both c.mode.init i out);
        init-abtak = λ i. absurd (never_both c.mode.init i out);
        init-armed = λ i. absurd (never_both c.mode.init i out);
      }))
      (λ t. f b p)

-- so it holds after the four parts: CFG and IENA change no flag and no arming
pub prepared-by : (Q : Control → Type 0) (c : Control) (n v : ℕ) → ((x : Buffers) → Prepared c n v x → Q (with_buffers c x)) →
    Q (prepared c n v)
unfolding write_iena write_cfg
prepared-by Q c n v f =
    let cfg = with_cfg c.buffers (put_bit c.buffers.cfg n (cfg_after c n v)) in
    iflg-by (λ (x : Control). Q (write_abtrq x n v)) c n v (with_iena cfg (put_bit c.buffers.iena n (has v IENA)))
    (record {
      cfg-as = refl;
      iena-as = refl;
      armed-less = λ k l a. a;
      iflg-new = λ k l g s. absurd (never_both (has_iflg c k) s g);
      init-iflg = λ i. refl;
      init-abtak = λ i. refl;
      init-armed = λ i. refl;
    })
    (λ b p. abtrq-by Q c n v b p f)

-- outside initialization CFG stays
pub cfg-stays : (c : Control) (n v k : ℕ) → c.mode.init ≡ false → k < 16 →
    bit_of (put_bit c.buffers.cfg n (cfg_after c n v)) k ≡ is_transmit c k
unfolding cfg_after
cfg-stays c n v k i h = rw (pick-false c.mode.init (has v CFG) (is_transmit c n) i) (put-own c.buffers.cfg n k h)

-- and so do the kinds
pub prepared-kind : (c : Control) (n v : ℕ) (b : Buffers) → Prepared c n v b → c.mode.init ≡ false → (k : ℕ) → k < 16 → bit_of b.cfg k ≡ is_transmit c k
prepared-kind c n v b p i k l = ap (λ (x : ℕ). bit_of x k) p.cfg-as ∙ cfg-stays c n v k i l

-- a new lock on a FIFO buffer is on the oldest entry
pub new-oldest : (c : Control) (n v : ℕ) (b : Buffers) → Prepared c n v b → n < 16 → not_oldest c n v ≡ false →
    has v LOCK ≡ true → is_locked (with_buffers c b) n ≡ false → is_transmit (with_buffers c b) n ≡ false → is_receive (with_buffers c b) n ≡ false →
    (0 < c.fifo.count) × (n ≡ c.fifo.oldest)
unfolding not_oldest new_lock is_oldest is_locked
new-oldest c n v b p h o a u t r =
    let size = c.config.fsiz in
    let kind : cfg_after c n v ≡ false = sym (put_same c.buffers.cfg n (cfg_after c n v) h) ∙ ap (λ (x : ℕ). bit_of x n) (sym p.cfg-as) ∙ t in
    let low = lt-ltb n size (leb-false size n (and-rest (not (bit_of b.cfg n)) (leb size n) r (ap not t))) in
    let free : is_locked c n ≡ false = u in
    let old = not-false (is_oldest c n) (simp (a, free, kind, low) at o) in
    let both = and_parts (ltb 0 c.fifo.count) (eqb n c.fifo.oldest) old in
    let some = ltb-true 0 c.fifo.count both.0 in
    let first = eqb-true n c.fifo.oldest both.1 in
    (some, first)

-- a new lock on a receive buffer finds the kind without a contender
pub new-room : (c : Control) (n v : ℕ) (b : Buffers) → Prepared c n v b → n < 16 → no_lock_left c n v ≡ false →
    has v LOCK ≡ true → is_locked (with_buffers c b) n ≡ false → is_transmit (with_buffers c b) n ≡ false → is_receive (with_buffers c b) n ≡ true →
    is_full c.receive ≡ false
unfolding no_lock_left new_lock is_locked pick
new-room c n v b p h o a u t r =
    let size = c.config.fsiz in
    let kind : cfg_after c n v ≡ false = sym (put_same c.buffers.cfg n (cfg_after c n v) h) ∙ ap (λ (x : ℕ). bit_of x n) (sym p.cfg-as) ∙ t in
    let high : leb size n ≡ true = (and_parts (not (bit_of b.cfg n)) (leb size n) r).1 in
    let free : is_locked c n ≡ false = u in
    simp (a, free, kind, high) at o
