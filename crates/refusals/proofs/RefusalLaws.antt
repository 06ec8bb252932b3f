-- Laws for the refusals: the numbers in their order, and the buffers that FSIZ moves.
use Prim.Native.Nat.{ℕ, ◌+◌, ◌-◌, ◌<◌, ◌≤◌}
use mathlib.Core.Bool.{Bool, true, false, not, ◌&&◌, ◌||◌, beq}
use mathlib.Core.Path.{◌≡◌, refl, ap, ap₂, sym, ◌∙◌, subst}
use native.Mathlib.Omega.{arith}
use borrow.Author.Tests.{ne_eqb, lt-ltb, le-ltb, le-leb, lt-leb, ltb-true, ltb-false}
use native.Mathlib.Nat.{le_refl}
use lib.Bits.{bit_and, bit_or}
use lib.Dec.{eqb, ltb, leb}
use Rattle.masks.specs.Pick.{pick}
use Rattle.masks.specs.PickLaws.{pick-false, by-test}
use Rattle.masks.specs.Bits.{bit_of, mask_of, some_of}
use Rattle.masks.specs.Laws.{own, and-by, or-by, not-by-mask}
use Rattle.masks.specs.SearchLaws.{some-mask, some-ext}
use Rattle.locks.specs.Pair.{is_full}
use Rattle.rules.specs.declared.Control.{Control}
use Rattle.rules.specs.Registers.{between, has, LOCK}
use Rattle.rules.specs.Kinds.{is_transmit, is_locked, is_oldest}
use Rattle.rules.specs.Writes.{cfg_after}
use Rattle.rules.specs.Waiting.{asleep}
use Rattle.rules.specs.Refusals.{refuses1, refuses2, refuses3, only_in_init, refuses4, refuses5, refuses6, moved_by_fsiz, moved_by_cfg, refuses7, refuses8, new_lock, not_oldest, refuses9, no_lock_left, refuses10, first_of, read_refusal, write_refusal}
use Rattle.refusals.specs.Code.{lock_refusal, control_refusal, low_refusal, late_refusal}

-- ---- the numbers in their order

pub read-order : (c : Control) (a : ℕ) → read_refusal c a ≡ pick (ltb 0x5F a) 1 (pick (refuses2 c a) 2 0)
unfolding read_refusal first_of refuses1
read-order c a = refl

write-order : (c : Control) (a v : ℕ) → write_refusal c a v
    ≡ pick (ltb 0x5F a) 1 (pick (refuses2 c a) 2 (pick (refuses3 a) 3 (pick (refuses4 c a) 4 (pick (refuses5 c a) 5 (late_refusal c a v)))))
unfolding write_refusal late_refusal first_of refuses1
write-order c a v = refl

-- ---- the locked buffers that another FSIZ moves

either_way : (x y : Bool) → ((y && not x) || (x && not y)) ≡ not (beq x y)
either_way true true = refl
either_way true false = refl
either_way false true = refl
either_way false false = refl

-- those of l outside CFG 1 that are below one of the sizes and not below the other
pub moved-some : (c : Control) (s l b d : ℕ) → c.buffers.cfg < 65536
    → l ≡ mask_of (is_locked c) → b ≡ mask_of (λ n. ltb n c.config.fsiz) → d ≡ mask_of (λ n. ltb n s)
    → some_of (bit_of (bit_and (bit_and l (65535 - c.buffers.cfg)) (bit_or (bit_and b (65535 - d)) (bit_and d (65535 - b))))) 16
    ≡ some_of (moved_by_fsiz c s) 16
unfolding moved_by_fsiz
moved-some c s l b d fits locked before after =
    let free = and-by l (65535 - c.buffers.cfg) (is_locked c) (λ n. not (is_transmit c n)) locked (not-by-mask c.buffers.cfg (is_transmit c) (own c.buffers.cfg fits)) in
    let fewer = and-by b (65535 - d) (λ n. ltb n c.config.fsiz) (λ n. not (ltb n s)) before (not-by-mask d (λ n. ltb n s) after) in
    let more = and-by d (65535 - b) (λ n. ltb n s) (λ n. not (ltb n c.config.fsiz)) after (not-by-mask b (λ n. ltb n c.config.fsiz) before) in
    ap (λ (m : ℕ). some_of (bit_of m) 16) (and-by _ _ _ _ free (or-by _ _ _ _ fewer more))
    ∙ some-mask _
    ∙ some-ext _ (moved_by_fsiz c s) 16 (le_refl 16) (λ n h. ap (λ (t : Bool). (is_locked c n && not (is_transmit c n)) && t) (either_way (ltb n s) (ltb n c.config.fsiz)))

-- ---- the control registers, from $50 on, and the others

-- an address from $50 on is none below it
far : (a k : ℕ) → 0x50 ≤ a → k < 0x50 → eqb a k ≡ false
far a k h l = ne_eqb a k (λ e. let z : 0x50 ≤ k = subst (λ (x : ℕ). 0x50 ≤ x) e h in omega arith)

past : (lo a hi : ℕ) → 0x50 ≤ a → hi < 0x50 → between lo a hi ≡ false
past lo a hi h l = ap (λ (t : Bool). leb lo a && t) (lt-leb a hi (omega arith)) ∙ and-false (leb lo a)
  where
    and-false : (t : Bool) → (t && false) ≡ false
    and-false true = refl
    and-false false = refl

-- what the order of the numbers leaves of seven tests: L locked, M of another kind after the write, K locked by it, G transmit
-- after it, F below FSIZ, O the oldest entry, and which locks are full
one-pass : (L M K G F O T R : Bool) → ◌≡◌ {A = ℕ}
    (pick (L && M) 7 (pick (K && not L && not G && F && not O) 9 (pick (K && not L && pick G T (not F && R)) 10 0)))
    (pick L (pick M 7 0) (pick K (pick G (pick T 10 0) (pick F (pick O 0 9) (pick R 10 0))) 0))
unfolding pick
one-pass true true K G F O T R = refl
one-pass true false true G F O T R = refl
one-pass true false false G F O T R = refl
one-pass false M false G F O T R = refl
one-pass false M true true F O T R = refl
one-pass false M true false true true T R = refl
one-pass false M true false true false T R = refl
one-pass false M true false false O T R = refl

-- below FSIZ or not
size-either : (c : Control) (n : ℕ) → leb c.config.fsiz n ≡ not (ltb n c.config.fsiz)
size-either c n =
    by-test (ltb n c.config.fsiz)
    (λ t. lt-leb c.config.fsiz n (ltb-true n c.config.fsiz t) ∙ sym (ap not t))
    (λ t. le-leb c.config.fsiz n (ltb-false n c.config.fsiz t) ∙ sym (ap not t))

module _ (c : Control) (a v : ℕ) where
  control-order : 0x50 ≤ a → pick (refuses3 a) 3 (pick (refuses4 c a) 4 (pick (refuses5 c a) 5 (late_refusal c a v))) ≡ control_refusal c (a - 0x50) v
  unfolding refuses3 refuses4 only_in_init refuses5 late_refusal first_of refuses6 refuses7 refuses8 refuses9 refuses10 moved_by_cfg not_oldest no_lock_left new_lock control_refusal lock_refusal
  control-order h =
      simp (
        far a 0x0A h (omega arith),
        far a 0x0B h (omega arith),
        far a 0x0E h (omega arith),
        far a 0x12 h (omega arith),
        far a 0x0C h (omega arith),
        far a 0x0D h (omega arith),
        far a 0x14 h (omega arith),
        far a 0x15 h (omega arith),
        far a 0x01 h (omega arith),
        far a 0x00 h (omega arith),
        past 0x40 a 0x4D h (omega arith),
        past 0x01 a 0x04 h (omega arith),
        past 0x30 a 0x3D h (omega arith),
        past 0x20 a 0x2D h (omega arith),
        le-leb 0x50 a h,
        pick-false,
        size-either c (a - 0x50),
      )
      (one-pass (is_locked c (a - 0x50)) (not (beq (cfg_after c (a - 0x50) v) (is_transmit c (a - 0x50)))) (has v LOCK) (cfg_after c (a - 0x50) v)
      (ltb (a - 0x50) c.config.fsiz) (is_oldest c (a - 0x50)) (is_full c.transmit) (is_full c.receive))

  low-order : a < 0x50 → late_refusal c a v ≡ low_refusal c a v
  unfolding late_refusal first_of refuses7 refuses9 refuses10 low_refusal
  low-order h = simp (lt-leb 0x50 a h, or-false, pick-false)
    where
      or-false : (t : Bool) → (t || false) ≡ t
      or-false true = refl
      or-false false = refl

  pub low-write : a < 0x50 → write_refusal c a v
      ≡ pick (refuses2 c a) 2 (pick (refuses3 a) 3 (pick (refuses4 c a) 4 (pick (refuses5 c a) 5 (low_refusal c a v))))
  low-write h = simp (write-order, le-ltb 0x5F a (omega arith), pick-false, low-order h)

  -- from $20 on none of 6 to 8 applies
  pub window-write : 0x20 ≤ a → a < 0x50 → write_refusal c a v
      ≡ pick (refuses2 c a) 2 (pick (refuses3 a) 3 (pick (refuses4 c a) 4 (pick (refuses5 c a) 5 0)))
  unfolding low_refusal refuses6 refuses8
  window-write l h = low-write h ∙ simp (ne_eqb a 0x00 (λ e. omega arith), ne_eqb a 0x01 (λ e. omega arith), pick-false)

-- a control register by its buffer: 1 past the last, 2 asleep, else what the one pass gives
module _ (c : Control) (n v : ℕ) where
  past-last : ltb 0x5F (0x50 + n) ≡ ltb 15 n
  past-last =
      by-test (ltb 15 n)
      (λ t. lt-ltb 0x5F (0x50 + n) (let over = ltb-true 15 n t in omega arith) ∙ sym t)
      (λ t. le-ltb 0x5F (0x50 + n) (let within = ltb-false 15 n t in omega arith) ∙ sym t)

  sleeping : refuses2 c (0x50 + n) ≡ asleep c
  unfolding refuses2
  sleeping = ap (λ (t : Bool). asleep c && not t) (far (0x50 + n) 0x00 (omega arith) (omega arith)) ∙ and-true (asleep c)
    where
      and-true : (t : Bool) → (t && true) ≡ t
      and-true true = refl
      and-true false = refl

  pub control-write : write_refusal c (0x50 + n) v ≡ pick (ltb 15 n) 1 (pick (asleep c) 2 (control_refusal c n v))
  control-write =
      write-order c (0x50 + n) v
      ∙ ap₂ (λ (t : Bool) (k : ℕ). pick t 1 k) past-last
      (ap₂ (λ (t : Bool) (k : ℕ). pick t 2 k) sleeping
      (control-order c (0x50 + n) v (omega arith) ∙ ap (λ (k : ℕ). control_refusal c k v) (omega arith)))

-- what the code's functions ask for
pub ruleset orders = (read-order, low-write, window-write, control-write)
