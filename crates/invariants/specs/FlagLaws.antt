-- Laws on the bits of a register: a number that has no other bits than a mask m of at most sixteen, and a flag put on.
use Rattle.std.specs.Prelude.{◌≡◌, refl, ℕ, ◌%◌, ◌<◌, ◌≤◌, Bool, true, false, ◌&&◌, ◌||◌}
use Rattle.std.proofs.Common.{sym, ap, ◌∙◌, subst, arith}
use Rattle.std.proofs.Math.Bool.{and-true, and-false, or-false}
use Rattle.std.specs.Int.Bits.{bit_and, bit_or}
use Rattle.std.proofs.lemmas.Nat.{and_le_r, and_mask}
use Rattle.std.proofs.lemmas.Bool.{and_parts}
use Rattle.masks.specs.Pick.{pick}
use Rattle.masks.specs.PickLaws.{pick-keeps, by-test}
use Rattle.masks.specs.Bits.{bit_of}
use Rattle.masks.specs.Laws.{bit-none, bit-and, bit-or, mask-ext, and-fits, or-fits}
use Rattle.rules.specs.Registers.{with_flag}
use Rattle.invariants.specs.Sound.{within}
use Rattle.invariants.specs.TestLaws.{impossible, or_cases}

-- ---- no other bits than m

within-le : (m x : ℕ) → within m x → x ≤ m
unfolding within
within-le m x e = subst (λ (y : ℕ). y ≤ m) e (and_le_r x m)

within-bit : (m x k : ℕ) → within m x → bit_of x k ≡ true → bit_of m k ≡ true
unfolding within
within-bit m x k e t = (and_parts (bit_of x k) (bit_of m k) (sym (bit-and x m k) ∙ ap (λ (y : ℕ). bit_of y k) e ∙ t)).1

pub bit-absent-in : (m x k : ℕ) → within m x → bit_of m k ≡ false → bit_of x k ≡ false
bit-absent-in m x k e z = by-test (bit_of x k) (λ t. impossible (sym z ∙ within-bit m x k e t)) (λ t. t)

implied : (a b : Bool) → (a ≡ true → b ≡ true) → (a && b) ≡ a
implied true b f = f refl
implied false b f = refl

within_by : (m x : ℕ) → x < 65536 → ((k : ℕ) → bit_of x k ≡ true → bit_of m k ≡ true) → within m x
unfolding within
within_by m x h f = mask-ext (bit_and x m) x (and-fits m h) h (λ k l. bit-and x m k ∙ implied (bit_of x k) (bit_of m k) (f k))

module _ (m : ℕ) (fits : m < 65536) where
  small : (x : ℕ) → within m x → x < 65536
  small x e = let h = within-le m x e in omega arith

  pub or-within : (x y : ℕ) → within m x → within m y → within m (bit_or x y)
  or-within x y p q =
      within_by m (bit_or x y) (or-fits (small x p) (small y q))
      (λ k t. or_cases (bit_of x k) (bit_of y k) (sym (bit-or x y k) ∙ t) (within-bit m x k p) (within-bit m y k q))

  pub and-within : (x y : ℕ) → within m x → within m (bit_and x y)
  and-within x y p =
      within_by m (bit_and x y) (and-fits y (small x p))
      (λ k t. within-bit m x k p (and_parts (bit_of x k) (bit_of y k) (sym (bit-and x y k) ∙ t)).0)

  -- nor than a mask n that has the bits of m
  pub within_more : (n x : ℕ) → within m x → within n m → within n x
  within_more n x p q = within_by n x (small x p) (λ k t. within-bit n m k q (within-bit m x k p t))

  -- a value cut to m
  pub cut-within : (x : ℕ) → within m (bit_and x m)
  cut-within x =
      within_by m (bit_and x m) (let h = and_le_r x m in omega arith)
      (λ k t. (and_parts (bit_of x k) (bit_of m k) (sym (bit-and x m k) ∙ t)).1)

  pub flag-within : (t : Bool) (b v : ℕ) → within m b → within m v → within m (with_flag t b v)
  unfolding with_flag
  flag-within t b v p q = pick-keeps (within m) t (λ e. or-within v b q p) (λ e. q)

  -- and none of bits r that m has not
  pub without : (r x : ℕ) → within m x → bit_and m r ≡ 0 → bit_and x r ≡ 0
  without r x p z =
      mask-ext (bit_and x r) 0 (and-fits r (small x p)) (omega arith)
      (λ k l. by-test (bit_of (bit_and x r) k)
      (λ t. let both = sym (bit-and x r k) ∙ t in
      let bits = and_parts (bit_of x k) (bit_of r k) both in
      let a = within-bit m x k p bits.0 in
      let b = bits.1 in
      let c : bit_of (bit_and m r) k ≡ true = bit-and m r k ∙ simp (a, b) in
      impossible (sym (ap (λ (y : ℕ). bit_of y k) z ∙ bit-none k) ∙ c))
      (λ t. t ∙ sym (bit-none k)))

-- five bits
pub five-bits : (x : ℕ) → x < 32 → within 0x1F x
unfolding within
five-bits x h = and_mask x 5 ∙ (let low : x % 32 ≡ x = omega arith in low)

-- ---- a flag b put on where t holds: its own bit says t, and the others stay

flag-bit : (t : Bool) (b v k : ℕ) → bit_of (with_flag t b v) k ≡ (bit_of v k || (t && bit_of b k))
unfolding with_flag pick
flag-bit true b v k = bit-or v b k
flag-bit false b v k = sym (or-false (bit_of v k))

pub flag-own : (t : Bool) (b v k : ℕ) → bit_of v k ≡ false → bit_of b k ≡ true → bit_of (with_flag t b v) k ≡ t
flag-own t b v k p q = flag-bit t b v k ∙ simp (p, q, and-true t)

pub flag-other : (t : Bool) (b v k : ℕ) → bit_of b k ≡ false → bit_of (with_flag t b v) k ≡ bit_of v k
flag-other t b v k q = flag-bit t b v k ∙ simp (q, and-false t, or-false (bit_of v k))
