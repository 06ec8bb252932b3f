-- What the counts of zeros of src/ name, for every width w: the lowest set bit of the last w of sixteen, and the highest of w.
use Prim.Native.Nat.{ℕ, zero, suc, ◌+◌, ◌/◌, ◌%◌, ◌^◌, ◌<◌, ◌≤◌}
use mathlib.Core.Bool.{Bool, true, false}
use mathlib.Core.Path.{◌≡◌, refl, ap, sym, ◌∙◌}
use native.Mathlib.Omega.{arith}
use native.Mathlib.Nat.{pow-suc}
use native.Mathlib.Numerals.{add-one}
use borrow.Author.Tests.{eq-eqb, eqb-true, eqb-false}
use lib.Dec.{eqb}
use lib.Pow.{shr-shr}
use lib.Count.{count_trailing_zeros, count_leading_zeros, under, leading_top}
use Rattle.masks.specs.Pick.{pick}
use Rattle.masks.specs.PickLaws.{pick_true, pick-false, by-test}
use Rattle.masks.specs.Bits.{bit_of, lowest, highest}
use Rattle.masks.specs.Laws.{bit-zero, bit-suc, bit-none, bit_high}

-- ---- `trailing_zeros`

-- d is bit i: where it is set i is found, else what is found above it, behind so many zeros
under-pick : (d i zeros found : ℕ) → d < 2 → suc i + zeros ≡ found → i + under d zeros ≡ pick (eqb d 1) i found
unfolding pick
under-pick zero i zeros found h e = omega arith
under-pick (suc zero) i zeros found h e = omega arith
under-pick (suc (suc d)) i zeros found h e = absurd (omega arith)

-- x is m shifted down by i: its trailing zeros, counted on w bits, lead from i to the lowest set bit of m from i on, or to 16
pub trailing-lowest : (w m i x : ℕ) → i + w ≡ 16 → x ≡ m / 2 ^ i → i + count_trailing_zeros w x ≡ lowest (bit_of m) i w
unfolding count_trailing_zeros lowest bit_of
trailing-lowest zero m i x e s = omega arith
trailing-lowest (suc w) m i x e s =
    let rest : x / 2 ≡ m / 2 ^ suc i = ap (λ (y : ℕ). y / 2) s ∙ shr-shr m i 1 ∙ ap (λ (k : ℕ). m / 2 ^ k) (add-one i) in
    ap (λ (y : ℕ). i + under (y % 2) (count_trailing_zeros w (x / 2))) s
    ∙ under-pick (m / 2 ^ i % 2) i (count_trailing_zeros w (x / 2)) (lowest (bit_of m) (suc i) w) (omega arith)
    (trailing-lowest w m (suc i) (x / 2) (omega arith) rest)

-- ---- `leading_zeros`

-- what passes, with nothing above it that does, is found
highest-at : (f : ℕ → Bool) (k n : ℕ) → n < k → f n ≡ true → ((j : ℕ) → n < j → j < k → f j ≡ false) → highest f k ≡ n
unfolding highest
highest-at f zero n h t e = absurd (omega arith)
highest-at f (suc k) n h t e = by-test (eqb n k)
    (λ p. let here = eqb-true n k p in pick_true (f k) k (highest f k) (ap f (sym here) ∙ t) ∙ sym here)
    (λ p. let over : n < k = let away = eqb-false n k p in omega (arith, away) in
    pick-false (f k) k (highest f k) (e k over (omega arith)) ∙ highest-at f k n over t (λ j l b. e j l (omega arith)))

-- m has n + 1 bits and no fewer: bit n is set
top_bit : (m n : ℕ) → 2 ^ n ≤ m → m < 2 ^ suc n → bit_of m n ≡ true
top_bit m zero l h = bit-zero m ∙ eq-eqb (m % 2) 1 (omega arith)
top_bit m (suc n) l h = bit-suc m n ∙ top_bit (m / 2) n (omega (arith, pow-suc 2 n)) (omega (arith, pow-suc 2 (suc n)))

-- m has at most w bits and is not 0: the zeros above its highest set bit n, that bit and the n below it make w
pub leading-highest : (w m : ℕ) → (m ≡ 0 → ⊥) → m < 2 ^ w → count_leading_zeros w m + suc (highest (bit_of m) w) ≡ w
leading-highest w m p h =
    let t = leading_top w m (omega (arith, p)) h in
    let top : highest (bit_of m) w ≡ t.0 =
    highest-at (bit_of m) w t.0 (omega (arith, t.1)) (top_bit m t.0 t.2 t.3) (λ n l b. bit_high (suc t.0) m n t.3 l) in
    ap (λ (n : ℕ). count_leading_zeros w m + suc n) top ∙ t.1

-- 0 has no set bit
pub zero-highest : (w : ℕ) → highest (bit_of 0) w ≡ 16
unfolding highest
zero-highest zero = refl
zero-highest (suc w) = pick-false (bit_of 0 w) w (highest (bit_of 0) w) (bit-none w) ∙ zero-highest w
