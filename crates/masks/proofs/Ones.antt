-- What the count of ones of src/ names: how many of a number's bits are set.
use Prim.Native.Nat.{ℕ, zero, suc, ◌+◌, ◌/◌, ◌%◌, ◌^◌, ◌<◌}
use mathlib.Core.Bool.{Bool}
use mathlib.Core.Path.{◌≡◌, refl, ap, ap₂, sym, ◌∙◌}
use native.Mathlib.Omega.{arith}
use native.Mathlib.Nat.{pow-suc}
use lib.Dec.{eqb}
use lib.Count.{ones, ones_step}
use Rattle.masks.specs.Pick.{pick}
use Rattle.masks.specs.Bits.{bit_of, count_of}
use Rattle.masks.specs.Laws.{bit-zero, bit-suc}

-- a count from the first number on
count-first : (f : ℕ → Bool) (k : ℕ) → count_of f (suc k) ≡ pick (f 0) 1 0 + count_of (λ n. f (suc n)) k
unfolding count_of
count-first f zero = omega arith
count-first f (suc k) = let rest = count-first f k in omega (arith, rest)

digit : (d : ℕ) → d < 2 → d ≡ pick (eqb d 1) 1 0
unfolding pick
digit zero h = refl
digit (suc zero) h = refl
digit (suc (suc d)) h = absurd (omega arith)

count_same : (f g : ℕ → Bool) (k : ℕ) → ((n : ℕ) → f n ≡ g n) → count_of f k ≡ count_of g k
unfolding count_of
count_same f g zero e = refl
count_same f g (suc k) e = ap₂ (λ (x : ℕ) (t : Bool). x + pick t 1 0) (count_same f g k e) (e k)

pub ones-count : (w m : ℕ) → m < 2 ^ w → ones m ≡ count_of (bit_of m) w
unfolding ones count_of
ones-count zero m h = let z : m ≡ 0 = omega arith in ap ones z
ones-count (suc w) m h =
    ones_step m
    ∙ ap₂ (λ (x y : ℕ). x + y)
    (digit (m % 2) (omega arith) ∙ ap (λ (t : Bool). pick t 1 0) (sym (bit-zero m)))
    (ones-count w (m / 2) (omega (arith, pow-suc 2 w)) ∙ count_same (bit_of (m / 2)) (λ n. bit_of m (suc n)) w (λ n. sym (bit-suc m n)))
    ∙ sym (count-first (bit_of m) w)
