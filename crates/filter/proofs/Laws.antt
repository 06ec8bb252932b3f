-- The test `(ident ^ pattern) & !mask == 0` against the rule bit by bit.
use Prim.Native.Nat.{ℕ, zero, suc, ◌+◌, ◌-◌, ◌/◌, ◌%◌, ◌^◌, ◌<◌, ◌≤◌}
use mathlib.Core.Bool.{Bool, true, false, not, ◌&&◌, ◌||◌, beq}
use mathlib.Core.Path.{◌≡◌, refl, ap, ap₂, sym, ◌∙◌}
use native.Mathlib.Omega.{arith}
use native.Mathlib.Nat.{add-suc}
use lib.Dec.{eqb}
use lib.Bits.{bit_and, bit_xor, xor_shr, xor_mod, and_le_r}
use Rattle.masks.specs.Bits.{bit_of, some_of}
use Rattle.masks.specs.Laws.{bit-and, bit_not, bit_high}
use Rattle.masks.specs.SearchLaws.{some-bit}
use Rattle.filter.specs.declared.Filter.{Filter}
use Rattle.filter.specs.Match.{agrees, matches}

-- ---- bits of `^`

xor-digits : (x y : ℕ) → x < 2 → y < 2 → eqb (bit_xor x y) 1 ≡ not (beq (eqb x 1) (eqb y 1))
xor-digits zero zero hx hy = refl
xor-digits zero (suc zero) hx hy = refl
xor-digits (suc zero) zero hx hy = refl
xor-digits (suc zero) (suc zero) hx hy = refl
xor-digits (suc (suc x)) y hx hy = absurd (omega arith)
xor-digits zero (suc (suc y)) hx hy = absurd (omega arith)
xor-digits (suc zero) (suc (suc y)) hx hy = absurd (omega arith)

bit-xor : (a b n : ℕ) → bit_of (bit_xor a b) n ≡ not (beq (bit_of a n) (bit_of b n))
unfolding bit_of
bit-xor a b n =
    ap (λ (x : ℕ). eqb x 1) (ap (λ (x : ℕ). x % 2) (xor_shr a b n) ∙ xor_mod (a / 2 ^ n) (b / 2 ^ n) 1)
    ∙ xor-digits (a / 2 ^ n % 2) (b / 2 ^ n % 2) (omega arith) (omega arith)

-- ---- the bits at which identifier and pattern differ and the mask bit is 0

abbrev differs : Filter → ℕ → ℕ
differs f i = bit_and (bit_xor i f.pattern) (255 - f.mask)

-- one bit of the rule: none differs there
agree-bit : (same masked : Bool) → (masked || same) ≡ not (not same && not masked)
agree-bit true true = refl
agree-bit true false = refl
agree-bit false true = refl
agree-bit false false = refl

-- and the bits below it
both-none : (here below : Bool) → (not here && not below) ≡ not (here || below)
both-none true below = refl
both-none false below = refl

differs-bit : (f : Filter) (i n : ℕ) → f.mask < 256 → n < 8
    → (bit_of f.mask n || beq (bit_of i n) (bit_of f.pattern n)) ≡ not (bit_of (differs f i) n)
differs-bit f i n hm hn =
    agree-bit (beq (bit_of i n) (bit_of f.pattern n)) (bit_of f.mask n)
    ∙ ap not (sym (bit-and (bit_xor i f.pattern) (255 - f.mask) n
    ∙ ap₂ ◌&&◌ (bit-xor i f.pattern n) (bit_not 8 f.mask n hm hn)))

agrees-none : (f : Filter) (i k : ℕ) → f.mask < 256 → k ≤ 8 → agrees f i k ≡ not (some_of (bit_of (differs f i)) k)
unfolding agrees some_of
agrees-none f i zero hm hk = refl
agrees-none f i (suc k) hm hk =
    ap₂ ◌&&◌ (differs-bit f i k hm (omega arith)) (agrees-none f i k hm (omega arith))
    ∙ both-none (bit_of (differs f i) k) (some_of (bit_of (differs f i)) k)

-- a number of 8 bits has no others
some-low : (m k : ℕ) → m < 256 → some_of (bit_of m) (8 + k) ≡ some_of (bit_of m) 8
unfolding some_of
some-low m zero h = refl
some-low m (suc k) h =
    ap (some_of (bit_of m)) (add-suc 8 k)
    ∙ ap (λ (t : Bool). t || some_of (bit_of m) (8 + k)) (bit_high 8 m (8 + k) h (omega arith))
    ∙ some-low m k h

not-not : (t : Bool) → t ≡ not (not t)
not-not true = refl
not-not false = refl

pub matches_test : (f : Filter) (i : ℕ) → f.mask < 256 → eqb (differs f i) 0 ≡ matches f i
unfolding matches
matches_test f i hm =
    let low : differs f i < 256 = omega (arith, and_le_r (bit_xor i f.pattern) (255 - f.mask)) in
    not-not (eqb (differs f i) 0)
    ∙ ap not (some-bit (differs f i) (omega arith) ∙ some-low (differs f i) 8 low)
    ∙ sym (agrees-none f i 8 hm (omega arith))
