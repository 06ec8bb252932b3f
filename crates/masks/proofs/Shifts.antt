-- What the shifts of src/ compute, by bits.
use Prim.Native.Nat.{ℕ, zero, suc, ◌-◌, ◌*◌, ◌/◌, ◌%◌, ◌^◌, ◌<◌, ◌≤◌}
use mathlib.Core.Path.{◌≡◌, ap, sym, ◌∙◌}
use native.Mathlib.Omega.{arith}
use native.Mathlib.Nat.{one-mul, mod-eq_of_lt, pow-suc}
use borrow.Author.Tests.{ne_eqb, lt-ltb, le-leb}
use lib.Dec.{eqb, ltb, leb, eqb-suc-zero, eqb-suc-suc, eqb-zero-suc, leb-suc-suc, leb-suc-zero, leb-zero}
use lib.Bits.{bit_and, and_mask}
use lib.Pow.{pow_pos, pow-lt}
use Rattle.masks.specs.Bits.{bit_of, mask_of}
use Rattle.masks.specs.Laws.{bit-zero, bit-suc, bit-none, mask-of}

-- `m >> n & 1 == 1`
pub shift-test : (m n : ℕ) → eqb (bit_and (m / 2 ^ n) 1) 1 ≡ bit_of m n
unfolding bit_of
shift-test m n = ap (λ (x : ℕ). eqb x 1) (and_mask (m / 2 ^ n) 1)

-- `1 << n`, which loses no bit
shift_one : (n : ℕ) → n < 16 → 1 * 2 ^ n % 65536 ≡ 2 ^ n
shift_one n h = rw one-mul (mod-eq_of_lt (pow-lt {j = 16} h))

power-bit : (n k : ℕ) → bit_of (2 ^ n) k ≡ eqb k n
power-bit zero zero = bit-zero 1
power-bit zero (suc k) = bit-suc 1 k ∙ bit-none k ∙ sym (eqb-suc-zero k)
power-bit (suc n) zero =
    let even : 2 ^ suc n % 2 ≡ 0 = omega (arith, pow-suc 2 n) in
    bit-zero (2 ^ suc n) ∙ ap (λ (x : ℕ). eqb x 1) even ∙ sym (eqb-zero-suc n)
power-bit (suc n) (suc k) =
    let half : 2 ^ suc n / 2 ≡ 2 ^ n = omega (arith, pow-suc 2 n) in
    bit-suc (2 ^ suc n) k ∙ ap (λ (x : ℕ). bit_of x k) half ∙ power-bit n k ∙ sym (eqb-suc-suc k n)

ones_bit : (n k : ℕ) → bit_of (2 ^ n - 1) k ≡ ltb k n
ones_bit zero k = bit-none k ∙ sym (leb-suc-zero k)
ones_bit (suc n) zero =
    let odd : (2 ^ suc n - 1) % 2 ≡ 1 = omega (arith, pow-suc 2 n, pow_pos n) in
    bit-zero (2 ^ suc n - 1) ∙ ap (λ (x : ℕ). eqb x 1) odd ∙ sym (leb-suc-suc zero n ∙ leb-zero n)
ones_bit (suc n) (suc k) =
    let half : (2 ^ suc n - 1) / 2 ≡ 2 ^ n - 1 = omega (arith, pow-suc 2 n, pow_pos n) in
    bit-suc (2 ^ suc n - 1) k ∙ ap (λ (x : ℕ). bit_of x k) half ∙ ones_bit n k ∙ sym (leb-suc-suc (suc k) n)

pub one_inside : (n : ℕ) → n < 16 → 1 * 2 ^ n % 65536 ≡ mask_of (λ k. eqb k n)
one_inside n h = rw (shift_one n h) (mask-of (2 ^ n) (λ k. eqb k n) (pow-lt {j = 16} h) (λ k l. power-bit n k))

pub one_outside : (n : ℕ) → 16 ≤ n → 0 ≡ mask_of (λ k. eqb k n)
one_outside n h = mask-of 0 (λ k. eqb k n) (omega arith) (λ k l. bit-none k ∙ sym (ne_eqb k n (λ e. omega arith)))

pub one-positive : (n : ℕ) → n < 16 → 1 ≤ 1 * 2 ^ n % 65536
one-positive n h = rw (shift_one n h) (pow_pos n)

pub below-inside : (n : ℕ) → n < 16 → 1 * 2 ^ n % 65536 - 1 ≡ mask_of (λ k. ltb k n)
below-inside n h =
    rw (shift_one n h)
    (mask-of (2 ^ n - 1) (λ k. ltb k n) (let p : 2 ^ n < 65536 = pow-lt {i = n} {j = 16} h in omega (arith, p, pow_pos n)) (λ k l. ones_bit n k))

pub below-outside : (n : ℕ) → 16 ≤ n → 65535 ≡ mask_of (λ k. ltb k n)
below-outside n h = mask-of 65535 (λ k. ltb k n) (omega arith) (λ k l. ones_bit 16 k ∙ lt-ltb k 16 l ∙ sym (lt-ltb k n (omega arith)))

-- `2 << n`, which loses no bit below 15
shift_two : (n : ℕ) → n < 15 → 2 * 2 ^ n % 65536 ≡ 2 ^ suc n
shift_two n h =
    let double : 2 * 2 ^ n ≡ 2 ^ suc n = omega (arith, pow-suc 2 n) in
    ap (λ (x : ℕ). x % 65536) double ∙ mod-eq_of_lt (pow-lt {j = 16} (omega arith))

-- `1 << n` and `2 << n`
pub shift-positive : (a n : ℕ) → 1 ≤ a → a ≤ 2 → n < 15 → 1 ≤ a * 2 ^ n % 65536
shift-positive zero n low high h = absurd (omega arith)
shift-positive (suc zero) n low high h = one-positive n (omega arith)
shift-positive (suc (suc zero)) n low high h = rw (shift_two n h) (pow_pos (suc n))
shift-positive (suc (suc (suc a))) n low high h = absurd (omega arith)

pub up-to-inside : (n : ℕ) → n < 15 → 2 * 2 ^ n % 65536 - 1 ≡ mask_of (λ k. leb k n)
up-to-inside n h =
    rw (shift_two n h)
    (mask-of (2 ^ suc n - 1) (λ k. leb k n) (let p : 2 ^ suc n < 65536 = pow-lt {i = suc n} {j = 16} (omega arith) in omega (arith, p, pow_pos (suc n)))
    (λ k l. ones_bit (suc n) k ∙ leb-suc-suc k n))

pub up-to-outside : (n : ℕ) → 15 ≤ n → 65535 ≡ mask_of (λ k. leb k n)
up-to-outside n h = mask-of 65535 (λ k. leb k n) (omega arith) (λ k l. ones_bit 16 k ∙ lt-ltb k 16 l ∙ sym (le-leb k n (omega arith)))
