-- Two hexadecimal digits and their value: each gives the other.
use Rattle.std.specs.Prelude.{ℕ, ◌+◌, ◌-◌, ◌*◌, ◌/◌, ◌%◌, ◌≤◌, ◌<◌, ◌≡◌, [], ◌∷◌, ltb, leb}
use Rattle.std.proofs.Common.{sym, ap, ap₂, ◌∙◌, arith, ltb-true, ltb-false, leb-true, lt-ltb, le-ltb, le-leb}
use Rattle.std.proofs.lemmas.Bool.{lt-leb}
use Rattle.masks.specs.PickLaws.{pick_true, pick-false, pick-keeps, by-test}
use Rattle.lines.specs.Grammar.{nibble_of, byte_of}
use Rattle.report.specs.Text.{digit_of, hex_of}

-- ---- a digit

digit_low : (d : ℕ) → d < 10 → digit_of d ≡ 48 + d
unfolding digit_of
digit_low d h = pick_true (ltb d 10) (48 + d) (55 + d) (lt-ltb d 10 h)

digit-high : (d : ℕ) → 10 ≤ d → digit_of d ≡ 55 + d
unfolding digit_of
digit-high d h = pick-false (ltb d 10) (48 + d) (55 + d) (le-ltb d 10 h)

-- a byte with a digit's value is that digit
pub nibble-digit : (b : ℕ) → nibble_of b < 16 → b ≡ digit_of (nibble_of b)
unfolding nibble_of
nibble-digit b =
    pick-keeps Is (ltb b 48) (λ e h. absurd (omega arith))
    (λ e. pick-keeps Is (leb b 57) (λ f h. from_low (ltb-false b 48 e) (leb-true b 57 f))
    (λ f. pick-keeps Is (ltb b 65) (λ g h. absurd (omega arith))
    (λ g. pick-keeps Is (leb b 70) (λ i h. from-high (ltb-false b 65 g) (leb-true b 70 i)) (λ i h. absurd (omega arith)))))
  where
    Is : ℕ → Type 0
    Is d = d < 16 → b ≡ digit_of d

    from_low : 48 ≤ b → b ≤ 57 → b ≡ digit_of (b - 48)
    from_low lo hi = let p : b ≡ 48 + (b - 48) = omega arith in p ∙ sym (digit_low (b - 48) (omega arith))

    from-high : 65 ≤ b → b ≤ 70 → b ≡ digit_of (b - 65 + 10)
    from-high lo hi = let p : b ≡ 55 + (b - 65 + 10) = omega arith in p ∙ sym (digit-high (b - 65 + 10) (omega arith))

nibble-low : (d : ℕ) → d < 10 → nibble_of (48 + d) ≡ d
unfolding nibble_of
nibble-low d h =
    let p : 48 + d - 48 ≡ d = omega arith in
    pick-false (ltb (48 + d) 48) _ _ (le-ltb (48 + d) 48 (omega arith)) ∙ pick_true (leb (48 + d) 57) _ _ (le-leb (48 + d) 57 (omega arith)) ∙ p

nibble-high : (d : ℕ) → 10 ≤ d → d < 16 → nibble_of (55 + d) ≡ d
unfolding nibble_of
nibble-high d lo hi =
    let p : 55 + d - 65 + 10 ≡ d = omega arith in
    pick-false (ltb (55 + d) 48) _ _ (le-ltb (55 + d) 48 (omega arith)) ∙ pick-false (leb (55 + d) 57) _ _ (lt-leb (55 + d) 57 (omega arith))
    ∙ pick-false (ltb (55 + d) 65) _ _ (le-ltb (55 + d) 65 (omega arith)) ∙ pick_true (leb (55 + d) 70) _ _ (le-leb (55 + d) 70 (omega arith))
    ∙ p

-- a digit has its value
pub digit-nibble : (d : ℕ) → d < 16 → nibble_of (digit_of d) ≡ d
digit-nibble d h =
    by-test (ltb d 10)
    (λ e. let l = ltb-true d 10 e in ap nibble_of (digit_low d l) ∙ nibble-low d l)
    (λ e. let l = ltb-false d 10 e in ap nibble_of (digit-high d l) ∙ nibble-high d l h)

-- ---- two digits

hex-of : (n m : ℕ) → m ≤ 15 → hex_of (n * 16 + m) ≡ digit_of n ∷ digit_of m ∷ []
unfolding hex_of
hex-of n m h =
    let p : (n * 16 + m) / 16 ≡ n = omega arith in
    let q : (n * 16 + m) % 16 ≡ m = omega arith in
    ap₂ (λ (x y : ℕ). digit_of x ∷ digit_of y ∷ []) p q

byte-of : (h l n m : ℕ) → nibble_of h ≡ n → nibble_of l ≡ m → n ≤ 15 → m ≤ 15 → byte_of h l ≡ n * 16 + m
unfolding byte_of
byte-of h l n m e f p q =
    pick-false (ltb 15 (nibble_of h)) _ _ (le-ltb 15 (nibble_of h) (omega arith))
    ∙ pick-false (ltb 15 (nibble_of l)) _ _ (le-ltb 15 (nibble_of l) (omega arith))
    ∙ ap₂ (λ (x y : ℕ). x * 16 + y) e f

-- two bytes with a value are the value's digits
pub byte-hex : (h l : ℕ) → byte_of h l ≤ 255 → (h ∷ l ∷ []) ≡ hex_of (byte_of h l)
unfolding byte_of
byte-hex h l =
    pick-keeps Is (ltb 15 (nibble_of h)) (λ e b. absurd (omega arith))
    (λ e. pick-keeps Is (ltb 15 (nibble_of l)) (λ f b. absurd (omega arith)) (λ f b. digits (ltb-false 15 (nibble_of h) e) (ltb-false 15 (nibble_of l) f)))
  where
    Is : ℕ → Type 0
    Is v = v ≤ 255 → (h ∷ l ∷ []) ≡ hex_of v

    digits : nibble_of h ≤ 15 → nibble_of l ≤ 15 → (h ∷ l ∷ []) ≡ hex_of (nibble_of h * 16 + nibble_of l)
    digits p q =
        ap₂ (λ (x y : ℕ). x ∷ y ∷ []) (nibble-digit h (omega arith)) (nibble-digit l (omega arith)) ∙ sym (hex-of (nibble_of h) (nibble_of l) q)

-- a value's digits have the value
pub hex-byte : (v : ℕ) → v ≤ 255 → byte_of (digit_of (v / 16)) (digit_of (v % 16)) ≡ v
hex-byte v h =
    let p : v / 16 * 16 + v % 16 ≡ v = omega arith in
    byte-of (digit_of (v / 16)) (digit_of (v % 16)) (v / 16) (v % 16) (digit-nibble (v / 16) (omega arith)) (digit-nibble (v % 16) (omega arith)) (omega arith) (omega arith)
    ∙ p
