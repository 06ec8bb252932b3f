-- A number below a bound; and two digits, each by a table that has 256 for any other byte.
use Rattle.std.specs.Prelude.{ℕ, ◌+◌, ◌*◌, ◌≤◌, ◌<◌, ◌≡◌, refl, ltb, Option, Some, None}
use native.Mathlib.Omega.{arith}
use Rattle.std.proofs.Common.{sym, ◌∙◌}
use Rattle.std.proofs.Math.Path.{ap}
use borrow.Author.Tests.{lt-ltb, le-ltb, ltb-true, ltb-false}
use Rattle.masks.specs.PickLaws.{pick_true, pick-false, pick-keeps, by-test}
use Rattle.lines.specs.Grammar.{nibble_of, byte_of}
use Rattle.lines.specs.CodeFound.{wide_of, below}
use Rattle.lines.specs.FoundLaws.{byte_high, byte_low}

pub below-some : (n x v : ℕ) → below n x ≡ Some v → (v ≡ x) × (x < n)
unfolding below
below-some n x v =
    pick-keeps (λ (o : Option ℕ). o ≡ Some v → (v ≡ x) × (x < n)) (ltb x n) (λ t e. (cc, ltb-true x n t)) (λ t e. absurd (cc))

pub below-none : (n x : ℕ) → below n x ≡ None → n ≤ x
unfolding below
below-none n x = pick-keeps (λ (o : Option ℕ). o ≡ None → n ≤ x) (ltb x n) (λ t e. absurd (cc)) (λ t e. ltb-false x n t)

record Wide (b w : ℕ) : Type 0 where
  pub digit : w ≤ 255 → w ≡ nibble_of b
  pub small : w ≤ 255 → w ≤ 15
  pub other : 255 < w → 15 < nibble_of b

wide_is : (b : ℕ) → Wide b (wide_of b)
unfolding wide_of
wide_is b =
    pick-keeps (Wide b) (ltb 15 (nibble_of b))
    (λ e. record { digit = λ l. absurd (omega arith); small = λ l. omega arith; other = λ l. ltb-true 15 (nibble_of b) e })
    (λ e.
    let k : nibble_of b ≤ 15 = ltb-false 15 (nibble_of b) e in
    record { digit = λ l. refl; small = λ l. k; other = λ l. absurd (omega arith) })

byte-both : (h l : ℕ) → nibble_of h ≤ 15 → nibble_of l ≤ 15 → byte_of h l ≡ nibble_of h * 16 + nibble_of l
unfolding byte_of
byte-both h l p q = pick-false _ _ _ (le-ltb 15 (nibble_of h) p) ∙ pick-false _ _ _ (le-ltb 15 (nibble_of l) q)

module _ (h l x y : ℕ) (p : x ≡ wide_of h) (q : y ≡ wide_of l) where
  abbrev high : Wide h x
  high = rw p (wide_is h)

  abbrev low : Wide l y
  low = rw q (wide_is l)

  digits : x * 16 + y ≤ 255 → x * 16 + y ≡ byte_of h l
  digits k =
      let i : x ≤ 255 = omega arith in
      let j : y ≤ 255 = omega arith in
      let a : x ≡ nibble_of h = high.digit i in
      let b : y ≡ nibble_of l = low.digit j in
      let c : nibble_of h ≤ 15 = omega (arith, high.small i) in
      let d : nibble_of l ≤ 15 = omega (arith, low.small j) in
      let e = byte-both h l c d in
      omega arith

  other : 255 < x * 16 + y → 255 < byte_of h l
  other k =
      by-test (ltb 255 x) (λ e. omega (arith, byte_high h l (high.other (ltb-true 255 x e))))
      (λ e.
      let i : x ≤ 255 = ltb-false 255 x e in
      by-test (ltb 255 y) (λ f. omega (arith, byte_low h l (low.other (ltb-true 255 y f))))
      (λ f. let j : y ≤ 255 = ltb-false 255 y f in absurd (omega (arith, high.small i, low.small j))))

  pub pair-some : x * 16 + y < 256 → Some (x * 16 + y) ≡ below 256 (byte_of h l)
  unfolding below
  pair-some k =
      let e : x * 16 + y ≡ byte_of h l = digits (omega arith) in
      let i : byte_of h l < 256 = omega arith in
      ap (λ (n : ℕ). Some n) e ∙ sym (pick_true _ _ _ (lt-ltb (byte_of h l) 256 i))

  pub pair-none : 256 ≤ x * 16 + y → None ≡ below 256 (byte_of h l)
  unfolding below
  pair-none k =
      let i : 256 ≤ byte_of h l = omega (arith, other (omega arith)) in
      sym (pick-false _ _ _ (le-ltb (byte_of h l) 256 i))
