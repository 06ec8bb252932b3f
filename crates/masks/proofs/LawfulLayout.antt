-- The lawful layout: the number of the receive buffers, for the code's test.
use Rattle.std.specs.Prelude.{ℕ, ◌-◌, ◌<◌, ◌≤◌, min, Bool, not, ◌&&◌, ◌≡◌, refl, eqb, ltb, leb}
use Rattle.std.proofs.Common.{sym, ap, ap₂, ◌∙◌, arith, eq-eqb, eqb-true}
use Rattle.std.proofs.lemmas.Bool.{eqb-false}
use Rattle.masks.specs.PickLaws.{by-test}
use Rattle.masks.specs.Bits.{bit_of, mask_of, lowest, count_of, rising}
use Rattle.masks.specs.SearchLaws.{lowest-le, count-ext}
use Rattle.masks.specs.LayoutLaws as the

module _ (m k b : ℕ) (fits : m < 65536) (low : k ≡ lowest (bit_of m) 0 16) (edge : b ≡ mask_of (λ n. ltb n k)) where
  -- and then as many bits are clear as lie below the edge
  pub layout-count : m ≡ 65535 - b → count_of (λ n. not (bit_of m n)) 16 ≡ k
  layout-count e =
      count-ext (λ n. not (bit_of m n)) (λ n. ltb n k) 16 (omega arith) (λ n h. ap not (the.edge-bit m k b fits low edge e n h) ∙ the.not-not (ltb n k))
      ∙ the.edge_count k 16
      ∙ (let small : k ≤ 16 = omega (arith, lowest-le (bit_of m) 0 16 refl) in let h : min 16 k ≡ k = omega arith in h)

  pub layout-then : m ≡ 65535 - b → (fsiz : ℕ) → leb fsiz k ≡ (rising (bit_of m) 15 && leb fsiz (count_of (λ n. not (bit_of m n)) 16))
  layout-then e fsiz =
      sym (ap₂ (λ (t : Bool) (x : ℕ). t && leb fsiz x) (sym (the.layout-rising m k b fits low edge) ∙ eq-eqb m (65535 - b) e) (layout-count e))

  pub layout-test : (fsiz : ℕ) → (eqb m (65535 - b) && leb fsiz k) ≡ (rising (bit_of m) 15 && leb fsiz (count_of (λ n. not (bit_of m n)) 16))
  layout-test fsiz =
      by-test (eqb m (65535 - b))
      (λ p. ap (λ (t : Bool). t && leb fsiz k) p ∙ layout-then (eqb-true m (65535 - b) p) fsiz)
      (λ p. ap (λ (t : Bool). t && leb fsiz k) p ∙ sym p ∙ the.layout-else m k b fits low edge (eqb-false m (65535 - b) p) (leb fsiz (count_of (λ n. not (bit_of m n)) 16)))
