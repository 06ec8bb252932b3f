-- The lawful layout: a test of the mask as a number, against the rule by buffers.
use Rattle.std.specs.Prelude.{ℕ, zero, suc, ◌+◌, ◌-◌, ◌<◌, ◌≤◌, min, Bool, true, false, not, ◌&&◌, ◌||◌, ◌≡◌, refl, eqb, ltb}
use Rattle.std.proofs.Common.{sym, ap, ap₂, ◌∙◌, arith, le-ltb, ltb-true, ltb-false, eqb-true, ne_eqb}
use Rattle.std.proofs.lemmas.Bool.{eqb-false}
use Rattle.masks.specs.PickLaws.{pick-keeps, by-test}
use Rattle.masks.specs.Bits.{bit_of, mask_of, lowest, count_of, rising}
use Rattle.masks.specs.Laws.{not-by-mask, bit_mask, mask-of}
use Rattle.masks.specs.SearchLaws.{lowest-holds, lowest-before}

and-true : (a b : Bool) → (a && b) ≡ true → (a ≡ true) × (b ≡ true)
and-true true b e = (refl, e)
and-true false b e = let z : ◌≡◌ {A = Bool} false true = e in (cc, cc)

carries : (a b : Bool) → (not a || b) ≡ true → a ≡ true → b ≡ true
carries true b e p = e
carries false b e p = let z : ◌≡◌ {A = Bool} false true = p in cc

pub not-not : (t : Bool) → not (not t) ≡ t
not-not true = refl
not-not false = refl

-- ---- a rising test is known by its lowest

-- once true, true from there on
rising-up : (f : ℕ → Bool) (k j n : ℕ) → rising f k ≡ true → j ≤ n → n ≤ k → f j ≡ true → f n ≡ true
unfolding rising
rising-up f zero j n e h l t = let same : n ≡ j = omega arith in ap f same ∙ t
rising-up f (suc k) j n e h l t =
    let both = and-true (not (f k) || f (suc k)) (rising f k) e in
    by-test (ltb k n)
    (λ p. let top : n ≡ suc k = omega (arith, ltb-true k n p) in
    by-test (eqb n j) (λ q. ap f (eqb-true n j q) ∙ t) (λ q.
    ap f top ∙ carries (f k) (f (suc k)) both.0 (rising-up f k j k both.1 (let away = eqb-false n j q in omega (arith, away)) (omega arith) t)))
    (λ p. rising-up f k j n both.1 h (ltb-false k n p) t)

pub rising-lowest : (f : ℕ → Bool) (n : ℕ) → rising f 15 ≡ true → n < 16 → f n ≡ not (ltb n (lowest f 0 16))
rising-lowest f n e h =
    let low = lowest f 0 16 in
    by-test (ltb n low)
    (λ p. lowest-before f 0 16 n refl (omega arith) (ltb-true n low p) ∙ ap not (sym p))
    (λ p. let l = ltb-false n low p in
    rising-up f 15 low n e l (omega arith) (lowest-holds f 0 16 (omega arith)) ∙ ap not (sym p))

pub rising-ext : (f g : ℕ → Bool) (k : ℕ) → k < 16 → ((n : ℕ) → n < 16 → f n ≡ g n) → rising f k ≡ rising g k
unfolding rising
rising-ext f g zero h e = refl
rising-ext f g (suc k) h e =
    ap₂ ◌&&◌ (ap₂ (λ (a b : Bool). not a || b) (e k (omega arith)) (e (suc k) h)) (rising-ext f g k (omega arith) e)

-- ---- the test that is false below an edge and true from it on

edge-step : (l k : ℕ) → (not (not (ltb k l)) || not (ltb (suc k) l)) ≡ true
edge-step l k =
    by-test (ltb k l)
    (λ p. ap (λ (t : Bool). not (not t) || not (ltb (suc k) l)) p)
    (λ p. ap₂ (λ (s t : Bool). not (not s) || not t) p (le-ltb (suc k) l (let q = ltb-false k l p in omega arith)))

edge-rising : (l k : ℕ) → rising (λ n. not (ltb n l)) k ≡ true
unfolding rising
edge-rising l zero = refl
edge-rising l (suc k) = ap₂ ◌&&◌ (edge-step l k) (edge-rising l k)

pub edge_count : (l k : ℕ) → count_of (λ n. ltb n l) k ≡ min k l
unfolding count_of
edge_count l zero = omega arith
edge_count l (suc k) =
    let rest = edge_count l k in
    pick-keeps (λ (x : ℕ). count_of (λ n. ltb n l) k + x ≡ min (suc k) l) (ltb k l)
    (λ p. omega (arith, ltb-true k l p))
    (λ p. omega (arith, ltb-false k l p))

-- ---- the code's test `m == !below(k) && fsiz <= k`, with k by `lowest_of(m)` and b by `below(k)`

module _ (m k b : ℕ) (fits : m < 65536) (low : k ≡ lowest (bit_of m) 0 16) (edge : b ≡ mask_of (λ n. ltb n k)) where
  pub edge-bit : m ≡ 65535 - b → (n : ℕ) → n < 16 → bit_of m n ≡ not (ltb n k)
  edge-bit e n h = ap (λ (x : ℕ). bit_of x n) (e ∙ not-by-mask b (λ n. ltb n k) edge) ∙ bit_mask (λ n. not (ltb n k)) n h

  -- the mask is the edge's exactly where it rises
  pub layout-rising : eqb m (65535 - b) ≡ rising (bit_of m) 15
  layout-rising =
      by-test (eqb m (65535 - b))
      (λ p. p ∙ sym (rising-ext (bit_of m) (λ n. not (ltb n k)) 15 (omega arith) (edge-bit (eqb-true m (65535 - b) p)) ∙ edge-rising k 15))
      (λ p. by-test (rising (bit_of m) 15)
      (λ q. absurd (eqb-false m (65535 - b) p
      (mask-of m (λ n. not (ltb n k)) fits (λ n h. rising-lowest (bit_of m) n q h ∙ ap (λ (x : ℕ). not (ltb n x)) (sym low))
      ∙ sym (not-by-mask b (λ n. ltb n k) edge))))
      (λ q. p ∙ sym q))

  pub layout-else : (m ≡ 65535 - b → ⊥) → (x : Bool) → eqb m (65535 - b) ≡ (rising (bit_of m) 15 && x)
  layout-else ne x =
      ne_eqb m (65535 - b) ne ∙ sym (ap (λ (t : Bool). t && x) (sym layout-rising ∙ ne_eqb m (65535 - b) ne))
