-- The sixteen identifiers as a list, the searches among them, and a mask without the buffers that have none.
use Rattle.std.specs.Prelude.{ℕ, zero, suc, ◌+◌, ◌-◌, ◌<◌, ◌≤◌, min, Bool, true, false, List, [], ◌∷◌, ◌≡◌}
use Rattle.std.proofs.Math.Bool.{not, ◌&&◌, and-true, and-false, and-eq-true_iff}
use Rattle.std.proofs.Math.Path.{refl, ap, ap₂, sym}
use Rattle.std.proofs.Common.{◌∙◌}
use native.Mathlib.Omega.{arith}
use borrow.Author.Tests.{eq-eqb, eqb-true, eqb-false, lt-ltb, le-ltb, ltb-true, ltb-false, not-true}
use Rattle.std.proofs.Math.Dec.{eqb, ltb}
use Rattle.std.proofs.Math.ListN.{get_or}
use Rattle.std.specs.Int.Bits.{bit_and}
use Rattle.masks.specs.PickLaws.{by-test}
use Rattle.masks.specs.Bits.{bit_of, mask_of, lowest, highest, buffer_of, number_in}
use Rattle.masks.specs.Laws.{bit-none, bit_mask, mask-of, same-mask, own, and-by, not-by-mask}
use Rattle.masks.specs.SearchLaws.{never_both, lowest-le, lowest-ext, highest-le, highest-ext, number-found}
use Rattle.contents.specs.declared.Contents.{Contents}
use Rattle.search.specs.CodeSearch.{ident_at, carries_at, named_at, is_named_in, lowest_with, highest_with, named_of}

-- the first k values of a function
abbrev pub firsts : ℕ → (ℕ → ℕ) → List ℕ
firsts zero f = []
firsts (suc k) f = f 0 ∷ firsts k (λ n. f (suc n))

pub firsts_at : (k : ℕ) (f : ℕ → ℕ) (n : ℕ) → n < k → get_or (firsts k f) n 0 ≡ f n
firsts_at zero f n h = absurd (omega arith)
firsts_at (suc k) f zero h = refl
firsts_at (suc k) f (suc n) h = firsts_at k (λ m. f (suc m)) n (omega arith)

-- the sixteen identifiers
abbrev pub idents_of : List Contents → List ℕ
idents_of rows = firsts 16 (ident_at rows)

-- ---- the searches over the identifiers alone

-- buffer n is in the mask m, and its identifier among ids is i
unfoldable pub carries_in : List ℕ → ℕ → ℕ → ℕ → Bool
carries_in ids m i n = bit_of m n && eqb (get_or ids n 0) i

module _ (ids : List ℕ) (m i n : ℕ) where
  pub in-mask : {t : Bool} → bit_of m n ≡ true → eqb (get_or ids n 0) i ≡ t → carries_in ids m i n ≡ t
  unfolding carries_in
  in-mask p q = ap₂ ◌&&◌ p q

  pub not-in-mask : bit_of m n ≡ false → carries_in ids m i n ≡ false
  unfolding carries_in
  not-in-mask p = ap (λ (t : Bool). t && eqb (get_or ids n 0) i) p

-- ---- a mask without the buffers that have no identifier, taken out on a walk upwards

-- buffer n is from `from` on and below `to`, and has no identifier among ids
unfoldable pub lacks_ident : List ℕ → ℕ → ℕ → ℕ → Bool
lacks_ident ids from to n = (not (ltb n from) && ltb n to) && eqb (get_or ids n 0) 0

-- the mask m without those
unfoldable pub named_within : List ℕ → ℕ → ℕ → ℕ → ℕ
named_within ids m from to = mask_of (λ n. bit_of m n && not (lacks_ident ids from to n))

-- what the test says of n
abbrev Lacks : List ℕ → ℕ → ℕ → ℕ → Type 0
Lacks ids from to n = (from ≤ n) × ((n < to) × (get_or ids n 0 ≡ 0))

module _ (ids : List ℕ) (from n : ℕ) where
  lacks-yes : (to : ℕ) → Lacks ids from to n → lacks_ident ids from to n ≡ true
  unfolding lacks_ident
  lacks-yes to h =
      ap₂ ◌&&◌ (ap₂ ◌&&◌ (ap not (le-ltb n from h.0)) (lt-ltb n to h.1.0)) (eq-eqb (get_or ids n 0) 0 h.1.1)

  lacks-true : (to : ℕ) → lacks_ident ids from to n ≡ true → Lacks ids from to n
  unfolding lacks_ident
  lacks-true to e =
      let both = (and-eq-true_iff (not (ltb n from) && ltb n to) (eqb (get_or ids n 0) 0)).0 e in
      let ends = (and-eq-true_iff (not (ltb n from)) (ltb n to)).0 both.0 in
      (ltb-false n from (not-true (ltb n from) ends.0), (ltb-true n to ends.1, eqb-true (get_or ids n 0) 0 both.1))

  lacks-no : (to : ℕ) → (Lacks ids from to n → ⊥) → lacks_ident ids from to n ≡ false
  lacks-no to h = by-test (lacks_ident ids from to n) (λ p. absurd (h (lacks-true to p))) (λ p. p)

  lacks-same : (j k : ℕ) → (Lacks ids from j n → Lacks ids from k n) → (Lacks ids from k n → Lacks ids from j n)
      → lacks_ident ids from j n ≡ lacks_ident ids from k n
  lacks-same j k f g =
      by-test (lacks_ident ids from j n)
      (λ p. p ∙ sym (lacks-yes k (f (lacks-true j p))))
      (λ p. p ∙ sym (lacks-no k (λ h. never_both (lacks_ident ids from j n) (lacks-yes j (g h)) p)))

  -- one buffer more, k, which is another or has an identifier
  lacks-next : (k : ℕ) → (n ≡ k → get_or ids n 0 ≡ 0 → ⊥) → lacks_ident ids from k n ≡ lacks_ident ids from (k + 1) n
  lacks-next k h =
      lacks-same k (k + 1) (λ w. (w.0, (omega arith, w.1.1)))
      (λ w. let away : n ≡ k → ⊥ = λ e. h e w.1.1 in (w.0, (omega (arith, away), w.1.1)))

module _ (ids : List ℕ) (m from : ℕ) where
  same-within : (j k : ℕ) → ((n : ℕ) → n < 16 → lacks_ident ids from j n ≡ lacks_ident ids from k n)
      → named_within ids m from j ≡ named_within ids m from k
  unfolding named_within
  same-within j k e =
      same-mask (λ n. bit_of m n && not (lacks_ident ids from j n)) (λ n. bit_of m n && not (lacks_ident ids from k n))
      (λ n l. ap (λ (t : Bool). bit_of m n && not t) (e n l))

  -- m has none of those to take out
  within_none : (to : ℕ) → m < 65536 → ((n : ℕ) → n < 16 → bit_of m n ≡ true → Lacks ids from to n → ⊥)
      → m ≡ named_within ids m from to
  unfolding named_within
  within_none to h e =
      mask-of m (λ n. bit_of m n && not (lacks_ident ids from to n)) h
      (λ n l. by-test (bit_of m n)
      (λ p. p ∙ sym (ap₂ (λ (s t : Bool). s && not t) p (lacks-no ids from n to (e n l p))))
      (λ p. p ∙ sym (ap (λ (t : Bool). t && not (lacks_ident ids from to n)) p)))

  -- m has none of the buffers between, a and b being the masks below `to` and below `from`
  pub within-guard : (to a b : ℕ) → m < 65536 → a ≡ mask_of (λ n. ltb n to) → b ≡ mask_of (λ n. ltb n from)
      → bit_and (bit_and m a) (65535 - b) ≡ 0 → m ≡ named_within ids m from to
  within-guard to a b h p q e =
      let f : ℕ → Bool = λ n. (bit_of m n && ltb n to) && not (ltb n from) in
      let gathered = and-by (bit_and m a) (65535 - b) (λ n. bit_of m n && ltb n to) (λ n. not (ltb n from))
      (and-by m a (bit_of m) (λ n. ltb n to) (own m h) p)
      (not-by-mask b (λ n. ltb n from) q) in
      within_none to h (λ n l s w. never_both (f n)
      (ap₂ ◌&&◌ (ap₂ ◌&&◌ s (lt-ltb n to w.1.0)) (ap not (le-ltb n from w.0)))
      (sym (bit_mask f n l) ∙ ap (λ (x : ℕ). bit_of x n) (sym gathered ∙ e) ∙ bit-none n))

  -- none is taken out yet
  pub within-start : m < 65536 → m ≡ named_within ids m from from
  within-start h = within_none from h (λ n l p w. omega arith)

  -- buffer k has no identifier, and is taken out
  pub within-hit : (k rest : ℕ) → from ≤ k → rest ≡ named_within ids m from k → get_or ids k 0 ≡ 0
      → mask_of (λ n. bit_of rest n && not (eqb n k)) ≡ named_within ids m from (k + 1)
  unfolding named_within
  within-hit k rest h p z =
      same-mask (λ n. bit_of rest n && not (eqb n k)) (λ n. bit_of m n && not (lacks_ident ids from (k + 1) n))
      (λ n l. by-test (eqb n k)
      (λ e. let same = eqb-true n k e in
      let out = lacks-yes ids from n (k + 1) (omega arith, (omega arith, ap (λ (x : ℕ). get_or ids x 0) same ∙ z)) in
      ap (λ (t : Bool). bit_of rest n && not t) e ∙ and-false (bit_of rest n)
      ∙ sym (ap (λ (t : Bool). bit_of m n && not t) out ∙ and-false (bit_of m n)))
      (λ e. ap (λ (t : Bool). bit_of rest n && not t) e ∙ and-true (bit_of rest n)
      ∙ ap (λ (x : ℕ). bit_of x n) p ∙ bit_mask (λ n. bit_of m n && not (lacks_ident ids from k n)) n l
      ∙ ap (λ (t : Bool). bit_of m n && not t) (lacks-next ids from n k (λ q w. eqb-false n k e q))))

  -- buffer k has one
  pub within-miss : (k : ℕ) → (get_or ids k 0 ≡ 0 → ⊥) → named_within ids m from k ≡ named_within ids m from (k + 1)
  within-miss k z =
      same-within k (k + 1) (λ n l. lacks-next ids from n k (λ e w. z (ap (λ (x : ℕ). get_or ids x 0) (sym e) ∙ w)))

  -- all are looked at: from 16 on there is none
  pub within_end : (to k : ℕ) → from ≤ k → k ≤ from + (to - from) → min to 16 ≤ k
      → named_within ids m from k ≡ named_within ids m from to
  within_end to k h j e =
      same-within k to (λ n l. lacks-same ids from n k to
      (λ w. (w.0, (omega arith, w.1.1))) (λ w. (w.0, (omega arith, w.1.1))))

-- those of one part and those of the other are all
both-parts : (b t z : Bool) → ((b && not (t && z)) && not ((not t && true) && z)) ≡ (b && not z)
both-parts false t z = refl
both-parts true true true = refl
both-parts true true false = refl
both-parts true false z = refl

-- ---- the same over the rows

module _ (rows : List Contents) (ids : List ℕ) (of-rows : ids ≡ idents_of rows) where
  ident-of : (n : ℕ) → n < 16 → get_or ids n 0 ≡ ident_at rows n
  ident-of n l = ap (λ (zs : List ℕ). get_or zs n 0) of-rows ∙ firsts_at 16 (ident_at rows) n l

  carries_own : (m i n : ℕ) → n < 16 → carries_in ids m i n ≡ carries_at rows m i n
  unfolding carries_in carries_at
  carries_own m i n l = ap (λ (k : ℕ). bit_of m n && eqb k i) (ident-of n l)

  pub lowest-idents : (m i : ℕ) → lowest (carries_in ids m i) 0 16 ≡ lowest_with rows m i
  unfolding lowest_with
  lowest-idents m i = lowest-ext (carries_in ids m i) (carries_at rows m i) 0 16 refl (carries_own m i)

  pub highest-idents : (m i : ℕ) → highest (carries_in ids m i) 16 ≡ highest_with rows m i
  unfolding highest_with
  highest-idents m i = highest-ext (carries_in ids m i) (carries_at rows m i) 16 (omega arith) (carries_own m i)

  -- one half, and then the other
  pub named-halves : (m : ℕ) → named_within ids (named_within ids m 0 8) 8 16 ≡ named_of rows m
  unfolding named_within lacks_ident named_of is_named_in named_at
  named-halves m =
      same-mask (λ n. bit_of (named_within ids m 0 8) n && not (lacks_ident ids 8 16 n)) (is_named_in rows m)
      (λ n l. ap₂ (λ (s t : Bool). s && not ((not (ltb n 8) && t) && eqb (get_or ids n 0) 0))
      (bit_mask (λ n. bit_of m n && not (lacks_ident ids 0 8 n)) n l
      ∙ ap (λ (t : Bool). bit_of m n && not ((not t && ltb n 8) && eqb (get_or ids n 0) 0)) (le-ltb n 0 (omega arith)))
      (lt-ltb n 16 l)
      ∙ both-parts (bit_of m n) (ltb n 8) (eqb (get_or ids n 0) 0)
      ∙ ap (λ (k : ℕ). bit_of m n && not (eqb k 0)) (ident-of n l))

-- ---- what is found, by its number

pub lowest-number : (rows : List Contents) (m i : ℕ) → number_in (buffer_of (lowest_with rows m i)) ≡ lowest_with rows m i
unfolding lowest_with
lowest-number rows m i = number-found _ (lowest-le (carries_at rows m i) 0 16 refl)

pub highest-number : (rows : List Contents) (m i : ℕ) → number_in (buffer_of (highest_with rows m i)) ≡ highest_with rows m i
unfolding highest_with
highest-number rows m i = number-found _ (highest-le (carries_at rows m i) 16 (omega arith))
