-- The searches over the sixteen buffers: lowest, highest, some and count of a test.
use Rattle.std.specs.Prelude.{ℕ, zero, suc, ◌+◌, ◌-◌, ◌<◌, ◌≤◌, Bool, true, false, not, ◌||◌, ◌≡◌, refl, eqb, ltb, Option, Some, None}
use Rattle.std.proofs.Common.{ap, ap₂, sym, ◌∙◌, arith, le_refl, add-one, eqb-true, lt-ltb, ltb-false}
use Rattle.std.proofs.lemmas.Bool.{eqb-false}
use Rattle.masks.specs.Pick.{pick}
use Rattle.masks.specs.PickLaws.{pick_true, pick-false, pick-keeps, by-test}
use Rattle.masks.specs.Bits.{bit_of, mask_of, lowest, highest, buffer_of, number_in, some_of, count_of}
use Rattle.masks.specs.Laws.{bit-none, bit_mask, mask-ext}

-- true is not false
pub never_both : (t : Bool) → t ≡ true → t ≡ false → ⊥
never_both t p q = let z : ◌≡◌ {A = ℕ} 0 1 = cc in omega arith

-- ---- the lowest

pub lowest-le : (f : ℕ → Bool) (i k : ℕ) → i + k ≡ 16 → lowest f i k ≤ 16
unfolding lowest
lowest-le f i zero e = omega arith
lowest-le f i (suc k) e = pick-keeps (λ (x : ℕ). x ≤ 16) (f i) (λ p. omega arith) (λ p. lowest-le f (suc i) k (omega arith))

pub lowest-ge : (f : ℕ → Bool) (i k : ℕ) → i + k ≡ 16 → i ≤ lowest f i k
unfolding lowest
lowest-ge f i zero e = omega arith
lowest-ge f i (suc k) e =
    pick-keeps (λ (x : ℕ). i ≤ x) (f i) (λ p. le_refl i) (λ p. omega (arith, lowest-ge f (suc i) k (omega arith)))

-- what is found passes the test
pub lowest-holds : (f : ℕ → Bool) (i k : ℕ) → lowest f i k < 16 → f (lowest f i k) ≡ true
unfolding lowest
lowest-holds f i zero h = absurd (omega arith)
lowest-holds f i (suc k) h =
    pick-keeps (λ (x : ℕ). x < 16 → f x ≡ true) (f i) (λ p l. p) (λ p l. lowest-holds f (suc i) k l) h

-- nothing below what is found passes
pub lowest-before : (f : ℕ → Bool) (i k n : ℕ) → i + k ≡ 16 → i ≤ n → n < lowest f i k → f n ≡ false
unfolding lowest
lowest-before f i zero n e h l = absurd (omega arith)
lowest-before f i (suc k) n e h l =
    pick-keeps (λ (x : ℕ). n < x → f n ≡ false) (f i) (λ p q. absurd (omega arith)) (λ p q. by-test (eqb n i)
    (λ t. ap f (eqb-true n i t) ∙ p)
    (λ t. lowest-before f (suc i) k n (omega arith) (let away = eqb-false n i t in omega (arith, away)) q)) l

pub lowest-ext : (f g : ℕ → Bool) (i k : ℕ) → i + k ≡ 16 → ((n : ℕ) → n < 16 → f n ≡ g n) → lowest f i k ≡ lowest g i k
unfolding lowest
lowest-ext f g i zero h e = refl
lowest-ext f g i (suc k) h e = ap₂ (λ (t : Bool) (x : ℕ). pick t i x) (e i (omega arith)) (lowest-ext f g (suc i) k (omega arith) e)

-- the search of a test's mask is the search of the test
pub lowest-mask : (f : ℕ → Bool) → lowest (bit_of (mask_of f)) 0 16 ≡ lowest f 0 16
lowest-mask f = lowest-ext (bit_of (mask_of f)) f 0 16 refl (λ n l. bit_mask f n l)

-- ---- a walk upwards to the lowest, at i of 16

pub lowest_step : (f : ℕ → Bool) (i : ℕ) → i < 16 → lowest f i (16 - i) ≡ pick (f i) i (lowest f (i + 1) (16 - (i + 1)))
unfolding lowest
lowest_step f i h =
    let more : 16 - i ≡ suc (16 - (i + 1)) = omega arith in
    ap (lowest f i) more ∙ ap (λ (j : ℕ). pick (f i) i (lowest f j (16 - (i + 1)))) (sym (add-one i))

pub lowest-hit : (f : ℕ → Bool) (i : ℕ) → i < 16 → f i ≡ true → lowest f i (16 - i) ≡ i
lowest-hit f i h e = lowest_step f i h ∙ pick_true (f i) i (lowest f (i + 1) (16 - (i + 1))) e

pub lowest-miss : (f : ℕ → Bool) (i : ℕ) → i < 16 → f i ≡ false → lowest f i (16 - i) ≡ lowest f (i + 1) (16 - (i + 1))
lowest-miss f i h e = lowest_step f i h ∙ pick-false (f i) i (lowest f (i + 1) (16 - (i + 1))) e

pub lowest-end : (f : ℕ → Bool) (i : ℕ) → 16 ≤ i → lowest f i (16 - i) ≡ 16
unfolding lowest
lowest-end f i h = let none : 16 - i ≡ 0 = omega arith in ap (lowest f i) none

-- ---- the highest

pub highest-le : (f : ℕ → Bool) (k : ℕ) → k ≤ 16 → highest f k ≤ 16
unfolding highest
highest-le f zero h = le_refl 16
highest-le f (suc k) h = pick-keeps (λ (x : ℕ). x ≤ 16) (f k) (λ p. omega arith) (λ p. highest-le f k (omega arith))

-- what is found passes the test
pub highest-holds : (f : ℕ → Bool) (k : ℕ) → highest f k < 16 → f (highest f k) ≡ true
unfolding highest
highest-holds f zero h = absurd (omega arith)
highest-holds f (suc k) h = pick-keeps (λ (x : ℕ). x < 16 → f x ≡ true) (f k) (λ p l. p) (λ p l. highest-holds f k l) h

-- nothing above what is found passes
pub highest-above : (f : ℕ → Bool) (k n : ℕ) → k ≤ 16 → highest f k < n → n < k → f n ≡ false
unfolding highest
highest-above f zero n h l b = absurd (omega arith)
highest-above f (suc k) n h l b =
    pick-keeps (λ (x : ℕ). x < n → f n ≡ false) (f k) (λ p q. absurd (omega arith)) (λ p q. by-test (eqb n k)
    (λ t. ap f (eqb-true n k t) ∙ p)
    (λ t. highest-above f k n (omega arith) q (let away = eqb-false n k t in omega (arith, away)))) l

-- where nothing is found, nothing passes
pub highest-none : (f : ℕ → Bool) (k n : ℕ) → k ≤ 16 → highest f k ≡ 16 → n < k → f n ≡ false
unfolding highest
highest-none f zero n h e b = absurd (omega arith)
highest-none f (suc k) n h e b =
    pick-keeps (λ (x : ℕ). x ≡ 16 → f n ≡ false) (f k) (λ p q. absurd (omega arith)) (λ p q. by-test (eqb n k)
    (λ t. ap f (eqb-true n k t) ∙ p)
    (λ t. highest-none f k n (omega arith) q (let away = eqb-false n k t in omega (arith, away)))) e

pub highest-ext : (f g : ℕ → Bool) (k : ℕ) → k ≤ 16 → ((n : ℕ) → n < 16 → f n ≡ g n) → highest f k ≡ highest g k
unfolding highest
highest-ext f g zero h e = refl
highest-ext f g (suc k) h e = ap₂ (λ (t : Bool) (x : ℕ). pick t k x) (e k (omega arith)) (highest-ext f g k (omega arith) e)

pub highest-mask : (f : ℕ → Bool) → highest (bit_of (mask_of f)) 16 ≡ highest f 16
highest-mask f = highest-ext (bit_of (mask_of f)) f 16 (le_refl 16) (λ n l. bit_mask f n l)

-- ---- a walk downwards to the highest, below k

pub highest-step : (f : ℕ → Bool) (k : ℕ) → 0 < k → highest f k ≡ pick (f (k - 1)) (k - 1) (highest f (k - 1))
unfolding highest
highest-step f k h = let more : k ≡ suc (k - 1) = omega arith in ap (highest f) more

pub highest-hit : (f : ℕ → Bool) (k : ℕ) → 0 < k → f (k - 1) ≡ true → highest f k ≡ k - 1
highest-hit f k h e = highest-step f k h ∙ pick_true (f (k - 1)) (k - 1) (highest f (k - 1)) e

pub highest-miss : (f : ℕ → Bool) (k : ℕ) → 0 < k → f (k - 1) ≡ false → highest f k ≡ highest f (k - 1)
highest-miss f k h e = highest-step f k h ∙ pick-false (f (k - 1)) (k - 1) (highest f (k - 1)) e

pub highest-end : (f : ℕ → Bool) → highest f 0 ≡ 16
unfolding highest
highest-end f = refl

-- ---- what is found, as a buffer or none

pub found : (n : ℕ) → n < 16 → Some n ≡ buffer_of n
unfolding buffer_of
found n h = sym (pick_true (ltb n 16) (Some n) None (lt-ltb n 16 h))

pub none-found : None ≡ buffer_of 16
unfolding buffer_of pick
none-found = refl

pub number-found : (n : ℕ) → n ≤ 16 → number_in (buffer_of n) ≡ n
unfolding buffer_of
number-found n h =
    pick-keeps (λ (b : Option ℕ). number_in b ≡ n) (ltb n 16) (λ t. refl)
    (λ t. let past = ltb-false n 16 t in omega arith)

-- ---- some

or-true : (a b : Bool) → b ≡ true → (a || b) ≡ true
or-true true b e = refl
or-true false b e = e

-- one that passes is enough
pub some-true : (f : ℕ → Bool) (k n : ℕ) → n < k → f n ≡ true → some_of f k ≡ true
unfolding some_of
some-true f zero n h t = absurd (omega arith)
some-true f (suc k) n h t = by-test (eqb n k)
    (λ e. ap (λ (a : Bool). a || some_of f k) (ap f (sym (eqb-true n k e)) ∙ t))
    (λ e. or-true (f k) (some_of f k) (some-true f k n (let away = eqb-false n k e in omega (arith, away)) t))

-- where some is false, each is
pub some-false : (f : ℕ → Bool) (k : ℕ) → some_of f k ≡ false → (n : ℕ) → n < k → f n ≡ false
some-false f k e n h = by-test (f n) (λ t. absurd (never_both (some_of f k) (some-true f k n h t) e)) (λ t. t)

-- where each is false, some is
pub some-none : (f : ℕ → Bool) (k : ℕ) → ((n : ℕ) → n < k → f n ≡ false) → some_of f k ≡ false
unfolding some_of
some-none f zero e = refl
some-none f (suc k) e =
    ap (λ (t : Bool). t || some_of f k) (e k (omega arith)) ∙ some-none f k (λ n l. e n (omega arith))

pub some-ext : (f g : ℕ → Bool) (k : ℕ) → k ≤ 16 → ((n : ℕ) → n < 16 → f n ≡ g n) → some_of f k ≡ some_of g k
unfolding some_of
some-ext f g zero h e = refl
some-ext f g (suc k) h e = ap₂ ◌||◌ (e k (omega arith)) (some-ext f g k (omega arith) e)

pub some-mask : (f : ℕ → Bool) → some_of (bit_of (mask_of f)) 16 ≡ some_of f 16
some-mask f = some-ext (bit_of (mask_of f)) f 16 (le_refl 16) (λ n l. bit_mask f n l)

-- a mask is not 0 exactly where some bit is set
pub some-bit : (m : ℕ) → m < 65536 → not (eqb m 0) ≡ some_of (bit_of m) 16
some-bit m h = by-test (eqb m 0)
    (λ e. ap not e ∙ sym (ap (λ (x : ℕ). some_of (bit_of x) 16) (eqb-true m 0 e) ∙ some-none (bit_of 0) 16 (λ n l. bit-none n)))
    (λ e. by-test (some_of (bit_of m) 16) (λ s. ap not e ∙ sym s) (λ s.
    absurd (eqb-false m 0 e (mask-ext m 0 h (omega arith) (λ n l. some-false (bit_of m) 16 s n l ∙ sym (bit-none n))))))

-- ---- the count

pub count-le : (f : ℕ → Bool) (k : ℕ) → count_of f k ≤ k
unfolding count_of
count-le f zero = le_refl 0
count-le f (suc k) =
    let rest = count-le f k in
    pick-keeps (λ (x : ℕ). count_of f k + x ≤ suc k) (f k) (λ p. omega arith) (λ p. omega arith)

pub count-ext : (f g : ℕ → Bool) (k : ℕ) → k ≤ 16 → ((n : ℕ) → n < 16 → f n ≡ g n) → count_of f k ≡ count_of g k
unfolding count_of
count-ext f g zero h e = refl
count-ext f g (suc k) h e = ap₂ (λ (x : ℕ) (t : Bool). x + pick t 1 0) (count-ext f g k (omega arith) e) (e k (omega arith))

pub count-mask : (f : ℕ → Bool) → count_of (bit_of (mask_of f)) 16 ≡ count_of f 16
count-mask f = count-ext (bit_of (mask_of f)) f 16 (le_refl 16) (λ n l. bit_mask f n l)
