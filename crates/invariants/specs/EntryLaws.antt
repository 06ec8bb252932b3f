-- The places of the FIFO's entries: none where it is empty, fewer once the oldest is released, one more once a frame is
-- queued.
use Rattle.std.specs.Prelude.{◌≡◌, ℕ, ◌+◌, ◌-◌, ◌<◌, ◌≤◌, Bool, ◌&&◌, ◌||◌, ltb, leb}
use Rattle.std.proofs.Common.{sym, ◌∙◌, arith}
use Rattle.std.proofs.Math.Path.{ap, ap₂}
use Rattle.std.proofs.Math.Bool.{true}
use Rattle.std.proofs.lemmas.Bool.{and_from, and_parts, or_left, or_right}
use borrow.Author.Tests.{ltb-true, ltb-false, leb-true, lt-ltb, le-leb}
use Rattle.masks.specs.PickLaws.{pick-keeps, by-test}
use Rattle.rules.specs.declared.Fifo.{Fifo}
use Rattle.rules.specs.declared.Control.{Control}
use Rattle.rules.specs.Record.{with_fifo}
use Rattle.rules.specs.Registers.{empty_fifo}
use Rattle.rules.specs.Kinds.{is_receive, place_after}
use Rattle.rules.specs.Writes.{without_oldest}
use Rattle.rules.specs.Bus.{with_entry}
use Rattle.invariants.specs.Sound.{is_entry, RingSound}
use Rattle.invariants.specs.ViewLaws.{receive-high}
use Rattle.invariants.specs.TestLaws.{or_cases}

-- one of k places from o on among the first f, 0 following f − 1
abbrev within : ℕ → ℕ → ℕ → ℕ → Bool
within f o k n = ltb n f && ((leb o n && ltb n (o + k)) || ltb (n + f) (o + k))

module _ (f o k n : ℕ) where
  within_low : n < f → o ≤ n → n < o + k → within f o k n ≡ true
  within_low b l h =
      and_from (ltb n f) _ (lt-ltb n f b)
      (or_left (leb o n && ltb n (o + k)) _ (and_from (leb o n) _ (le-leb o n l) (lt-ltb n (o + k) h)))

  within-high : n < f → n + f < o + k → within f o k n ≡ true
  within-high b h = and_from (ltb n f) _ (lt-ltb n f b) (or_right (leb o n && ltb n (o + k)) _ (lt-ltb (n + f) (o + k) h))

  -- before the wrap, or after it
  within-cases : {G : Type 0} → within f o k n ≡ true → (n < f → o ≤ n → n < o + k → G) → (n < f → n + f < o + k → G) → G
  within-cases e low high =
      let a = leb o n && ltb n (o + k) in
      let z = ltb (n + f) (o + k) in
      let within = and_parts (ltb n f) (a || z) e in
      let b = ltb-true n f within.0 in
      or_cases a z within.1
      (λ t. let both = and_parts (leb o n) (ltb n (o + k)) t in low b (leb-true o n both.0) (ltb-true n (o + k) both.1))
      (λ t. high b (ltb-true (n + f) (o + k) t))

module _ (f o k n : ℕ) where
  -- without the first place
  within-less : (0 < f → o < f) → k ≤ f → within f (place_after f o) (k - 1) n ≡ true → within f o k n ≡ true
  unfolding place_after
  within-less first fits =
      pick-keeps (λ (p : ℕ). within f p (k - 1) n ≡ true → within f o k n ≡ true) (ltb o (f - 1))
      (λ t e. let more = ltb-true o (f - 1) t in
      within-cases f (o + 1) (k - 1) n e
      (λ b l h. within_low f o k n b (omega arith) (omega arith))
      (λ b h. within-high f o k n b (omega arith)))
      (λ t e. let last = ltb-false o (f - 1) t in
      within-cases f 0 (k - 1) n e
      (λ b l h. let start = first (omega arith) in within-high f o k n b (omega arith))
      (λ b h. absurd (omega arith)))

  -- with one place more, next
  within_more : (next : ℕ) → (o + k < f → next ≡ o + k) → (f ≤ o + k → next + f ≡ o + k) → (n ≡ next → ⊥) →
      within f o (k + 1) n ≡ true → within f o k n ≡ true
  within_more next low high ne e =
      within-cases f o (k + 1) n e
      (λ b l h. by-test (ltb n (o + k))
      (λ t. within_low f o k n b l (ltb-true n (o + k) t))
      (λ t. let top = ltb-false n (o + k) t in absurd (ne (let is = low (omega arith) in omega arith))))
      (λ b h. by-test (ltb (n + f) (o + k))
      (λ t. within-high f o k n b (ltb-true (n + f) (o + k) t))
      (λ t. let top = ltb-false (n + f) (o + k) t in absurd (ne (let is = high (omega arith) in omega arith))))

-- ---- entries

module _ (c : Control) (m : ℕ) where
  -- by FSIZ, the oldest entry's place and the number of entries alone
  pub entry-same : (d : Control) → d.config.fsiz ≡ c.config.fsiz → d.fifo.oldest ≡ c.fifo.oldest → d.fifo.count ≡ c.fifo.count → is_entry d m ≡ is_entry c m
  unfolding is_entry
  entry-same d e p q =
      ap (λ (f : ℕ). within f d.fifo.oldest d.fifo.count m) e ∙ ap₂ (λ (o k : ℕ). within c.config.fsiz o k m) p q

  pub entry-none : c.fifo ≡ empty_fifo → is_entry c m ≡ true → ⊥
  unfolding is_entry
  entry-none q e =
      within-cases c.config.fsiz 0 0 m (ap (λ (x : Fifo). within c.config.fsiz x.oldest x.count m) (sym q) ∙ e)
      (λ b l h. omega arith) (λ b h. omega arith)

  pub entry-low : is_entry c m ≡ true → m < c.config.fsiz
  unfolding is_entry
  entry-low e = within-cases c.config.fsiz c.fifo.oldest c.fifo.count m e (λ b l h. b) (λ b h. b)

  -- the FIFO without its oldest entry
  pub entry-released : (0 < c.config.fsiz → c.fifo.oldest < c.config.fsiz) → c.fifo.count ≤ c.config.fsiz →
      is_entry (with_fifo c (without_oldest c)) m ≡ true → is_entry c m ≡ true
  unfolding is_entry
  entry-released first fits = within-less c.config.fsiz c.fifo.oldest c.fifo.count m first fits

  -- and with one more
  pub entry-queued : RingSound c.config.fsiz c.fifo → (m ≡ c.fifo.next → ⊥) →
      is_entry (with_fifo c (with_entry c)) m ≡ true → is_entry c m ≡ true
  unfolding is_entry
  entry-queued s = within_more c.config.fsiz c.fifo.oldest c.fifo.count m c.fifo.next s.next_low s.next-high

  -- a receive buffer is no entry
  pub entry-kind : (n : ℕ) → is_entry c m ≡ true → is_receive c n ≡ true → m ≡ n → ⊥
  entry-kind n e r q =
      let low = entry-low e in
      let high = receive-high c n r in
      omega arith
