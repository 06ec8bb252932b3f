-- A release by the rules, frame by frame in order of arrival, is that of the code.
use Rattle.std.specs.Prelude.{◌≡◌, ℕ, ◌<◌, true, eqb}
use Rattle.std.proofs.Common.{sym, ap, ◌∙◌}
use Rattle.masks.specs.Pick.{pick}
use Rattle.masks.specs.PickLaws.{pick_true, pick-false, pick-keeps, by-test}
use Rattle.masks.specs.Bits.{bit_of, put_bit}
use Rattle.masks.specs.Laws.{mask-ext, put-bit, put-lt}
use Rattle.rules.specs.declared.Control.{Control}
use Rattle.rules.specs.Waiting.{deliver, deliver_both, delivered}
use Rattle.waiting.specs.Code.{is_awaited, freed_for, deliver_to, delivered_to}

put-twice : (m n : ℕ) → put_bit (put_bit m n true) n true ≡ put_bit m n true
put-twice m n =
    mask-ext _ _ (put-lt (put_bit m n true) n true) (put-lt m n true)
    (λ k h. put-bit (put_bit m n true) n true k h ∙ twice k h ∙ sym (put-bit m n true k h))
  where
    twice : (k : ℕ) → k < 16 → pick (eqb k n) true (bit_of (put_bit m n true) k) ≡ pick (eqb k n) true (bit_of m k)
    twice k h =
        by-test (eqb k n) (λ e. pick_true (eqb k n) true (bit_of (put_bit m n true) k) e ∙ sym (pick_true (eqb k n) true (bit_of m k) e))
        (λ e. ap (pick (eqb k n) true) (put-bit m n true k h ∙ pick-false (eqb k n) true (bit_of m k) e))

module _ (c : Control) (n : ℕ) where
  first-second : deliver_both c 0 1 n ≡ delivered_to c n
  unfolding deliver_both deliver delivered_to deliver_to is_awaited freed_for pick
  first-second =
      by-test (eqb c.places.first n) (λ t. by-test (eqb c.places.second n) (λ u. simp (t, u, put-twice)) (λ u. simp (t, u)))
      (λ t. by-test (eqb c.places.second n) (λ u. simp (t, u)) (λ u. simp (t, u)))

  second-first : deliver_both c 1 0 n ≡ delivered_to c n
  unfolding deliver_both deliver delivered_to deliver_to is_awaited freed_for pick
  second-first =
      by-test (eqb c.places.first n) (λ t. by-test (eqb c.places.second n) (λ u. simp (t, u, put-twice)) (λ u. simp (t, u)))
      (λ t. by-test (eqb c.places.second n) (λ u. simp (t, u)) (λ u. simp (t, u)))

  pub delivered-control : delivered c n ≡ delivered_to c n
  unfolding delivered
  delivered-control = pick-keeps (λ (d : Control). d ≡ delivered_to c n) c.places.swapped (λ t. second-first) (λ t. first-second)
