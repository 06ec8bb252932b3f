use Prim.Native.Nat.{ℕ, ◌+◌, ◌<◌, ◌≤◌}
use mathlib.Core.Path.{◌≡◌, ap, sym}
use native.Mathlib.Omega.{arith}
use borrow.Author.Tests.{eqb-true, eqb-false}
use lib.Dec.{eqb}
use Rattle.masks.specs.Pick.{pick}
use Rattle.masks.specs.PickLaws.{by-test}
use Rattle.rules.specs.declared.Register.TheVariants.{Reserved}
use Rattle.rules.specs.Registers.{register_at, low_map}
use Rattle.rules.proofs.RegisterFromU8.from.Goals as goal

-- a number from k on is k, or is from k + 1 on
from : {G : Type 0} (a k : ℕ) → k ≤ a → (a ≡ k → G) → (k + 1 ≤ a → G) → G
from a k h f g = by-test (eqb a k) (λ p. f (eqb-true a k p)) (λ p. g (let away = eqb-false a k p in omega (arith, away)))

-- none of the addresses below $20 that have a register
abbrev Unnamed : ℕ → Type 0
Unnamed a =
    (((((((((((((((((Unit {0} × (a ≡ 0 → ⊥)) × (a ≡ 1 → ⊥)) × (a ≡ 2 → ⊥)) × (a ≡ 3 → ⊥)) × (a ≡ 4 → ⊥)) × (a ≡ 6 → ⊥)) × (a ≡ 7 → ⊥)) × (a ≡ 8 → ⊥)) × (a ≡ 9 → ⊥)) × (a ≡ 10 → ⊥)) × (a ≡ 11 → ⊥)) × (a ≡ 12 → ⊥)) × (a ≡ 13 → ⊥)) × (a ≡ 14 → ⊥)) × (a ≡ 16 → ⊥)) × (a ≡ 18 → ⊥)) × (a ≡ 20 → ⊥)) × (a ≡ 21 → ⊥)

low-reserved : (a : ℕ) → a < 0x20 → Unnamed a → register_at a ≡ Reserved
unfolding register_at low_map pick
low-reserved a h r =
    from a 0 (omega arith) (λ e. absurd (r.0.0.0.0.0.0.0.0.0.0.0.0.0.0.0.0.0.1 e)) (λ l0.
    from a 1 l0 (λ e. absurd (r.0.0.0.0.0.0.0.0.0.0.0.0.0.0.0.0.1 e)) (λ l1.
    from a 2 l1 (λ e. absurd (r.0.0.0.0.0.0.0.0.0.0.0.0.0.0.0.1 e)) (λ l2.
    from a 3 l2 (λ e. absurd (r.0.0.0.0.0.0.0.0.0.0.0.0.0.0.1 e)) (λ l3.
    from a 4 l3 (λ e. absurd (r.0.0.0.0.0.0.0.0.0.0.0.0.0.1 e)) (λ l4.
    from a 5 l4 (λ e. ap register_at e) (λ l5.
    from a 6 l5 (λ e. absurd (r.0.0.0.0.0.0.0.0.0.0.0.0.1 e)) (λ l6.
    from a 7 l6 (λ e. absurd (r.0.0.0.0.0.0.0.0.0.0.0.1 e)) (λ l7.
    from a 8 l7 (λ e. absurd (r.0.0.0.0.0.0.0.0.0.0.1 e)) (λ l8.
    from a 9 l8 (λ e. absurd (r.0.0.0.0.0.0.0.0.0.1 e)) (λ l9.
    from a 10 l9 (λ e. absurd (r.0.0.0.0.0.0.0.0.1 e)) (λ l10.
    from a 11 l10 (λ e. absurd (r.0.0.0.0.0.0.0.1 e)) (λ l11.
    from a 12 l11 (λ e. absurd (r.0.0.0.0.0.0.1 e)) (λ l12.
    from a 13 l12 (λ e. absurd (r.0.0.0.0.0.1 e)) (λ l13.
    from a 14 l13 (λ e. absurd (r.0.0.0.0.1 e)) (λ l14.
    from a 15 l14 (λ e. ap register_at e) (λ l15.
    from a 16 l15 (λ e. absurd (r.0.0.0.1 e)) (λ l16.
    from a 17 l16 (λ e. ap register_at e) (λ l17.
    from a 18 l17 (λ e. absurd (r.0.0.1 e)) (λ l18.
    from a 19 l18 (λ e. ap register_at e) (λ l19.
    from a 20 l19 (λ e. absurd (r.0.1 e)) (λ l20.
    from a 21 l20 (λ e. absurd (r.1 e)) (λ l21.
    from a 22 l21 (λ e. ap register_at e) (λ l22.
    from a 23 l22 (λ e. ap register_at e) (λ l23.
    from a 24 l23 (λ e. ap register_at e) (λ l24.
    from a 25 l24 (λ e. ap register_at e) (λ l25.
    from a 26 l25 (λ e. ap register_at e) (λ l26.
    from a 27 l26 (λ e. ap register_at e) (λ l27.
    from a 28 l27 (λ e. ap register_at e) (λ l28.
    from a 29 l28 (λ e. ap register_at e) (λ l29.
    from a 30 l29 (λ e. ap register_at e) (λ l30.
    from a 31 l30 (λ e. ap register_at e) (λ l31. absurd (omega arith)))))))))))))))))))))))))))))))))

pub returns-in_default : goal.returns-in_default
returns-in_default c = sym (low-reserved c.args.a (omega arith) ((((((((((((((((((tt, λ e. omega arith), λ e. omega arith), λ e. omega arith), λ e. omega arith), λ e. omega arith), λ e. omega arith), λ e. omega arith), λ e. omega arith), λ e. omega arith), λ e. omega arith), λ e. omega arith), λ e. omega arith), λ e. omega arith), λ e. omega arith), λ e. omega arith), λ e. omega arith), λ e. omega arith), λ e. omega arith))
