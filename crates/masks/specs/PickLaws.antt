-- What holds of a choice.
use Rattle.std.specs.Prelude.{Bool, true, false, ◌≡◌, refl}
use Rattle.std.proofs.Common.{ap}
use Rattle.masks.specs.Pick.{pick}

pub pick_true : {A : Type 0} (t : Bool) (a b : A) → t ≡ true → pick t a b ≡ a
unfolding pick
pick_true t a b e = ap (λ (u : Bool). pick u a b) e

pub pick-false : {A : Type 0} (t : Bool) (a b : A) → t ≡ false → pick t a b ≡ b
unfolding pick
pick-false t a b e = ap (λ (u : Bool). pick u a b) e

-- what holds of both choices, each under its test, holds of the choice
pub pick-keeps : {A : Type 0} (P : A → Type 0) (t : Bool) {a b : A} → (t ≡ true → P a) → (t ≡ false → P b) → P (pick t a b)
unfolding pick
pick-keeps P true f g = f refl
pick-keeps P false f g = g refl

-- the two cases of a test
pub by-test : {G : Type 0} (t : Bool) → (t ≡ true → G) → (t ≡ false → G) → G
by-test true f g = f refl
by-test false f g = g refl
