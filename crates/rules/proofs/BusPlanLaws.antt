-- A frame's plan stores it in the buffer that its answer names, lets it wait, or moves no byte.
use Rattle.std.specs.Prelude.{refl, ℕ, Bool, List}
use Rattle.masks.specs.PickLaws.{pick-keeps}
use Rattle.contents.specs.Bytes.{Head}
use Rattle.rules.specs.declared.Control.{Control}
use Rattle.rules.specs.Bus.{found, judged, received}
use Rattle.rules.specs.Steps.{frame}
use Rattle.rules.specs.Rules.{on_bus, act, decide}
use Rattle.rules.specs.BusPlanLaws.{FramePlan, drops, counted-plan, buffer-plan, fifo-plan}

judged-plan : (c : Control) (good : Bool) (i n : ℕ) → FramePlan (judged c good i n)
unfolding judged found
judged-plan c good i n =
    pick-keeps FramePlan _ (λ t. drops _ _ 0 refl refl)
    (λ t. pick-keeps FramePlan _ (λ u. drops _ _ 0 refl refl)
    (λ u. counted-plan _ (pick-keeps FramePlan _ (λ x. buffer-plan _ n) (λ x. fifo-plan _ i))))

pub frame-plan : (c : Control) (hs : List Head) (good : Bool) (f : List ℕ) → FramePlan (decide c hs (frame good f))
unfolding decide act on_bus received
frame-plan c hs good f =
    pick-keeps FramePlan _
    (λ t. pick-keeps FramePlan _ (λ u. drops _ _ 0 refl refl) (λ u. pick-keeps FramePlan _ (λ x. drops _ _ 0 refl refl) (λ x. judged-plan c good _ _)))
    (λ t. drops _ _ 0 refl refl)
