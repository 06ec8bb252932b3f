-- A frame in the terms of the code: that its change does what the rules say.
use Rattle.std.specs.Prelude.{◌≡◌, ℕ, Bool, List, length}
use Rattle.std.proofs.Math.Path.{refl, sym, ap}
use Rattle.std.proofs.Common.{◌∙◌}
use Rattle.rules.specs.declared.Ruling.{Ruling}
use Rattle.rules.specs.Steps.{frame}
use Rattle.rules.proofs.BusPlanLaws.{frame-plan}
use Rattle.controller.specs.declared.Controller.{Controller}
use Rattle.controller.specs.Carry.{heads}
use Rattle.controller.specs.Session.{step_of}
use Rattle.controller.specs.Calls.{done_of}
use Rattle.controller.specs.Code.{changed, ruling_for, frame_change}
use Rattle.controller.specs.CodeLaws.{by-plan, frame-stores}

module _ (c : Controller) where
  -- r being the frame's ruling
  pub frame-changes : length c.rows ≡ 16 → (good : Bool) (f : List ℕ) (r : Ruling) → r ≡ ruling_for c (frame good f) →
      changed c (frame_change r f) ≡ done_of (step_of c (frame good f))
  unfolding ruling_for
  frame-changes sixteen good f r e =
      ap (λ (x : Ruling). changed c (frame_change x f)) e
      ∙ frame-stores c sixteen good f _ (frame-plan c.control (heads c.rows) good f) ∙ sym (by-plan c (frame good f) _ refl)
