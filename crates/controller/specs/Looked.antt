-- W8, from any state and for any step: what is reported as examined "is never above 16, is 0 for frames not looked up", and for every
-- step that is no frame.
use Rattle.std.specs.Prelude.{◌≡◌, ℕ, ◌≤◌, false}
use Rattle.std.proofs.Common.{sym, subst, ◌∙◌}
use Rattle.masks.specs.PickLaws.{pick-false}
use Rattle.rules.specs.Answers.{is_looked_up}
use Rattle.rules.specs.Steps.{Step}
use Rattle.rules.specs.LookedLaws.{looked_by}
use Rattle.controller.specs.declared.Controller.{Controller}
use Rattle.controller.specs.Session.{step_of}
use Rattle.controller.specs.LookedLaws.{by_answer, at_most}

pub looked-most : (c : Controller) (e : Step) → (step_of c e).looked ≤ 16
looked-most c e = subst (λ (x : ℕ). x ≤ 16) (sym (by_answer c e)) (at_most (step_of c e).next.control (step_of c e).answer)

pub looked-only : (c : Controller) (e : Step) → is_looked_up (step_of c e).answer ≡ false → (step_of c e).looked ≡ 0
unfolding looked_by
looked-only c e t = by_answer c e ∙ pick-false _ _ _ t
