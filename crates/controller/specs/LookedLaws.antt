-- The count that a step reports, by the record after it and its answer.
use Rattle.std.specs.Prelude.{◌≡◌, ℕ, ◌≤◌}
use Rattle.std.proofs.Common.{ap, arith}
use Rattle.masks.specs.PickLaws.{pick-keeps}
use Rattle.rules.specs.declared.Answer.{Answer}
use Rattle.rules.specs.declared.Control.{Control}
use Rattle.rules.specs.Answers.{is_looked_up}
use Rattle.rules.specs.Steps.{Step}
use Rattle.rules.specs.LookedLaws.{looked_by, examined-le}
use Rattle.controller.specs.declared.Controller.{Controller}
use Rattle.controller.specs.declared.Done.{Done}
use Rattle.controller.specs.Session.{step_of}
use Rattle.controller.specs.CodeLaws.{step-told}

pub by_answer : (c : Controller) (e : Step) → (step_of c e).looked ≡ looked_by (step_of c e).next.control (step_of c e).answer
by_answer c e = ap (λ (d : Done). d.answered.looked) (step-told c e)

pub at_most : (c : Control) (a : Answer) → looked_by c a ≤ 16
unfolding looked_by
at_most c a = pick-keeps (λ (x : ℕ). x ≤ 16) (is_looked_up a) (λ t. examined-le c _) (λ t. omega arith)
