-- What a change that is a step leaves and answers.
use Rattle.std.proofs.Common.{◌≡◌, ap, ◌∙◌}
use Rattle.rules.specs.Steps.{Step}
use Rattle.controller.specs.declared.Controller.{Controller}
use Rattle.controller.specs.declared.Answered.{Answered}
use Rattle.controller.specs.declared.Change.{Change}
use Rattle.controller.specs.declared.Done.{Done}
use Rattle.controller.specs.Session.{step_of}
use Rattle.controller.specs.Calls.{done_of, answered_of}
use Rattle.controller.specs.Code.{changed}

-- the record and the answer of a step
abbrev pub Ends : Controller → Step → Controller → Answered → Type 0
Ends c s next a = (next ≡ (step_of c s).next) × (a ≡ answered_of (step_of c s))

pub ends : (c : Controller) (s : Step) (d : Done) → d ≡ done_of (step_of c s) → Ends c s d.next d.answered
ends c s d e = (ap (λ (u : Done). u.next) e, ap (λ (u : Done). u.answered) e)

-- `carry` leaves and answers what the change says
pub carried : (c : Controller) (s : Step) (x : Change) (next : Controller) (a : Answered) → next ≡ (changed c x).next → a ≡ x.answered → changed c x ≡ done_of (step_of c s) → Ends c s next a
carried c s x next a left said e = let end = ends c s (changed c x) e in (left ∙ end.0, said ∙ end.1)
