use mathlib.Core.Path.{ap, ◌∙◌}
use Rattle.controller.specs.Code.{changed}
use Rattle.controller.specs.CodeLaws.{timeout-changes}
use Rattle.controller.proofs.Controller.timeout.Goals as goal

pub returns : goal.returns
returns c =
    let self = c.args.self in
    c.carried.ensures ∙ ap (changed self) c.timeout.ensures ∙ timeout-changes self
