use mathlib.Core.Path.{ap, ◌∙◌}
use Rattle.controller.specs.Code.{changed}
use Rattle.controller.specs.CodeLaws.{fault-changes}
use Rattle.controller.proofs.Controller.fault.Goals as goal

pub returns : goal.returns
returns c =
    let self = c.args.self in
    c.carried.ensures ∙ ap (changed self) c.fault.ensures ∙ fault-changes self c.args.k
