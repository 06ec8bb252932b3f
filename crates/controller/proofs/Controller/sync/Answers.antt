use mathlib.Core.Path.{ap, ◌∙◌}
use Rattle.controller.specs.Code.{changed}
use Rattle.controller.specs.CodeLaws.{sync-changes}
use Rattle.controller.proofs.Controller.sync.Goals as goal

pub returns : goal.returns
returns c =
    let self = c.args.self in
    c.carried.ensures ∙ ap (changed self) c.sync.ensures ∙ sync-changes self c.args.k
