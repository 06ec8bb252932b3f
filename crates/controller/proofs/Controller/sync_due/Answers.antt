use mathlib.Core.Path.{ap, ◌∙◌}
use Rattle.controller.specs.Code.{changed}
use Rattle.controller.specs.CodeLaws.{sync-due-changes}
use Rattle.controller.proofs.Controller.sync_due.Goals as goal

pub returns : goal.returns
returns c =
    let self = c.args.self in
    c.carried.ensures ∙ ap (changed self) c.sync_due.ensures ∙ sync-due-changes self
