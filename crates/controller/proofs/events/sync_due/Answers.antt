use mathlib.Core.Path.{ap, ◌∙◌}
use Rattle.controller.specs.Code.{said_change}
use Rattle.controller.specs.CodeLaws.{due-ruling}
use Rattle.controller.proofs.events.sync_due.Goals as goal

pub returns : goal.returns
returns c =
    let a = c.args in
    c.said.ensures ∙ ap (said_change a.c.control) (c.on_due.ensures ∙ due-ruling a.c c.named.result c.named.ensures)
