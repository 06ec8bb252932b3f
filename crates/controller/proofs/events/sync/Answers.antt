use mathlib.Core.Path.{ap, ◌∙◌}
use Rattle.controller.specs.Code.{said_change}
use Rattle.controller.specs.CodeLaws.{sync-ruling}
use Rattle.controller.proofs.events.sync.Goals as goal

pub returns : goal.returns
returns c =
    let a = c.args in
    c.said.ensures ∙ ap (said_change a.c.control) (c.on_sync.ensures ∙ sync-ruling a.c a.k c.named.result c.named.ensures)
