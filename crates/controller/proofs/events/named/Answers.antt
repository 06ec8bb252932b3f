use mathlib.Core.Path.{◌∙◌}
use Rattle.controller.specs.RowLaws.{ready-rows}
use Rattle.controller.proofs.events.named.Goals as goal

pub returns : goal.returns
returns c =
    let a = c.args in
    c.named.ensures ∙ ready-rows a.c.control a.c.rows _ c.full.ensures
