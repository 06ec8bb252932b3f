use mathlib.Core.Path.{ap, ◌∙◌}
use Rattle.masks.specs.Bits.{number_in}
use Rattle.search.specs.IdentLaws.{lowest-number}
use Rattle.controller.specs.RowLaws.{lookup-rows}
use Rattle.controller.proofs.events.lookup.Goals as goal

pub returns : goal.returns
returns c =
    let a = c.args in
    ap number_in c.lowest_with.ensures ∙ lowest-number a.c.rows _ a.i ∙ lookup-rows a.c.control a.c.rows _ a.i c.receivers.ensures
