use Prim.Native.Nat.{ℕ}
use mathlib.Core.Path.{ap, ◌∙◌}
use Rattle.masks.specs.Bits.{number_in}
use Rattle.search.specs.CodeSearch.{highest_with}
use Rattle.search.specs.IdentLaws.{highest-number}
use Rattle.controller.specs.RowLaws.{offers-rows}
use Rattle.controller.proofs.events.offering.Goals as goal

pub returns : goal.returns
returns c =
    let a = c.args in
    ap number_in c.highest_with.ensures ∙ highest-number a.c.rows _ a.i
    ∙ ap (λ (m : ℕ). highest_with a.c.rows m a.i) c.armed.ensures
    ∙ offers-rows a.c.control a.c.rows a.i
