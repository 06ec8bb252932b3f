use mathlib.Core.Path.{◌∙◌}
use Rattle.masks.specs.Laws.{or-by}
use Rattle.rules.specs.Kinds.{is_locked}
use Rattle.kinds.proofs.KindLaws.{one-while, none-while}
use Rattle.kinds.proofs.locked_mask.Goals as goal
use Rattle.kinds.proofs.locked_mask.Goals.{then-c, else-c}

pub returns : goal.returns
unfolding is_locked
returns c =
    or-by _ _ _ _
    (or-by _ _ _ _ c.locked_mask.ensures c.locked_mask-2.ensures)
    (elim c.if-c.branch [
      | then-c w ↦ one-while _ _ _ w.if-c.true (w.entry-is ∙ w.one-entry.ensures)
      | else-c w ↦ none-while _ _ _ w.if-c.false w.entry-is
    ])
