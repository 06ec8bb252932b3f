use mathlib.Core.Path.{◌∙◌}
use native.Mathlib.Omega.{arith}
use Rattle.refusals.proofs.RefusalLaws.{moved-some}
use Rattle.refusals.proofs.moved_by_fsiz.Goals as goal

pub returns : goal.returns
returns c =
    c.any.ensures
    ∙ moved-some _ _ _ _ _ (omega arith)
    c.locked_mask.ensures
    c.below-now.ensures
    c.below-then.ensures
