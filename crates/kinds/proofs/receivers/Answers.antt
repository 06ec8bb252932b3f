use native.Mathlib.Omega.{arith}
use Rattle.masks.specs.Laws.{own, and-by, not-by-mask}
use Rattle.kinds.proofs.KindLaws.{from_on}
use Rattle.kinds.proofs.receivers.Goals as goal

pub returns : goal.returns
returns c = and-by _ _ _ _ (not-by-mask _ _ (own _ (omega arith))) (from_on _ _ c.below.ensures)
