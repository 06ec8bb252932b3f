use native.Mathlib.Omega.{arith}
use Rattle.masks.specs.Laws.{own, and-by, not-by-mask}
use Rattle.kinds.proofs.full.Goals as goal

pub returns : goal.returns
returns c = let b =
    c.args.c.buffers in
    and-by _ _ _ _ (own b.cfg (omega arith)) (not-by-mask _ _ (own b.iflg (omega arith)))
