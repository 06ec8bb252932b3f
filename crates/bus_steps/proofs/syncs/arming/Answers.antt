use native.Mathlib.Omega.{arith}
use Rattle.masks.specs.Laws.{own, and-by, not-by-mask}
use Rattle.bus_steps.specs.Code.{arms_of}
use Rattle.bus_steps.proofs.syncs.arming.Goals as goal

pub returns : goal.returns
unfolding arms_of
returns c = let b =
    c.args.c.buffers in
    and-by _ _ _ _ (and-by _ _ _ _ (and-by _ _ _ _ (own b.cfg (omega arith)) (not-by-mask _ _ (own b.iflg (omega arith)))) (not-by-mask _ _ c.locked_mask.ensures)) (own c.args.m (omega arith))
