use native.Mathlib.Omega.{arith}
use Rattle.masks.specs.Laws.{own, and-by}
use Rattle.rules.specs.Flags.{transmit_pending}
use Rattle.reads.proofs.flags.transmit_pending.Goals as goal

pub returns : goal.returns
unfolding transmit_pending
returns c = let b =
    c.args.c.buffers in
    and-by _ _ _ _ (and-by _ _ _ _ (own b.cfg (omega arith)) (own b.iflg (omega arith))) (own b.iena (omega arith))
