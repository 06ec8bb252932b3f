use native.Mathlib.Omega.{arith}
use Rattle.masks.specs.Laws.{own, and-by}
use Rattle.rules.specs.Flags.{receive_pending}
use Rattle.reads.proofs.flags.receive_pending.Goals as goal

pub returns : goal.returns
unfolding receive_pending
returns c =
    let b = c.args.c.buffers in
    and-by _ _ _ _
    (and-by _ _ _ _ c.receivers.ensures (own b.iflg (omega arith)))
    (own b.iena (omega arith))
