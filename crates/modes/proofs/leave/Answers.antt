use native.Mathlib.Omega.{arith}
use Rattle.masks.specs.Bits.{bit_of}
use Rattle.masks.specs.Laws.{own, or-by}
use Rattle.rules.specs.Modes.{leave}
use Rattle.modes.proofs.leave.Goals as goal

pub returns : goal.returns
unfolding leave
returns c =
    let b = c.args.c.buffers in
    simp (← c.left_mode-next.ensures, ← (or-by b.cfg b.iflg (bit_of b.cfg) (bit_of b.iflg) (own b.cfg (omega arith)) (own b.iflg (omega arith))))
