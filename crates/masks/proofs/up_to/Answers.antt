use native.Mathlib.Omega.{arith}
use Rattle.masks.proofs.Shifts.{shift-positive, up-to-inside, up-to-outside}
use Rattle.masks.proofs.up_to.Goals as goal

pub overflow_sub-result : goal.overflow_sub-result
overflow_sub-result c = shift-positive _ c.args.n (omega arith) (omega arith) c.if-n-lt15.true

pub returns-then-n-lt15 : goal.returns-then-n-lt15
returns-then-n-lt15 c = up-to-inside c.args.n c.if-n-lt15.true

pub returns-else-n-lt15 : goal.returns-else-n-lt15
returns-else-n-lt15 c = up-to-outside c.args.n c.if-n-lt15.false
