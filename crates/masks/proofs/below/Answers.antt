use Rattle.masks.proofs.Shifts.{one-positive, below-inside, below-outside}
use Rattle.masks.proofs.below.Goals as goal

pub overflow_sub-result : goal.overflow_sub-result
overflow_sub-result c = one-positive c.args.n c.if-n-lt16.true

pub returns-then-n-lt16 : goal.returns-then-n-lt16
returns-then-n-lt16 c = below-inside c.args.n c.if-n-lt16.true

pub returns-else-n-lt16 : goal.returns-else-n-lt16
returns-else-n-lt16 c = below-outside c.args.n c.if-n-lt16.false
