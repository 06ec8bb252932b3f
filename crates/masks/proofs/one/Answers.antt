use Rattle.masks.proofs.Shifts.{one_inside, one_outside}
use Rattle.masks.proofs.one.Goals as goal

pub returns-then-n-lt16 : goal.returns-then-n-lt16
returns-then-n-lt16 c = one_inside c.args.n c.if-n-lt16.true

pub returns-else-n-lt16 : goal.returns-else-n-lt16
returns-else-n-lt16 c = one_outside c.args.n c.if-n-lt16.false
