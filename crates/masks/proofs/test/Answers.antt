use mathlib.Core.Path.{sym, ◌∙◌}
use borrow.Author.Tests.{le-ltb}
use Rattle.masks.specs.Laws.{bit_high}
use Rattle.masks.proofs.Shifts.{shift-test}
use Rattle.masks.proofs.test.Goals as goal

pub returns-then-n-lt16 : goal.returns-then-n-lt16
returns-then-n-lt16 c = shift-test c.args.m c.args.n

pub returns-else-n-lt16 : goal.returns-else-n-lt16
returns-else-n-lt16 c =
    let n = c.args.n in
    le-ltb n 16 c.if-n-lt16.false ∙ sym (bit_high 16 c.args.m n c.ranges.m.fits c.if-n-lt16.false)
