use Rattle.std.proofs.Common.{arith}
use Rattle.report.specs.Text.{count_text}
use Rattle.report.specs.NumberLaws.{decimal-one, decimal-two, decimal-three}
use Rattle.report.proofs.puts.Writer.count.Goals as goal

pub returns-then-k-eq0 : goal.returns-then-k-eq0
unfolding count_text
returns-then-k-eq0 c = rw (c.if-k-eq0.true, ← decimal-one 0 (omega arith)) c.put.ensures

pub returns-then-k-lt10 : goal.returns-then-k-lt10
unfolding count_text
returns-then-k-lt10 c = rw (← decimal-one _ c.if-k-lt10.true) c.put-then-k-lt10.ensures

pub returns-then-k-lt100 : goal.returns-then-k-lt100
unfolding count_text
returns-then-k-lt100 c = rw (← decimal-two _ c.if-k-lt10.false c.if-k-lt100.true) c.put-then-k-lt100.ensures

pub returns-else-k-lt100 : goal.returns-else-k-lt100
unfolding count_text
returns-else-k-lt100 c = rw (← decimal-three _ c.if-k-lt100.false (omega arith)) c.put-else-k-lt100.ensures
