use Rattle.std.proofs.Common.{arith}
use Rattle.report.specs.Text.{end_text}
use Rattle.report.specs.Laws.{length-hex}
use Rattle.report.specs.CodeWriter.{both}
use Rattle.report.proofs.puts.Writer.end.Goals as goal

pub count-requires : goal.count-requires
count-requires c = omega (arith, length-hex c.args.irq)

pub returns : goal.returns
unfolding end_text
returns c = both c.hex.ensures c.count.ensures
