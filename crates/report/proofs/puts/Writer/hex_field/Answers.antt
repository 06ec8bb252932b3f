use Rattle.std.proofs.Common.{arith}
use Rattle.report.specs.Laws.{length-hex}
use Rattle.report.specs.CodeWriter.{both}
use Rattle.report.proofs.puts.Writer.hex_field.Goals as goal

pub put-requires : goal.put-requires
put-requires c = omega (arith, length-hex c.args.v)

pub returns : goal.returns
returns c = both c.hex.ensures c.put.ensures
