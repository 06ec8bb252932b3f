use Rattle.std.proofs.Common.{arith}
use Rattle.report.specs.Laws.{length-hexes}
use Rattle.report.specs.CodeWriter.{both}
use Rattle.report.proofs.puts.Writer.frame_field.Goals as goal

pub put-requires : goal.put-requires
put-requires c = omega (arith, length-hexes c.args.s.now)

pub returns : goal.returns
returns c = both c.hexes.ensures c.put.ensures
