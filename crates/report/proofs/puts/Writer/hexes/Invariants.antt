use Rattle.std.proofs.Common.{take}
use Rattle.report.specs.Text.{hexes_of}
use Rattle.report.specs.CodeWriter.{Appends}
use Rattle.report.proofs.puts.Writer.hexes.Given as goal

abbrev pub invariant-loop-v : goal.invariant-loop-v
invariant-loop-v l = Appends l.initial.self (hexes_of (take l.v-index l.s)) l.self
