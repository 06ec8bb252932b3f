use Rattle.std.proofs.Common.{take, le_of_lt, arith, length-take-le}
use Rattle.report.specs.Text.{hexes_of}
use Rattle.report.specs.Laws.{hexes-more, length-hexes}
use Rattle.report.specs.CodeWriter.{nothing, both}
use Rattle.report.proofs.puts.Writer.hexes.Goals as goal

pub loop-v-init : goal.loop-v-init
unfolding hexes_of
loop-v-init c = nothing _

pub hex-requires : goal.hex-requires
hex-requires c =
    let l = c.loop-v in
    let s = c.args.s.now in
    omega (arith, length-hexes (take l.v-index s), length-take-le l.v-index s (le_of_lt c.loop-v-test.true))

pub loop-v-preserved : goal.loop-v-preserved
loop-v-preserved c = rw (← hexes-more _ _ c.loop-v-test.true) (both c.loop-v.invariant c.hex.ensures)
