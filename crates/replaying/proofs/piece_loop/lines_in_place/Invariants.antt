use Rattle.std.proofs.Common.{◌-◌, length}
use Rattle.replaying.specs.CodeLoop.{Played}
use Rattle.replaying.proofs.piece_loop.lines_in_place.Given as goal

abbrev pub invariant-loop-c : goal.invariant-loop-c
invariant-loop-c l = Played l.fn.c l.fn.room l.piece l.fn.out l.fn.start l.t l.c l.room l.out

abbrev pub decreases-loop-c : goal.decreases-loop-c
decreases-loop-c l = length l.piece - l.t.from
