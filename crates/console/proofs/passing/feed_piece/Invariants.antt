use Rattle.std.proofs.Common.{◌≤◌, length}
use Rattle.console.specs.CodePassing.{Passes}
use Rattle.console.proofs.passing.feed_piece.Given as goal

abbrev pub invariant-loop-rest : goal.invariant-loop-rest
invariant-loop-rest g l = (128 ≤ length l.out) × Passes g.S.Feeding.whole g.S.Feeding.after l.fn.s l.fn.piece (g.W.Write.contents l.initial.to) l.session l.rest (g.W.Write.contents l.to)

abbrev pub decreases-loop-rest : goal.decreases-loop-rest
decreases-loop-rest g l = length l.rest
