use Rattle.console.proofs.PassingLaws.{Through}
use Rattle.console.proofs.passing.feed_all.Given as goal

abbrev pub invariant-loop : goal.invariant-loop
invariant-loop g l =
    Through g.S.Feeding.whole g.S.Feeding.after l.fn.s (g.R.Read.remaining l.initial.from) (g.R.Read.remaining l.from) (g.W.Write.contents l.initial.to) l.session (g.W.Write.contents l.to)
