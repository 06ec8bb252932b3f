use Rattle.std.proofs.Common.{arith}
use Rattle.std.proofs.lemmas.List.FromFn.{fill_by_all}
use Rattle.search.specs.CodeSearch.{ident_at}
use Rattle.search.proofs.idents.Goals as goal

pub returns : goal.returns
returns c = fill_by_all (ident_at c.args.rows) c.loop-n.ids 16 0 c.loop-n.invariant.0 (λ n l. c.loop-n.invariant.1 n (omega arith))
