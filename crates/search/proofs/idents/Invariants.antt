use Rattle.std.proofs.Common.{ℕ, ◌<◌, ◌≡◌, get_or, length}
use Rattle.search.specs.CodeSearch.{ident_at}
use Rattle.search.proofs.idents.Given as goal

-- those below n are written
abbrev pub invariant-loop-n : goal.invariant-loop-n
invariant-loop-n l = (length l.ids ≡ 16) × ((k : ℕ) → k < l.n → get_or l.ids k 0 ≡ ident_at l.fn.rows k)
