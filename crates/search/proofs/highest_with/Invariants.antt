use mathlib.Core.Path.{◌≡◌}
use Rattle.masks.specs.Bits.{highest}
use Rattle.search.specs.IdentLaws.{carries_in}
use Rattle.search.proofs.highest_with.Given as goal

-- the search of all is the search below k
abbrev pub invariant-loop-k : goal.invariant-loop-k
invariant-loop-k l = highest (carries_in l.ids l.m l.i) 16 ≡ highest (carries_in l.ids l.m l.i) l.k
