use Prim.Native.Nat.{◌-◌}
use mathlib.Core.Path.{◌≡◌}
use Rattle.masks.specs.Bits.{lowest}
use Rattle.search.specs.IdentLaws.{carries_in}
use Rattle.search.proofs.lowest_with.Given as goal

-- the search at the start is the search from here on
abbrev pub invariant-loop-k : goal.invariant-loop-k
invariant-loop-k l = lowest (carries_in l.ids l.m l.i) 0 16 ≡ lowest (carries_in l.ids l.m l.i) l.k (16 - l.k)
