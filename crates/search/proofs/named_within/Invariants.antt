use Prim.Native.Nat.{◌+◌, ◌-◌, ◌≤◌}
use mathlib.Core.Path.{◌≡◌}
use Rattle.search.specs.IdentLaws.{named_within}
use Rattle.search.proofs.named_within.Given as goal

-- those from `from` on and below k are taken out; where `to` is not above `from`, k stays at `from`
abbrev pub invariant-loop-k : goal.invariant-loop-k
invariant-loop-k l = (l.k ≤ l.from + (l.to - l.from)) × (l.rest ≡ named_within l.ids l.m l.from l.k)
