use Rattle.std.proofs.Common.{◌≡◌, ◌≤◌, ◌-◌}
use Rattle.pieces.specs.Feed.{none_held}
use Rattle.pieces.specs.CodeGather.{gather_from}
use Rattle.pieces.proofs.without_lf.Given as goal

abbrev pub invariant-loop-i : goal.invariant-loop-i
invariant-loop-i l = record {
  onward : l.from ≤ l.i;
  within : l.from ≤ l.end → l.i ≤ l.end;
  same : (gather_from none_held l.s l.from (l.end - l.from)).at ≡ (gather_from none_held l.s l.i (l.end - l.i)).at;
}

abbrev pub decreases-loop-i : goal.decreases-loop-i
decreases-loop-i l = l.end - l.i
