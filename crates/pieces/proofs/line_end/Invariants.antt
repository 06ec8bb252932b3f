use Rattle.std.proofs.Common.{◌≡◌, ◌-◌}
use Rattle.pieces.specs.Feed.{none_held}
use Rattle.pieces.specs.CodeGather.{gather_from}
use Rattle.pieces.proofs.line_end.Given as goal

-- gathering from the start stops where gathering from here does
abbrev pub invariant-loop-i : goal.invariant-loop-i
invariant-loop-i l = (gather_from none_held l.piece l.start (l.end - l.start)).at ≡ (gather_from none_held l.piece l.i (l.end - l.i)).at
