use Rattle.std.proofs.Common.{◌≡◌, ◌-◌}
use Rattle.pieces.specs.CodeGather.{gather_from}
use Rattle.pieces.proofs.gather.Given as goal

-- gathering at the start is gathering from here on
abbrev pub invariant-loop-i : goal.invariant-loop-i
invariant-loop-i l =
    gather_from (record { bytes = l.initial.bytes; len = l.initial.len }) l.piece l.from (l.end - l.from) ≡ gather_from (record { bytes = l.bytes; len = l.len }) l.piece l.i (l.end - l.i)
