use Rattle.std.proofs.Common.{◌-◌}
use Rattle.lines.proofs.DecodeLaws.{Left}
use Rattle.lines.proofs.frame_bytes.Given as goal

abbrev pub invariant-loop-size : goal.invariant-loop-size
invariant-loop-size l = Left l.digits l.bytes l.size (30 - l.size) l.rest
