use Rattle.std.proofs.Common.{◌+◌, ◌-◌, ◌≡◌, refl, arith}
use Rattle.lines.proofs.DecodeLaws.{no-room, one-left, none-left, two-left}
use Rattle.lines.proofs.frame_bytes.Goals as goal

pub loop-size-init : goal.loop-size-init
loop-size-init c = record { bytes = refl; count = omega arith }

pub returns-in_default : goal.returns-in_default
returns-in_default c = one-left c.loop-size.invariant c.in_default.len_below

pub returns-in_default-byte : goal.returns-in_default-byte
returns-in_default-byte c = none-left c.loop-size.invariant c.byte.ensures c.in_default-byte.is

pub loop-size-preserved : goal.loop-size-preserved
loop-size-preserved c =
    let i = c.loop-size.size in
    let z : 30 - i - 1 ≡ 30 - (i + 1) = omega arith in
    rw z at (two-left c.loop-size.invariant (omega arith) c.in-len2-up.len_at_least c.byte.ensures c.in-Some.is)

pub returns : goal.returns
returns c = no-room c.loop-size.invariant (omega arith) (omega arith)
