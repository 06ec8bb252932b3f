use Rattle.std.proofs.Common.{sym, ◌∙◌, arith}
use Rattle.lines.proofs.DecodeLaws.{decoded, stopped}
use Rattle.lines.proofs.decode.Goals as goal

pub returns-then-digits-frame : goal.returns-then-digits-frame
returns-then-digits-frame c = c.unread.ensures ∙ sym (stopped _ _ _ c.frame_bytes-frame.ensures c.requires (λ e. c.if-digits-frame.true (omega arith)))

pub returns : goal.returns
returns c = sym (decoded _ _ _ c.frame_bytes-frame.ensures (omega arith))
