use Rattle.std.proofs.Common.{◌*◌, ◌≤◌, sym, ◌∙◌, arith, length, ltb-false}
use Rattle.lines.proofs.DecodeLaws.{within, framed-lf, framed-none}
use Rattle.lines.proofs.in_text.framed.Goals as goal

pub returns-in_err-get : goal.returns-in_err-get
returns-in_err-get c =
    let past : length c.args.digits.now ≤ 2 * c.frame_bytes-frame.result.size = ltb-false _ _ (sym c.in_err-get.ensures.lookup.0) in
    c.from_residual.ensures ∙ framed-none _ _ _ _ c.frame_bytes-frame.ensures (λ e. omega (arith, within c.args.digits.now (2 * c.frame_bytes-frame.result.size) e))

pub returns-then-branch-ne10 : goal.returns-then-branch-ne10
returns-then-branch-ne10 c =
    framed-none _ _ _ _ c.frame_bytes-frame.ensures (λ e. c.if-branch-ne10.true (c.in_ok-get.ensures.lookup.3.1 0 ∙ e))

pub returns : goal.returns
returns c = framed-lf _ _ _ _ c.frame_bytes-frame.ensures (sym (c.in_ok-get.ensures.lookup.3.1 0) ∙ c.if-branch-ne10.false)
