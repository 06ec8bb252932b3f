use Rattle.std.proofs.Common.{sym, ◌∙◌, arith}
use Rattle.replaying.specs.LoopLaws.{sought-within, turns-step, turns-unread}
use Rattle.replaying.proofs.piece_loop.line_in_place.Goals as goal

pub answered-requires : goal.answered-requires
answered-requires c = omega (arith, sought-within _ _ _ (sym c.seek.ensures ∙ c.in-Some.is))

pub returns : goal.returns
returns c = turns-step (sym c.seek.ensures ∙ c.in-Some.is) c.step-a.ensures c.lines_after-irq.ensures c.answered.ensures

pub returns-in_default : goal.returns-in_default
returns-in_default c = turns-unread (sym c.seek.ensures ∙ c.in_default.is) c.unread_line.ensures
