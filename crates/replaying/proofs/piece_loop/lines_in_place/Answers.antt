use Rattle.std.proofs.Common.{refl, sym, ◌∙◌, arith}
use Rattle.replaying.specs.LoopLaws.{goes-within, played-none, played-more, played-all, played-last}
use Rattle.replaying.proofs.piece_loop.lines_in_place.Goals as goal

pub loop-c-init : goal.loop-c-init
loop-c-init c = played-none _ _ _ _ _

pub loop-c-smaller : goal.loop-c-smaller
loop-c-smaller c = omega (arith, goes-within _ _ _ (sym c.goes_on.ensures ∙ c.loop-c-test.true), c.in-Some.ensures.ahead c.in-Some.next refl)

pub loop-c-preserved : goal.loop-c-preserved
loop-c-preserved c = played-more c.loop-c.invariant (sym c.goes_on.ensures ∙ c.loop-c-test.true) c.in-Some.ensures

pub returns-in_default : goal.returns-in_default
returns-in_default c = played-last c.loop-c.invariant c.in_default.ensures

pub returns : goal.returns
returns c = played-all c.loop-c.invariant (sym c.goes_on.ensures ∙ c.loop-c-test.false)
