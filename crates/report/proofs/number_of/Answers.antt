use Rattle.std.proofs.Common.{◌≡◌, ◌-◌, ap, ◌∙◌, arith}
use Rattle.report.specs.Text.{width_of, digits_of, decimal_of}
use Rattle.report.specs.CodeNumbers.{pack_on, grown}
use Rattle.report.specs.NumberLaws.{part-bound, place-bound, digits-turn, place-turn, number-made}
use Rattle.report.proofs.number_of.Goals as goal

pub loop-init : goal.loop-init
unfolding decimal_of
loop-init c =
    let e : c.width-len.result - 0 ≡ width_of c.args.n = omega (arith, c.width-len.ensures) in
    (ap (λ k. pack_on (digits_of k c.args.n) 9) e, ap (λ k. grown k 1) e, omega arith, omega arith)

pub loop-preserved : goal.loop-preserved
loop-preserved c =
    let digits = digits-turn _ _ _ _ c.loop-test.true ∙ c.loop.invariant.0 in
    let place = place-turn _ _ _ c.loop-test.true ∙ c.loop.invariant.1 in
    (digits, place, part-bound _ _ _ _ digits, place-bound _ _ _ place)

pub returns : goal.returns
returns c = number-made _ _ _ _ _ _ c.width-len.ensures c.loop-test.false c.loop.invariant.0 c.loop.invariant.1
