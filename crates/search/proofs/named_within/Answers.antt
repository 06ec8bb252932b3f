use mathlib.Core.Path.{◌∙◌}
use native.Mathlib.Omega.{arith}
use Rattle.search.specs.IdentLaws.{within-guard, within-start, within-hit, within-miss, within_end}
use Rattle.search.proofs.named_within.Goals as goal
use Rattle.search.proofs.named_within.Goals.{then-ids-k-eq0, else-ids-k-eq0}

pub returns-then-m-below-eq0 : goal.returns-then-m-below-eq0
returns-then-m-below-eq0 c =
    let a = c.args in
    within-guard a.ids a.m a.from a.to _ _ (omega arith) c.below.ensures c.below-2.ensures c.if-m-below-eq0.true

pub loop-k-init : goal.loop-k-init
loop-k-init c = (omega arith, within-start _ _ _ (omega arith))

pub returns : goal.returns
returns c =
    let a = c.args in
    c.loop-k.invariant.1 ∙ within_end a.ids a.m a.from a.to c.loop-k.k (omega arith) (omega arith) (omega (arith, c.min-k-end.ensures))

pub loop-k-preserved : goal.loop-k-preserved
loop-k-preserved c =
    let a = c.args in
    let k = c.loop-k.k in (
      omega (arith, c.min-k-end.ensures),
      elim c.if-ids-k-eq0.branch [
        | then-ids-k-eq0 w ↦ w.rest-is ∙ w.without-rest.ensures ∙ within-hit a.ids a.m a.from k c.loop-k.rest (omega arith) c.loop-k.invariant.1 w.if-ids-k-eq0.true
        | else-ids-k-eq0 w ↦ w.rest-is ∙ c.loop-k.invariant.1 ∙ within-miss a.ids a.m a.from k w.if-ids-k-eq0.false
      ],
    )
