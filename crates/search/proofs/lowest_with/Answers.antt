use borrow.Author.Tests.{eq-eqb, ne_eqb}
use mathlib.Core.Bool.{false}
use Rattle.std.proofs.Common.{◌≡◌, ap, sym, ◌∙◌, arith}
use Rattle.masks.specs.Bits.{buffer_of}
use Rattle.masks.specs.SearchLaws.{lowest-hit, lowest-miss, lowest-end, found, none-found}
use Rattle.search.specs.IdentLaws.{carries_in, in-mask, not-in-mask, lowest-idents}
use Rattle.search.proofs.lowest_with.Goals as goal
use Rattle.search.proofs.lowest_with.Goals.{else-test-via-then-test+else-ids-k, else-test-via-else-test}

pub returns : goal.returns
returns c =
    let a = c.args in
    let ids = c.idents-ids.result in
    none-found
    ∙ ap buffer_of (sym (lowest-end (carries_in ids a.m a.i) c.loop-k.k (omega arith)) ∙ sym c.loop-k.invariant ∙ lowest-idents a.rows ids c.idents-ids.ensures a.m a.i)

pub loop-k-preserved : goal.loop-k-preserved
loop-k-preserved c =
    let a = c.args in
    let ids = c.idents-ids.result in
    let tested = sym c.test.ensures in
    let missed : carries_in ids a.m a.i c.loop-k.k ≡ false =
    elim c.else-test.branch [
      | else-test-via-then-test+else-ids-k w ↦ in-mask ids a.m a.i _ (tested ∙ w.if-test.true) (ne_eqb _ _ w.if-ids-k.false)
      | else-test-via-else-test w ↦ not-in-mask ids a.m a.i _ (tested ∙ w.if-test.false)
    ] in
    c.loop-k.invariant ∙ lowest-miss (carries_in ids a.m a.i) c.loop-k.k (omega arith) missed

pub returns-then-ids-k : goal.returns-then-ids-k
returns-then-ids-k c =
    let a = c.args in
    let ids = c.idents-ids.result in
    let carried = in-mask ids a.m a.i c.loop-k.k (sym c.test.ensures ∙ c.if-test.true) (eq-eqb _ _ c.if-ids-k.true) in
    found c.loop-k.k (omega arith)
    ∙ ap buffer_of (sym (lowest-hit (carries_in ids a.m a.i) c.loop-k.k (omega arith) carried) ∙ sym c.loop-k.invariant ∙ lowest-idents a.rows ids c.idents-ids.ensures a.m a.i)
