use borrow.Author.Tests.{eq-eqb, ne_eqb}
use mathlib.Core.Bool.{false}
use Rattle.std.proofs.Common.{◌≡◌, ◌-◌, ap, sym, ◌∙◌, arith}
use Rattle.masks.specs.Bits.{highest, buffer_of}
use Rattle.masks.specs.SearchLaws.{highest-hit, highest-miss, highest-end, found, none-found}
use Rattle.search.specs.IdentLaws.{carries_in, in-mask, not-in-mask, highest-idents}
use Rattle.search.proofs.highest_with.Goals as goal
use Rattle.search.proofs.highest_with.Goals.{else-test-via-then-test+else-ids-k, else-test-via-else-test}

pub returns : goal.returns
returns c =
    let a = c.args in
    let ids = c.idents-ids.result in
    let none : c.loop-k.k ≡ 0 = omega arith in
    none-found
    ∙ ap buffer_of (sym (c.loop-k.invariant ∙ ap (highest (carries_in ids a.m a.i)) none ∙ highest-end (carries_in ids a.m a.i)) ∙ highest-idents a.rows ids c.idents-ids.ensures a.m a.i)

pub loop-k-preserved : goal.loop-k-preserved
loop-k-preserved c =
    let a = c.args in
    let ids = c.idents-ids.result in
    let tested = sym c.test.ensures in
    let missed : carries_in ids a.m a.i (c.loop-k.k - 1) ≡ false =
    elim c.else-test.branch [
      | else-test-via-then-test+else-ids-k w ↦ in-mask ids a.m a.i _ (tested ∙ w.if-test.true) (ne_eqb _ _ w.if-ids-k.false)
      | else-test-via-else-test w ↦ not-in-mask ids a.m a.i _ (tested ∙ w.if-test.false)
    ] in
    c.loop-k.invariant ∙ highest-miss (carries_in ids a.m a.i) c.loop-k.k (omega arith) missed

pub returns-then-ids-k : goal.returns-then-ids-k
returns-then-ids-k c =
    let a = c.args in
    let ids = c.idents-ids.result in
    let carried = in-mask ids a.m a.i _ (sym c.test.ensures ∙ c.if-test.true) (eq-eqb _ _ c.if-ids-k.true) in
    found _ (omega arith)
    ∙ ap buffer_of (sym (highest-hit (carries_in ids a.m a.i) c.loop-k.k (omega arith) carried) ∙ sym c.loop-k.invariant ∙ highest-idents a.rows ids c.idents-ids.ensures a.m a.i)
