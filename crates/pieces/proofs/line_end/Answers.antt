use Rattle.std.proofs.Common.{◌+◌, ◌-◌, sym, ap, ◌∙◌, arith, get_or}
use Rattle.pieces.specs.declared.Gathered.{Gathered}
use Rattle.pieces.specs.Feed.{none_held, push_of}
use Rattle.pieces.specs.GatherLaws.{gather-is, at-any, stopped-at, from-lf, from_byte}
use Rattle.pieces.proofs.line_end.Goals as goal

pub loop-i-preserved : goal.loop-i-preserved
loop-i-preserved c =
    let piece = c.args.piece.now in
    let i = c.loop-i.i in
    let end = c.min-end.result in
    c.loop-i.invariant ∙ ap (λ (g : Gathered). g.at) (from_byte none_held piece i end c.loop-i-test.true c.if-piece-i-eq10.false)
    ∙ at-any (end - (i + 1)) (push_of none_held (get_or piece i 0)) none_held piece (i + 1)

pub returns-then-piece-i-eq10 : goal.returns-then-piece-i-eq10
returns-then-piece-i-eq10 c =
    sym (ap (λ (g : Gathered). g.at) (gather-is _ _ _ _ _ c.min-end.ensures) ∙ c.without_lf-start.ensures.same_end ∙ c.loop-i.invariant
    ∙ ap (λ (g : Gathered). g.at) (from-lf none_held _ c.loop-i.i _ c.loop-i-test.true c.if-piece-i-eq10.true))

pub returns : goal.returns
returns c =
    stopped-at _ c.loop-i.i _ c.max.result (omega arith) c.loop-i.auto.i-end c.loop-i-test.false c.loop-i.invariant
    ∙ sym (ap (λ (g : Gathered). g.at) (gather-is _ _ _ _ _ c.min-end.ensures) ∙ c.without_lf-start.ensures.same_end)
