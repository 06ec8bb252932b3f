use Rattle.std.proofs.Common.{ℕ, ◌+◌, ◌-◌, ◌≤◌, ◌≡◌, ap, ◌∙◌, arith}
use Rattle.pieces.specs.Feed.{none_held}
use Rattle.pieces.specs.CodeGather.{gather_from}
use Rattle.pieces.specs.GatherLaws.{from-clear, ends-at}
use Rattle.pieces.proofs.without_lf.Goals as goal
use Rattle.pieces.proofs.without_lf.Goals.{else-loop-i-test, then-loop-i-test+else-end-i-lt16+else-lf_in_sixteen+else-end-i-gt16}

pub loop-i-preserved : goal.loop-i-preserved
loop-i-preserved c =
    let room : c.loop-i.i + 16 ≤ c.args.end = omega arith in
    record {
      onward = omega arith;
      within = λ h. room;
      same = c.loop-i.invariant.same ∙ from-clear 16 none_held c.args.s.now c.loop-i.i c.args.end room (c.lf_in_sixteen.ensures c.if-lf_in_sixteen.false);
    }

pub returns-clause-same_end : goal.returns-clause-same_end
returns-clause-same_end c =
    let s = c.args.s.now in
    let i = c.loop-i.i in
    let end = c.args.end in
    let stop : ℕ → ℕ = λ n. (gather_from none_held s n (end - n)).at in
    elim c.loop-i-test.branch [
      | else-loop-i-test w ↦ c.loop-i.invariant.same ∙ ap stop (ends-at none_held none_held s i end c.max.result (omega arith) c.loop-i.invariant.within w.loop-i-test.false c.loop-i.invariant.same)
      | then-loop-i-test+else-end-i-lt16+else-lf_in_sixteen+else-end-i-gt16 w ↦
          let room : i + 16 ≤ end = omega arith in
          let last : i + 16 ≡ c.max.result = omega arith in
          c.loop-i.invariant.same ∙ from-clear 16 none_held s i end room (w.lf_in_sixteen.ensures w.if-lf_in_sixteen.false) ∙ ap stop last
    ]
