use Rattle.std.proofs.Common.{◌∙◌}
use borrow.Author.Tests.{eq-eqb, ne_eqb, lt-ltb, le-ltb}
use Rattle.masks.specs.PickLaws.{pick_true, pick-false}
use Rattle.rules.specs.Bus.{found, judged}
use Rattle.bus_steps.specs.CodeMarks.{ignored-ruled, bad-ruled}
use Rattle.bus_steps.proofs.frames.judged.Goals as goal
use Rattle.bus_steps.proofs.frames.judged.Goals.{then-not-good-via-then-not-good, then-not-good-via-else-not-good+then-i-eq0, in_default-via-in-Some+else-n-lt-NONE, in_default-via-in_default}

pub returns-then-not-c : goal.returns-then-not-c
unfolding judged
returns-then-not-c c =
    let a = c.args in
    simp c.unmarked.ensures
    (ignored-ruled a.c a.i
    ∙ simp (pick_true, c.if-not-c.true))

pub returns-then-not-good : goal.returns-then-not-good
unfolding judged
returns-then-not-good c =
    let a = c.args in
    simp c.unmarked-then-not-good.ensures
    (bad-ruled a.c a.i
    ∙ elim c.then-not-good.branch [
      | then-not-good-via-then-not-good w ↦ simp (pick_true, pick-false, w.if-not-good.true, c.if-not-c.false)
      | then-not-good-via-else-not-good+then-i-eq0 w ↦ simp (pick_true, pick-false, w.if-not-good.false, eq-eqb a.i 0 w.if-i-eq0.true, c.if-not-c.false)
    ])

pub returns-in-Some : goal.returns-in-Some
unfolding judged found
returns-in-Some c =
    let a = c.args in
    c.to_buffer.ensures a.i
    ∙ simp (c.in-Some.is, pick_true, pick-false, lt-ltb _ _ c.if-n-lt-NONE.true, ne_eqb a.i 0 c.if-i-eq0.false, c.if-not-good.false, c.if-not-c.false)

pub returns-in_default : goal.returns-in_default
unfolding judged found
returns-in_default c =
    let a = c.args in
    c.to_fifo.ensures
    ∙ elim c.in_default.branch [
      | in_default-via-in-Some+else-n-lt-NONE w ↦
          simp (w.in-Some.is, pick-false, le-ltb _ _ w.if-n-lt-NONE.false, ne_eqb a.i 0 c.if-i-eq0.false, c.if-not-good.false, c.if-not-c.false)
      | in_default-via-in_default w ↦
          simp (w.in_default.is, pick-false, ne_eqb a.i 0 c.if-i-eq0.false, c.if-not-good.false, c.if-not-c.false)
    ]
