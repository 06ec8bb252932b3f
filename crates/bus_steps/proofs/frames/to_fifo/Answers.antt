use mathlib.Core.Path.{◌∙◌}
use borrow.Author.Tests.{le-leb, lt-leb}
use Rattle.masks.specs.PickLaws.{pick_true, pick-false}
use Rattle.rules.specs.Modes.{cancel}
use Rattle.rules.specs.Bus.{to_fifo, raise_last}
use Rattle.bus_steps.specs.CodeMarks.{unmatched-ruled, overrun-ruled, queued-ruled, takes-raised}
use Rattle.bus_steps.proofs.frames.to_fifo.Goals as goal

pub returns-then-not-fifo_takes : goal.returns-then-not-fifo_takes
unfolding to_fifo
returns-then-not-fifo_takes c =
    let a = c.args in
    simp c.raising.ensures
    (unmatched-ruled a.c a.i
    ∙ simp (pick-false, takes-raised a.c a.i, ← c.fifo_takes.ensures, c.if-not-fifo_takes.true))

pub returns-then-c : goal.returns-then-c
unfolding to_fifo raise_last cancel
returns-then-c c =
    let a = c.args in
    simp c.raising-then-c.ensures
    (overrun-ruled a.c a.i
    ∙ simp (pick_true, takes-raised a.c a.i, ← c.fifo_takes.ensures, c.if-not-fifo_takes.false, le-leb _ _ c.if-c.true))

pub returns : goal.returns
unfolding to_fifo raise_last cancel
returns c =
    let a = c.args in
    simp c.raising-2.ensures
    (queued-ruled a.c a.i a.c.fifo.next c.if-c.false
    ∙ simp (pick_true, pick-false, takes-raised a.c a.i, ← c.fifo_takes.ensures, c.if-not-fifo_takes.false, lt-leb _ _ c.if-c.false))
