use mathlib.Core.Path.{◌∙◌}
use Rattle.std.proofs.Common.{rules, ◌<◌}
use Rattle.masks.specs.PickLaws.{pick_true, pick-false}
use Rattle.rules.specs.Modes.{cancel}
use Rattle.rules.specs.Bus.{to_buffer, raise_last}
use Rattle.bus_steps.specs.CodeMarks.{stored-ruled, locked-raised}
use Rattle.bus_steps.proofs.frames.to_buffer.Goals as goal

pub returns-then-is_locked : goal.returns-then-is_locked
unfolding to_buffer
returns-then-is_locked c =
    λ i. let a = c.args in
    c.to_place.ensures i
    ∙ simp (pick_true, locked-raised a.c i a.n, ← c.is_locked.ensures, c.if-is_locked.true)

pub returns : goal.returns
unfolding to_buffer raise_last cancel
returns c =
    λ i. let a = c.args in
    let fits : a.c.buffers.iflg < 65536 = search rules in
    simp (c.raising.ensures, c.one.ensures)
    (stored-ruled a.c i a.n fits
    ∙ simp (pick-false, locked-raised a.c i a.n, ← c.is_locked.ensures, c.if-is_locked.false))
