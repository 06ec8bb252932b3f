use Rattle.std.proofs.Common.{sym, ◌∙◌}
use Rattle.std.proofs.Math.Path.{ap}
use Rattle.masks.specs.PickLaws.{pick_true, pick-false}
use Rattle.rules.specs.Rules.{on_bus}
use Rattle.bus_steps.specs.Code.{ruling_of}
use Rattle.bus_steps.specs.CodeLaws.{bus-awake}
use Rattle.bus_steps.proofs.on_frame.Goals as goal

pub returns-then-c : goal.returns-then-c
unfolding on_bus
returns-then-c c = simp (pick_true, ← c.ruling.ensures, c.if-c.true)

pub returns-then-asleep : goal.returns-then-asleep
unfolding on_bus
returns-then-asleep c = simp (pick_true, pick-false, ← c.ruling-then-asleep.ensures, ← c.woken.ensures, c.if-asleep.true, ← c.asleep.ensures, c.if-c.false)

pub returns : goal.returns
returns c =
    let a = c.args in
    simp c.marked.ensures c.judged-o.ensures
    ∙ ap ruling_of (sym (bus-awake a.c _ _ c.if-c.false (sym c.asleep.ensures ∙ c.if-asleep.false)))
