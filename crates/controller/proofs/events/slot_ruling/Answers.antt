use mathlib.Core.Path.{◌∙◌}
use Rattle.masks.specs.Bits.{number_in}
use Rattle.controller.specs.CodeLaws.{slot-ruling, slot-refused}
use Rattle.controller.proofs.events.slot_ruling.Goals as goal

pub returns-then-size-lt14 : goal.returns-then-size-lt14
returns-then-size-lt14 c = rw c.from.ensures (slot-refused c.args.c c.args.i c.args.size c.if-size-lt14.true)

pub returns : goal.returns
returns c =
    let a = c.args in
    c.on_slot.ensures ∙ slot-ruling a.c a.i (number_in c.offering.result) a.size c.if-size-lt14.false c.offering.ensures
