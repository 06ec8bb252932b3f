use mathlib.Core.Path.{sym, ap, ◌∙◌}
use Rattle.contents.specs.declared.Contents.{Contents}
use Rattle.sending.specs.CodeRoom.{room_after}
use Rattle.rules.specs.declared.Verdict.{Verdict}
use Rattle.controller.specs.Carry.{row_at}
use Rattle.controller.specs.Code.{row_index, room_sent}
use Rattle.controller.proofs.EventLaws.{row-contents}
use Rattle.controller.proofs.events.fill.Goals as goal

pub returns-in-Send : goal.returns-in-Send
returns-in-Send c =
    let room = c.args.room.now in
    let v = c.in-Send.is in
    λ rows e. c.send.ensures.room_after
    ∙ ap (λ (b : Contents). room_after b room) (c.contents_at.ensures ∙ row-contents rows _ _ (e ∙ ap (λ (u : Verdict). row_at rows (row_index u)) v))
    ∙ ap (room_sent rows room) (sym v)
