use Rattle.std.proofs.Common.{◌≡◌, length, rules}
use mathlib.Core.Path.{ap, ◌∙◌}
use native.Mathlib.Omega.{arith}
use Rattle.rules.specs.declared.Ruling.{Ruling}
use Rattle.controller.specs.Carry.{row_at}
use Rattle.controller.specs.Code.{changed, room_sent}
use Rattle.controller.specs.CodeLaws.{row_within}
use Rattle.controller.proofs.EventLaws.{slot-changes, slot-sends}
use Rattle.controller.proofs.Controller.slot.Goals as goal

pub offset_bounds-self-k : goal.offset_bounds-self-k
offset_bounds-self-k c =
    let h = row_within c.slot_ruling-r.result.verdict in
    omega (arith, c.row_of-k.ensures)

pub bounds-self-k : goal.bounds-self-k
bounds-self-k c =
    let h = row_within c.slot_ruling-r.result.verdict in
    omega (arith, c.row_of-k.ensures)

pub returns : goal.returns
returns c =
    let self = c.args.self in
    let room = c.args.room.now in
    let sixteen : length self.rows ≡ 16 = search rules in
    let same = ap (row_at self.rows) c.row_of-k.ensures in
    let r = c.slot_ruling-r.ensures in
    let x = c.slot_change.ensures in
    record {
      value = c.carried.ensures ∙ ap (changed self) x.value ∙ slot-changes self sixteen c.args.i room _ r _ same;
      room_after = x.room_after self same ∙ ap (λ (k : Ruling). room_sent self.rows room k.verdict) r ∙ slot-sends self sixteen c.args.i room;
    }
