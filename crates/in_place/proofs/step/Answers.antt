use Rattle.std.proofs.Common.{◌≡◌, length, refl, sym, ap, ◌∙◌, arith, rules}
use Rattle.rules.specs.declared.Ruling.{Ruling}
use Rattle.rules.specs.Steps.{reset, read, sync, sync_due, slot, fault, timeout}
use Rattle.controller.specs.Carry.{row_at}
use Rattle.controller.specs.Code.{changed, staying, room_sent}
use Rattle.controller.specs.CodeLaws.{row_within, sync-changes, sync-due-changes, fault-changes, timeout-changes, reset-step}
use Rattle.controller.proofs.EventLaws.{slot-changes, slot-sends}
use Rattle.controller.proofs.AccessLaws.{read-answers}
use Rattle.in_place.proofs.Ends.{ends, carried}
use Rattle.in_place.proofs.step.Goals as goal

pub returns-in-Reset : goal.returns-in-Reset
returns-in-Reset c =
    let self = c.args.c.now in
    let end = ends self reset _ (sym (reset-step self)) in
    rw c.in-Reset.is (c.after_reset.ensures ∙ end.0, c.accepted.ensures ∙ end.1, refl)

pub returns-in-Read : goal.returns-in-Read
returns-in-Read c =
    let self = c.args.c.now in
    let sixteen : length self.rows ≡ 16 = search rules in
    let end = ends self (read c.in-Read.a) _ (ap (staying self) c.shown.ensures ∙ read-answers self sixteen c.in-Read.a _ (ap (row_at self.rows) c.window_row-i.ensures)) in
    rw c.in-Read.is (end.0, end.1, refl)

pub returns-in-Write : goal.returns-in-Write
returns-in-Write c = rw c.in-Write.is (c.write.ensures.0, c.write.ensures.1, refl)

pub returns-in-Sync : goal.returns-in-Sync
returns-in-Sync c =
    let self = c.args.c.now in
    let end = carried self (sync c.in-Sync.k) _ _ _ c.carry.ensures.next c.carry.ensures.answered (ap (changed self) c.sync-x.ensures ∙ sync-changes self c.in-Sync.k) in
    rw c.in-Sync.is (end.0, end.1, refl)

pub returns-in-SyncDue : goal.returns-in-SyncDue
returns-in-SyncDue c =
    let self = c.args.c.now in
    let end = carried self sync_due _ _ _ c.carry-in-SyncDue.ensures.next c.carry-in-SyncDue.ensures.answered (ap (changed self) c.sync_due-x.ensures ∙ sync-due-changes self) in
    rw c.in-SyncDue.is (end.0, end.1, refl)

pub offset_bounds-c-k : goal.offset_bounds-c-k
offset_bounds-c-k c =
    let h = row_within c.slot_ruling-r.result.verdict in
    omega (arith, c.row_of-k.ensures)

pub bounds-c-k : goal.bounds-c-k
bounds-c-k c =
    let h = row_within c.slot_ruling-r.result.verdict in
    omega (arith, c.row_of-k.ensures)

pub returns-in-Slot : goal.returns-in-Slot
returns-in-Slot c =
    let self = c.args.c.now in
    let room = c.args.room.now in
    let i = c.in-Slot.i in
    let sixteen : length self.rows ≡ 16 = search rules in
    let same = ap (row_at self.rows) c.row_of-k.ensures in
    let r = c.slot_ruling-r.ensures in
    let x = c.slot_change-x.ensures in
    let end = carried self (slot i room) _ _ _ c.carry-in-Slot.ensures.next c.carry-in-Slot.ensures.answered (ap (changed self) x.value ∙ slot-changes self sixteen i room _ r _ same) in
    rw c.in-Slot.is (end.0, end.1, x.room_after self same ∙ ap (λ (k : Ruling). room_sent self.rows room k.verdict) r ∙ slot-sends self sixteen i room)

pub returns-in-Frame : goal.returns-in-Frame
returns-in-Frame c = rw c.in-Frame.is (c.frame.ensures.0, c.frame.ensures.1, refl)

pub returns-in-Fault : goal.returns-in-Fault
returns-in-Fault c =
    let self = c.args.c.now in
    let end = carried self (fault c.in-Fault.k) _ _ _ c.carry-in-Fault.ensures.next c.carry-in-Fault.ensures.answered (ap (changed self) c.fault-x.ensures ∙ fault-changes self c.in-Fault.k) in
    rw c.in-Fault.is (end.0, end.1, refl)

pub returns-in-Timeout : goal.returns-in-Timeout
returns-in-Timeout c =
    let self = c.args.c.now in
    let end = carried self timeout _ _ _ c.carry-in-Timeout.ensures.next c.carry-in-Timeout.ensures.answered (ap (changed self) c.timeout-x.ensures ∙ timeout-changes self) in
    rw c.in-Timeout.is (end.0, end.1, refl)
