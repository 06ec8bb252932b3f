-- What a caller gives and gets: a call as a value is a step of document 01, and what is returned and shown of the step.
use Rattle.std.specs.Prelude.{ℕ, List, take}
use Rattle.rules.specs.declared.Answer.{Answer}
use Rattle.rules.specs.declared.Answer.TheVariants.{Ok}
use Rattle.controller.specs.declared.Controller.{Controller}
use Rattle.controller.specs.declared.Answered.{Answered}
use Rattle.controller.specs.declared.Done.{Done}
use Rattle.rules.specs.Steps.{Step, reset, read, write, sync, sync_due, slot, frame, fault, timeout}
use Rattle.controller.specs.declared.Call.{Call}
use Rattle.controller.specs.declared.Call.TheVariants.{Reset, Read, Write, Sync, SyncDue, Slot, Frame, Fault, Timeout}
use Rattle.controller.specs.Carry.{Outcome}
use Rattle.controller.specs.Session.{step_of, Report}
use Rattle.rules.specs.Answers.{word_of, given_of, number_in, Detail, detail_of}

-- what is answered: what the step on a lent record returns
abbrev pub answered_of : Outcome → Answered
answered_of o = record { answer = o.answer; looked = o.looked }

-- what a method returns
abbrev pub done_of : Outcome → Done
done_of o = record { next = o.next; answered = answered_of o }

-- "ok"
abbrev pub accepted : Answered
accepted = record { answer = Ok; looked = 0 }

-- ---- a call as a value, with the frame's bytes and the room beside it

abbrev pub step_for : Call → List ℕ → List ℕ → Step
step_for Reset f room = reset
step_for (Read a) f room = read a
step_for (Write a v) f room = write a v
step_for (Sync k) f room = sync k
step_for SyncDue f room = sync_due
step_for (Slot i) f room = slot i room
step_for (Frame good) f room = frame good f
step_for (Fault k) f room = fault k
step_for Timeout f room = timeout

-- the room after the call: only a slot touches it
abbrev pub room_for : Controller → Call → List ℕ → List ℕ
room_for c Reset room = room
room_for c (Read a) room = room
room_for c (Write a v) room = room
room_for c (Sync k) room = room
room_for c SyncDue room = room
room_for c (Slot i) room = (step_of c (slot i room)).room
room_for c (Frame good) room = room
room_for c (Fault k) room = room
room_for c Timeout room = room

-- ---- what a caller is shown

-- what is read of an answer and its room: of a sent frame, the answer's count and so many bytes of the room
abbrev pub shown_detail : Answer → List ℕ → Detail
shown_detail a room = detail_of a (take (number_in (given_of a)) room)

abbrev pub shown : Answer → List ℕ → ℕ → ℕ → Report
shown a room lines looked = record { word = word_of a; detail = shown_detail a room; room = room; lines = lines; looked = looked }
