-- What the controller's functions return, in the terms of the code: rulings, changes and answers, and what they do to the record.
use Rattle.std.specs.Prelude.{Option, Some, None, ℕ, ◌+◌, ◌-◌, ◌%◌, List, get_or, set, length, replicate, eqb, ltb}
use Rattle.masks.specs.Pick.{pick}
use Rattle.contents.specs.declared.Contents.{Contents}
use Rattle.contents.specs.Bytes.{blank, with_ident, with_length, with_data, image_of, frame_of, fill_room}
use Rattle.sending.specs.CodeRoom.{room_after}
use Rattle.rules.specs.declared.Answer.{Answer}
use Rattle.rules.specs.declared.Answer.TheVariants.{Ok, Value, Sent, Refused}
use Rattle.rules.specs.declared.Register.{Register}
use Rattle.rules.specs.declared.Register.TheVariants.{Bufctl}
use Rattle.rules.specs.Registers.{Region, send_place, receive_place, fifo_place, control_of, elsewhere, region_of, register_at}
use Rattle.rules.specs.declared.Target.{Target}
use Rattle.rules.specs.declared.Target.TheVariants.{Buffer, Place}
use Rattle.rules.specs.declared.Verdict.{Verdict}
use Rattle.rules.specs.declared.Verdict.TheVariants.{Say, Store, Send}
use Rattle.rules.specs.declared.Ruling.{Ruling}
use Rattle.rules.specs.declared.Control.{Control}
use Rattle.rules.specs.Kinds.{fifo_holder}
use Rattle.rules.specs.Reads.{value_of}
use Rattle.rules.specs.Writes.{written}
use Rattle.rules.specs.Refusals.{read_refusal, write_refusal}
use Rattle.rules.specs.Steps.{Step, slot}
use Rattle.rules.specs.Rules.{decide}
use Rattle.waiting.specs.Code.{newest_of}
use Rattle.writes.specs.CodeDelivery.{releases}
use Rattle.bus_steps.specs.Code.{ruling_of}
use Rattle.controller.specs.declared.Controller.{Controller}
use Rattle.rules.specs.LookedLaws.{looked_by}
use Rattle.controller.specs.declared.Answered.{Answered}
use Rattle.controller.specs.declared.Done.{Done}
use Rattle.controller.specs.declared.Stored.{Stored}
use Rattle.controller.specs.declared.Change.{Change}
use Rattle.controller.specs.Carry.{heads, row_at, Outcome}

-- an answer with its count, from the control state after it
abbrev pub counted_by : Control → Answer → Answered
counted_by d a = record { answer = a; looked = looked_by d a }

-- an answer of no lookup
abbrev pub unlooked : Answer → Answered
unlooked a = record { answer = a; looked = 0 }

-- the record c, with an answer
abbrev pub staying : Controller → Answered → Done
staying c x = record { next = c; answered = x }

-- the record c after a step, with an answer, which tells the count
abbrev pub answered : Controller → Answer → Done
answered c a = staying c (counted_by c.control a)

-- an outcome by its record and its answer
abbrev pub told_of : Outcome → Done
told_of o = answered o.next o.answer

-- ---- a change

-- the control state d alone, with the answer x
abbrev pub saying : Control → Answered → Change
saying d x = record { control = d; stored = None; answered = x }

-- the control state d, and b in a buffer or a waiting place, with the answer x
abbrev pub storing : Control → Target → Contents → Answered → Change
storing d t b x = record { control = d; stored = Some (record { to = t; contents = b }); answered = x }

-- in buffer n
abbrev pub placing : Control → ℕ → Contents → Answered → Change
placing d n b x = storing d (Buffer n) b x

-- the same for any n: from 16 on there is no buffer
abbrev pub putting : Control → ℕ → Contents → Answered → Change
putting d n b x = pick (ltb n 16) (placing d n b x) (saying d x)

-- the buffers' bytes with b stored
abbrev pub row_with : List Contents → Target → Contents → List Contents
row_with rows (Buffer n) b = set rows n b
row_with rows (Place k) b = rows

-- the places' bytes with b stored
abbrev pub held_with : List Contents → Target → Contents → List Contents
held_with held (Buffer n) b = held
held_with held (Place k) b = set held k b

-- the buffers' bytes after a change, and the places': past the last of them there is none, and nothing is stored
abbrev pub placed : List Contents → Option Stored → List Contents
placed rows None = rows
placed rows (Some s) = row_with rows s.to s.contents

abbrev pub held_by : List Contents → Option Stored → List Contents
held_by held None = held
held_by held (Some s) = held_with held s.to s.contents

abbrev pub changed : Controller → Change → Done
changed c x =
    record {
      next = record { control = x.control; rows = placed c.rows x.stored; held = held_by c.held x.stored };
      answered = x.answered;
    }

-- ---- rulings of the bus, and the changes of the events that only answer

-- what the rules decide of a step of the bus, as a ruling
unfoldable pub ruling_for : Controller → Step → Ruling
ruling_for c e = ruling_of (decide c.control (heads c.rows) e)

-- the ruling on slot i for a room of a size: the rules look at no byte of it
abbrev pub slot_ruling : Controller → ℕ → ℕ → Ruling
slot_ruling c i size = ruling_for c (slot i (replicate size 0))

-- the control state d with the configuration, the locks and the waiting places of c: after an event of the bus that is no frame, from c,
-- that is d itself
unfoldable pub kept_from : Control → Control → Control
kept_from c d = record { mode = d.mode; config = c.config; events = d.events; fifo = d.fifo; receive = c.receive; transmit = c.transmit; places = c.places; buffers = d.buffers }

-- the answer of a verdict that only answers
abbrev pub said_by : Verdict → Answer
said_by (Say a) = a
said_by (Store t a) = a
said_by (Send n) = Ok

-- a ruling that only answers, from the control state c
abbrev pub said_change : Control → Ruling → Change
said_change c r = saying (kept_from c r.next) (unlooked (said_by r.verdict))

-- an event that only answers: a sync, a sync due, a fault, a timeout
abbrev pub event_change : Controller → Step → Change
event_change c e = said_change c.control (ruling_for c e)

-- ---- a frame's ruling as a change, the frame being f: it asks for no buffer's row, and it never sends

abbrev pub stored_by : List ℕ → Verdict → Option Stored
stored_by f (Say a) = None
stored_by f (Store t a) = Some (record { to = t; contents = image_of f })
stored_by f (Send n) = None

unfoldable pub frame_change : Ruling → List ℕ → Change
frame_change r f =
    record { control = r.next; stored = stored_by f r.verdict; answered = counted_by r.next (said_by r.verdict) }

-- ---- a slot's ruling as a change, from the row of its buffer: no frame is stored or waits

-- index of the row of the buffer that is sent; any row where none is
abbrev pub row_index : Verdict → ℕ
row_index (Say a) = 0
row_index (Store t a) = 0
row_index (Send n) = n % 16

-- the contents of buffer n, whose row is given; zeros past the last
unfoldable pub contents_at : ℕ → Contents → Contents
contents_at n row = pick (ltb n 16) row blank

abbrev pub contents_in : List Contents → ℕ → Contents
contents_in rows n = contents_at n (row_at rows n)

abbrev pub slot_answer : Contents → Verdict → Answer
slot_answer row (Say a) = a
slot_answer row (Store t a) = a
slot_answer row (Send n) = Sent (length (frame_of (contents_at n row)))

unfoldable pub slot_change : Ruling → Contents → Change
slot_change r row = saying r.next (unlooked (slot_answer row r.verdict))

-- the room afterwards
abbrev pub room_by : List Contents → List ℕ → Verdict → List ℕ
room_by rows room (Say a) = room
room_by rows room (Store t a) = room
room_by rows room (Send n) = fill_room (frame_of (row_at rows n)) room

-- the same for a room of any size: one of less than 14 bytes stays as it is
abbrev pub room_sent : List Contents → List ℕ → Verdict → List ℕ
room_sent rows room (Say a) = room
room_sent rows room (Store t a) = room
room_sent rows room (Send n) = room_after (contents_in rows n) room

-- ---- registers

-- place p of the window whose holder is n, n's row being given; 0 with no holder
unfoldable pub window_byte : ℕ → ℕ → Contents → ℕ
window_byte n p row = pick (ltb n 16) (get_or row.bytes p 0) 0

abbrev pub holder_in : Control → Region → ℕ
holder_in c (send_place p) = c.transmit.holder
holder_in c (receive_place p) = c.receive.holder
holder_in c (fifo_place p) = fifo_holder c
holder_in c (control_of n) = 16
holder_in c elsewhere = 16

-- the holder of a register's window, 16 for a register that is no place of a window
unfoldable pub holder_of : Control → Register → ℕ
holder_of c r = holder_in c (region_of r)

-- index of that holder's row; any row where there is none
abbrev pub window_row : Control → Register → ℕ
window_row c r = holder_of c r % 16

abbrev pub value_in : Control → Contents → Region → ℕ → ℕ
value_in c row (send_place p) v = window_byte c.transmit.holder p row
value_in c row (receive_place p) v = window_byte c.receive.holder p row
value_in c row (fifo_place p) v = window_byte (fifo_holder c) p row
value_in c row (control_of n) v = v
value_in c row elsewhere v = v

-- what a register reads; row is that of its window's holder, here and below
unfoldable pub register_value : Control → Register → Contents → ℕ
register_value c r row = value_in c row (region_of r) (value_of c r)

-- the answer to the read of address a
unfoldable pub read_answer : Control → ℕ → Contents → Answered
read_answer c a row =
    let k = read_refusal c a in
    unlooked (pick (eqb k 0) (Value (register_value c (register_at a) row)) (Refused k))

-- place p of a buffer's window written
unfoldable pub write_place : Contents → ℕ → ℕ → Contents
write_place b p v = pick (eqb p 0) (with_ident b v) (pick (eqb p 1) (with_length b (v % 16)) (with_data b (p - 2) v))

-- the window of buffer n, 16 or more for none, with place p written; d is the control state after it
abbrev pub window_change : Control → ℕ → ℕ → ℕ → Contents → Change
window_change d n p v row = putting d n (write_place row p v) (unlooked Ok)

-- the row that a register reaches: that of its window's holder, or for a control register the newest frame that waits for its buffer;
-- any row where there is none
abbrev pub reached_in : Controller → Region → Contents
reached_in c (send_place p) = row_at c.rows (c.control.transmit.holder % 16)
reached_in c (receive_place p) = row_at c.rows (c.control.receive.holder % 16)
reached_in c (fifo_place p) = row_at c.rows (fifo_holder c.control % 16)
reached_in c (control_of n) = row_at c.held (newest_of c.control.places n)
reached_in c elsewhere = row_at c.rows 0

-- the control state d, and in buffer n the frame that waited for it, if it is released by v
abbrev pub release_change : Control → Control → ℕ → ℕ → Contents → Change
release_change c d n v image = pick (releases c n v) (placing d n image (unlooked Ok)) (saying d (unlooked Ok))

abbrev pub change_in : Control → Control → Contents → Region → ℕ → Change
change_in c d row (send_place p) v = window_change d c.transmit.holder p v row
change_in c d row (receive_place p) v = window_change d c.receive.holder p v row
change_in c d row (fifo_place p) v = saying d (unlooked Ok)
change_in c d row (control_of n) v = release_change c d n v row
change_in c d row elsewhere v = saying d (unlooked Ok)

-- the same but for control registers, which have a path of their own
abbrev pub low_change_in : Control → Control → Contents → Region → ℕ → Change
low_change_in c d row (send_place p) v = window_change d c.transmit.holder p v row
low_change_in c d row (receive_place p) v = window_change d c.receive.holder p v row
low_change_in c d row (fifo_place p) v = saying d (unlooked Ok)
low_change_in c d row (control_of n) v = saying d (unlooked Ok)
low_change_in c d row elsewhere v = saying d (unlooked Ok)

unfoldable pub low_change : Control → Control → Register → ℕ → Contents → Change
low_change c d r v row = low_change_in c d row (region_of r) v

-- the write of a register that gives the control state d, from c, which says the holders
unfoldable pub register_change : Control → Control → Register → ℕ → Contents → Change
register_change c d r v row = change_in c d row (region_of r) v

-- the write of buffer n's control register, from the newest frame that waits for n
unfoldable pub control_change : Control → ℕ → ℕ → Contents → Change
control_change c n v image =
    let k = write_refusal c (0x50 + n) v in
    pick (eqb k 0) (release_change c (written c (Bufctl n) v) n v image) (saying c (unlooked (Refused k)))

-- the write of address a
unfoldable pub write_change : Control → ℕ → ℕ → Contents → Change
write_change c a v row =
    let k = write_refusal c a v in
    pick (eqb k 0) (register_change c (written c (register_at a) v) (register_at a) v row) (saying c (unlooked (Refused k)))
