-- The C interface: what each exported function answers and leaves, for every size, kind, number, frame and room.
use Rattle.std.specs.Prelude.{ℕ, List, eqb, Option, Some, None}
use Rattle.masks.specs.Pick.{pick}
use Rattle.rules.specs.Flags.{lines_of}
use Rattle.controller.specs.declared.Controller.{Controller}
use Rattle.controller.specs.declared.Call.{Call}
use Rattle.controller.specs.Carry.{reset_state}
use Rattle.controller.specs.Session.{step_of}
use Rattle.controller.specs.Calls.{accepted, answered_of, step_for, room_for}
use Rattle.encoding.specs.Answers.{number_of, unknown, wrong_size}
use Rattle.encoding.specs.Calls.{record_size, call_of}
use Rattle.encoding.specs.Shown.{Shown, kept, buffer_shown, waiting_shown}

-- version 0.6.0: 10000 times the first number, 100 times the second, and the third
abbrev pub version_number : ℕ
version_number = 600

pub record Effect : Type 0 where
  pub next : Controller
  pub answer : ℕ
  pub room : List ℕ

-- an answer that changes no byte of record and room
abbrev pub unchanged : Controller → List ℕ → ℕ → Effect
unchanged c room n = record { next = c; answer = n; room = room }

-- a step of document 01 with the whole frame slice and room that the caller passed, or nothing
unfoldable pub effect_of : Controller → Option Call → List ℕ → List ℕ → Effect
effect_of c (Some call) frame room =
    record {
      next = (step_of c (step_for call frame room)).next;
      answer = number_of (answered_of (step_of c (step_for call frame room)));
      room = room_for c call room;
    }
effect_of c None frame room = unchanged c room unknown

-- `hevrukan_step`: the size is looked at first, then the kind and its numbers, then document 01's rules
unfoldable pub step_effect : Controller → ℕ → ℕ → ℕ → ℕ → List ℕ → List ℕ → Effect
step_effect c size kind first second frame room =
    pick (eqb size record_size) (effect_of c (call_of kind first second) frame room) (unchanged c room wrong_size)

-- `hevrukan_reset`
unfoldable pub reset_next : Controller → ℕ → Controller
reset_next c size = pick (eqb size record_size) reset_state c

unfoldable pub reset_answer : ℕ → ℕ
reset_answer size = pick (eqb size record_size) (number_of accepted) wrong_size

-- `hevrukan_lines`
unfoldable pub lines_answer : Controller → ℕ → ℕ
lines_answer c size = pick (eqb size record_size) (lines_of c.control) wrong_size

-- `hevrukan_buffer` and `hevrukan_waiting`: no step, so that the record stays as it is
unfoldable pub buffer_effect : Controller → ℕ → ℕ → List ℕ → Shown
buffer_effect c size n room = pick (eqb size record_size) (buffer_shown c n room) (kept wrong_size room)

unfoldable pub waiting_effect : Controller → ℕ → ℕ → List ℕ → Shown
waiting_effect c size k room = pick (eqb size record_size) (waiting_shown c k room) (kept wrong_size room)
