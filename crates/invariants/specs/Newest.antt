-- Frames that wait for one buffer (W5): which of the two places holds the newest, and sessions along which it stays so.
use Rattle.std.specs.Prelude.{ℕ, ◌+◌, Bool, true, false, ◌&&◌, ◌||◌, not, List, [], ◌∷◌, eqb}
use Rattle.masks.specs.Pick.{pick}
use Rattle.rules.specs.declared.Answer.{Answer}
use Rattle.rules.specs.declared.Places.{Places}
use Rattle.rules.specs.declared.Control.{Control}
use Rattle.rules.specs.Registers.{has, LOCK}
use Rattle.rules.specs.Answers.{given_of, number_in, is_held}
use Rattle.rules.specs.Refusals.{refusal}
use Rattle.rules.specs.Steps.{Step, reset, read, write, sync, sync_due, slot, frame, fault, timeout}
use Rattle.controller.specs.declared.Controller.{Controller}
use Rattle.controller.specs.Session.{step_of}

-- a frame waits for buffer n
abbrev pub is_waited_for : Places → ℕ → Bool
is_waited_for p n = eqb p.first n || eqb p.second n

-- The place of the newest frame that waits for buffer n, where one does: of two the first if swapped (the frame in the second place came
-- before it), else the second; of one its own.
abbrev pub newest : Places → ℕ → ℕ
newest p n = pick p.swapped (pick (eqb p.first n) 0 1) (pick (eqb p.second n) 1 0)

-- the answer "waiting", for buffer n
abbrev pub is_waiting_for : ℕ → Answer → Bool
is_waiting_for n a = is_held a && eqb (number_in (given_of a)) n

-- the step releases buffer n: a write of LOCK 0 to $50 + n that isn't refused
abbrev pub is_release : Control → ℕ → Step → Bool
is_release c n reset = false
is_release c n (read a) = false
is_release c n (write a v) = eqb a (0x50 + n) && not (has v LOCK) && eqb (refusal c (write a v)) 0
is_release c n (sync k) = false
is_release c n sync_due = false
is_release c n (slot i room) = false
is_release c n (frame good f) = false
is_release c n (fault k) = false
is_release c n timeout = false

-- the step leaves the newest frame for buffer n waiting: it neither is a reset nor enters initialization (in both cases initialization
-- stands after it), doesn't release n, and brings no newer frame for n
abbrev pub leaves_waiting : Controller → ℕ → Step → Bool
leaves_waiting c n e =
    not (step_of c e).next.control.mode.init && not (is_release c.control n e) && not (is_waiting_for n (step_of c e).answer)

-- each step of the session from the record c on does
unfoldable pub keeps_waiting : Controller → ℕ → List Step → Bool
keeps_waiting c n [] = true
keeps_waiting c n (e ∷ es) = leaves_waiting c n e && keeps_waiting (step_of c e).next n es
