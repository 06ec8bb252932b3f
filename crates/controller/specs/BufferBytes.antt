-- The bytes of a buffer: the registers that show one, and the steps that may change it.
use Rattle.std.specs.Prelude.{ℕ, Bool, true, false, ◌&&◌, ◌||◌, not, List, [], ◌∷◌, get_or, eqb}
use Rattle.rules.specs.declared.Control.{Control}
use Rattle.rules.specs.Registers.{Region, send_place, receive_place, fifo_place, control_of, elsewhere, region_of, register_at, has, LOCK}
use Rattle.rules.specs.Kinds.{fifo_holder}
use Rattle.rules.specs.Refusals.{refusal}
use Rattle.rules.specs.Answers.{is_put_in}
use Rattle.rules.specs.Steps.{Step, reset, read, write, sync, sync_due, slot, frame, fault, timeout}
use Rattle.controller.specs.declared.Controller.{Controller}
use Rattle.controller.specs.Carry.{row_at}
use Rattle.controller.specs.Session.{step_of}

-- byte k of buffer n: identifier, length, data 0 to 11
abbrev pub byte_at : Controller → ℕ → ℕ → ℕ
byte_at c n k = get_or (row_at c.rows n).bytes k 0

-- a place of a window is byte k of buffer n, its holder
abbrev pub is_place_of : Control → ℕ → ℕ → Region → Bool
is_place_of c n k (send_place p) = eqb c.transmit.holder n && eqb p k
is_place_of c n k (receive_place p) = eqb c.receive.holder n && eqb p k
is_place_of c n k (fifo_place p) = eqb (fifo_holder c) n && eqb p k
is_place_of c n k (control_of m) = false
is_place_of c n k elsewhere = false

-- the register at address a shows byte k of buffer n
unfoldable pub shows : Control → ℕ → ℕ → ℕ → Bool
shows c n k a = is_place_of c n k (region_of (register_at a))

-- W5: the write of v to such a register stores a frame in buffer n: LOCK of n is written 0, and a frame waits for n
abbrev pub is_release_of : Control → ℕ → ℕ → Region → Bool
is_release_of c n v (send_place p) = false
is_release_of c n v (receive_place p) = false
is_release_of c n v (fifo_place p) = false
is_release_of c n v (control_of m) = eqb m n && not (has v LOCK) && (eqb c.places.first n || eqb c.places.second n)
is_release_of c n v elsewhere = false

unfoldable pub delivers : Control → ℕ → ℕ → ℕ → Bool
delivers c n a v = is_release_of c n v (region_of (register_at a))

-- the step may change byte k of buffer n: a write, not refused, of a register that shows it or that releases n while a frame waits for
-- it, a frame that is put in n, or reset
unfoldable pub may_change : Controller → ℕ → ℕ → Step → Bool
may_change c n k reset = true
may_change c n k (read a) = false
may_change c n k (write a v) = eqb (refusal c.control (write a v)) 0 && (shows c.control n k a || delivers c.control n a v)
may_change c n k (sync s) = false
may_change c n k sync_due = false
may_change c n k (slot i room) = false
may_change c n k (frame good f) = is_put_in n (step_of c (frame good f)).answer
may_change c n k (fault s) = false
may_change c n k timeout = false

-- no step of the session, from the record c on, may
unfoldable pub spares : Controller → ℕ → ℕ → List Step → Bool
spares c n k [] = true
spares c n k (e ∷ es) = not (may_change c n k e) && spares (step_of c e).next n k es
