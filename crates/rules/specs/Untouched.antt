-- What the claim on locked buffers speaks of: bus events, holders and contenders, and the state from which it holds. Every session
-- from reset is in such a state.
use Rattle.std.specs.Prelude.{◌≡◌, ℕ, ◌<◌, Bool, true, false}
use Rattle.locks.specs.declared.Locks.{Locks}
use Rattle.rules.specs.declared.Control.{Control}
use Rattle.rules.specs.Kinds.{is_armed, is_locked, fifo_holder}
use Rattle.rules.specs.Steps.{Step, reset, read, write, sync, sync_due, slot, frame, fault, timeout}

-- the steps that come from the bus
abbrev pub is_bus_event : Step → Bool
is_bus_event reset = false
is_bus_event (read a) = false
is_bus_event (write a v) = false
is_bus_event (sync k) = true
is_bus_event sync_due = true
is_bus_event (slot i room) = true
is_bus_event (frame good f) = true
is_bus_event (fault k) = true
is_bus_event timeout = true

-- what a bus event takes without asking for its lock is not locked: the place of a queued frame, and an armed buffer at its slot
pub record TargetsFree (c : Control) : Type 0 where
  pub next-free : c.mode.init ≡ false → c.fifo.count < c.config.fsiz → is_locked c c.fifo.next ≡ false
  pub armed-free : (m : ℕ) → m < 16 → is_armed c m ≡ true → is_locked c m ≡ false

-- holders and contenders: of receive and transmit, and the FIFO window's holder
pub record Roles : Type 0 where
  pub receive : Locks
  pub transmit : Locks
  pub fifo : ℕ

abbrev pub roles_of : Control → Roles
roles_of c = record { receive = c.receive; transmit = c.transmit; fifo = fifo_holder c }
