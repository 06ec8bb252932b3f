-- The calls and the waiting places in the terms of their code: with why there is none.
use Rattle.std.specs.Prelude.{ℕ, ◌%◌, not, List, [], ◌∷◌, get_or, eqb, ltb, cond, Result, Ok, Err, ok_or}
use Rattle.masks.specs.Pick.{pick}
use Rattle.rules.specs.declared.SyncKind.{SyncKind}
use Rattle.rules.specs.declared.SyncKind.TheVariants.{Normal, Alarm}
use Rattle.rules.specs.declared.Fault.{Fault as FaultKind}
use Rattle.rules.specs.declared.Fault.TheVariants.{Early, Lost, Illegal, Mismatch}
use Rattle.rules.specs.declared.Control.{Control}
use Rattle.controller.specs.declared.Call.{Call}
use Rattle.controller.specs.declared.Call.TheVariants.{Reset, Read, Write, Sync, SyncDue, Slot, Frame, Fault, Timeout}
use Rattle.encoding.specs.declared.Wrong.{Wrong}
use Rattle.encoding.specs.declared.Wrong.TheVariants.{Unknown, Size, NoFrame}
use Rattle.encoding.specs.Calls.{record_size, address_of, call_of}
use Rattle.encoding.specs.Shown.{place_of}

-- the caller's record has the right size
unfoldable pub sized_of : ℕ → Result (Unit {0}) Wrong
sized_of size = cond (eqb size record_size) (Ok tt) (Err Size)

-- the call that a kind and its numbers stand for
abbrev pub asked_of : ℕ → ℕ → ℕ → Result Call Wrong
asked_of kind first second = ok_or (call_of kind first second) Unknown

unfoldable pub sync_kind_of : ℕ → SyncKind
sync_kind_of first = pick (eqb first 0) Normal Alarm

unfoldable pub fault_kind_of : ℕ → FaultKind
fault_kind_of first = get_or (Early ∷ Lost ∷ Illegal ∷ []) first Mismatch

-- the calls of the kinds from 0 to 7, whether or not the numbers stand for one
abbrev pub calls : ℕ → ℕ → List Call
calls first second =
    Reset ∷ Read (address_of first) ∷ Write (address_of first) (second % 256)
    ∷ Sync (sync_kind_of first) ∷ SyncDue ∷ Slot (first % 256) ∷ Frame (not (eqb first 0)) ∷ Fault (fault_kind_of first) ∷ []

unfoldable pub meant_of : ℕ → ℕ → ℕ → Call
meant_of kind first second = get_or (calls first second) kind Timeout

-- the place of the k-th frame that waits
unfoldable pub place_by : Control → ℕ → Result ℕ Wrong
place_by c k = cond (ltb k 2) (ok_or (place_of c k) NoFrame) (Err Unknown)
