-- The numbers of the calls: the size that a caller's record must have, and what a kind and its two numbers stand for.
use Rattle.std.specs.Prelude.{ℕ, Bool, true, false, List, [], ◌∷◌, get_or, slice_get, ltb, Option, Some, None, option_map, unwrap_or}
use Rattle.std.specs.Bool.{then_some}
use Rattle.rules.specs.declared.SyncKind.TheVariants.{Normal, Alarm}
use Rattle.rules.specs.declared.SyncKind.{SyncKind}
use Rattle.rules.specs.declared.Fault.{Fault as FaultKind}
use Rattle.rules.specs.declared.Fault.TheVariants.{Early, Lost, Illegal, Mismatch}
use Rattle.controller.specs.declared.Call.{Call}
use Rattle.controller.specs.declared.Call.TheVariants.{Reset, Read, Write, Sync, SyncDue, Slot, Frame, Fault, Timeout}

-- the bytes of a record for C
abbrev pub record_size : ℕ
record_size = 296

-- a number that is a byte
unfoldable pub byte_of : ℕ → Option ℕ
byte_of n = then_some (ltb n 256) n

-- an address above 255 is above $5F, as 255 is
unfoldable pub address_of : ℕ → ℕ
address_of first = unwrap_or (byte_of first) 255

-- a sync's number, a frame's verdict and a fault's number, each from 0 on
unfoldable pub sync_of : ℕ → Option SyncKind
sync_of first = slice_get (Normal ∷ Alarm ∷ []) first

unfoldable pub verdict_of : ℕ → Option Bool
verdict_of first = slice_get (false ∷ true ∷ []) first

unfoldable pub fault_of : ℕ → Option FaultKind
fault_of first = slice_get (Early ∷ Lost ∷ Illegal ∷ Mismatch ∷ []) first

-- the calls of the kinds from 0 to 8
abbrev pub kinds : ℕ → ℕ → List (Option Call)
kinds first second =
    Some Reset ∷ Some (Read (address_of first)) ∷ option_map (Write (address_of first)) (byte_of second)
    ∷ option_map Sync (sync_of first) ∷ Some SyncDue ∷ option_map Slot (byte_of first)
    ∷ option_map Frame (verdict_of first) ∷ option_map Fault (fault_of first) ∷ Some Timeout ∷ []

-- what a kind and its two numbers stand for, if for a call
unfoldable pub call_of : ℕ → ℕ → ℕ → Option Call
call_of kind first second = get_or (kinds first second) kind None
