-- Document 01, 'Refusal numbers': each refusal as a test, and the lowest number that applies.
use Rattle.std.specs.Prelude.{ℕ, suc, Result, Ok, Err, ◌+◌, ◌-◌, ◌%◌, Bool, ◌&&◌, ◌||◌, not, List, [], ◌∷◌, get_or, length, eqb, ltb, leb}
use Rattle.std.specs.Bool.{beq}
use Rattle.masks.specs.Pick.{pick}
use Rattle.masks.specs.Bits.{some_of}
use Rattle.locks.specs.Pair.{has_holder, is_full}
use Rattle.contents.specs.Bytes.{cut}
use Rattle.rules.specs.declared.Control.{Control}
use Rattle.rules.specs.declared.Refusal.{Refusal}
use Rattle.rules.specs.declared.Refusal.TheVariants.{NoRegister, Asleep, ReadOnly, OnlyInInit, NoHolder, FsizAbove16, KindOfLocked, UnlawfulLayout, NotOldest, NoLockLeft, FrameSize, RoomSize}
use Rattle.rules.specs.Registers.{has, between, INITRQ, LOCK}
use Rattle.rules.specs.Kinds.{is_transmit, is_locked, is_oldest, is_lawful}
use Rattle.rules.specs.Waiting.{asleep}
use Rattle.rules.specs.Writes.{cfg_after}
use Rattle.rules.specs.Steps.{Step, reset, read, write, sync, sync_due, slot, frame, fault, timeout}

-- 1: "address above $5F"
unfoldable pub refuses1 : ℕ → Bool
refuses1 a = ltb 0x5F a

-- 2: "asleep, register call other than $00"
unfoldable pub refuses2 : Control → ℕ → Bool
refuses2 c a = asleep c && not (eqb a 0)

-- 3: "write to $0A, $0B, $0E, $12, $40-$4D"
unfoldable pub refuses3 : ℕ → Bool
refuses3 a = eqb a 0x0A || eqb a 0x0B || eqb a 0x0E || eqb a 0x12 || between 0x40 a 0x4D

-- 4: "write to $01-$04, $0C, $0D, $14, $15, $30-$3D outside initialization"
unfoldable pub only_in_init : ℕ → Bool
only_in_init a =
    between 0x01 a 0x04 || eqb a 0x0C || eqb a 0x0D || eqb a 0x14 || eqb a 0x15 || between 0x30 a 0x3D

unfoldable pub refuses4 : Control → ℕ → Bool
refuses4 c a = only_in_init a && not c.mode.init

-- 5: "write to a window with no holder" ($40-$4D is refused 3 before)
unfoldable pub refuses5 : Control → ℕ → Bool
refuses5 c a =
    (between 0x20 a 0x2D && not (has_holder c.transmit)) || (between 0x30 a 0x3D && not (has_holder c.receive))

-- 6: "FSIZ above 16"
unfoldable pub refuses6 : ℕ → ℕ → Bool
refuses6 a v = eqb a 0x01 && ltb 16 (v % 32)

-- 7: "the write changes the kind of a locked buffer". FSIZ s changes the kind of the CFG 0 buffers between the old size
-- and s,
unfoldable pub moved_by_fsiz : Control → ℕ → ℕ → Bool
moved_by_fsiz c s n = is_locked c n && not (is_transmit c n) && not (beq (ltb n s) (ltb n c.config.fsiz))

-- and another CFG that of buffer n
unfoldable pub moved_by_cfg : Control → ℕ → ℕ → Bool
moved_by_cfg c n v = is_locked c n && not (beq (cfg_after c n v) (is_transmit c n))

unfoldable pub refuses7 : Control → ℕ → ℕ → Bool
refuses7 c a v = (eqb a 0x01 && some_of (moved_by_fsiz c (v % 32)) 16) || (leb 0x50 a && moved_by_cfg c (a - 0x50) v)

-- 8: "leaving initialization, unlawful layout"
unfoldable pub refuses8 : Control → ℕ → ℕ → Bool
refuses8 c a v = eqb a 0x00 && c.mode.init && not (has v INITRQ) && not (is_lawful c)

-- "new LOCK": LOCK 1 on a buffer that isn't locked
unfoldable pub new_lock : Control → ℕ → ℕ → Bool
new_lock c n v = has v LOCK && not (is_locked c n)

-- 9: "new LOCK on a FIFO buffer that isn't the oldest entry"; "9 and 10 look at the kind after CFG"
unfoldable pub not_oldest : Control → ℕ → ℕ → Bool
not_oldest c n v = new_lock c n v && not (cfg_after c n v) && ltb n c.config.fsiz && not (is_oldest c n)

unfoldable pub refuses9 : Control → ℕ → ℕ → Bool
refuses9 c a v = leb 0x50 a && not_oldest c (a - 0x50) v

-- 10: "new LOCK where the kind has holder and contender"
unfoldable pub no_lock_left : Control → ℕ → ℕ → Bool
no_lock_left c n v =
    new_lock c n v && pick (cfg_after c n v) (is_full c.transmit) (leb c.config.fsiz n && is_full c.receive)

unfoldable pub refuses10 : Control → ℕ → ℕ → Bool
refuses10 c a v = leb 0x50 a && no_lock_left c (a - 0x50) v

-- 11: "frame slice not 2 + min(12, length's low four bits) bytes; any mode"
unfoldable pub refuses11 : List ℕ → Bool
refuses11 f = not (eqb (length f) (2 + cut (get_or f 1 0)))

-- 12: "room for a sent frame under 14 bytes; any mode"
unfoldable pub refuses12 : List ℕ → Bool
refuses12 room = ltb (length room) 14

-- "The lowest number that applies is given, and none otherwise": the number of the first test that holds, counted from k,
-- or 0
unfoldable pub first_of : ℕ → List Bool → ℕ
first_of k [] = 0
first_of k (t ∷ ts) = pick t k (first_of (suc k) ts)

unfoldable pub read_refusal : Control → ℕ → ℕ
read_refusal c a = first_of 1 (refuses1 a ∷ refuses2 c a ∷ [])

unfoldable pub write_refusal : Control → ℕ → ℕ → ℕ
write_refusal c a v =
    first_of 1
    (refuses1 a ∷ refuses2 c a ∷ refuses3 a ∷ refuses4 c a ∷ refuses5 c a
    ∷ refuses6 a v ∷ refuses7 c a v ∷ refuses8 c a v ∷ refuses9 c a v ∷ refuses10 c a v ∷ [])

-- ---- the refusals by name

abbrev pub refusal_number : Refusal → ℕ
refusal_number NoRegister = 1
refusal_number Asleep = 2
refusal_number ReadOnly = 3
refusal_number OnlyInInit = 4
refusal_number NoHolder = 5
refusal_number FsizAbove16 = 6
refusal_number KindOfLocked = 7
refusal_number UnlawfulLayout = 8
refusal_number NotOldest = 9
refusal_number NoLockLeft = 10
refusal_number FrameSize = 11
refusal_number RoomSize = 12

-- the number of what a test gives: 0 where it refuses nothing
abbrev pub number_of : Result Unit Refusal → ℕ
number_of (Ok _) = 0
number_of (Err r) = refusal_number r

-- ---- a step's refusal, 0 for none
unfoldable pub refusal : Control → Step → ℕ
refusal c reset = 0
refusal c (read a) = read_refusal c a
refusal c (write a v) = write_refusal c a v
refusal c (sync k) = 0
refusal c sync_due = 0
refusal c (slot i room) = pick (refuses12 room) 12 0
refusal c (frame good f) = pick (refuses11 f) 11 0
refusal c (fault k) = 0
refusal c timeout = 0
