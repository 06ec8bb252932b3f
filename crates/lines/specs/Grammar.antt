-- Document 01, 'The replay text': what step a line's bytes are, without the LF that ends the line. "Fields parted by tabs,
-- upper-case two-digit hex". "Any other line, or one over 64 bytes without its LF, is 'unread'".
use Rattle.std.specs.Prelude.{ℕ, ◌+◌, ◌-◌, ◌*◌, List, [], ◌∷◌, Bool, true, false, length, get_or, take, drop, set, replicate, ltb, leb, eqb, Option, Some, None}
use Rattle.masks.specs.Pick.{pick}
use Rattle.rules.specs.declared.SyncKind.TheVariants.{Normal, Alarm}
use Rattle.rules.specs.declared.Fault.TheVariants.{Early, Lost, Illegal, Mismatch}
use Rattle.controller.specs.declared.Call.TheVariants.{Reset, Read, Write, Sync, SyncDue, Slot, Frame, Fault, Timeout}
use Rattle.lines.specs.declared.FrameBytes.{FrameBytes}
use Rattle.lines.specs.declared.Parsed.{Parsed}
use Rattle.controller.specs.declared.Call.{Call}

-- ---- digits

-- the value of a digit 0 to 9 or A to F, 16 for any other byte
unfoldable pub nibble_of : ℕ → ℕ
nibble_of b = pick (ltb b 48) 16 (pick (leb b 57) (b - 48) (pick (ltb b 65) 16 (pick (leb b 70) (b - 65 + 10) 16)))

-- the value of two digits, 256 for any other two bytes
unfoldable pub byte_of : ℕ → ℕ → ℕ
byte_of high low = pick (ltb 15 (nibble_of high)) 256 (pick (ltb 15 (nibble_of low)) 256 (nibble_of high * 16 + nibble_of low))

-- ---- the bytes of a frame by value

abbrev pub bytes_in : FrameBytes → List ℕ
bytes_in f = take f.size f.bytes

-- room for more bytes than a line can bring
abbrev pub no_bytes : List ℕ
no_bytes = replicate 34 0

abbrev pub no_frame : FrameBytes
no_frame = record { bytes = no_bytes; size = 0 }

-- ---- lines without a frame, by their length; 9 is the tab

abbrev pub plain_of : Option Call → Parsed
plain_of l = record { line = l; frame = no_frame }

-- Z reset, M sync due, Q timeout
unfoldable pub one_of : ℕ → Option Call
one_of letter = pick (eqb letter 90) (Some Reset) (pick (eqb letter 77) (Some SyncDue) (pick (eqb letter 81) (Some Timeout) None))

-- S and N or A
unfoldable pub sync_of : ℕ → Option Call
sync_of kind = pick (eqb kind 78) (Some (Sync Normal)) (pick (eqb kind 65) (Some (Sync Alarm)) None)

-- P and E, L, I or M
unfoldable pub fault_of : ℕ → Option Call
fault_of kind =
    pick (eqb kind 69) (Some (Fault Early))
    (pick (eqb kind 76) (Some (Fault Lost)) (pick (eqb kind 73) (Some (Fault Illegal)) (pick (eqb kind 77) (Some (Fault Mismatch)) None)))

unfoldable pub three_of : ℕ → ℕ → ℕ → Option Call
three_of letter tab kind = pick (eqb tab 9) (pick (eqb letter 83) (sync_of kind) (pick (eqb letter 80) (fault_of kind) None)) None

-- R address, T slot
unfoldable pub four_of : ℕ → ℕ → ℕ → ℕ → Option Call
four_of letter tab high low =
    pick (eqb tab 9)
    (pick (ltb 255 (byte_of high low)) None
    (pick (eqb letter 82) (Some (Read (byte_of high low))) (pick (eqb letter 84) (Some (Slot (byte_of high low))) None)))
    None

-- W address value
unfoldable pub seven_of : ℕ → ℕ → ℕ → ℕ → ℕ → ℕ → ℕ → Option Call
seven_of letter tab high low tab2 high2 low2 =
    pick (eqb letter 87)
    (pick (eqb tab 9)
    (pick (eqb tab2 9)
    (pick (ltb 255 (byte_of high low)) None (pick (ltb 255 (byte_of high2 low2)) None (Some (Write (byte_of high low) (byte_of high2 low2)))))
    None)
    None)
    None

unfoldable pub short_of : List ℕ → Option Call
short_of s =
    pick (eqb (length s) 1) (one_of (get_or s 0 0))
    (pick (eqb (length s) 3) (three_of (get_or s 0 0) (get_or s 1 0) (get_or s 2 0))
    (pick (eqb (length s) 4) (four_of (get_or s 0 0) (get_or s 1 0) (get_or s 2 0) (get_or s 3 0))
    (pick (eqb (length s) 7) (seven_of (get_or s 0 0) (get_or s 1 0) (get_or s 2 0) (get_or s 3 0) (get_or s 4 0) (get_or s 5 0) (get_or s 6 0)) None)))

-- ---- frames: F, G or B, "bytes run together"; they "may be none, after their tab; an odd digit makes another line"

-- begins with F, tab, any byte, tab
unfoldable pub is_frame : List ℕ → Bool
is_frame s = pick (ltb (length s) 4) false (pick (eqb (get_or s 0 0) 70) (pick (eqb (get_or s 1 0) 9) (pick (eqb (get_or s 3 0) 9) true false) false) false)

-- two digits a byte, put at place i and on
unfoldable pub decode_from : Bool → List ℕ → ℕ → List ℕ → Parsed
decode_from good bytes i [] = record { line = Some (Frame good); frame = record { bytes = bytes; size = i } }
decode_from good bytes i (h ∷ []) = plain_of None
decode_from good bytes i (h ∷ l ∷ ds) =
    pick (ltb 255 (byte_of h l)) (plain_of None) (decode_from good (set bytes i (byte_of h l)) (i + 1) ds)

-- the verdict G or B
unfoldable pub frame_line : ℕ → List ℕ → Parsed
frame_line verdict ds =
    pick (eqb verdict 71) (decode_from true no_bytes 0 ds) (pick (eqb verdict 66) (decode_from false no_bytes 0 ds) (plain_of None))

-- ---- the step that a line is

unfoldable pub line_of : List ℕ → Parsed
line_of s = pick (ltb 64 (length s)) (plain_of None) (pick (is_frame s) (frame_line (get_or s 2 0) (drop 4 s)) (plain_of (short_of s)))
