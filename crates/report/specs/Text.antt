-- Document 01, 'The replay text': the report's heading and its rows, byte for byte, and what writing them does to a room.
use Rattle.std.specs.Prelude.{◌≡◌, ℕ, zero, suc, ◌+◌, ◌/◌, ◌%◌, ◌≤◌, List, [], ◌∷◌, ◌++◌, length, take, nat_le, nat_lt, slice_index_or}
use Rattle.std.proofs.lemmas.List.Edits.{sets}
use Rattle.masks.specs.Pick.{pick}
use Rattle.rules.specs.declared.SyncKind.{SyncKind}
use Rattle.rules.specs.declared.SyncKind.TheVariants.{Normal, Alarm}
use Rattle.rules.specs.Answers.{Given, dash, value, buffer, counted, kind, number, Detail, given, bytes}

-- ---- numbers

-- an upper-case hexadecimal digit
unfoldable pub digit_of : ℕ → ℕ
digit_of d = pick (nat_lt d 10) (48 + d) (55 + d)

unfoldable pub hex_of : ℕ → List ℕ
hex_of v = digit_of (v / 16) ∷ digit_of (v % 16) ∷ []

unfoldable pub hexes_of : List ℕ → List ℕ
hexes_of [] = []
hexes_of (v ∷ vs) = hex_of v ++ hexes_of vs

-- how many decimal digits a number below a million has
unfoldable pub width_of : ℕ → ℕ
width_of n = pick (nat_lt n 10) 1 (pick (nat_lt n 100) 2 (pick (nat_lt n 1000) 3 (pick (nat_lt n 10000) 4 (pick (nat_lt n 100000) 5 6))))

-- the last k decimal digits of n
unfoldable pub digits_of : ℕ → ℕ → List ℕ
digits_of zero n = []
digits_of (suc k) n = digits_of k (n / 10) ++ ((48 + n % 10) ∷ [])

-- "Line numbers are decimal"; none is above 999,999
unfoldable pub decimal_of : ℕ → List ℕ
decimal_of n = digits_of (width_of n) n

-- ---- words and details

-- by the words' numbers: ok, read, stored, queued, heldoff, none for 5, which is unused, sent, pulse, refused, overrun, unmatched,
-- badframe, ignored, woke, notsent, waiting
unfoldable pub word_texts : List (List ℕ)
word_texts =
    (111 ∷ 107 ∷ [])
    ∷ (114 ∷ 101 ∷ 97 ∷ 100 ∷ [])
    ∷ (115 ∷ 116 ∷ 111 ∷ 114 ∷ 101 ∷ 100 ∷ [])
    ∷ (113 ∷ 117 ∷ 101 ∷ 117 ∷ 101 ∷ 100 ∷ [])
    ∷ (104 ∷ 101 ∷ 108 ∷ 100 ∷ 111 ∷ 102 ∷ 102 ∷ [])
    ∷ []
    ∷ (115 ∷ 101 ∷ 110 ∷ 116 ∷ [])
    ∷ (112 ∷ 117 ∷ 108 ∷ 115 ∷ 101 ∷ [])
    ∷ (114 ∷ 101 ∷ 102 ∷ 117 ∷ 115 ∷ 101 ∷ 100 ∷ [])
    ∷ (111 ∷ 118 ∷ 101 ∷ 114 ∷ 114 ∷ 117 ∷ 110 ∷ [])
    ∷ (117 ∷ 110 ∷ 109 ∷ 97 ∷ 116 ∷ 99 ∷ 104 ∷ 101 ∷ 100 ∷ [])
    ∷ (98 ∷ 97 ∷ 100 ∷ 102 ∷ 114 ∷ 97 ∷ 109 ∷ 101 ∷ [])
    ∷ (105 ∷ 103 ∷ 110 ∷ 111 ∷ 114 ∷ 101 ∷ 100 ∷ [])
    ∷ (119 ∷ 111 ∷ 107 ∷ 101 ∷ [])
    ∷ (110 ∷ 111 ∷ 116 ∷ 115 ∷ 101 ∷ 110 ∷ 116 ∷ [])
    ∷ (119 ∷ 97 ∷ 105 ∷ 116 ∷ 105 ∷ 110 ∷ 103 ∷ []) ∷ []

abbrev pub word_text : ℕ → List ℕ
word_text w = slice_index_or word_texts w []

-- "unread"
unfoldable pub unread_text : List ℕ
unread_text = 117 ∷ 110 ∷ 114 ∷ 101 ∷ 97 ∷ 100 ∷ []

-- N or A
unfoldable pub kind_text : SyncKind → List ℕ
kind_text Normal = 78 ∷ []
kind_text Alarm = 65 ∷ []

-- "-", a value, number or buffer in hex, or the kind of a pulse
unfoldable pub given_text : Given → List ℕ
given_text dash = 45 ∷ []
given_text (value v) = hex_of v
given_text (buffer n) = hex_of n
given_text (counted k) = hex_of k
given_text (kind k) = kind_text k
given_text (number r) = hex_of r

-- the same, or a sent frame's bytes
unfoldable pub detail_text : Detail → List ℕ
detail_text (given g) = given_text g
detail_text (bytes k f) = hexes_of f

-- ---- rows: number, answer, detail, the five lines and how many buffers were examined, parted by tabs, ended by LF

-- W8: "a fifth field, decimal"
unfoldable pub count_text : ℕ → List ℕ
count_text looked = (9 ∷ []) ++ decimal_of looked ++ (10 ∷ [])

-- a row from its five lines on
unfoldable pub end_text : ℕ → ℕ → List ℕ
end_text irq looked = hex_of irq ++ count_text looked

unfoldable pub row_text : ℕ → List ℕ → List ℕ → ℕ → ℕ → List ℕ
row_text n word detail irq looked = decimal_of n ++ (9 ∷ []) ++ word ++ (9 ∷ []) ++ detail ++ (9 ∷ []) ++ end_text irq looked

-- the row of a step
abbrev pub row_of : ℕ → ℕ → Detail → ℕ → ℕ → List ℕ
row_of n w d irq looked = row_text n (word_text w) (detail_text d) irq looked

-- the row of a line that is no step: nothing was looked up
abbrev pub unread_row : ℕ → ℕ → List ℕ
unread_row n irq = row_text n unread_text (45 ∷ []) irq 0

-- "Output starts with a fixed heading": line, answer, detail, irq, and looked (W8)
unfoldable pub heading_of : List ℕ
heading_of =
    108 ∷ 105 ∷ 110 ∷ 101 ∷ 9 ∷ 97 ∷ 110 ∷ 115 ∷ 119 ∷ 101 ∷ 114 ∷ 9 ∷ 100 ∷ 101 ∷ 116 ∷ 97 ∷ 105 ∷ 108 ∷ 9 ∷ 105 ∷ 114 ∷ 113
    ∷ 9 ∷ 108 ∷ 111 ∷ 111 ∷ 107 ∷ 101 ∷ 100 ∷ 10 ∷ []

-- ---- writing

-- the text xs was put into the room o at index at: the room is now o', and r is the index after the text
pub record Put (o : List ℕ) (at : ℕ) (xs o' : List ℕ) (r : ℕ) : Type 0 where
  pub next : r ≡ at + length xs
  pub text : o' ≡ sets o at xs

-- the text xs stands at the start of the room, the rest of which is as before; r is its length, which is within the room
pub record Wrote (out xs : List ℕ) (r : ℕ) (out' : List ℕ) : Type 0 where
  pub put : Put out 0 xs out' r
  pub within : r ≤ length out'
  pub counts : r ≡ length (take r out')

-- the text where 64 bytes of room are left for it, and nothing otherwise; no row is longer
unfoldable pub fitting : List ℕ → ℕ → List ℕ → List ℕ
fitting o at xs = pick (nat_le (at + 64) (length o)) xs []
