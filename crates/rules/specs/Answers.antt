-- Document 01, 'The replay text': the word and the detail of each answer. `parts_of` is the one table that goes by the cases of
-- an answer; all else is said of its word's number and of what comes with it.
use Rattle.std.specs.Prelude.{ℕ, Bool, true, false, ◌&&◌, ◌||◌, List, eqb}
use Rattle.rules.specs.declared.SyncKind.{SyncKind}
use Rattle.rules.specs.declared.SyncKind.TheVariants.{Normal, Alarm}
use Rattle.rules.specs.declared.Answer.{Answer}
use Rattle.rules.specs.declared.Answer.TheVariants.{Ok, Value, Stored, Queued, Waiting, HeldOff, Sent, Pulse, Refused, Overrun, Unmatched, BadFrame, Ignored, Woke, NotSent}

-- what comes with an answer's word
pub data Given : Type 0 where
  -- "-"
  dash : Given
  -- the value read
  value : ℕ → Given
  -- "nn always the buffer's number"
  buffer : ℕ → Given
  -- so many bytes of the room are the frame
  counted : ℕ → Given
  -- N or A
  kind : SyncKind → Given
  -- the refusal's number
  number : ℕ → Given

abbrev pub sync_number : SyncKind → ℕ
sync_number Normal = 0
sync_number Alarm = 1

-- the value, buffer, counted, kind or refusal as a number, or 0
abbrev pub number_in : Given → ℕ
number_in dash = 0
number_in (value v) = v
number_in (buffer n) = n
number_in (counted k) = k
number_in (kind k) = sync_number k
number_in (number r) = r

-- the words by their numbers, in the order of document 01's report. Number 5 was that of a word which W10 took out, and W5's "waiting"
-- has the first number behind the others: for C's sake no number moved.
pub record Parts : Type 0 where
  pub word : ℕ
  pub given : Given

abbrev parts : ℕ → Given → Parts
parts w g = record { word = w; given = g }

abbrev pub parts_of : Answer → Parts
parts_of Ok = parts 0 dash
parts_of (Value v) = parts 1 (value v)
parts_of (Stored n) = parts 2 (buffer n)
parts_of (Queued n) = parts 3 (buffer n)
parts_of (HeldOff n) = parts 4 (buffer n)
parts_of (Waiting n) = parts 15 (buffer n)
parts_of (Sent k) = parts 6 (counted k)
parts_of (Pulse k) = parts 7 (kind k)
parts_of (Refused r) = parts 8 (number r)
parts_of Overrun = parts 9 dash
parts_of Unmatched = parts 10 dash
parts_of BadFrame = parts 11 dash
parts_of Ignored = parts 12 dash
parts_of Woke = parts 13 dash
parts_of NotSent = parts 14 dash

abbrev pub STORED : ℕ
STORED = 2

abbrev pub QUEUED : ℕ
QUEUED = 3

abbrev pub HELDOFF : ℕ
HELDOFF = 4

abbrev pub WAITING : ℕ
WAITING = 15

abbrev pub SENT : ℕ
SENT = 6

abbrev pub REFUSED : ℕ
REFUSED = 8

abbrev pub OVERRUN : ℕ
OVERRUN = 9

abbrev pub UNMATCHED : ℕ
UNMATCHED = 10

abbrev pub IGNORED : ℕ
IGNORED = 12

abbrev pub word_of : Answer → ℕ
word_of a = (parts_of a).word

abbrev pub given_of : Answer → Given
given_of a = (parts_of a).given

abbrev pub is_sent : Answer → Bool
is_sent a = eqb (word_of a) SENT

-- a detail: what comes with the word, or a sent frame's bytes beside their count
pub data Detail : Type 0 where
  given : Given → Detail
  bytes : ℕ → List ℕ → Detail

abbrev pub framed : Bool → Given → List ℕ → Detail
framed true g f = bytes (number_in g) f
framed false g f = given g

-- the detail of an answer, with the frame that was sent
abbrev pub detail_of : Answer → List ℕ → Detail
detail_of a f = framed (is_sent a) (given_of a) f

-- the answers "stored" and "queued": the frame is in a buffer
abbrev pub is_put : Answer → Bool
is_put a = eqb (word_of a) STORED || eqb (word_of a) QUEUED

-- and that is buffer n
abbrev pub is_put_in : ℕ → Answer → Bool
is_put_in n a = is_put a && eqb (number_in (given_of a)) n

-- the answer "waiting": it is in one of the two places
abbrev pub is_held : Answer → Bool
is_held a = eqb (word_of a) WAITING

-- the answers "stored", "waiting" and "heldoff": a dedicated receive buffer carries the frame's identifier
abbrev pub is_found : Answer → Bool
is_found a = eqb (word_of a) STORED || eqb (word_of a) WAITING || eqb (word_of a) HELDOFF

-- the answers of a frame that is looked up (W8): those, "queued", "overrun" and "unmatched"
abbrev pub is_looked_up : Answer → Bool
is_looked_up a = is_found a || eqb (word_of a) QUEUED || eqb (word_of a) OVERRUN || eqb (word_of a) UNMATCHED

-- the answers "refused" and "ignored"
abbrev pub changes_nothing : Answer → Bool
changes_nothing a = eqb (word_of a) REFUSED || eqb (word_of a) IGNORED
