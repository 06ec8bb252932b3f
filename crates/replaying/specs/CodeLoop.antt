-- The loop over a piece's lines: where it stands, and what its functions promise. The session at the piece's start and the room at that
-- time are s₀ and out₀; the functions are not given them, so a promise is for any.
use Rattle.std.specs.Prelude.{ℕ, ◌+◌, ◌≤◌, ◌<◌, ◌≡◌, Bool, true, false, ◌&&◌, List, [], ◌∷◌, ◌⊎◌, length, take, drop, set, replicate, ltb, leb, Option, Some, None}
use Rattle.masks.specs.Pick.{pick}
use Rattle.rules.specs.declared.Answer.{Answer}
use Rattle.rules.specs.Answers.{word_of, detail_of}
use Rattle.rules.specs.Flags.{lines_of}
use Rattle.rules.specs.KeptLinesLaws.{keeps_lines}
use Rattle.controller.specs.declared.Controller.{Controller}
use Rattle.controller.specs.declared.Answered.{Answered}
use Rattle.report.specs.declared.Number.{Number}
use Rattle.lines.specs.declared.Found.{Found}
use Rattle.lines.specs.Grammar.{line_of}
use Rattle.lines.specs.Found.{found_at}
use Rattle.report.specs.Text.{Put, Wrote, fitting, word_text, unread_text, detail_text}
use Rattle.report.specs.CodeNumbers.{number_of, next_number, numbered_row}
use Rattle.pieces.specs.declared.Held.{Held}
use Rattle.pieces.specs.Feed.{Feed, none_held, line_in, number_after, is_read, feed_end, out_of, taken_of}
use Rattle.pieces.specs.CodeGather.{gather_of}
use Rattle.replaying.specs.declared.Player.{Player}
use Rattle.replaying.specs.declared.Tally.{Tally}
use Rattle.replaying.specs.declared.Session.{Session}
use Rattle.pieces.specs.declared.Fed.{Fed}
use Rattle.replaying.specs.declared.At.{At}
use Rattle.replaying.specs.declared.Joined.{Joined}
use Rattle.replaying.specs.Session.{feed_of}
use Rattle.replaying.specs.Replay.{is_refused, play, show_row}
use Rattle.replaying.specs.SentLaws.{sent_size, cleared_by}

-- ---- rows, or nothing but the counts

abbrev pub shown_if : Bool → List ℕ → List ℕ
shown_if true xs = xs
shown_if false xs = []

abbrev pub shown_by : Bool → Player → ℕ → Bool → List ℕ → List ℕ
shown_by rows p n ended l = shown_if rows (show_row p n ended l)

-- the room that a line asks for
abbrev pub need_of : Bool → ℕ
need_of true = 64
need_of false = 0

-- ---- where the loop stands, as values

-- a line begins there in a piece of `end` bytes, and a room of `size` bytes has place for what is shown of it
unfoldable pub goes_on : At → ℕ → ℕ → Bool
goes_on t end size = ltb t.from end && leb (t.written + need_of t.rows) size

-- past the LF, at the next line
abbrev pub passes : At → ℕ → ℕ → Tally → ℕ → At
passes t next irq tally written =
    record {
      digits = next_number t.digits (number_after t.number);
      from = next;
      written = written;
      tally = tally;
      number = number_after t.number;
      irq = irq;
      rows = t.rows;
    }

-- at index at of the same piece or of another
abbrev pub reaches : At → ℕ → At
reaches t at =
    record {
      digits = t.digits;
      from = at;
      written = t.written;
      tally = t.tally;
      number = t.number;
      irq = t.irq;
      rows = t.rows;
    }

-- the five lines after an answer; irq: those before it
unfoldable pub lines_after : Controller → Answer → ℕ → ℕ
lines_after c a irq = pick (keeps_lines a) irq (lines_of c.control)

-- the tally with a line counted that is no step
abbrev pub unread_of : Tally → Tally
unread_of k = record { unread = number_after k.unread; refused = k.refused }

-- the tally with an answer counted
unfoldable pub counted_of : Tally → Answer → Tally
counted_of k a = record { unread = k.unread; refused = pick (is_refused a) (number_after k.refused) k.refused }

-- the step of the line where the loop stands; none past the last line that is read
unfoldable pub sought_of : List ℕ → At → Option Found
sought_of piece t = pick (is_read t.number) (found_at piece t.from) None

-- at the first line's first byte
abbrev pub opened : Session → Bool → At
opened s rows =
    record {
      digits = number_of s.number;
      from = 0;
      written = 0;
      tally = s.player.tally;
      number = s.number;
      irq = lines_of s.player.controller.control;
      rows = rows;
    }

-- the session there, with so much held of the next line
abbrev pub closed : Controller → At → Held → ℕ → Fed Session
closed c t h taken =
    record {
      session = record { player = record { controller = c; tally = t.tally }; held = h; number = t.number };
      taken = taken;
      written = t.written;
    }

-- ---- what the functions promise

-- where the line at index from ends; the piece's length where it doesn't
abbrev pub end_at : List ℕ → ℕ → ℕ
end_at piece from = (gather_of none_held piece from (length piece)).at

-- `unread_line`: none where the line doesn't end in the piece
pub record Unreads (piece out : List ℕ) (t : At) (r : Option At) (out' : List ℕ) : Type 0 where
  pub unended : length piece ≤ end_at piece t.from → (r ≡ None) × (out' ≡ out)
  pub past : end_at piece t.from < length piece → is_read t.number ≡ false →
      (r ≡ Some (passes t (end_at piece t.from + 1) t.irq t.tally t.written)) × (out' ≡ out)
  pub shown : end_at piece t.from < length piece → is_read t.number ≡ true →
      (w : ℕ) × (r ≡ Some (passes t (end_at piece t.from + 1) t.irq (unread_of t.tally) w))
      × Put out t.written (shown_if t.rows (fitting out t.written (numbered_row t.digits unread_text (45 ∷ []) t.irq 0))) out' w

-- the row of an answer, out of the room that its step left
abbrev pub answer_row : Number → Answered → List ℕ → ℕ → List ℕ
answer_row x a room irq =
    numbered_row x (word_text (word_of a.answer)) (detail_text (detail_of a.answer (take 14 (take (sent_size a.answer (length room)) room)))) irq a.looked

-- `answered`, at the LF at index at
pub record Answers (room out : List ℕ) (t : At) (at : ℕ) (a : Answered) (irq : ℕ) (r : At) (room' out' : List ℕ) : Type 0 where
  pub passed : r ≡ passes t (at + 1) irq (counted_of t.tally a.answer) r.written
  pub put : Put out t.written (shown_if t.rows (fitting out t.written (answer_row t.digits a room irq))) out' r.written
  pub clear : room' ≡ cleared_by a.answer room

-- ---- where the loop stands

-- h: the bytes of the line that is not ended yet. The loop itself keeps none
abbrev pub feed_at : Controller → Held → At → Feed Player
feed_at c h t = record { state = record { controller = c; tally = t.tally }; held = h; number = t.number }

abbrev pub taken_by : Bool → ℕ → Feed Player → ℕ → List ℕ → ℕ
taken_by rows size f w piece = taken_of play (shown_by rows) (need_of rows) size f w piece

-- the bytes before index from are fed, and what was written for them is in the room
pub record Open (s₀ : Feed Player) (piece out₀ : List ℕ) (c : Controller) (h : Held) (t : At) (out : List ℕ) : Type 0 where
  pub high : t.from ≤ length piece
  pub within : t.written ≤ length out₀
  pub digits : is_read t.number ≡ true → t.digits ≡ number_of t.number
  pub lines : t.irq ≡ lines_of c.control
  pub session : feed_end play (shown_by t.rows) s₀ (take t.from piece) ≡ feed_at c h t
  pub put : Put out₀ 0 (out_of play (shown_by t.rows) s₀ (take t.from piece)) out t.written
  pub taken : taken_by t.rows (length out₀) s₀ 0 piece ≡ t.from + taken_by t.rows (length out₀) (feed_at c h t) t.written (drop t.from piece)

-- why the loop is over: the line at index from doesn't end in the piece, or the room is too small for what is shown of it
abbrev pub Over : List ℕ → ℕ → At → Type 0
Over piece size t = (end_at piece t.from ≡ length piece) ⊎ (size < t.written + need_of t.rows)

-- `line_in_place`: a line done with, or none where it doesn't end in the piece
pub record Turns (c : Controller) (room piece out : List ℕ) (t : At) (r : Option At) (c' : Controller) (room' out' : List ℕ) : Type 0 where
  pub ahead : (u : At) → r ≡ Some u → t.from < u.from
  pub rows : (u : At) → r ≡ Some u → u.rows ≡ t.rows
  pub clear : room ≡ replicate 14 0 → room' ≡ replicate 14 0
  pub stands : room ≡ replicate 14 0 → t.written + need_of t.rows ≤ length out → (s₀ : Feed Player) (out₀ : List ℕ) → Open s₀ piece out₀ c none_held t out →
      (u : At) → r ≡ Some u → Open s₀ piece out₀ c' none_held u out'
  pub over : r ≡ None → (c' ≡ c) × (out' ≡ out) × (length piece ≤ end_at piece t.from)

-- some turns of `lines_in_place`, from t to r
pub record Played (c : Controller) (room piece out : List ℕ) (t r : At) (c' : Controller) (room' out' : List ℕ) : Type 0 where
  pub rows : r.rows ≡ t.rows
  pub clear : room ≡ replicate 14 0 → room' ≡ replicate 14 0
  pub stands : room ≡ replicate 14 0 → (s₀ : Feed Player) (out₀ : List ℕ) → Open s₀ piece out₀ c none_held t out → Open s₀ piece out₀ c' none_held r out'

-- `lines_in_place`: all of them
pub record Plays (c : Controller) (room piece out : List ℕ) (t r : At) (c' : Controller) (room' out' : List ℕ) : Type 0 where
  pub over : r.from ≤ length piece → Over piece (length out') r
  pub played : Played c room piece out t r c' room' out'

-- `over`: a line over 64 bytes, and its LF
abbrev pub over_text : Joined
over_text = record { text = set (replicate 66 0) 65 10; size = 66 }

-- `with_lf`: a text of one line, which is read as the line that is held is
pub record Joins (h : Held) (r : Joined) : Type 0 where
  pub within : r.size ≤ length r.text
  pub ends : end_at (take r.size r.text) 0 + 1 ≡ length (take r.size r.text)
  pub line : line_of (line_in (gather_of none_held (take r.size r.text) 0 (length (take r.size r.text))).held) ≡ line_of (line_in h)

-- `run`
pub record FedBy (rows : Bool) (s : Session) (piece out : List ℕ) (r : Fed Session) (out' : List ℕ) : Type 0 where
  pub taken : r.taken ≡ taken_by rows (length out) (feed_of s) 0 piece
  pub session : feed_of r.session ≡ feed_end play (shown_by rows) (feed_of s) (take r.taken piece)
  pub wrote : Wrote out (out_of play (shown_by rows) (feed_of s) (take r.taken piece)) r.written out'
