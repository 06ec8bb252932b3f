-- The replay of a text: the heading, then a row for each line that is read, in terms of the steps of document 01. Lines that
-- are no step do nothing but have their row.
use Rattle.std.specs.Prelude.{ℕ, List, ◌++◌, Bool, replicate, eqb, Option, Some, None}
use Rattle.masks.specs.Pick.{pick}
use Rattle.rules.specs.declared.Answer.{Answer}
use Rattle.rules.specs.Answers.{word_of, detail_of, REFUSED}
use Rattle.rules.specs.Flags.{lines_of}
use Rattle.rules.specs.Steps.{Step}
use Rattle.controller.specs.declared.Call.{Call}
use Rattle.lines.specs.declared.FrameBytes.{FrameBytes}
use Rattle.controller.specs.Carry.{Outcome, reset_state}
use Rattle.controller.specs.Session.{step_of}
use Rattle.controller.specs.Calls.{step_for}
use Rattle.lines.specs.Grammar.{bytes_in, line_of}
use Rattle.report.specs.Text.{row_of, unread_row, heading_of}
use Rattle.pieces.specs.Feed.{Feed, none_held, number_after, whole_of}
use Rattle.replaying.specs.declared.Player.{Player}

-- the step of a line; a slot is lent fourteen bytes
unfoldable pub step_in : Call → FrameBytes → Step
step_in call f = step_for call (bytes_in f) (replicate 14 0)

abbrev pub is_refused : Answer → Bool
is_refused a = eqb (word_of a) REFUSED

-- what a line makes of the player: its step, counted where it is refused, or nothing, counted too
unfoldable pub played_by : Player → Option Call → FrameBytes → Player
played_by p (Some call) f =
    record {
      controller = (step_of p.controller (step_in call f)).next;
      tally = record {
        unread = p.tally.unread;
        refused = pick (is_refused (step_of p.controller (step_in call f)).answer) (number_after p.tally.refused) p.tally.refused;
      };
    }
played_by p None f = record { controller = p.controller; tally = record { unread = number_after p.tally.unread; refused = p.tally.refused } }

-- the row of a step
unfoldable pub step_row : ℕ → Outcome → List ℕ
step_row n o = row_of n (word_of o.answer) (detail_of o.answer o.sent) (lines_of o.next.control) o.looked

-- the row of a line
unfoldable pub row_by : Player → ℕ → Option Call → FrameBytes → List ℕ
row_by p n (Some call) f = step_row n (step_of p.controller (step_in call f))
row_by p n None f = unread_row n (lines_of p.controller.control)

unfoldable pub play : Player → ℕ → List ℕ → Player
play p n l = played_by p (line_of l).line (line_of l).frame

unfoldable pub show_row : Player → ℕ → Bool → List ℕ → List ℕ
show_row p n ended l = row_by p n (line_of l).line (line_of l).frame

-- the player before the first line
abbrev pub fresh_player : Player
fresh_player = record { controller = reset_state; tally = record { unread = 0; refused = 0 } }

abbrev pub start_of : Feed Player
start_of = record { state = fresh_player; held = none_held; number = 1 }

-- the whole report of a recording
unfoldable pub replay_of : List ℕ → List ℕ
replay_of t = heading_of ++ whole_of play show_row fresh_player t
