-- The replay, of what runs. A caller feeds a recording in any pieces, lends each call any room, and puts together the bytes
-- that the calls wrote: they are the recording's report. What `begin`, `start`, `feed` and `finish` promise is all that is
-- assumed of them.
use Rattle.std.specs.Prelude.{ℕ, ◌≤◌, ◌≡◌, List, [], ◌∷◌, ◌++◌, length, take}
use Rattle.std.proofs.Common.{ap, ap₂, ◌∙◌, append-nil}
use Rattle.report.specs.Text.{Wrote, fitting, heading_of}
use Rattle.report.specs.Laws.{fits, text-written}
use Rattle.pieces.specs.Feed.{Feed, fed_whole}
use Rattle.replaying.specs.declared.Player.{Player}
use Rattle.replaying.specs.declared.Session.{Session}
use Rattle.replaying.specs.Replay.{play, show_row, start_of, replay_of}
use Rattle.replaying.specs.Session.{feed_of, FeedRuns}
use Rattle.replaying.specs.WholeLaws.{replay-pieces}
use Rattle.replaying.specs.RunLaws.{runs-whole, whole_run}

-- every text has its run from every session
pub runs-exist : (s : Session) (text : List ℕ) → FeedRuns s text (fed_whole play show_row (feed_of s) text)
runs-exist s text = whole_run s text

-- `begin` with room for the heading, then calls from the session of `start`: whatever the pieces and the rooms, the bytes are
-- the report of the whole recording
pub runs-replay : (s : Session) (text shown out : List ℕ) (n : ℕ) (out' : List ℕ) → Wrote out (fitting out 0 heading_of) n out' → 64 ≤ length out →
    feed_of s ≡ start_of → FeedRuns s text shown → take n out' ++ shown ≡ replay_of text
runs-replay s text shown out n out' w h e runs =
    ap₂ (λ (x y : List ℕ). x ++ y) (text-written w ∙ fits out 0 heading_of h)
    (runs-whole s text shown runs ∙ ap (λ (f : Feed Player). fed_whole play show_row f text) e)
    ∙ replay-pieces (text ∷ []) ∙ ap replay_of (append-nil text)
