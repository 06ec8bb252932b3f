-- What the replay in pieces promises: a session in terms of the text that was fed to it, and what its rows leave in a room. Then
-- calls one after the other (`FeedRuns`).
use Rattle.std.specs.Prelude.{ℕ, ◌≤◌, ◌<◌, ◌≡◌, List, [], ◌++◌, length, take, drop, leb, eqb}
use Rattle.masks.specs.Pick.{pick}
use Rattle.report.specs.Text.{Wrote, fitting}
use Rattle.pieces.specs.Feed.{Feed, end_line, feed_end, out_of, taken_of, last_of}
use Rattle.replaying.specs.declared.Player.{Player}
use Rattle.replaying.specs.declared.Session.{Session}
use Rattle.pieces.specs.declared.Fed.{Fed}
use Rattle.pieces.specs.declared.Finished.{Finished}
use Rattle.replaying.specs.Replay.{play, show_row}

-- what is kept between two bytes of the text
abbrev pub feed_of : Session → Feed Player
feed_of s = record { state = s.player; held = s.held; number = s.number }

-- the session that keeps that
unfoldable pub session_of : Feed Player → Session
session_of f = record { player = f.state; held = f.held; number = f.number }

-- `feed`: a byte of the piece is taken while 64 bytes of room are left behind the rows, and the rows of the lines that end in those bytes
-- stand at the start of the room
pub record Feeds (s : Session) (piece out : List ℕ) (r : Fed Session) (out' : List ℕ) : Type 0 where
  pub taken : r.taken ≡ taken_of play show_row 64 (length out) (feed_of s) 0 piece
  pub session : feed_of r.session ≡ feed_end play show_row (feed_of s) (take r.taken piece)
  pub wrote : Wrote out (out_of play show_row (feed_of s) (take r.taken piece)) r.written out'

-- the session after the last line; an empty one does not count, and without room for its row nothing happens
unfoldable pub finished_of : Session → List ℕ → Feed Player
finished_of s out =
    pick (leb 64 (length out)) (pick (eqb s.held.len 0) (feed_of s) (end_line play show_row (feed_of s))) (feed_of s)

-- `finish`
pub record Finishes (s : Session) (out : List ℕ) (r : Finished Session) (out' : List ℕ) : Type 0 where
  pub session : feed_of r.session ≡ finished_of s out
  pub wrote : Wrote out (fitting out 0 (last_of play show_row (feed_of s))) r.written out'

-- `count`: all of the piece is fed
abbrev pub counted_by : Session → List ℕ → Feed Player
counted_by s piece = feed_end play show_row (feed_of s) piece

-- `count_last`
unfoldable pub last_counted : Session → Feed Player
last_counted s = pick (eqb s.held.len 0) (feed_of s) (end_line play show_row (feed_of s))

-- FeedRuns s text shown: with text left to feed, the calls from the session s on showed the bytes shown. Each call returned r and
-- left its room as out', as its function promises; the next one was given r's session, and the first r .written bytes of out'
-- were read.
pub data FeedRuns : Session → List ℕ → List ℕ → Type 0 where
  -- `feed` of a piece of what is left: what it did not take, which is all of it where the room is too small, is left still
  feeds : {s : Session} {shown : List ℕ} (piece later out : List ℕ) (r : Fed Session) (out' : List ℕ) → Feeds s piece out r out' →
      FeedRuns r.session (drop r.taken piece ++ later) shown → FeedRuns s (piece ++ later) (take r.written out' ++ shown)
  -- `finish` without room for a row, at any time
  waits : {s : Session} {text shown : List ℕ} (out : List ℕ) (r : Finished Session) (out' : List ℕ) → Finishes s out r out' → length out < 64 →
      FeedRuns r.session text shown → FeedRuns s text (take r.written out' ++ shown)
  -- `finish` with room, once all is taken
  ends : {s : Session} (out : List ℕ) (r : Finished Session) (out' : List ℕ) → Finishes s out r out' → 64 ≤ length out → FeedRuns s [] (take r.written out')
