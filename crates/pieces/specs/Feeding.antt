-- What a session that is fed a text piece by piece promises, whatever it writes of the text.
use Rattle.std.specs.Prelude.{ℕ, ◌≤◌, ◌<◌, ◌≡◌, List, [], ◌++◌, Bool, length, take, drop, eqb}
use Rattle.pieces.specs.declared.Fed.{Fed}
use Rattle.pieces.specs.declared.Finished.{Finished}
use Rattle.masks.specs.Pick.{pick}
use Rattle.pieces.specs.Feed.{Feed, end_line, feed_end, fed_whole}

-- whole: what is written for a text that is fed to a session, its last line included; after: the session after that
module _ {S : Type 0} (whole : S → List ℕ → List ℕ) (after : S → List ℕ → S) where
  -- `feed`: what stands at the start of the room, and then what is written for the rest, is what is written for the piece fed whole, and
  -- the session is on its way to the same; with 128 bytes of room something is taken
  pub record Eats (s : S) (piece : List ℕ) (out : List ℕ) (r : Fed S) (out' : List ℕ) : Type 0 where
    pub taken : r.taken ≤ length piece
    pub onward : 128 ≤ length out → 0 < length piece → 0 < r.taken
    pub within : r.written ≤ length out'
    pub shown : (later : List ℕ) → take r.written out' ++ whole r.session (drop r.taken piece ++ later) ≡ whole s (piece ++ later)
    pub session : (later : List ℕ) → after r.session (drop r.taken piece ++ later) ≡ after s (piece ++ later)

  -- `finish`: with 128 bytes of room the last line stands at its start
  pub record Ends (s : S) (out : List ℕ) (r : Finished S) (out' : List ℕ) : Type 0 where
    pub within : r.written ≤ length out'
    pub shown : 128 ≤ length out → take r.written out' ≡ whole s []
    pub session : 128 ≤ length out → r.session ≡ after s []

-- ---- a session that feeds byte by byte, with what a line makes of its state and what is written for it
module _ {T : Type 0} (act : T → ℕ → List ℕ → T) (show : T → ℕ → Bool → List ℕ → List ℕ) where
  -- what a last line that is not ended makes of it; an empty one doesn't count
  abbrev pub last_end : Feed T → Feed T
  last_end f = pick (eqb f.held.len 0) f (end_line act show f)

  -- feed_of: what the session keeps between two bytes; session_of: the session that keeps that
  module _ {S : Type 0} (feed_of : S → Feed T) where
    -- what is written for a text that is fed to it
    abbrev pub whole_by : S → List ℕ → List ℕ
    whole_by s text = fed_whole act show (feed_of s) text

    -- the session after the text
    abbrev pub after_by : (Feed T → S) → S → List ℕ → S
    after_by session_of s text = session_of (last_end (feed_end act show (feed_of s) text))
