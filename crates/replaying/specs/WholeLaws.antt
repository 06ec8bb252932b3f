-- However a recording is cut in pieces, the report is that of its lines.
use Rattle.std.specs.Prelude.{ℕ, ◌<◌, ◌≡◌, Bool, List, ◌++◌, length}
use Rattle.std.proofs.Common.{sym, ap, ◌∙◌}
use Rattle.lines.specs.declared.Parsed.{Parsed}
use Rattle.lines.specs.Grammar.{line_of}
use Rattle.lines.specs.Laws.{over-unread}
use Rattle.report.specs.Text.{heading_of}
use Rattle.pieces.specs.WholeLaws as pieces
use Rattle.pieces.specs.WholeLaws.{joined}
use Rattle.pieces.specs.Feed.{stream_of}
use Rattle.replaying.specs.declared.Player.{Player}
use Rattle.replaying.specs.Replay.{played_by, row_by, play, show_row, fresh_player, start_of, replay_of}

-- all lines above 64 bytes are the same to the replay
pub over-line : (l m : List ℕ) → 64 < length l → 64 < length m → line_of l ≡ line_of m
over-line l m p q = over-unread l p ∙ sym (over-unread m q)

over-play : (s : Player) (n : ℕ) (l m : List ℕ) → 64 < length l → 64 < length m → play s n l ≡ play s n m
unfolding play
over-play s n l m p q = ap (λ (x : Parsed). played_by s x.line x.frame) (over-line l m p q)

over-row : (s : Player) (n : ℕ) (e : Bool) (l m : List ℕ) → 64 < length l → 64 < length m → show_row s n e l ≡ show_row s n e m
unfolding show_row
over-row s n e l m p q = ap (λ (x : Parsed). row_by s n x.line x.frame) (over-line l m p q)

-- the heading, the rows of each piece one behind the other, and the row of the last line
pub replay-pieces : (cs : List (List ℕ)) → heading_of ++ stream_of play show_row start_of cs ≡ replay_of (joined cs)
unfolding replay_of
replay-pieces cs = ap (λ (l : List ℕ). heading_of ++ l) (pieces.any-pieces play show_row over-play over-row fresh_player cs)
