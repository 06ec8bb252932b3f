-- The rows of a replay, line by line, are those of its entries.
use Rattle.std.specs.Prelude.{ℕ, ◌+◌, ◌≡◌, List, [], ◌∷◌, ◌++◌}
use Rattle.std.proofs.Math.Path.{refl}
use Rattle.std.proofs.Common.{ap, ◌∙◌}
use Rattle.lines.specs.Grammar.{line_of}
use Rattle.pieces.specs.Lines.{Line}
use Rattle.pieces.specs.Feed.{run_from}
use Rattle.replaying.specs.declared.Player.{Player}
use Rattle.replaying.specs.Replay.{row_by, play, show_row}
use Rattle.blanked.specs.Entries.{read_step, steps_at, entries_from, rows_from}
use Rattle.blanked.specs.EntryLaws.{row-entry}

pub replay-rows : (p : Player) (n : ℕ) (ls : List Line) → run_from play show_row p n ls ≡ rows_from n (entries_from p.controller (steps_at ls))
unfolding run_from play show_row read_step
replay-rows p n [] = unfold rows_from in refl
replay-rows p n (l ∷ ls) =
    ap (λ (x : List ℕ). row_by p n (line_of l.text).line (line_of l.text).frame ++ x) (replay-rows (play p n l.text) (n + 1) ls)
    ∙ row-entry p n (line_of l.text).line (line_of l.text).frame (steps_at ls)
