-- The reports of recordings: a replay is its entries' rows, and alike recordings report alike: document 01, 'Demand 3 in full',
-- carried to recordings.
use Rattle.std.specs.Prelude.{ℕ, ◌≡◌, List, ◌++◌, map, take, length}
use Rattle.std.proofs.Common.{ap, ◌∙◌, sym}
use Rattle.std.proofs.lemmas.List.{length-map}
use Rattle.controller.specs.Carry.{reset_state}
use Rattle.controller.proofs.Demand3.{run_length}
use Rattle.report.specs.Text.{heading_of}
use Rattle.pieces.specs.Lines.{Line, text_lines}
use Rattle.pieces.specs.Feed.{whole_of}
use Rattle.replaying.specs.Replay.{fresh_player, replay_of}
use Rattle.blanked.specs.Entries.{read_lines, step_at, steps_at, Entry, entries_of, rows_from}
use Rattle.blanked.specs.EntryLaws.{steps_of, weave-length}
use Rattle.blanked.proofs.EntryLaws.{replay-rows}
use Rattle.blanked.specs.AlikeLaws.{public-steps}
use Rattle.blanked.proofs.AlikeLaws.{alike-entries}
use Rattle.blanked.specs.Alike.{Public, AlikeText, seen_entries, seen_report}

-- the report of a recording is the heading and the rows of its entries
pub replay-entries : (t : List ℕ) → replay_of t ≡ heading_of ++ rows_from 1 (entries_of (read_lines t))
unfolding replay_of whole_of entries_of read_lines
replay-entries t = ap (λ (x : List ℕ). heading_of ++ x) (replay-rows fresh_player 1 (take 999999 (text_lines t)))

-- an entry for each line
pub entries-length : (ls : List Line) → length (entries_of ls) ≡ length ls
unfolding entries_of
entries-length ls = weave-length _ (steps_at ls) _ (run_length reset_state (steps_of ls)) ∙ length-map ls step_at

-- the reports of alike recordings agree, entry for entry
pub alike-replay : (t u : List ℕ) → AlikeText t u →
    seen_entries (read_lines t) (entries_of (read_lines t)) ≡ seen_entries (read_lines u) (entries_of (read_lines u))
unfolding seen_entries entries_of
alike-replay t u h =
    alike-entries (steps_at (read_lines t)) (steps_at (read_lines u))
    (public-steps (read_lines t) ∙ ap (map (λ (p : Public). p.step)) h ∙ sym (public-steps (read_lines u)))

pub alike-report : (t u : List ℕ) → AlikeText t u → seen_report t ≡ seen_report u
unfolding seen_report
alike-report t u h = ap (λ (xs : List Entry). heading_of ++ rows_from 1 xs) (alike-replay t u h)
