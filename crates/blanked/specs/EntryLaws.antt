-- The row of a line, and the number of a replay's entries. The rows of all lines are in proofs/EntryLaws.antt.
use Rattle.std.specs.Prelude.{ℕ, suc, ◌+◌, ◌≡◌, List, [], ◌∷◌, ◌++◌, length, Option, Some, None}
use Rattle.std.proofs.Math.Path.{refl}
use Rattle.std.proofs.Common.{ap, arith}
use Rattle.rules.specs.Flags.{lines_of as irq_of}
use Rattle.rules.specs.Steps.{Step}
use Rattle.controller.specs.declared.Controller.{Controller}
use Rattle.lines.specs.declared.FrameBytes.{FrameBytes}
use Rattle.controller.specs.Session.{Report, report_of, step_of, run_by, run_of}
use Rattle.pieces.specs.Lines.{Line}
use Rattle.replaying.specs.declared.Player.{Player}
use Rattle.replaying.specs.Replay.{step_in, played_by, step_row, row_by}
use Rattle.blanked.specs.Entries.{step_beside, steps_at, only_steps, weave, entries_from, entry_row, rows_from}
use Rattle.controller.specs.declared.Call.{Call}

abbrev pub steps_of : List Line → List Step
steps_of ls = only_steps (steps_at ls)

-- ---- a row

pub run-cons : (c : Controller) (e : Step) (es : List Step) → run_of c (e ∷ es) ≡ report_of irq_of (step_of c e) ∷ run_of (step_of c e).next es
unfolding run_of run_by step_of
run-cons c e es = refl

-- the row of a line, and the rows of those behind it
pub row-entry : (p : Player) (n : ℕ) (k : Option Call) (f : FrameBytes) (os : List (Option Step)) →
    row_by p n k f ++ rows_from (n + 1) (entries_from (played_by p k f).controller os) ≡ rows_from n (entries_from p.controller (step_beside k f ∷ os))
unfolding row_by played_by step_beside rows_from entry_row step_row
row-entry p n (Some call) f os = rw (run-cons p.controller (step_in call f) (only_steps os))
row-entry p n None f os = refl

-- ---- an entry for each line

pub weave-length : (irq : ℕ) (os : List (Option Step)) (rs : List Report) → length rs ≡ length (only_steps os) → length (weave irq os rs) ≡ length os
weave-length irq [] rs e = refl
weave-length irq (None ∷ os) rs e = ap suc (weave-length irq os rs e)
weave-length irq (Some s ∷ os) [] e = absurd (omega arith)
weave-length irq (Some s ∷ os) (r ∷ rs) e = ap suc (weave-length r.lines os rs (omega arith))
