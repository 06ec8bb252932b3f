-- A recording's report in terms of one session: the reports of the steps that its lines are, from reset, with an entry for every
-- line that is no step between them.
use Rattle.std.specs.Prelude.{ℕ, ◌+◌, List, [], ◌∷◌, ◌++◌, map, take, Option, Some, None}
use Rattle.rules.specs.Flags.{lines_of as irq_of}
use Rattle.rules.specs.Steps.{Step}
use Rattle.controller.specs.declared.Controller.{Controller}
use Rattle.lines.specs.declared.FrameBytes.{FrameBytes}
use Rattle.controller.specs.Carry.{reset_state}
use Rattle.controller.specs.Session.{Report, run_of}
use Rattle.lines.specs.declared.Parsed.{Parsed}
use Rattle.lines.specs.Grammar.{line_of}
use Rattle.report.specs.Text.{row_of, unread_row}
use Rattle.pieces.specs.Lines.{Line, text_lines}
use Rattle.replaying.specs.Replay.{step_in}
use Rattle.controller.specs.declared.Call.{Call}

-- ---- the steps of a recording

-- the lines that are read: "At most 999,999 lines are read."
unfoldable pub read_lines : List ℕ → List Line
read_lines t = take 999999 (text_lines t)

-- the step that a line is, none where it is unread
unfoldable pub step_beside : Option Call → FrameBytes → Option Step
step_beside (Some call) f = Some (step_in call f)
step_beside None f = None

abbrev pub parsed_step : Parsed → Option Step
parsed_step q = step_beside q.line q.frame

unfoldable pub read_step : List ℕ → Option Step
read_step s = parsed_step (line_of s)

abbrev pub step_at : Line → Option Step
step_at l = read_step l.text

abbrev pub steps_at : List Line → List (Option Step)
steps_at ls = map step_at ls

-- the steps alone
abbrev pub only_steps : List (Option Step) → List Step
only_steps [] = []
only_steps (None ∷ os) = only_steps os
only_steps (Some e ∷ os) = e ∷ only_steps os

-- ---- the entries of its report

pub data Entry : Type 0 where
  -- of a step
  stepped : Report → Entry
  -- of an unread line: the five interrupt lines as they stand
  unread : ℕ → Entry

-- steps take the reports in order, unread lines repeat the last five interrupt lines, irq at first; there is a report for each step
-- (`run_length`)
abbrev pub weave : ℕ → List (Option Step) → List Report → List Entry
weave irq [] rs = []
weave irq (None ∷ os) rs = unread irq ∷ weave irq os rs
weave irq (Some e ∷ os) [] = []
weave irq (Some e ∷ os) (r ∷ rs) = stepped r ∷ weave r.lines os rs

-- from the record c on: the reports of one session
abbrev pub entries_from : Controller → List (Option Step) → List Entry
entries_from c os = weave (irq_of c.control) os (run_of c (only_steps os))

-- the entries of a recording's lines
unfoldable pub entries_of : List Line → List Entry
entries_of ls = entries_from reset_state (steps_at ls)

-- ---- its rows

unfoldable pub entry_row : ℕ → Entry → List ℕ
entry_row n (stepped r) = row_of n r.word r.detail r.lines r.looked
entry_row n (unread irq) = unread_row n irq

-- numbered from n on
unfoldable pub rows_from : ℕ → List Entry → List ℕ
rows_from n [] = []
rows_from n (x ∷ xs) = entry_row n x ++ rows_from (n + 1) xs
