-- Document 01, 'Demand 3 in full', carried to recordings: when two are alike, and what of their reports is compared.
use Rattle.std.specs.Prelude.{ℕ, ◌≡◌, Bool, List, [], ◌∷◌, ◌++◌, map, Option, Some, None}
use Rattle.rules.specs.Steps.{Step, hide}
use Rattle.report.specs.Text.{heading_of}
use Rattle.blanked.specs.Entries.{read_lines, step_at, steps_at, Entry, stepped, unread, entries_of, rows_from}
use Rattle.controller.specs.Session.{seen}
use Rattle.pieces.specs.Lines.{Line}

-- what is public of a line's step: the step with the payload put to 0, or that it is unread
abbrev pub hide_step : Option Step → Option Step
hide_step None = None
hide_step (Some e) = Some (hide e)

-- what is public of a line: its step with the payload put to 0 or that it is unread, and whether an LF ended it
pub record Public : Type 0 where
  pub step : Option Step
  pub ended : Bool

abbrev pub public_of : Line → Public
public_of l = record { step = hide_step (step_at l); ended = l.ended }

-- recordings with the same public lines: their sessions are alike, and the same lines are unread
abbrev pub AlikeText : List ℕ → List ℕ → Type 0
AlikeText t u = map public_of (read_lines t) ≡ map public_of (read_lines u)

-- ---- what their reports agree on: all "except a value read from a data register and a sent frame's bytes from byte 2 on"

-- an entry with those put to 0, by the line's step
abbrev pub seen_entry : Option Step → Entry → Entry
seen_entry None x = x
seen_entry (Some e) (stepped r) = stepped (seen e r)
seen_entry (Some e) (unread irq) = unread irq

abbrev pub seen_beside : List (Option Step) → List Entry → List Entry
seen_beside [] xs = []
seen_beside (o ∷ os) [] = []
seen_beside (o ∷ os) (x ∷ xs) = seen_entry o x ∷ seen_beside os xs

-- the entries of lines so; there is one for each line (`entries-length`)
unfoldable pub seen_entries : List Line → List Entry → List Entry
seen_entries ls xs = seen_beside (steps_at ls) xs

-- the report with the digits of those put to 00; with their own digits it is the report itself (`replay-entries`)
unfoldable pub seen_report : List ℕ → List ℕ
seen_report t = heading_of ++ rows_from 1 (seen_entries (read_lines t) (entries_of (read_lines t)))
