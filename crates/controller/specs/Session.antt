-- A session: a list of steps from a record, each given the record that the last one returned, and a report for each. It
-- is stated for any rules, and then for document 01's.
use Rattle.std.specs.Prelude.{ℕ, Bool, List, [], ◌∷◌, map, ◌≡◌}
use Rattle.masks.specs.Pick.{pick}
use Rattle.contents.specs.Payload.{zeros, hide_data, seen_part}
use Rattle.rules.specs.declared.Control.{Control}
use Rattle.controller.specs.declared.Controller.{Controller}
use Rattle.rules.specs.Steps.{Step, reads_data, hide}
use Rattle.rules.specs.Plan.{Rules}
use Rattle.rules.specs.Flags.{lines_of}
use Rattle.rules.specs.Rules.{decide}
use Rattle.controller.specs.Carry.{Outcome, carry, heads}
use Rattle.rules.specs.Answers.{word_of, Given, dash, value, buffer, counted, kind, number, Detail, given, bytes, detail_of}

-- What a step reports: the replay text's answer and detail, beside a sent frame's bytes their count, the content of the lent
-- room, the five lines after the step, and how many dedicated receive buffers were examined.
pub record Report : Type 0 where
  pub word : ℕ
  pub detail : Detail
  pub room : List ℕ
  pub lines : ℕ
  pub looked : ℕ

abbrev pub report_of : (Control → ℕ) → Outcome → Report
report_of lines o =
    record {
      word = word_of o.answer;
      detail = detail_of o.answer o.sent;
      room = o.room;
      lines = lines o.next.control;
      looked = o.looked;
    }

-- One step under some rules. They are given the step with its payload put to 0 and the heads of the buffers.
abbrev pub step_by : Rules → Controller → Step → Outcome
step_by decide c e = carry e c.rows c.held (decide c.control (heads c.rows) (hide e))

module _ (decide : Rules) (lines : Control → ℕ) where
  -- the reports of a session that starts with the record c
  unfoldable pub run_by : Controller → List Step → List Report
  run_by c [] = []
  run_by c (e ∷ es) = report_of lines (step_by decide c e) ∷ run_by (step_by decide c e).next es

-- the record after it
unfoldable pub end_by : Rules → Controller → List Step → Controller
end_by decide c [] = c
end_by decide c (e ∷ es) = end_by decide (step_by decide c e).next es

-- ---- document 01's rules

-- one step of a controller
unfoldable pub step_of : Controller → Step → Outcome
step_of = step_by decide

-- a session's reports, from the record c on, and the record after it
unfoldable pub run_of : Controller → List Step → List Report
run_of = run_by decide lines_of

unfoldable pub end_of : Controller → List Step → Controller
end_of = end_by decide

-- "Two sessions are alike if their steps are the same in the same order, with equal arguments except" what `hide` puts
-- to 0; "slices and rooms are equally long", which `hide` leaves.
abbrev pub Alike : List Step → List Step → Type 0
Alike xs ys = map hide xs ≡ map hide ys

-- ---- what alike sessions agree on: "except a value read from a data register and a sent frame's bytes from byte 2 on"

-- the detail with those put to 0; the test says that a data register was read
abbrev pub seen_given : Bool → Given → Given
seen_given d dash = dash
seen_given d (value v) = value (pick d 0 v)
seen_given d (buffer n) = buffer n
seen_given d (counted k) = counted k
seen_given d (kind k) = kind k
seen_given d (number r) = number r

abbrev pub seen_detail : Bool → Detail → Detail
seen_detail d (given g) = given (seen_given d g)
seen_detail d (bytes k f) = bytes k (hide_data f)

-- the room with all but a sent frame's identifier and length put to 0
abbrev pub seen_room : Detail → List ℕ → List ℕ
seen_room (given g) room = zeros room
seen_room (bytes k f) room = seen_part f room

abbrev pub seen : Step → Report → Report
seen e r =
    record {
      word = r.word;
      detail = seen_detail (reads_data e) r.detail;
      room = seen_room r.detail r.room;
      lines = r.lines;
      looked = r.looked;
    }

abbrev pub seen_all : List Step → List Report → List Report
seen_all [] rs = []
seen_all (e ∷ es) [] = []
seen_all (e ∷ es) (r ∷ rs) = seen e r ∷ seen_all es rs
