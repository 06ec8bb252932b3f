-- Document 01, 'Demand 3 in full': payload never steers. One claim about whole lists of steps.
use Rattle.std.specs.Prelude.{◌≡◌, ℕ, List, map, length}
use Rattle.std.proofs.Common.{sym, ap, ◌∙◌}
use Rattle.rules.specs.declared.Control.{Control}
use Rattle.controller.specs.declared.Controller.{Controller}
use Rattle.controller.specs.Carry.{reset_state}
use Rattle.rules.specs.Steps.{Step, hide}
use Rattle.rules.specs.Plan.{Rules}
use Rattle.rules.specs.Flags.{lines_of}
use Rattle.controller.specs.Session.{run_by, run_of, seen_all, Alike}
use Rattle.rules.specs.Rules.{decide}
use Rattle.controller.specs.View.{view_of}
use Rattle.controller.specs.ViewLaws.{view_run}
use Rattle.controller.proofs.ViewLaws.{run-view}
use Rattle.controller.specs.RunLaws.{hidden-alike, run-by-length}

module _ (decide : Rules) (lines : Control → ℕ) where
  -- whatever the rules are that see no payload: two alike sessions are seen alike
  pub never-steers : (c : Controller) (xs ys : List Step) → map hide xs ≡ map hide ys → seen_all xs (run_by decide lines c xs) ≡ seen_all ys (run_by decide lines c ys)
  never-steers c xs ys h = run-view decide lines c xs ∙ ap (view_run decide lines (view_of c)) h ∙ sym (run-view decide lines c ys)

-- "Along alike sessions the answers and the five lines after each step agree, except" what `seen_all` puts to 0. Each session's
-- reports, those values included, are `run_of reset_state` of its list alone: one for each step (`run_length`).
pub payload-never-steers : (xs ys : List Step) → Alike xs ys → seen_all xs (run_of reset_state xs) ≡ seen_all ys (run_of reset_state ys)
unfolding run_of
payload-never-steers xs ys h = never-steers decide lines_of reset_state xs ys h

-- a session with its payload put to 0 reports the same, but for what is excepted
pub blanked-reports : (es : List Step) → seen_all (map hide es) (run_of reset_state (map hide es)) ≡ seen_all es (run_of reset_state es)
blanked-reports es = payload-never-steers (map hide es) es (hidden-alike es)

-- a report for each step, so that `seen_all` compares all of them
pub run_length : (c : Controller) (es : List Step) → length (run_of c es) ≡ length es
unfolding run_of
run_length c es = run-by-length c es
