-- The public view of a controller goes from step to step by itself, whatever the rules are, and what is seen of a report follows
-- from it.
use Rattle.std.specs.Prelude.{◌≡◌, ℕ}
use Rattle.std.proofs.Math.Path.{refl}
use Rattle.std.proofs.Common.{ap, ◌∙◌}
use mathlib.Core.List.{List, [], ◌∷◌, map}
use Rattle.contents.specs.declared.Contents.{Contents}
use Rattle.rules.specs.declared.Control.{Control}
use Rattle.controller.specs.declared.Controller.{Controller}
use Rattle.rules.specs.Steps.{Step, frame_in, hide}
use Rattle.rules.specs.Plan.{Move, Rules}
use Rattle.controller.specs.Carry.{heads, move, move_all, hold_by, hold_all, carry}
use Rattle.controller.specs.Session.{report_of, step_by, run_by, seen, seen_all}
use Rattle.controller.specs.View.{view_of}
use Rattle.controller.specs.ViewLaws.{head_moves, head_holds, heads-move, heads-hold, report-by, view_next, view_report, view_run}

-- ---- the heads after a move

heads-moves : (e : Step) (held : List Contents) (ms : List Move) (rows : List Contents) →
    heads (move_all e held ms rows) ≡ head_moves (frame_in (hide e)) (heads held) ms (heads rows)
unfolding head_moves move_all
heads-moves e held [] rows = refl
heads-moves e held (m ∷ ms) rows = heads-moves e held ms (move e held m rows) ∙ ap (head_moves (frame_in (hide e)) (heads held) ms) (heads-move e held m rows)

heads-holds : (e : Step) (ms : List Move) (held : List Contents) → heads (hold_all e ms held) ≡ head_holds (frame_in (hide e)) ms (heads held)
unfolding head_holds hold_all
heads-holds e [] held = refl
heads-holds e (m ∷ ms) held = heads-holds e ms (hold_by e m held) ∙ ap (head_holds (frame_in (hide e)) ms) (heads-hold e m held)

-- ---- the view, step by step

module _ (decide : Rules) where
  pub step-view : (c : Controller) (e : Step) → view_of (step_by decide c e).next ≡ view_next decide (view_of c) (hide e)
  unfolding view_next carry
  step-view c e = simp (heads-moves, heads-holds)

module _ (decide : Rules) (lines : Control → ℕ) where
  report-view : (c : Controller) (e : Step) → seen e (report_of lines (step_by decide c e)) ≡ view_report decide lines (view_of c) (hide e)
  unfolding view_report
  report-view c e =
      let p = decide c.control (heads c.rows) (hide e) in
      report-by lines e c.rows c.held p.control p.moves p.reply p.looked

  pub run-view : (c : Controller) (es : List Step) → seen_all es (run_by decide lines c es) ≡ view_run decide lines (view_of c) (map hide es)
  unfolding view_run run_by
  run-view c [] = refl
  run-view c (e ∷ es) = simp (report-view, run-view (step_by decide c e).next es, step-view)
