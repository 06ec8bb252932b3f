-- Where a step's answer says so, the five lines are as they were, from any state.
use Rattle.std.specs.Prelude.{◌≡◌, refl, true, List}
use Rattle.std.proofs.Common.{◌∙◌}
use Rattle.contents.specs.declared.Contents.{Contents}
use Rattle.rules.specs.Flags.{lines_of}
use Rattle.rules.specs.Steps.{Step, hide}
use Rattle.rules.specs.Plan.{Reply, say, show, send}
use Rattle.rules.specs.Rules.{decide}
use Rattle.rules.specs.KeptLinesLaws.{keeps_lines, keeps_by}
use Rattle.rules.proofs.KeptLinesLaws.{decide-keeps}
use Rattle.controller.specs.declared.Controller.{Controller}
use Rattle.controller.specs.Carry.{heads, answer_of, carry}
use Rattle.controller.specs.Session.{step_of}

answer_keeps : (e : Step) (rows : List Contents) (r : Reply) → keeps_by r ≡ keeps_lines (answer_of e rows r)
unfolding keeps_lines
answer_keeps e rows (say a) = refl
answer_keeps e rows (show n j) = refl
answer_keeps e rows (send n) = refl

pub lines-kept : (c : Controller) (e : Step) → keeps_lines (step_of c e).answer ≡ true → lines_of (step_of c e).next.control ≡ lines_of c.control
unfolding step_of carry
lines-kept c e t =
    let hs = heads c.rows in
    decide-keeps c.control hs (hide e) (answer_keeps e c.rows (decide c.control hs (hide e)).reply ∙ t)
