use Rattle.std.proofs.Common.{ap, ◌∙◌}
use Rattle.rules.specs.Steps.{frame}
use Rattle.controller.specs.declared.Controller.{Controller}
use Rattle.controller.specs.Code.{changed, ruling_for}
use Rattle.controller.proofs.CodeLaws.{frame-changes}
use Rattle.in_place.proofs.Ends.{carried}
use Rattle.in_place.proofs.frame.Goals as goal

pub returns : goal.returns
returns c =
    let self = c.args.c.now in
    let e = frame c.args.good c.args.f.now in
    let ruled = c.frame_ruling-r.ensures ∙ ap (λ (d : Controller). ruling_for d e) c.whole.ensures.same in
    carried self e _ _ _ c.carry.ensures.next c.carry.ensures.answered (ap (changed self) c.frame_change-x.ensures ∙ frame-changes self c.whole.ensures.rows c.args.good c.args.f.now _ ruled)
