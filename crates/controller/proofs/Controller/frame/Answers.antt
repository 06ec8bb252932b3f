use Rattle.std.proofs.Common.{◌≡◌, length, rules}
use mathlib.Core.Path.{ap, ◌∙◌}
use Rattle.controller.specs.Code.{changed}
use Rattle.controller.proofs.CodeLaws.{frame-changes}
use Rattle.controller.proofs.Controller.frame.Goals as goal

pub returns : goal.returns
returns c =
    let self = c.args.self in
    let sixteen : length self.rows ≡ 16 = search rules in
    c.carried.ensures ∙ ap (changed self) c.frame_change.ensures
    ∙ frame-changes self sixteen c.args.good c.args.f.now _ c.frame_ruling-r.ensures
