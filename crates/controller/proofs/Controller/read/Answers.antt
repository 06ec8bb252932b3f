use Rattle.std.proofs.Common.{◌≡◌, length, rules}
use mathlib.Core.Path.{ap, ◌∙◌}
use Rattle.controller.specs.Carry.{row_at}
use Rattle.controller.specs.Code.{staying}
use Rattle.controller.proofs.AccessLaws.{read-answers}
use Rattle.controller.proofs.Controller.read.Goals as goal

pub returns : goal.returns
returns c =
    let self = c.args.self in
    let sixteen : length self.rows ≡ 16 = search rules in
    ap (staying self) c.read_answer.ensures ∙ read-answers self sixteen c.args.a _ (ap (row_at self.rows) c.window_row-i.ensures)
