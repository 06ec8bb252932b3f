use Rattle.std.proofs.Common.{refl, ap, ◌∙◌, arith}
use Rattle.rules.specs.declared.Control.{Control}
use Rattle.rules.specs.Registers.{register_at}
use Rattle.rules.specs.Steps.{write}
use Rattle.controller.specs.declared.Controller.{Controller}
use Rattle.controller.specs.Carry.{row_at}
use Rattle.controller.specs.Code.{changed, window_row, write_change}
use Rattle.controller.proofs.RegisterLaws.{low-changes}
use Rattle.in_place.proofs.Ends.{carried}
use Rattle.in_place.proofs.write.Goals as goal

pub returns-then-a-lt32 : goal.returns-then-a-lt32
returns-then-a-lt32 c =
    let self = c.args.c.now in
    let own = ap (λ (d : Controller). d.control) c.whole-d.ensures.same in
    carried self (write c.args.a c.args.v) _ _ _ c.carry.ensures.next c.carry.ensures.answered
    (ap (changed self) (c.low_change-x.ensures (row_at self.rows (window_row self.control (register_at c.args.a))) c.if-a-lt32.true ∙ ap (λ (d : Control). write_change d c.args.a c.args.v (row_at self.rows (window_row self.control (register_at c.args.a)))) own)
    ∙ low-changes self c.whole-d.ensures.rows c.args.a c.args.v (omega arith) _ refl)
