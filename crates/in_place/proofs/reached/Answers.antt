use Rattle.std.proofs.Common.{◌≡◌, ◌<◌, ℕ, length, sym, ap, subst, ◌∙◌, arith, rules}
use Rattle.rules.specs.Steps.{write}
use Rattle.controller.specs.Carry.{row_at}
use Rattle.controller.specs.Code.{changed}
use Rattle.controller.proofs.RegisterLaws.{newest-below, low-changes, control-changes}
use Rattle.in_place.proofs.Ends.{carried}
use Rattle.in_place.proofs.reached.Goals as goal

-- the place is one of the two
pub offset_bounds-c-k : goal.offset_bounds-c-k
offset_bounds-c-k c =
    let two = subst (λ (k : ℕ). k < 2) (sym c.newest_place-k.ensures) (newest-below _ _) in
    omega arith

pub bounds-c-k : goal.bounds-c-k
bounds-c-k c =
    let two = subst (λ (k : ℕ). k < 2) (sym c.newest_place-k.ensures) (newest-below _ _) in
    omega arith

pub returns-then-a-lt80 : goal.returns-then-a-lt80
returns-then-a-lt80 c = λ l.
    let self = c.args.c.now in
    let sixteen : length self.rows ≡ 16 = search rules in
    carried self (write c.args.a c.args.v) _ _ _ c.carry.ensures.next c.carry.ensures.answered
    (ap (changed self) (c.window_change-x.ensures l c.if-a-lt80.true)
    ∙ low-changes self sixteen c.args.a c.args.v c.if-a-lt80.true _ (ap (row_at self.rows) c.window_row-i.ensures))

pub returns-else-a-lt80 : goal.returns-else-a-lt80
returns-else-a-lt80 c = λ l.
    let self = c.args.c.now in
    let sixteen : length self.rows ≡ 16 = search rules in
    carried self (write c.args.a c.args.v) _ _ _ c.carry-else-a-lt80.ensures.next c.carry-else-a-lt80.ensures.answered
    (ap (changed self) c.control_change-x.ensures
    ∙ control-changes self sixteen c.args.a c.args.v c.if-a-lt80.false _ (ap (row_at self.held) c.newest_place-k.ensures))
