use Rattle.std.proofs.Common.{◌≡◌, length, rules}
use Prim.Native.Nat.{ℕ, ◌<◌}
use mathlib.Core.Path.{sym, ap, subst, ◌∙◌}
use native.Mathlib.Omega.{arith}
use Rattle.controller.specs.Carry.{row_at}
use Rattle.controller.specs.Code.{changed}
use Rattle.controller.proofs.RegisterLaws.{newest-below, low-changes, control-reached}
use Rattle.controller.proofs.Controller.write.Goals as goal

pub returns-then-a-lt80 : goal.returns-then-a-lt80
returns-then-a-lt80 c =
    let self = c.args.self in
    let sixteen : length self.rows ≡ 16 = search rules in
    c.carried.ensures ∙ ap (changed self) c.write_change.ensures
    ∙ low-changes self sixteen c.args.a c.args.v c.if-a-lt80.true _
    (ap (row_at self.rows) c.window_row-i.ensures)

-- the place is one of the two
pub offset_bounds-self-k : goal.offset_bounds-self-k
offset_bounds-self-k c =
    let two = subst (λ (k : ℕ). k < 2) (sym c.newest_place-k.ensures) (newest-below _ _) in
    omega arith

pub bounds-self-k : goal.bounds-self-k
bounds-self-k c =
    let two = subst (λ (k : ℕ). k < 2) (sym c.newest_place-k.ensures) (newest-below _ _) in
    omega arith

pub returns : goal.returns
returns c =
    let self = c.args.self in
    let sixteen : length self.rows ≡ 16 = search rules in
    c.carried-2.ensures ∙ ap (changed self) c.write_change-2.ensures
    ∙ control-reached self sixteen c.args.a c.args.v c.if-a-lt80.false _
    (ap (row_at self.held) c.newest_place-k.ensures)
