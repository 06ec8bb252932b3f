use Prim.Native.Nat.{◌≤◌}
use mathlib.Core.Bool.{◌||◌}
use mathlib.Core.Path.{◌≡◌, ap₂, sym, ◌∙◌}
use native.Mathlib.Omega.{arith}
use borrow.Author.Tests.{ne_eqb}
use Rattle.masks.specs.Bits.{mask_of}
use Rattle.masks.specs.Laws.{bit-none, mask-of, or-by}
use Rattle.locks.specs.declared.Locks.{Locks}
use Rattle.locks.specs.Pair.{in_pair}
use Rattle.locks.proofs.Locks.locked_mask.Goals as goal

-- no buffer is in a pair of numbers from 16 on
none-locked : (l : Locks) → 16 ≤ l.holder → 16 ≤ l.contender → 0 ≡ mask_of (in_pair l)
unfolding in_pair
none-locked l h k =
    mask-of 0 (in_pair l) (omega arith)
    (λ n b. bit-none n ∙ sym (ap₂ ◌||◌ (ne_eqb n l.holder (λ e. omega arith)) (ne_eqb n l.contender (λ e. omega arith))))

pub returns-then-self-ge-NONE-2 : goal.returns-then-self-ge-NONE-2
returns-then-self-ge-NONE-2 c =
    let l = c.args.self in
    none-locked l c.if-self-ge-NONE.true c.if-self-ge-NONE-2.true

pub returns : goal.returns
unfolding in_pair
returns c = or-by _ _ _ _ c.one.ensures c.one-2.ensures
