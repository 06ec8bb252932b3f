use mathlib.Core.Path.{ap, sym, ◌∙◌}
use Rattle.masks.specs.Bits.{put_bit}
use Rattle.masks.specs.Laws.{put-with, put-without}
use Rattle.masks.proofs.put.Goals as goal

pub returns-then-t : goal.returns-then-t
returns-then-t c =
    let m = c.args.m in
    let n = c.args.n in
    c.with.ensures ∙ put-with m n ∙ ap (put_bit m n) (sym c.if-t.true)

pub returns-else-t : goal.returns-else-t
returns-else-t c =
    let m = c.args.m in
    let n = c.args.n in
    c.without.ensures ∙ put-without m n ∙ ap (put_bit m n) (sym c.if-t.false)
