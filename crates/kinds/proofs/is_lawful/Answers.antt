use native.Mathlib.Omega.{arith}
use Rattle.masks.specs.LayoutLaws.{layout-else}
use Rattle.masks.proofs.LawfulLayout.{layout-then}
use Rattle.rules.specs.Kinds.{is_lawful}
use Rattle.kinds.proofs.is_lawful.Goals as goal

pub returns-then-c-below : goal.returns-then-c-below
unfolding is_lawful
returns-then-c-below c =
    let s = c.args.c in
    let low = c.lowest_of-k in
    let b = c.below in
    layout-then s.buffers.cfg low.result b.result (omega arith) low.ensures b.ensures c.if-c-below.true s.config.fsiz

pub returns-else-c-below : goal.returns-else-c-below
unfolding is_lawful
returns-else-c-below c =
    let s = c.args.c in
    let low = c.lowest_of-k in
    let b = c.below in
    layout-else s.buffers.cfg low.result b.result (omega arith) low.ensures b.ensures c.if-c-below.false _
