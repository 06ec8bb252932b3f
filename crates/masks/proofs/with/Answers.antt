use lib.Dec.{eqb}
use Rattle.masks.specs.Bits.{bit_of}
use Rattle.masks.specs.Laws.{own, or-by}
use Rattle.masks.proofs.with.Goals as goal

pub returns : goal.returns
returns c =
    let m = c.args.m in
    let n = c.args.n in
    or-by m c.one.result (bit_of m) (λ k. eqb k n) (own m c.ranges.m.fits) c.one.ensures
