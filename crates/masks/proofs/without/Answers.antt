use mathlib.Core.Bool.{not}
use lib.Dec.{eqb}
use Prim.Native.Nat.{◌-◌}
use Rattle.masks.specs.Bits.{bit_of}
use Rattle.masks.specs.Laws.{own, and-by, not-by-mask}
use Rattle.masks.proofs.without.Goals as goal

pub returns : goal.returns
returns c =
    let m = c.args.m in
    let n = c.args.n in
    let o = c.one.result in
    and-by m (65535 - o) (bit_of m) (λ k. not (eqb k n)) (own m c.ranges.m.fits)
    (not-by-mask o (λ k. eqb k n) c.one.ensures)
