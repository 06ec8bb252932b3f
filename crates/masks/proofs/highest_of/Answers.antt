use Prim.Native.Nat.{ℕ}
use mathlib.Core.Path.{sym, ap, ◌∙◌}
use native.Mathlib.Omega.{arith}
use Rattle.masks.specs.Bits.{bit_of, highest}
use Rattle.masks.proofs.Zeros.{leading-highest, zero-highest}
use Rattle.masks.proofs.highest_of.Goals as goal

pub overflow_sub-result : goal.overflow_sub-result
overflow_sub-result c = omega (arith, leading-highest 16 c.args.m c.if-m-eq0.false c.ranges.m.fits)

pub returns-then-m-eq0 : goal.returns-then-m-eq0
returns-then-m-eq0 c = sym (ap (λ (m : ℕ). highest (bit_of m) 16) c.if-m-eq0.true ∙ zero-highest 16)

pub returns-else-m-eq0 : goal.returns-else-m-eq0
returns-else-m-eq0 c = omega (arith, leading-highest 16 c.args.m c.if-m-eq0.false c.ranges.m.fits)
