use mathlib.Core.Path.{refl}
use native.Mathlib.Omega.{arith}
use native.Mathlib.Nat.{lt_of_le_of_lt}
use lib.Count.{trailing_le}
use lib.Dec.{lit<}
use Rattle.masks.proofs.Zeros.{trailing-lowest}
use Rattle.masks.proofs.lowest_of.Goals as goal

-- the count of any number is at most sixteen
pub overflow_cast-result : goal.overflow_cast-result
overflow_cast-result c = record { fits = lt_of_le_of_lt (trailing_le 16 _) (lit< tt) }

pub returns : goal.returns
returns c = let m = c.args.m in omega (arith, trailing-lowest 16 m 0 m refl (omega arith))
