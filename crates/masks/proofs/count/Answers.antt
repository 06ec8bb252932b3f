use native.Mathlib.Omega.{arith}
use native.Mathlib.Nat.{lt_of_le_of_lt}
use lib.Count.{ones-le}
use lib.Dec.{lit<}
use Rattle.masks.proofs.Ones.{ones-count}
use Rattle.masks.proofs.count.Goals as goal

pub overflow_cast-result : goal.overflow_cast-result
overflow_cast-result c = record { fits = lt_of_le_of_lt (ones-le 16 _ (omega arith)) (lit< tt) }

pub returns : goal.returns
returns c = ones-count 16 c.args.m (omega arith)
