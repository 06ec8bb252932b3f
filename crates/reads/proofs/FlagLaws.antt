-- A flag in a register, beside those that stand there; what the searches of masks give.
use Rattle.std.specs.Prelude.{ℕ, Bool, true, false, ◌≡◌, refl}
use Rattle.std.specs.Int.Bits.{bit_or, or_zero_r}
use Rattle.masks.specs.Pick.{pick}
use Rattle.masks.specs.SearchLaws.{some-mask, lowest-mask, highest-mask}
use Rattle.rules.specs.Registers.{with_flag}

pub flag_beside : (t : Bool) (b v : ℕ) → bit_or v (with_flag t b 0) ≡ with_flag t b v
unfolding with_flag pick
flag_beside true b v = refl
flag_beside false b v = or_zero_r v

pub ruleset of_masks = (some-mask, lowest-mask, highest-mask)
