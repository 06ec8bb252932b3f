-- An open mask, $FF, compares no bit.
use Rattle.std.specs.Prelude.{◌≡◌, ℕ, true, false}
use Rattle.masks.specs.Bits.{bit_of}
use Rattle.filter.specs.declared.Filter.{Filter}
use Rattle.filter.specs.Match.{agrees, matches, rejects}

-- its pair matches every identifier,
pub open-matches-all : (f : Filter) (i : ℕ) → f.mask ≡ 0xFF → matches f i ≡ true
unfolding matches agrees bit_of
open-matches-all f i e = simp e

-- and as the rejection pair rejects none
pub open-rejects-none : (f : Filter) (i : ℕ) → f.mask ≡ 0xFF → rejects f i ≡ false
unfolding rejects
open-rejects-none f i e = simp e
