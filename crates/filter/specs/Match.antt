-- Document 01, 'Bus steps': when a filter pair matches an identifier; request W2: when the rejection pair rejects it.
use Rattle.std.specs.Prelude.{ℕ, zero, suc, Bool, true, ◌&&◌, ◌||◌, not, eqb}
use Rattle.std.specs.Bool.{beq}
use Rattle.masks.specs.Bits.{bit_of}
use Rattle.filter.specs.declared.Filter.{Filter}

-- identifier and pattern agree, at the lowest k bits, wherever the mask bit is 0
unfoldable pub agrees : Filter → ℕ → ℕ → Bool
agrees f i zero = true
agrees f i (suc k) = (bit_of f.mask k || beq (bit_of i k) (bit_of f.pattern k)) && agrees f i k

-- "A filter pair matches if identifier and pattern agree wherever the mask bit is 0."
unfoldable pub matches : Filter → ℕ → Bool
matches f i = agrees f i 8

-- W2: "rejected means $15 isn't $FF and the pair matches"
unfoldable pub rejects : Filter → ℕ → Bool
rejects f i = not (eqb f.mask 0xFF) && matches f i
