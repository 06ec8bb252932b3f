-- The searches over the sixteen buffers' contents by identifier.
use Rattle.std.specs.Prelude.{ℕ, Bool, not, ◌&&◌, List, eqb, get_or}
use Rattle.masks.specs.Bits.{bit_of, mask_of, lowest, highest}
use Rattle.contents.specs.declared.Contents.{Contents}
use Rattle.contents.specs.Bytes.{no_contents}

-- the identifier of buffer n
abbrev pub ident_at : List Contents → ℕ → ℕ
ident_at rows n = get_or (get_or rows n no_contents).bytes 0 0

-- buffer n is in the mask m and carries identifier i
unfoldable pub carries_at : List Contents → ℕ → ℕ → ℕ → Bool
carries_at rows m i n = bit_of m n && eqb (ident_at rows n) i

-- buffer n has an identifier
unfoldable pub named_at : List Contents → ℕ → Bool
named_at rows n = not (eqb (ident_at rows n) 0)

-- the lowest buffer of the mask m that carries identifier i, or 16
unfoldable pub lowest_with : List Contents → ℕ → ℕ → ℕ
lowest_with rows m i = lowest (carries_at rows m i) 0 16

-- the highest buffer of the mask m that carries identifier i, or 16
unfoldable pub highest_with : List Contents → ℕ → ℕ → ℕ
highest_with rows m i = highest (carries_at rows m i) 16

-- buffer n is in the mask m and has an identifier
unfoldable pub is_named_in : List Contents → ℕ → ℕ → Bool
is_named_in rows m n = bit_of m n && named_at rows n

-- the mask of the buffers of the mask m that have an identifier
unfoldable pub named_of : List Contents → ℕ → ℕ
named_of rows m = mask_of (is_named_in rows m)
