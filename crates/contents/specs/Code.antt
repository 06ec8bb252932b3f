-- The size that a frame must have, as the code tests it.
use Rattle.std.specs.Prelude.{ℕ, ◌+◌, Bool, List, eqb, get_or, length}
use Rattle.contents.specs.Bytes.{cut}

-- f is as long as its length byte says: identifier, length byte, and that many data bytes, cut
abbrev pub well_sized : List ℕ → Bool
well_sized f = eqb (length f) (2 + cut (get_or f 1 0))
