-- Document 01, 'The replay text': a text's lines. "LF ends a line; an unended last line counts if not empty."
use Rattle.std.specs.Prelude.{ℕ, List, [], ◌∷◌, ◌++◌, Bool, true, false, eqb}
use Rattle.masks.specs.Pick.{pick}

-- a line without its LF, and whether one ended it
pub record Line : Type 0 where
  pub text : List ℕ
  pub ended : Bool

-- what is left at the end of a text
abbrev pub rest_of : List ℕ → List Line
rest_of [] = []
rest_of (x ∷ p) = record { text = x ∷ p; ended = false } ∷ []

-- the lines of a text behind the beginning p of a line
unfoldable pub lines_from : List ℕ → List ℕ → List Line
lines_from p [] = rest_of p
lines_from p (b ∷ bs) = pick (eqb b 10) (record { text = p; ended = true } ∷ lines_from [] bs) (lines_from (p ++ (b ∷ [])) bs)

unfoldable pub text_lines : List ℕ → List Line
text_lines t = lines_from [] t
