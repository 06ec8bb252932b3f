-- The step of a line that stands in a text with its LF behind it; 10 is the LF.
use Rattle.std.specs.Prelude.{ℕ, suc, ◌+◌, List, [], ◌∷◌, length, take, drop, ltb, eqb, Option, Some, None}
use Rattle.masks.specs.Pick.{pick}
use Rattle.lines.specs.declared.FrameBytes.{FrameBytes}
use Rattle.lines.specs.declared.Found.{Found}
use Rattle.lines.specs.Grammar.{line_of}
use Rattle.controller.specs.declared.Call.{Call}

-- the index of the first LF, the text's length where there is none
unfoldable pub lf_in : List ℕ → ℕ
lf_in [] = 0
lf_in (b ∷ bs) = pick (eqb b 10) 0 (suc (lf_in bs))

-- what a line means, with its frame, where its LF stands at index at
abbrev pub found_by : Option Call → FrameBytes → ℕ → Option Found
found_by (Some call) f at = Some (record { call = call; frame = f; at = at })
found_by None f at = None

-- the step of the text's first line, if an LF ends it and it is one; from: where the text begins in a longer one
unfoldable pub found_in : List ℕ → ℕ → Option Found
found_in t from =
    pick (ltb (lf_in t) (length t)) (found_by (line_of (take (lf_in t) t)).line (line_of (take (lf_in t) t)).frame (from + lf_in t)) None

-- the step of the line that begins at index from
abbrev pub found_at : List ℕ → ℕ → Option Found
found_at s from = found_in (drop from s) from
