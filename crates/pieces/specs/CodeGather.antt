-- Gathering a line's bytes from a part of a piece.
use Rattle.std.specs.Prelude.{ℕ, zero, suc, ◌+◌, ◌-◌, ◌<◌, min, ◌≡◌, List, true, false, length, get_or, eqb}
use Rattle.masks.specs.Pick.{pick}
use Rattle.pieces.specs.declared.Held.{Held}
use Rattle.pieces.specs.declared.Gathered.{Gathered}
use Rattle.pieces.specs.Feed.{push_of}

-- at most k bytes of t from index i
unfoldable pub gather_from : Held → List ℕ → ℕ → ℕ → Gathered
gather_from h t i zero = record { held = h; at = i; ended = false }
gather_from h t i (suc k) = pick (eqb (get_or t i 0) 10) (record { held = h; at = i; ended = true }) (gather_from (push_of h (get_or t i 0)) t (i + 1) k)

-- the bytes of t from an index, up to an LF, to index to or to the end of t
unfoldable pub gather_of : Held → List ℕ → ℕ → ℕ → Gathered
gather_of h t from to = gather_from h t from (min to (length t) - from)

-- no LF is among the k bytes of t from index i
abbrev pub Clear : List ℕ → ℕ → ℕ → Type 0
Clear t i k = (j : ℕ) → j < k → get_or t (i + j) 0 ≡ 10 → ⊥
