-- What the functions behind `parse` and `read` promise, in the grammar's terms.
use Rattle.std.specs.Prelude.{ℕ, zero, suc, ◌+◌, List, [], ◌∷◌, Bool, true, false, get_or, drop, set, ltb, eqb, Option, Some, None}
use Rattle.masks.specs.Pick.{pick}
use Rattle.controller.specs.declared.Call.{Call}
use Rattle.controller.specs.declared.Call.TheVariants.{Frame}
use Rattle.lines.specs.declared.FrameBytes.{FrameBytes}
use Rattle.lines.specs.declared.Found.{Found}
use Rattle.lines.specs.Grammar.{no_bytes, no_frame, nibble_of, byte_of, one_of, three_of, four_of, seven_of, is_frame}
use Rattle.lines.specs.Found.{found_by}

-- `wide`: a digit's value, 256 for any other byte
unfoldable pub wide_of : ℕ → ℕ
wide_of b = pick (ltb 15 (nibble_of b)) 256 (nibble_of b)

-- x, where it is below n
unfoldable pub below : ℕ → ℕ → Option ℕ
below n x = pick (ltb x n) (Some x) None

-- `verdict`: G or B
unfoldable pub verdict_of : ℕ → Option Bool
verdict_of b = pick (eqb b 71) (Some true) (pick (eqb b 66) (Some false) None)

-- how many bytes of two digits each the digits begin with, at most n
unfoldable pub count_in : ℕ → List ℕ → ℕ
count_in zero ds = 0
count_in (suc n) [] = 0
count_in (suc n) (h ∷ []) = 0
count_in (suc n) (h ∷ l ∷ ds) = pick (ltb 255 (byte_of h l)) 0 (suc (count_in n ds))

-- those bytes, put at place i and on
unfoldable pub put_in : List ℕ → ℕ → ℕ → List ℕ → List ℕ
put_in bytes i zero ds = bytes
put_in bytes i (suc n) [] = bytes
put_in bytes i (suc n) (h ∷ []) = bytes
put_in bytes i (suc n) (h ∷ l ∷ ds) = pick (ltb 255 (byte_of h l)) bytes (put_in (set bytes i (byte_of h l)) (i + 1) n ds)

-- `frame_bytes`
abbrev pub frame_in : List ℕ → FrameBytes
frame_in ds = record { bytes = put_in no_bytes 0 30 ds; size = count_in 30 ds }

-- `framed`: the frame, if an LF stands behind its digits
unfoldable pub framed_in : Bool → List ℕ → ℕ → Option Found
framed_in good ds from =
    pick (eqb (get_or ds (count_in 30 ds + count_in 30 ds) 0) 10)
    (found_by (Some (Frame good)) (frame_in ds) (from + (count_in 30 ds + count_in 30 ds))) None

-- a line of k bytes that is x, if an LF stands behind them
abbrev pub ended_by : ℕ → Option Call → List ℕ → ℕ → Option Found
ended_by k x t from = pick (eqb (get_or t k 0) 10) (found_by x no_frame (from + k)) None

-- `first`: by the first letter
abbrev pub verdict_then : Option Bool → List ℕ → ℕ → Option Found
verdict_then (Some good) ds from = framed_in good ds from
verdict_then None ds from = None

unfoldable pub read_of : List ℕ → ℕ → Option Found
read_of t from =
    pick (is_frame t) (verdict_then (verdict_of (get_or t 2 0)) (drop 4 t) (from + 4))
    (pick (eqb (get_or t 0 0) 87)
    (ended_by 7 (seven_of (get_or t 0 0) (get_or t 1 0) (get_or t 2 0) (get_or t 3 0) (get_or t 4 0) (get_or t 5 0) (get_or t 6 0)) t from)
    (pick (eqb (get_or t 0 0) 82) (ended_by 4 (four_of (get_or t 0 0) (get_or t 1 0) (get_or t 2 0) (get_or t 3 0)) t from)
    (pick (eqb (get_or t 0 0) 84) (ended_by 4 (four_of (get_or t 0 0) (get_or t 1 0) (get_or t 2 0) (get_or t 3 0)) t from)
    (pick (eqb (get_or t 0 0) 83) (ended_by 3 (three_of (get_or t 0 0) (get_or t 1 0) (get_or t 2 0)) t from)
    (pick (eqb (get_or t 0 0) 80) (ended_by 3 (three_of (get_or t 0 0) (get_or t 1 0) (get_or t 2 0)) t from)
    (ended_by 1 (one_of (get_or t 0 0)) t from))))))
