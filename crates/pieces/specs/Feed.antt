-- A text that is fed byte by byte to something that acts on each line and writes for it: what is kept between two bytes, and
-- what the whole text's lines give.
use Rattle.std.specs.Prelude.{ℕ, suc, ◌+◌, List, [], ◌∷◌, ◌++◌, Bool, true, false, ◌&&◌, length, take, set, replicate, ltb, leb, eqb}
use Rattle.masks.specs.Pick.{pick}
use Rattle.pieces.specs.declared.Held.{Held}
use Rattle.pieces.specs.Lines.{Line, text_lines}

-- ---- the line that is not ended yet

abbrev pub none_held : Held
none_held = record { bytes = replicate 64 0; len = 0 }

-- a byte more, where there is room for it; a length of 65 stands for any above 64
unfoldable pub push_of : Held → ℕ → Held
push_of h b = pick (ltb h.len 64) (record { bytes = set h.bytes h.len b; len = h.len + 1 }) (record { bytes = h.bytes; len = 65 })

-- the line that is held; of a line above 64 bytes nothing is held, and any line above 64 stands for it
unfoldable pub line_in : Held → List ℕ
line_in h = pick (ltb 64 h.len) (replicate 65 0) (take h.len h.bytes)

-- the next line's number; it counts on past the last line that is read, as far as its 32 bits go
unfoldable pub number_after : ℕ → ℕ
number_after n = pick (ltb n 4294967295) (n + 1) n

-- "At most 999,999 lines are read."
unfoldable pub is_read : ℕ → Bool
is_read n = leb n 999999

-- what is kept between two bytes
pub record Feed (S : Type 0) : Type 0 where
  pub state : S
  pub held : Held
  pub number : ℕ

-- act: what a line makes of the state, given its number; show: what is written for it, given the number and whether an LF ended it
module _ {S : Type 0} (act : S → ℕ → List ℕ → S) (show : S → ℕ → Bool → List ℕ → List ℕ) where
  -- the line's end
  unfoldable pub end_line : Feed S → Feed S
  end_line f =
      record {
        state = pick (is_read f.number) (act f.state f.number (line_in f.held)) f.state;
        held = none_held;
        number = number_after f.number;
      }

  -- what one byte makes of it, and what is written for it
  unfoldable pub byte_s : Feed S → ℕ → Feed S
  byte_s f b = pick (eqb b 10) (end_line f) (record { state = f.state; held = push_of f.held b; number = f.number })

  unfoldable pub byte_o : Feed S → ℕ → List ℕ
  byte_o f b = pick (eqb b 10 && is_read f.number) (show f.state f.number true (line_in f.held)) []

  -- the same of a piece
  unfoldable pub feed_end : Feed S → List ℕ → Feed S
  feed_end f [] = f
  feed_end f (b ∷ bs) = feed_end (byte_s f b) bs

  unfoldable pub out_of : Feed S → List ℕ → List ℕ
  out_of f [] = []
  out_of f (b ∷ bs) = byte_o f b ++ out_of (byte_s f b) bs

  -- How many bytes of a piece are taken where what is written goes into a room of `size` bytes, of which the first w are written: a byte
  -- is taken while `need` bytes of room are left.
  unfoldable pub taken_of : ℕ → ℕ → Feed S → ℕ → List ℕ → ℕ
  taken_of need size f w [] = 0
  taken_of need size f w (b ∷ bs) = pick (ltb size (w + need)) 0 (suc (taken_of need size (byte_s f b) (w + length (byte_o f b)) bs))

  -- what is written for a last line that is not ended, if it is not empty
  unfoldable pub last_of : Feed S → List ℕ
  last_of f = pick (eqb f.held.len 0) [] (pick (is_read f.number) (show f.state f.number false (line_in f.held)) [])

  -- ---- the whole text: what is written for lines that are numbered from n
  unfoldable pub run_from : S → ℕ → List Line → List ℕ
  run_from s n [] = []
  run_from s n (l ∷ ls) = show s n l.ended l.text ++ run_from (act s n l.text) (n + 1) ls

  unfoldable pub whole_of : S → List ℕ → List ℕ
  whole_of s t = run_from s 1 (take 999999 (text_lines t))

  -- ---- a text in pieces: what a program writes that feeds them one by one and then ends
  unfoldable pub stream_of : Feed S → List (List ℕ) → List ℕ
  stream_of f [] = last_of f
  stream_of f (c ∷ cs) = out_of f c ++ stream_of (feed_end f c) cs

  -- what is written for a text that is fed whole, its last line included
  abbrev pub fed_whole : Feed S → List ℕ → List ℕ
  fed_whole f t = stream_of f (t ∷ [])
