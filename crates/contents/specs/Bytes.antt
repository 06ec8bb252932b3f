-- A buffer's fourteen bytes: identifier, length, data 0 to 11 (document 01, 'What is emulated', 'Bus steps').
use Rattle.std.specs.Prelude.{ℕ, zero, suc, ◌-◌, ◌%◌, min, List, [], ◌∷◌, ◌++◌, get_or, set, take, drop, length, replicate}
use Rattle.contents.specs.declared.Contents.{Contents}

-- what is public of a buffer's contents
pub record Head : Type 0 where
  pub ident : ℕ
  pub len : ℕ

abbrev pub no_head : Head
no_head = record { ident = 0; len = 0 }

abbrev pub head_of : Contents → Head
head_of b = record { ident = get_or b.bytes 0 0; len = get_or b.bytes 1 0 }

-- "Reset gives zero everywhere, buffers too"
abbrev pub blank : Contents
blank = record { bytes = replicate 14 0 }

-- what stands past the last buffer
abbrev pub no_contents : Contents
no_contents = record { bytes = [] }

-- data byte j
abbrev pub data_at : Contents → ℕ → ℕ
data_at b j = get_or b.bytes (suc (suc j)) 0

-- the contents with another identifier, another length, another data byte j
unfoldable pub with_ident : Contents → ℕ → Contents
with_ident b v = record { bytes = v ∷ (get_or b.bytes 1 0 ∷ drop 2 b.bytes) }

unfoldable pub with_length : Contents → ℕ → Contents
with_length b v = record { bytes = get_or b.bytes 0 0 ∷ (v ∷ drop 2 b.bytes) }

unfoldable pub with_data : Contents → ℕ → ℕ → Contents
with_data b j v = record { bytes = set b.bytes (suc (suc j)) v }

-- the smaller of 12 and the length byte's low four bits
abbrev pub cut : ℕ → ℕ
cut l = min 12 (l % 16)

-- how many data bytes a length byte l takes from the data part d: `cut l`, where d has them
abbrev pub taken : ℕ → List ℕ → ℕ
taken l d = min (cut l) (length d)

-- "Storing puts the identifier, the smaller of 12 and the length byte's low four bits, and that many data bytes", and as W4 amends
-- it "sets the data bytes beyond its length to 0": identifier i, length byte l and data part d
unfoldable pub store_frame : ℕ → ℕ → List ℕ → Contents
store_frame i l d = record { bytes = i ∷ (cut l ∷ (take (taken l d) d ++ replicate (12 - taken l d) 0)) }

-- what a buffer holds once the frame f is stored in it, a function of f alone; f is "one slice whose data part begins at byte 2"
abbrev pub image_of : List ℕ → Contents
image_of f = store_frame (get_or f 0 0) (get_or f 1 0) (drop 2 f)

-- the k bytes from place i on
unfoldable pub bytes_from : ℕ → ℕ → List ℕ → List ℕ
bytes_from i zero b = []
bytes_from i (suc k) b = get_or b i 0 ∷ bytes_from (suc i) k b

-- "A sent frame is the identifier, the length register (0 to 15, uncut) and min(12, length) data bytes"
unfoldable pub frame_of : Contents → List ℕ
frame_of b = get_or b.bytes 0 0 ∷ (get_or b.bytes 1 0 ∷ bytes_from 2 (min 12 (get_or b.bytes 1 0)) b.bytes)

-- "it fills the first bytes of the room and the rest stays"
unfoldable pub fill_room : List ℕ → List ℕ → List ℕ
fill_room f room = f ++ drop (length f) room
