-- What is public of frames and contents: identifiers and lengths, never a data byte.
use Rattle.std.specs.Prelude.{ℕ, List, [], ◌∷◌, ◌++◌, map, take, drop, length}

-- as many zeros
abbrev pub zeros : List ℕ → List ℕ
zeros xs = map (λ x. 0) xs

-- a frame with its bytes from byte 2 on put to 0
abbrev pub hide_data : List ℕ → List ℕ
hide_data [] = []
hide_data (i ∷ []) = i ∷ []
hide_data (i ∷ (l ∷ d)) = i ∷ (l ∷ zeros d)

-- what is public of a room of which a frame f filled the first bytes: the frame's identifier and length, and how long the
-- room is
abbrev pub seen_part : List ℕ → List ℕ → List ℕ
seen_part f room = hide_data (take (length f) room) ++ zeros (drop (length f) room)
