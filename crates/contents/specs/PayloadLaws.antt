-- Laws of what is public: sizes stay, each change of a buffer shows in its head, and there is what is public of a sent frame and
-- its room.
use Rattle.std.specs.Prelude.{◌≡◌, refl, ℕ, zero, suc, ◌+◌, min, List, [], ◌∷◌, ◌++◌, get_or, set, drop, length, replicate}
use Rattle.std.proofs.Common.{ap, ap₂, arith, length-drop}
use Rattle.std.proofs.lemmas.List.{length-map, length-replicate}
use Rattle.std.proofs.Math.Seq.{take-append_seam, drop-append_seam}
use Rattle.contents.specs.declared.Contents.{Contents}
use Rattle.contents.specs.Bytes.{Head, head_of, with_ident, with_length, with_data, cut, store_frame, bytes_from, frame_of, fill_room}
use Rattle.contents.specs.Payload.{zeros, hide_data, seen_part}

pub zeros-length : (xs : List ℕ) → length (zeros xs) ≡ length xs
zeros-length xs = length-map xs (λ (x : ℕ). 0)

pub zeros-zeros : (xs : List ℕ) → zeros (zeros xs) ≡ zeros xs
zeros-zeros [] = refl
zeros-zeros (x ∷ xs) = ap (λ (t : List ℕ). 0 ∷ t) (zeros-zeros xs)

zeros-from : (i k : ℕ) (b : List ℕ) → zeros (bytes_from i k b) ≡ replicate k 0
unfolding bytes_from
zeros-from i zero b = refl
zeros-from i (suc k) b = ap (λ (t : List ℕ). 0 ∷ t) (zeros-from (suc i) k b)

-- what is public of a sent frame is in its head
unfoldable pub head_frame : Head → List ℕ
head_frame h = h.ident ∷ (h.len ∷ replicate (min 12 h.len) 0)

pub frame-head : (b : Contents) → hide_data (frame_of b) ≡ head_frame (head_of b)
unfolding frame_of head_frame
frame-head b = ap (λ (t : List ℕ). (head_of b).ident ∷ ((head_of b).len ∷ t)) (zeros-from 2 (min 12 (head_of b).len) b.bytes)

pub hide-hide : (f : List ℕ) → hide_data (hide_data f) ≡ hide_data f
hide-hide [] = refl
hide-hide (i ∷ []) = refl
hide-hide (i ∷ (l ∷ d)) = ap (λ (t : List ℕ). i ∷ (l ∷ t)) (zeros-zeros d)

pub hide-ident : (f : List ℕ) → get_or (hide_data f) 0 0 ≡ get_or f 0 0
hide-ident [] = refl
hide-ident (i ∷ []) = refl
hide-ident (i ∷ (l ∷ d)) = refl

pub hide-length : (f : List ℕ) → get_or (hide_data f) 1 0 ≡ get_or f 1 0
hide-length [] = refl
hide-length (i ∷ []) = refl
hide-length (i ∷ (l ∷ d)) = refl

pub hide-size : (f : List ℕ) → length (hide_data f) ≡ length f
hide-size [] = refl
hide-size (i ∷ []) = refl
hide-size (i ∷ (l ∷ d)) = ap (λ (n : ℕ). suc (suc n)) (zeros-length d)

-- each change of a buffer's contents as it shows in its head

pub head-ident : (b : Contents) (v : ℕ) → head_of (with_ident b v) ≡ record { ident = v; len = (head_of b).len }
unfolding with_ident
head-ident b v = refl

pub head-length : (b : Contents) (v : ℕ) → head_of (with_length b v) ≡ record { ident = (head_of b).ident; len = v }
unfolding with_length
head-length b v = refl

pub head-data : (b : Contents) (j v : ℕ) → head_of (with_data b j v) ≡ head_of b
unfolding with_data
head-data b j v = go b.bytes
  where
    go : (xs : List ℕ) → head_of (record { bytes = set xs (suc (suc j)) v }) ≡ head_of (record { bytes = xs })
    go [] = refl
    go (x ∷ []) = refl
    go (x ∷ (y ∷ xs)) = refl

pub head-store : (i l : ℕ) (d : List ℕ) → head_of (store_frame i l d) ≡ record { ident = i; len = cut l }
unfolding store_frame
head-store i l d = refl

-- ---- the room of a sent frame

-- of zeros only the number is left
zeros-same : (xs ys : List ℕ) → length xs ≡ length ys → zeros xs ≡ zeros ys
zeros-same [] [] e = refl
zeros-same [] (y ∷ ys) e = absurd (omega arith)
zeros-same (x ∷ xs) [] e = absurd (omega arith)
zeros-same (x ∷ xs) (y ∷ ys) e = ap (λ (t : List ℕ). 0 ∷ t) (zeros-same xs ys (omega arith))

length_from : (i k : ℕ) (b : List ℕ) → length (bytes_from i k b) ≡ k
unfolding bytes_from
length_from i zero b = refl
length_from i (suc k) b = ap suc (length_from (suc i) k b)

pub frame-size : (b : Contents) → length (frame_of b) ≡ 2 + min 12 (head_of b).len
unfolding frame_of
frame-size b = let h = length_from 2 (min 12 (head_of b).len) b.bytes in omega arith

pub head-size : (h : Head) → length (head_frame h) ≡ 2 + min 12 h.len
unfolding head_frame
head-size h = let e : length (replicate {A = ℕ} (min 12 h.len) 0) ≡ min 12 h.len = length-replicate (min 12 h.len) 0 in omega arith

pub fill-seen : (f room : List ℕ) → seen_part f (fill_room f room) ≡ hide_data f ++ zeros (drop (length f) room)
unfolding fill_room
fill-seen f room =
    ap₂ (λ (x y : List ℕ). hide_data x ++ zeros y) (take-append_seam f (drop (length f) room)) (drop-append_seam f (drop (length f) room))

pub head-hide : (h : Head) → hide_data (head_frame h) ≡ head_frame h
unfolding head_frame
head-hide h = ap (λ (t : List ℕ). h.ident ∷ (h.len ∷ t)) (blanks (min 12 h.len))
  where
    blanks : (k : ℕ) → zeros (replicate k 0) ≡ replicate k 0
    blanks zero = refl
    blanks (suc k) = ap (λ (t : List ℕ). 0 ∷ t) (blanks k)

pub rest-zeros : (m n : ℕ) (room : List ℕ) → m ≡ n → zeros (drop m room) ≡ zeros (drop n (zeros room))
rest-zeros m n room e =
    zeros-same (drop m room) (drop n (zeros room)) (simp (length-drop, e, zeros-length))
