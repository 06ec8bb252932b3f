-- What the code's copy leaves in the room, as the definitions say it.
use Rattle.std.specs.Prelude.{◌≡◌, ℕ, zero, suc, ◌+◌, ◌≤◌, min, List, [], ◌∷◌, ◌++◌, length, get_or, take, drop}
use Rattle.std.proofs.Common.{arith, ap, ap₂, sym, ◌∙◌, refl}
use lib.Seq.{drop-cons}
use Rattle.contents.specs.declared.Contents.{Contents}
use Rattle.contents.specs.Bytes.{bytes_from, frame_of, fill_room}
use Rattle.contents.specs.PayloadLaws.{frame-size}
use Rattle.sending.specs.CodeRoom.{room_after, room-kept, room-filled}

bytes-part : (b : List ℕ) (i k : ℕ) → i + k ≤ length b → bytes_from i k b ≡ take k (drop i b)
unfolding bytes_from
bytes-part b i zero h = refl
bytes-part b i (suc k) h =
    ap (λ (t : List ℕ). get_or b i 0 ∷ t) (bytes-part b (suc i) k (omega arith))
    ∙ ap (take (suc k)) (sym (drop-cons b i 0 (omega arith)))

-- the frame is the first bytes of the contents
frame-part : (b : List ℕ) → length b ≡ 14 → frame_of (record { bytes = b }) ≡ take (2 + min 12 (get_or b 1 0)) b
unfolding frame_of
frame-part [] e = absurd (omega arith)
frame-part (x ∷ []) e = absurd (omega arith)
frame-part (x ∷ (y ∷ b)) e =
    let past : 2 + min 12 y ≡ suc (suc (min 12 y)) = omega arith in
    ap (λ (t : List ℕ). x ∷ (y ∷ t)) (bytes-part (x ∷ (y ∷ b)) 2 (min 12 y) (omega arith))
    ∙ sym (ap (λ (n : ℕ). take n (x ∷ (y ∷ b))) past)

-- the room with the frame's n bytes copied
pub room-copied : (b : Contents) (room copied : List ℕ) (n : ℕ) → length b.bytes ≡ 14 → 14 ≤ length room
    → n ≡ length (frame_of b) → copied ≡ take n b.bytes → copied ++ drop n room ≡ room_after b room
unfolding fill_room
room-copied b room copied n e h size is =
    let sent : copied ≡ frame_of b = is ∙ ap (λ (k : ℕ). take k b.bytes) (size ∙ frame-size b) ∙ sym (frame-part b.bytes e) in
    ap₂ (λ (f : List ℕ) (k : ℕ). f ++ drop k room) sent size ∙ sym (room-filled b room h)

-- what the proofs of the code cite
pub ruleset sizes = (frame-size)

pub ruleset room_laws = (room-kept, room-copied)
