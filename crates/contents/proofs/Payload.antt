-- What is public of a sent frame and its room.
use Rattle.std.specs.Prelude.{◌≡◌, ℕ, List, ◌++◌, length}
use Rattle.std.proofs.Common.{ap₂, sym, ◌∙◌}
use Rattle.contents.specs.declared.Contents.{Contents}
use Rattle.contents.specs.Bytes.{head_of, frame_of, fill_room}
use Rattle.contents.specs.Payload.{zeros, seen_part}
use Rattle.contents.specs.PayloadLaws.{fill-seen, head_frame, frame-head, head-hide, rest-zeros, frame-size, head-size}

-- it is in the buffer's head and in the room's length
pub room-head : (b : Contents) (room : List ℕ) →
    seen_part (frame_of b) (fill_room (frame_of b) room) ≡ seen_part (head_frame (head_of b)) (fill_room (head_frame (head_of b)) (zeros room))
room-head b room =
    fill-seen (frame_of b) room
    ∙ ap₂ (λ (x y : List ℕ). x ++ y) (frame-head b ∙ sym (head-hide (head_of b)))
    (rest-zeros (length (frame_of b)) (length (head_frame (head_of b))) room (frame-size b ∙ sym (head-size (head_of b))))
    ∙ sym (fill-seen (head_frame (head_of b)) (zeros room))
