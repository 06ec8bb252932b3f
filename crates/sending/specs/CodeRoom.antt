-- The room of a sent frame, also where it is too small for one.
use Rattle.std.specs.Prelude.{ℕ, ◌≤◌, ◌<◌, List, [], ◌≡◌, refl, ltb, length}
use Rattle.std.proofs.Common.{arith, length-append, length-drop, lt-ltb, le-ltb, ltb-false}
use Rattle.masks.specs.Pick.{pick}
use Rattle.masks.specs.PickLaws.{pick_true, pick-false, pick-keeps}
use Rattle.contents.specs.declared.Contents.{Contents}
use Rattle.contents.specs.Bytes.{frame_of, fill_room}
use Rattle.contents.specs.PayloadLaws.{frame-size}

-- the room after the contents b were sent into it: one of less than 14 bytes, which not every frame fits, stays
unfoldable pub room_after : Contents → List ℕ → List ℕ
room_after b room = pick (ltb (length room) 14) room (fill_room (frame_of b) room)

pub room-kept : (b : Contents) (room : List ℕ) → length room < 14 → room_after b room ≡ room
unfolding room_after
room-kept b room h = pick_true (ltb (length room) 14) room (fill_room (frame_of b) room) (lt-ltb (length room) 14 h)

pub room-filled : (b : Contents) (room : List ℕ) → 14 ≤ length room → room_after b room ≡ fill_room (frame_of b) room
unfolding room_after
room-filled b room h = pick-false (ltb (length room) 14) room (fill_room (frame_of b) room) (le-ltb (length room) 14 h)

-- ---- sizes

pub frame-fits : (b : Contents) → length (frame_of b) ≤ 14
frame-fits b = omega (arith, frame-size b)

pub fill_none : (room : List ℕ) → fill_room [] room ≡ room
unfolding fill_room
fill_none room = refl

pub fill-size : (f room : List ℕ) → length f ≤ length room → length (fill_room f room) ≡ length room
unfolding fill_room
fill-size f room h = simp (length-append, length-drop) (omega arith)

-- a room's size never changes
pub room-size : (b : Contents) (room : List ℕ) → length (room_after b room) ≡ length room
unfolding room_after
room-size b room =
    pick-keeps (λ (r : List ℕ). length r ≡ length room) (ltb (length room) 14) (λ t. refl)
    (λ t. fill-size (frame_of b) room (omega (arith, ltb-false (length room) 14 t, frame-fits b)))
