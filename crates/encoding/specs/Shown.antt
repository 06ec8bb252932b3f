-- What is shown of a record where no step is made: the bytes that a buffer holds, and those of a frame that waits.
use Rattle.std.specs.Prelude.{ℕ, List, [], ◌∷◌, ◌++◌, slice_get, length, ltb, Option, Some, None}
use Rattle.masks.specs.Pick.{pick}
use Rattle.contents.specs.declared.Contents.{Contents}
use Rattle.contents.specs.Bytes.{fill_room}
use Rattle.rules.specs.declared.Control.{Control}
use Rattle.rules.specs.declared.Answer.{Answer}
use Rattle.rules.specs.declared.Answer.TheVariants.{Ok, Refused, Waiting}
use Rattle.rules.specs.Waiting.{waits_for, is_free}
use Rattle.controller.specs.declared.Controller.{Controller}
use Rattle.controller.specs.Carry.{row_at}
use Rattle.encoding.specs.Answers.{number_of, unknown, no_frame}

-- an answer, and what the room then holds
pub record Shown : Type 0 where
  pub answer : ℕ
  pub room : List ℕ

-- an answer that changes no byte of the room
abbrev pub kept : ℕ → List ℕ → Shown
kept n room = record { answer = n; room = room }

-- the number of an answer for which no buffer was examined
unfoldable pub plain : Answer → ℕ
plain a = number_of (record { answer = a; looked = 0 })

-- the answer n with the fourteen bytes b over the first of the room; one of less than 14 bytes is refused as a sent frame's is
unfoldable pub shown_bytes : ℕ → Contents → List ℕ → Shown
shown_bytes n b room =
    pick (ltb (length room) 14) (kept (plain (Refused 12)) room) (record { answer = n; room = fill_room b.bytes room })

-- what buffer n holds, 0 to 15
unfoldable pub buffer_shown : Controller → ℕ → List ℕ → Shown
buffer_shown c n room = pick (ltb n 16) (shown_bytes (plain Ok) (row_at c.rows n) room) (kept unknown room)

-- ---- the frames that wait, "oldest first"

-- place k, if a frame waits in it
abbrev pub taken : Control → ℕ → List ℕ
taken c k = pick (is_free c k) [] (k ∷ [])

-- the places in which frames wait, in order of arrival
unfoldable pub taken_places : Control → List ℕ
taken_places c = pick c.places.swapped (taken c 1 ++ taken c 0) (taken c 0 ++ taken c 1)

-- the place of the k-th of them, 0 the oldest, if there are so many
unfoldable pub place_of : Control → ℕ → Option ℕ
place_of c k = slice_get (taken_places c) k

-- the frame in a place, and for which buffer it waits
unfoldable pub held_shown : Controller → Option ℕ → List ℕ → Shown
held_shown c None room = kept no_frame room
held_shown c (Some j) room = shown_bytes (plain (Waiting (waits_for c.control.places j))) (row_at c.held j) room

-- the k-th frame that waits, 0 or 1
unfoldable pub waiting_shown : Controller → ℕ → List ℕ → Shown
waiting_shown c k room = pick (ltb k 2) (held_shown c (place_of c.control k) room) (kept unknown room)
