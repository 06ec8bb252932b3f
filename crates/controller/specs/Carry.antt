-- The data plane: a plan carried out on the bytes of the buffers and of the frames that wait.
use Rattle.std.specs.Prelude.{ℕ, List, [], ◌∷◌, map, get_or, set, length, replicate}
use Rattle.masks.specs.Pick.{pick}
use Rattle.contents.specs.declared.Contents.{Contents}
use Rattle.contents.specs.Bytes.{Head, head_of, blank, no_contents, data_at, with_ident, with_length, with_data, image_of, frame_of, fill_room}
use Rattle.rules.specs.declared.Answer.{Answer}
use Rattle.rules.specs.declared.Answer.TheVariants.{Value, Sent}
use Rattle.rules.specs.Steps.{Step, reads_data, value_in, frame_in, room_in}
use Rattle.rules.specs.Plan.{Move, wipe, set_ident, set_length, set_data, store, hold, release, Reply, say, show, send, Plan}
use Rattle.rules.specs.Registers.{reset_control}
use Rattle.controller.specs.declared.Controller.{Controller}

-- "Reset gives zero everywhere, buffers too"
unfoldable pub reset_state : Controller
reset_state = record { control = reset_control; rows = replicate 16 blank; held = replicate 2 blank }

abbrev pub heads : List Contents → List Head
heads = map head_of

abbrev pub row_at : List Contents → ℕ → Contents
row_at rows n = get_or rows n no_contents

-- a move of the buffers' bytes; `held` are the frames that waited before the step (no plan both holds a frame and releases one)
abbrev pub move : Step → List Contents → Move → List Contents → List Contents
move e held wipe rows = replicate 16 blank
move e held (set_ident n v) rows = set rows n (with_ident (row_at rows n) v)
move e held (set_length n v) rows = set rows n (with_length (row_at rows n) v)
move e held (set_data n j) rows = set rows n (with_data (row_at rows n) j (value_in e))
move e held (store n) rows = set rows n (image_of (frame_in e))
move e held (hold k) rows = rows
move e held (release k n) rows = set rows n (row_at held k)

unfoldable pub move_all : Step → List Contents → List Move → List Contents → List Contents
move_all e held [] rows = rows
move_all e held (m ∷ ms) rows = move_all e held ms (move e held m rows)

-- The same move of the two places' bytes: a frame waits as it will be stored. A place that is free again keeps its bytes; nothing shows
-- them, and the next frame that waits there covers them all.
abbrev pub hold_by : Step → Move → List Contents → List Contents
hold_by e wipe held = replicate 2 blank
hold_by e (set_ident n v) held = held
hold_by e (set_length n v) held = held
hold_by e (set_data n j) held = held
hold_by e (store n) held = held
hold_by e (hold k) held = set held k (image_of (frame_in e))
hold_by e (release k n) held = held

unfoldable pub hold_all : Step → List Move → List Contents → List Contents
hold_all e [] held = held
hold_all e (m ∷ ms) held = hold_all e ms (hold_by e m held)

-- a data byte is shown to a read of a data register, and to nothing else
abbrev pub answer_of : Step → List Contents → Reply → Answer
answer_of e rows (say a) = a
answer_of e rows (show n j) = Value (pick (reads_data e) (data_at (row_at rows n) j) 0)
answer_of e rows (send n) = Sent (length (frame_of (row_at rows n)))

abbrev pub sent_of : List Contents → Reply → List ℕ
sent_of rows (say a) = []
sent_of rows (show n j) = []
sent_of rows (send n) = frame_of (row_at rows n)

-- What a step gives: the next record, the answer, the frame sent, the room's content, and how many dedicated receive buffers were
-- examined (W8). A sent frame "fills the first
-- bytes of the room and the rest stays, as the whole room does on any other answer".
pub record Outcome : Type 0 where
  pub next : Controller
  pub answer : Answer
  pub sent : List ℕ
  pub room : List ℕ
  pub looked : ℕ

unfoldable pub carry : Step → List Contents → List Contents → Plan → Outcome
carry e rows held p =
    record {
      next = record { control = p.control; rows = move_all e held p.moves rows; held = hold_all e p.moves held };
      answer = answer_of e rows p.reply;
      sent = sent_of rows p.reply;
      room = fill_room (sent_of rows p.reply) (room_in e);
      looked = p.looked;
    }
