-- Towards proofs/ViewLaws.antt: the public view of a controller after a move, and what is seen of a report.
use Rattle.std.specs.Prelude.{◌≡◌, ℕ, zero, suc, Bool, true, false, get_or, set, replicate, length}
use Rattle.std.proofs.Math.Path.{refl}
use Rattle.std.proofs.Common.{sym, ap}
use mathlib.Core.List.{List, [], ◌∷◌}
use Rattle.std.proofs.Math.ListN.{get_or-map}
use Rattle.masks.specs.Pick.{pick}
use Rattle.contents.specs.declared.Contents.{Contents}
use Rattle.contents.specs.Bytes.{Head, no_head, head_of, no_contents, cut, fill_room}
use Rattle.contents.specs.Payload.{zeros}
use Rattle.contents.specs.PayloadLaws.{zeros-zeros, hide-ident, hide-length, head-ident, head-length, head-data, head-store, head_frame, frame-head, head-hide, frame-size, head-size}
use Rattle.contents.proofs.Payload.{room-head}
use Rattle.rules.specs.declared.Control.{Control}
use Rattle.rules.specs.HiddenLaws.{frame-hide, room-hide, reads-hide}
use Rattle.rules.specs.declared.Answer.{Answer}
use Rattle.rules.specs.declared.Answer.TheVariants.{Value, Sent}
use Rattle.rules.specs.Steps.{Step, reads_data, frame_in, room_in, hide}
use Rattle.rules.specs.Plan.{head_at, Move, wipe, set_ident, set_length, set_data, store, hold, release, Reply, say, show, send, Plan, Rules}
use Rattle.controller.specs.Carry.{heads, row_at, move, hold_by, carry}
use Rattle.rules.specs.Answers.{word_of, Given, given_of, is_sent, framed, detail_of}
use Rattle.controller.specs.Session.{Report, report_of, seen_detail, seen_room, seen}
use Rattle.controller.specs.View.{View}

-- ---- the heads after a move

heads-set : (rows : List Contents) (n : ℕ) (b : Contents) → heads (set rows n b) ≡ set (heads rows) n (head_of b)
heads-set [] n b = refl
heads-set (r ∷ rows) zero b = refl
heads-set (r ∷ rows) (suc n) b = ap (λ (t : List Head). head_of r ∷ t) (heads-set rows n b)

pub head_at_lem : (rows : List Contents) (n : ℕ) → head_at (heads rows) n ≡ head_of (row_at rows n)
head_at_lem rows n = get_or-map head_of rows n no_contents

-- the head of the frame f once it is stored
abbrev pub head_in : List ℕ → Head
head_in f = record { ident = get_or f 0 0; len = cut (get_or f 1 0) }

-- a move as it shows in the heads, from the hidden step's frame and the heads of the frames that waited
unfoldable pub head_move : List ℕ → List Head → Move → List Head → List Head
head_move f held wipe hs = replicate 16 no_head
head_move f held (set_ident n v) hs = set hs n (record { ident = v; len = (head_at hs n).len })
head_move f held (set_length n v) hs = set hs n (record { ident = (head_at hs n).ident; len = v })
head_move f held (set_data n j) hs = set hs n (head_at hs n)
head_move f held (store n) hs = set hs n (head_in f)
head_move f held (hold k) hs = hs
head_move f held (release k n) hs = set hs n (head_at held k)

unfoldable pub head_moves : List ℕ → List Head → List Move → List Head → List Head
head_moves f held [] hs = hs
head_moves f held (m ∷ ms) hs = head_moves f held ms (head_move f held m hs)

-- and in the heads of the frames that wait
unfoldable pub head_hold : List ℕ → Move → List Head → List Head
head_hold f wipe hs = replicate 2 no_head
head_hold f (set_ident n v) hs = hs
head_hold f (set_length n v) hs = hs
head_hold f (set_data n j) hs = hs
head_hold f (store n) hs = hs
head_hold f (hold k) hs = set hs k (head_in f)
head_hold f (release k n) hs = hs

unfoldable pub head_holds : List ℕ → List Move → List Head → List Head
head_holds f [] hs = hs
head_holds f (m ∷ ms) hs = head_holds f ms (head_hold f m hs)

pub heads-move : (e : Step) (held : List Contents) (m : Move) (rows : List Contents) →
    heads (move e held m rows) ≡ head_move (frame_in (hide e)) (heads held) m (heads rows)
unfolding head_move
heads-move e held wipe rows = refl
heads-move e held (set_ident n v) rows = simp (heads-set, head-ident, head_at_lem)
heads-move e held (set_length n v) rows = simp (heads-set, head-length, head_at_lem)
heads-move e held (set_data n j) rows = simp (heads-set, head-data, head_at_lem)
heads-move e held (store n) rows = simp (heads-set, head-store, frame-hide, hide-ident, hide-length)
heads-move e held (hold k) rows = refl
heads-move e held (release k n) rows = simp (heads-set, head_at_lem)

pub heads-hold : (e : Step) (m : Move) (held : List Contents) → heads (hold_by e m held) ≡ head_hold (frame_in (hide e)) m (heads held)
unfolding head_hold
heads-hold e wipe held = refl
heads-hold e (set_ident n v) held = refl
heads-hold e (set_length n v) held = refl
heads-hold e (set_data n j) held = refl
heads-hold e (store n) held = refl
heads-hold e (hold k) held = simp (heads-set, head-store, frame-hide, hide-ident, hide-length)
heads-hold e (release k n) held = refl

-- ---- what is seen of a reply

-- a data byte that is shown is not seen
seen-shown : (d : Bool) (x : ℕ) → pick d 0 (pick d x 0) ≡ 0
unfolding pick
seen-shown true x = refl
seen-shown false x = refl

head_answer : List Head → Reply → Answer
head_answer hs (say a) = a
head_answer hs (show n j) = Value 0
head_answer hs (send n) = Sent (length (head_frame (head_at hs n)))

head_sent : List Head → Reply → List ℕ
head_sent hs (say a) = []
head_sent hs (show n j) = []
head_sent hs (send n) = head_frame (head_at hs n)

-- the report on the public view of the rules' plan
pub head_report : (Control → ℕ) → List Head → Step → Plan → Report
head_report lines hs e p =
    record {
      word = word_of (head_answer hs p.reply);
      detail = seen_detail (reads_data e) (detail_of (head_answer hs p.reply) (head_sent hs p.reply));
      room = seen_room (detail_of (head_answer hs p.reply) (head_sent hs p.reply)) (fill_room (head_sent hs p.reply) (room_in e));
      lines = lines p.control;
      looked = p.looked;
    }

seen_none : (d : Bool) → pick {A = ℕ} d 0 0 ≡ 0
unfolding pick
seen_none true = refl
seen_none false = refl

-- where no frame was sent nothing of the room is seen but its length
room-framed : (t : Bool) (g : Given) (room : List ℕ) → seen_room (framed t g []) room ≡ seen_room (framed t g []) (zeros room)
room-framed true g room = sym (zeros-zeros room)
room-framed false g room = sym (zeros-zeros room)

room-free : (a : Answer) (room : List ℕ) → seen_room (detail_of a []) room ≡ seen_room (detail_of a []) (zeros room)
room-free a room = room-framed (is_sent a) (given_of a) room

pub report-by : (lines : Control → ℕ) (e : Step) (rows held : List Contents) (c : Control) (ms : List Move) (r : Reply) (k : ℕ) →
    seen e (report_of lines (carry e rows held (record { control = c; moves = ms; reply = r; looked = k })))
    ≡ head_report lines (heads rows) (hide e) (record { control = c; moves = ms; reply = r; looked = k })
unfolding carry head_report head_answer head_sent fill_room
report-by lines e rows held c ms (say a) k = simp (reads-hide, room-hide, room-free a (room_in e))
report-by lines e rows held c ms (show n j) k = simp (reads-hide, room-hide, seen-shown, seen_none, zeros-zeros)
report-by lines e rows held c ms (send n) k = simp (room-hide, head_at_lem, frame-head, head-hide, room-head) (simp (frame-size, head-size))

-- ---- the view, step by step

module _ (decide : Rules) where
  abbrev plan_of : View → Step → Plan
  plan_of w e = decide w.control w.heads e

  -- the next view, from the view and the hidden step alone
  unfoldable pub view_next : View → Step → View
  view_next w e =
      record {
        control = (plan_of w e).control;
        heads = head_moves (frame_in e) w.held (plan_of w e).moves w.heads;
        held = head_holds (frame_in e) (plan_of w e).moves w.held;
      }

module _ (decide : Rules) (lines : Control → ℕ) where
  -- what is seen of the report, from the same
  unfoldable pub view_report : View → Step → Report
  view_report w e = head_report lines w.heads e (plan_of decide w e)

  unfoldable pub view_run : View → List Step → List Report
  view_run w [] = []
  view_run w (e ∷ es) = view_report w e ∷ view_run (view_next decide w e) es
