-- Laws of the bus events' proofs: a frame's size, the bytes of a buffer, also past the last, the room, and what a slot's ruling changes.
use Prim.Native.Nat.{ℕ, ◌+◌, ◌%◌, ◌≤◌, ◌<◌}
use mathlib.Core.Bool.{Bool, true, false, not}
use mathlib.Core.List.{List}
use mathlib.Core.Path.{◌≡◌, refl, sym, ap, ◌∙◌}
use native.Mathlib.Omega.{arith}
use borrow.Author.Tests.{lt-ltb, le-ltb, ltb-true, ltb-false, eqb-true, not-false}
use lib.Dec.{ltb}
use lib.ListN.{get_or, length, get_or-eq_default}
use Rattle.masks.specs.PickLaws.{pick_true, pick-false, by-test}
use Rattle.contents.specs.declared.Contents.{Contents}
use Rattle.contents.specs.Bytes.{blank, no_contents, cut, bytes_from, frame_of, fill_room}
use Rattle.contents.specs.Code.{well_sized}
use Rattle.sending.specs.CodeRoom.{room-filled}
use Rattle.rules.specs.Refusals.{refuses11}
use Rattle.rules.specs.Steps.{slot}
use Rattle.rules.specs.Plan.{Plan}
use Rattle.bus_steps.specs.Code.{ruling_of}
use Rattle.rules.specs.BusPlanLaws.{SlotPlan, says, sends, slot-plan}
use Rattle.rules.specs.declared.Answer.TheVariants.{Sent}
use Rattle.rules.specs.declared.Ruling.{Ruling}
use Rattle.rules.specs.declared.Verdict.{Verdict}
use Rattle.rules.specs.declared.Verdict.TheVariants.{Say, Store, Send}
use Rattle.controller.specs.declared.Controller.{Controller}
use Rattle.controller.specs.Carry.{heads, row_at, move_all, hold_all, carry}
use Rattle.controller.specs.Session.{step_of}
use Rattle.controller.specs.Calls.{done_of}
use Rattle.controller.specs.Code.{answered, unlooked, told_of, changed, slot_ruling, row_index, contents_at, contents_in, slot_change, room_by, room_sent}
use Rattle.controller.specs.CodeLaws.{row-own, unlooked-told, says-only, by-plan, slot_plan, slot-sized, slot-refused, slot-room}

-- ---- a frame's size

-- r being the answer of `well_sized`
pub size-told : (f : List ℕ) (r : Bool) {t : Bool} → r ≡ well_sized f → not r ≡ t → refuses11 f ≡ t
unfolding refuses11
size-told f r e h = sym (ap not e) ∙ h

pub sized-long : (f : List ℕ) → refuses11 f ≡ false → 2 ≤ length f
unfolding refuses11
sized-long f e = let h = eqb-true (length f) (2 + cut (get_or f 1 0)) (not-false _ e) in omega arith

-- ---- the contents of buffer n, whose row is given

module _ (n : ℕ) (row : Contents) where
  contents-in : n < 16 → contents_at n row ≡ row
  unfolding contents_at
  contents-in h = pick_true (ltb n 16) _ _ (lt-ltb n 16 h)

  contents-out : 16 ≤ n → contents_at n row ≡ blank
  unfolding contents_at
  contents-out h = pick-false (ltb n 16) _ _ (le-ltb n 16 h)

pub row-contents : (rows : List Contents) (n : ℕ) (row : Contents) → row ≡ row_at rows (n % 16) → contents_at n row ≡ contents_in rows n
row-contents rows n row e =
    by-test (ltb n 16) (λ t. ap (contents_at n) (row-own rows n row (ltb-true n 16 t) e))
    (λ t. let past = ltb-false n 16 t in contents-out n row past ∙ sym (contents-out n (row_at rows n) past))

no-frame : frame_of blank ≡ frame_of no_contents
unfolding frame_of bytes_from
no-frame = refl

-- the frame of buffer n, also past the last
pub frame_row : (rows : List Contents) (n : ℕ) → length rows ≡ 16 → frame_of (contents_in rows n) ≡ frame_of (row_at rows n)
frame_row rows n l =
    by-test (ltb n 16) (λ t. ap frame_of (contents-in n (row_at rows n) (ltb-true n 16 t)))
    (λ t. let past = ltb-false n 16 t in
    ap frame_of (contents-out n (row_at rows n) past) ∙ no-frame ∙ ap frame_of (sym (get_or-eq_default rows no_contents (omega arith))))

-- ---- the room that the code leaves is the one of the rules

sent-room : (rows : List Contents) (room : List ℕ) (v : Verdict) → length rows ≡ 16 → 14 ≤ length room → room_sent rows room v ≡ room_by rows room v
sent-room rows room (Say a) l h = refl
sent-room rows room (Store t a) l h = refl
sent-room rows room (Send n) l h = room-filled (contents_in rows n) room h ∙ ap (λ (f : List ℕ). fill_room f room) (frame_row rows n l)

pub slot-sends : (c : Controller) → length c.rows ≡ 16 → (i : ℕ) (room : List ℕ) → room_sent c.rows room (slot_ruling c i (length room)).verdict ≡ (step_of c (slot i room)).room
slot-sends c sixteen i room = by-test (ltb (length room) 14) small large ∙ slot-room c i room
  where
    r : Ruling
    r = slot_ruling c i (length room)

    small : ltb (length room) 14 ≡ true → room_sent c.rows room r.verdict ≡ room_by c.rows room r.verdict
    small t =
        let refused = slot-refused c i (length room) (ltb-true (length room) 14 t) in
        ap (λ (x : Ruling). room_sent c.rows room x.verdict) (sym refused) ∙ ap (λ (x : Ruling). room_by c.rows room x.verdict) refused

    large : ltb (length room) 14 ≡ false → room_sent c.rows room r.verdict ≡ room_by c.rows room r.verdict
    large t = sent-room c.rows room r.verdict sixteen (ltb-false (length room) 14 t)

-- ---- a slot's ruling as a change does to the record what the rules say, row being that of the buffer that is sent

module _ (c : Controller) (sixteen : length c.rows ≡ 16) (i : ℕ) (room : List ℕ) where
  slot-answers : (row : Contents) (p : Plan) → SlotPlan p → row ≡ row_at c.rows (row_index (ruling_of p).verdict) →
      changed c (slot_change (ruling_of p) row) ≡ told_of (carry (slot i room) c.rows c.held p)
  unfolding carry move_all hold_all slot_change
  slot-answers row p (says d a u) e = says-only c d (unlooked a) ∙ unlooked-told _ a u
  slot-answers row p (sends d n) e =
      says-only c d _ ∙ unlooked-told _ (Sent _) refl
      ∙ ap (λ (x : List ℕ). answered (record { control = d; rows = c.rows; held = c.held }) (Sent (length x)))
      (ap frame_of (row-contents c.rows n row e) ∙ frame_row c.rows n sixteen)

  -- r being the slot's ruling
  pub slot-changes : (r : Ruling) → r ≡ slot_ruling c i (length room) → (row : Contents) → row ≡ row_at c.rows (row_index r.verdict) →
      changed c (slot_change r row) ≡ done_of (step_of c (slot i room))
  slot-changes r e row same =
      let told = e ∙ slot-sized c i room in
      ap (λ (x : Ruling). changed c (slot_change x row)) told
      ∙ slot-answers row (slot_plan c i room) (slot-plan c.control (heads c.rows) i room) (same ∙ ap (λ (x : Ruling). row_at c.rows (row_index x.verdict)) told)
      ∙ sym (by-plan c (slot i room) _ refl)
