-- The steps of the bus in the terms of the code: what a change does to the record, and that its changes (a frame's in
-- proofs/CodeLaws.antt) and rulings do what the rules say.
use Rattle.std.specs.Prelude.{◌≡◌, ℕ, ◌%◌, ◌≤◌, ◌<◌, Bool, true, false, List, get_or, set, length, ltb}
use Rattle.std.proofs.Math.Path.{refl, sym, ap}
use Rattle.std.proofs.Common.{◌∙◌, arith}
use borrow.Author.Tests.{lt-ltb, le-ltb, ltb-true, ltb-false}
use Rattle.std.proofs.Math.ListN.{length-replicate}
use Rattle.std.proofs.Math.Seq.{set_out}
use Rattle.masks.specs.Pick.{pick}
use Rattle.masks.specs.PickLaws.{pick_true, pick-false, pick-keeps, by-test}
use Rattle.masks.specs.Bits.{mask_of, highest}
use Rattle.contents.specs.declared.Contents.{Contents}
use Rattle.contents.specs.Bytes.{Head, image_of}
use Rattle.sending.specs.CodeRoom.{fill_none}
use Rattle.rules.specs.declared.SyncKind.{SyncKind}
use Rattle.rules.specs.declared.Fault.{Fault}
use Rattle.rules.specs.declared.Fault.TheVariants.{Early, Lost, Illegal, Mismatch}
use Rattle.rules.specs.declared.Answer.{Answer}
use Rattle.rules.specs.declared.Answer.TheVariants.{Ok, Refused, Ignored, Woke}
use Rattle.rules.specs.declared.Control.{Control}
use Rattle.rules.specs.declared.Ruling.{Ruling}
use Rattle.rules.specs.declared.Target.TheVariants.{Place}
use Rattle.rules.specs.declared.Verdict.{Verdict}
use Rattle.rules.specs.declared.Verdict.TheVariants.{Say, Store, Send}
use Rattle.rules.specs.Steps.{Step, reset, sync, sync_due, slot, frame, fault, timeout, hide}
use Rattle.rules.specs.Plan.{Reply, say, show, send, Plan, plain}
use Rattle.rules.specs.Answers.{is_looked_up}
use Rattle.rules.specs.Refusals.{refuses11, refuses12, refusal}
use Rattle.rules.specs.Waiting.{asleep}
use Rattle.rules.specs.Modes.{wake, cancel}
use Rattle.rules.specs.Bus.{woken, due_kind, lookup, offers, judged, received, slot_for, slotted, synced, due_sync, timed_out, faulted}
use Rattle.rules.specs.Rules.{on_bus, wakes, sleeps_on, act, decide}
use Rattle.rules.specs.Hidden.{decide-hide}
use Rattle.rules.specs.LookedLaws.{looked_by, looked_in}
use Rattle.rules.proofs.LookedLaws.{decide-told}
use Rattle.rules.specs.BusPlanLaws.{FramePlan, drops, waits, puts, SlotPlan, says, sends, slot-plan}
use Rattle.bus_steps.specs.Code.{ruling_of, is_ready, synced_of, due_of}
use Rattle.bus_steps.specs.CodeLaws.{synced-ready, due-ready}
use Rattle.controller.specs.declared.Controller.{Controller}
use Rattle.controller.specs.declared.Answered.{Answered}
use Rattle.controller.specs.declared.Done.{Done}
use Rattle.controller.specs.Carry.{heads, row_at, move_all, hold_all, answer_of, Outcome, carry, reset_state}
use Rattle.controller.specs.Session.{step_of}
use Rattle.controller.specs.Calls.{done_of, accepted}
use Rattle.controller.specs.Code.{answered, counted_by, unlooked, staying, told_of, saying, storing, placing, putting, changed, ruling_for, slot_ruling, kept_from, said_change, event_change, frame_change, row_index, room_by}

-- the rules are given the step itself
pub step-plain : (c : Controller) (e : Step) → step_of c e ≡ carry e c.rows c.held (decide c.control (heads c.rows) e)
unfolding step_of
step-plain c e = ap (carry e c.rows c.held) (decide-hide c.control (heads c.rows) e)

-- ---- a change carried out

-- row being the one to look at for buffer n
pub row-own : (rows : List Contents) (n : ℕ) (row : Contents) → n < 16 → row ≡ row_at rows (n % 16) → row ≡ row_at rows n
row-own rows n row h e = e ∙ ap (row_at rows) small
  where
    small : n % 16 ≡ n
    small = omega arith

-- where nothing was looked up, the answer tells the count 0
pub unlooked-told : (c : Controller) (a : Answer) → is_looked_up a ≡ false → staying c (unlooked a) ≡ answered c a
unfolding looked_by
unlooked-told c a u = ap (λ (k : ℕ). staying c (record { answer = a; looked = k })) (sym (pick-false (is_looked_up a) _ _ u))

module _ (c : Controller) (d : Control) (x : Answered) where
  -- the record with these bytes, and the answer
  abbrev given : List Contents → List Contents → Done
  given rows held = staying (record { control = d; rows = rows; held = held }) x

  pub says-only : changed c (saying d x) ≡ given c.rows c.held
  says-only = refl

  -- place k becomes b
  pub places-held : (k : ℕ) (b : Contents) → changed c (storing d (Place k) b x) ≡ given c.rows (set c.held k b)
  places-held k b = refl

  -- buffer n becomes b
  pub places_row : (n : ℕ) (b : Contents) → changed c (placing d n b x) ≡ given (set c.rows n b) c.held
  places_row n b = refl

  -- buffer n becomes what w makes of it, which is had from the row to look at
  pub puts-row : (w : Contents → Contents) (n : ℕ) (row : Contents) → length c.rows ≡ 16 → row ≡ row_at c.rows (n % 16) →
      changed c (putting d n (w row) x) ≡ given (set c.rows n (w (row_at c.rows n))) c.held
  puts-row w n row sixteen e = by-test (ltb n 16) inside outside
    where
      inside : ltb n 16 ≡ true → changed c (putting d n (w row) x) ≡ given (set c.rows n (w (row_at c.rows n))) c.held
      inside t =
          ap (changed c) (pick_true (ltb n 16) _ _ t)
          ∙ places_row n (w row)
          ∙ ap (λ (b : Contents). given (set c.rows n (w b)) c.held) (row-own c.rows n row (ltb-true n 16 t) e)

      outside : ltb n 16 ≡ false → changed c (putting d n (w row) x) ≡ given (set c.rows n (w (row_at c.rows n))) c.held
      outside t =
          let past = ltb-false n 16 t in
          ap (changed c) (pick-false (ltb n 16) _ _ t) ∙ says-only ∙ ap (λ (rows : List Contents). given rows c.held) (sym (set_out c.rows n _ (omega arith)))

-- ---- rulings

-- a verdict's row is one of the sixteen
pub row_within : (v : Verdict) → row_index v < 16
row_within (Say a) = omega arith
row_within (Store t a) = omega arith
row_within (Send n) = omega arith

answer-told : (d : Control) (e : Step) (rows : List Contents) (r : Reply) → looked_in d r ≡ looked_by d (answer_of e rows r)
unfolding looked_by pick
answer-told d e rows (say a) = refl
answer-told d e rows (show n j) = refl
answer-told d e rows (send n) = refl

-- the count that a step reports is told by the record after it and by its answer
pub step-told : (c : Controller) (e : Step) → done_of (step_of c e) ≡ told_of (step_of c e)
unfolding step_of carry
step-told c e =
    let p = decide c.control (heads c.rows) (hide e) in
    ap (λ (k : ℕ). staying (step_of c e).next (record { answer = (step_of c e).answer; looked = k }))
    ((decide-told c.control (heads c.rows) (hide e)).told ∙ answer-told p.control e c.rows p.reply)

-- what the step does, as its plan is carried out
pub by-plan : (c : Controller) (e : Step) (p : Plan) → decide c.control (heads c.rows) e ≡ p → done_of (step_of c e) ≡ told_of (carry e c.rows c.held p)
by-plan c e p d = step-told c e ∙ ap told_of (step-plain c e ∙ ap (carry e c.rows c.held) d)

-- a plan that changes the control state alone
pub plain_done : (c : Controller) (e : Step) (d : Control) (a : Answer) → told_of (carry e c.rows c.held (plain d a)) ≡ answered (record { control = d; rows = c.rows; held = c.held }) a
unfolding carry move_all hold_all
plain_done c e d a = refl

-- a plan that only answers, from the control state c: no buffer's bytes are looked at, and the configuration, the locks and the waiting
-- places stay
pub data OnlySays (c : Control) : Plan → Type 0 where
  only : (d : Control) (a : Answer) → is_looked_up a ≡ false → kept_from c d ≡ d → OnlySays c (plain d a)

same_kept : (c : Control) → kept_from c c ≡ c
unfolding kept_from
same_kept c = refl

woken-kept : (c : Control) → kept_from c (woken c) ≡ woken c
unfolding kept_from woken wake
woken-kept c = refl

synced-kept : (k : SyncKind) (c : Control) (hs : List Head) → kept_from c (synced k (cancel c) hs) ≡ synced k (cancel c) hs
unfolding kept_from synced cancel
synced-kept k c hs = refl

faulted-kept : (k : Fault) (c : Control) → kept_from c (faulted k (cancel c)) ≡ faulted k (cancel c)
unfolding kept_from faulted cancel
faulted-kept Early c = refl
faulted-kept Lost c = refl
faulted-kept Illegal c = refl
faulted-kept Mismatch c = refl

timed-out-kept : (c : Control) → kept_from c (timed_out c) ≡ timed_out c
unfolding kept_from timed_out
timed-out-kept c = refl

bus-says : (c : Control) (p q : Plan) → OnlySays c p → OnlySays c q → OnlySays c (on_bus c p q)
unfolding on_bus
bus-says c p q x y =
    pick-keeps (OnlySays c) c.mode.init (λ t. only c Ignored refl (same_kept c)) (λ t. pick-keeps (OnlySays c) (asleep c) (λ u. x) (λ u. y))

wakes-says : (c d : Control) → kept_from c d ≡ d → OnlySays c (wakes c (plain d Ok))
wakes-says c d k = bus-says c _ _ (only (woken c) Woke refl (woken-kept c)) (only d Ok refl k)

sleeps-says : (c d : Control) → kept_from c d ≡ d → OnlySays c (sleeps_on c (plain d Ok))
sleeps-says c d k = bus-says c _ _ (only c Ignored refl (same_kept c)) (only d Ok refl k)

due-says : (c : Control) (hs : List Head) → OnlySays c (sleeps_on c (due_sync c hs))
unfolding due_sync
due-says c hs =
    bus-says c _ _ (only c Ignored refl (same_kept c))
    (pick-keeps (OnlySays c) c.mode.master (λ t. only _ _ refl (synced-kept (due_kind c) c hs)) (λ t. only c Ignored refl (same_kept c)))

only-changes : (c : Controller) (e : Step) (p : Plan) → OnlySays c.control p → changed c (said_change c.control (ruling_of p)) ≡ told_of (carry e c.rows c.held p)
only-changes c e p (only d a u k) =
    says-only c _ (unlooked a) ∙ ap (λ (h : Control). staying (record { control = h; rows = c.rows; held = c.held }) (unlooked a)) k ∙ unlooked-told _ a u ∙ sym (plain_done c e d a)

event-changes : (c : Controller) (e : Step) → OnlySays c.control (decide c.control (heads c.rows) e) → changed c (event_change c e) ≡ done_of (step_of c e)
unfolding ruling_for
event-changes c e s = only-changes c e _ s ∙ sym (by-plan c e _ refl)

-- a frame's plan stores the frame's image, or keeps it in a place, whatever stood there
pub frame-stores : (c : Controller) → length c.rows ≡ 16 → (good : Bool) (f : List ℕ) (p : Plan) → FramePlan p →
    changed c (frame_change (ruling_of p) f) ≡ told_of (carry (frame good f) c.rows c.held p)
unfolding carry move_all hold_all frame_change
frame-stores c sixteen good f p (drops d a k q r) = says-only c d (counted_by d a)
frame-stores c sixteen good f p (waits d j a k h q) = places-held c d (counted_by d a) j (image_of f)
frame-stores c sixteen good f p (puts d n a k q) = places_row c d (counted_by d a) n (image_of f)

-- ---- what the events change

module _ (c : Controller) where
  pub sync-changes : (k : SyncKind) → changed c (event_change c (sync k)) ≡ done_of (step_of c (sync k))
  unfolding decide refusal act pick
  sync-changes k = event-changes c (sync k) (wakes-says c.control _ (synced-kept k c.control (heads c.rows)))

  pub sync-due-changes : changed c (event_change c sync_due) ≡ done_of (step_of c sync_due)
  unfolding decide refusal act pick
  sync-due-changes = event-changes c sync_due (due-says c.control (heads c.rows))

  pub fault-changes : (k : Fault) → changed c (event_change c (fault k)) ≡ done_of (step_of c (fault k))
  unfolding decide refusal act pick
  fault-changes k = event-changes c (fault k) (wakes-says c.control _ (faulted-kept k c.control))

  pub timeout-changes : changed c (event_change c timeout) ≡ done_of (step_of c timeout)
  unfolding decide refusal act pick
  timeout-changes = event-changes c timeout (sleeps-says c.control _ (timed-out-kept c.control))

  pub reset-step : done_of (step_of c reset) ≡ staying reset_state accepted
  unfolding step_of decide refusal act pick carry move_all hold_all reset_state
  reset-step = refl

  -- the plan of a slot
  abbrev pub slot_plan : ℕ → List ℕ → Plan
  slot_plan i room = decide c.control (heads c.rows) (slot i room)

  pub slot-sized : (i : ℕ) (room : List ℕ) → slot_ruling c i (length room) ≡ ruling_of (slot_plan i room)
  unfolding ruling_for decide refusal act refuses12
  slot-sized i room = simp length-replicate

  slot-fills : (i : ℕ) (room : List ℕ) (p : Plan) → SlotPlan p → (carry (slot i room) c.rows c.held p).room ≡ room_by c.rows room (ruling_of p).verdict
  unfolding carry
  slot-fills i room p (says d a u) = fill_none room
  slot-fills i room p (sends d n) = refl

  pub slot-room : (i : ℕ) (room : List ℕ) → room_by c.rows room (slot_ruling c i (length room)).verdict ≡ (step_of c (slot i room)).room
  slot-room i room =
      ap (λ (r : Ruling). room_by c.rows room r.verdict) (slot-sized i room)
      ∙ sym (ap (λ (o : Outcome). o.room) (step-plain c (slot i room)) ∙ slot-fills i room (slot_plan i room) (slot-plan c.control (heads c.rows) i room))

  -- the rulings as the code has them: m the full transmit buffers with an identifier, n the buffer that was looked up
  pub sync-ruling : (k : SyncKind) (m : ℕ) → m ≡ mask_of (is_ready c.control (heads c.rows)) →
      ruling_of (wakes c.control (plain (synced_of k c.control m) Ok)) ≡ ruling_for c (sync k)
  unfolding ruling_for decide refusal act pick
  sync-ruling k m e = ap (λ (d : Control). ruling_of (wakes c.control (plain d Ok))) (synced-ready k c.control (heads c.rows) m e)

  pub due-ruling : (m : ℕ) → m ≡ mask_of (is_ready c.control (heads c.rows)) → ruling_of (sleeps_on c.control (due_of c.control m)) ≡ ruling_for c sync_due
  unfolding ruling_for decide refusal act pick
  due-ruling m e = ap (λ (q : Plan). ruling_of (sleeps_on c.control q)) (due-ready c.control (heads c.rows) m e)

  pub frame-ruling : (good : Bool) (f : List ℕ) (n : ℕ) → refuses11 f ≡ false → n ≡ lookup c.control (heads c.rows) (get_or f 0 0) →
      ruling_of (wakes c.control (judged c.control good (get_or f 0 0) n)) ≡ ruling_for c (frame good f)
  unfolding ruling_for decide refusal act received pick
  frame-ruling good f n r e = simp (r, e)

  pub frame_refused : (good : Bool) (f : List ℕ) → refuses11 f ≡ true → record { next = c.control; verdict = Say (Refused 11) } ≡ ruling_for c (frame good f)
  unfolding ruling_for decide refusal pick
  frame_refused good f r = simp r

  pub slot-ruling : (i n size : ℕ) → 14 ≤ size → n ≡ highest (offers c.control (heads c.rows) i) 16 →
      ruling_of (sleeps_on c.control (slot_for c.control i n)) ≡ slot_ruling c i size
  unfolding ruling_for decide refusal refuses12 act slotted pick
  slot-ruling i n size h e = simp (length-replicate, le-ltb size 14 h, e)

  pub slot-refused : (i size : ℕ) → size < 14 → record { next = c.control; verdict = Say (Refused 12) } ≡ slot_ruling c i size
  unfolding ruling_for decide refusal refuses12 pick
  slot-refused i size h = simp (length-replicate, lt-ltb size 14 h)
