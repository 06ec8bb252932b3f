-- Laws of the loop over a piece's lines: bytes gathered, a line's end, and the turns of the loop.
use Prim.Native.Nat.{ℕ, zero, suc, ◌+◌, ◌-◌, ◌≤◌, ◌<◌, min}
use Rattle.std.proofs.Common.{arith, add-one, ◌∙◌, length-drop, drop_of_length-le, drop-cons}
use Rattle.std.specs.Prelude.{◌≡◌, refl, Bool, false, ◌&&◌, ◌⊎◌, take, drop, get_or, replicate, ltb, leb, eqb, Option, Some, None}
use Rattle.std.proofs.Math.Path.{sym, ap}
use Rattle.std.proofs.Math.Bool.{true}
use Rattle.std.proofs.lemmas.Bool.{false≢true}
use Rattle.std.proofs.Math.Logic.{inl, inr}
use mathlib.Core.List.{List, [], ◌∷◌, ◌++◌}
use borrow.Author.Tests.{ltb-true, ltb-false, le-leb, leb-true, leb-false}
use Rattle.std.proofs.Math.ListN.{length}
use Rattle.masks.specs.Pick.{pick}
use Rattle.masks.specs.PickLaws.{pick_true, pick-false, pick-keeps, by-test}
use Rattle.rules.specs.declared.Answer.{Answer}
use Rattle.rules.specs.Answers.{Detail, word_of, detail_of}
use Rattle.rules.specs.Flags.{lines_of}
use Rattle.controller.specs.declared.Controller.{Controller}
use Rattle.controller.specs.declared.Answered.{Answered}
use Rattle.controller.specs.declared.Call.{Call}
use Rattle.controller.specs.Carry.{Outcome}
use Rattle.controller.specs.Session.{step_of}
use Rattle.controller.specs.Calls.{answered_of, step_for, room_for}
use Rattle.lines.specs.declared.FrameBytes.{FrameBytes}
use Rattle.lines.specs.declared.Parsed.{Parsed}
use Rattle.lines.specs.declared.Found.{Found}
use Rattle.lines.specs.Grammar.{bytes_in, line_of}
use Rattle.lines.specs.Found.{lf_in, found_at}
use Rattle.lines.specs.FoundLaws.{found-lf, found-step, found_none}
use Rattle.report.specs.declared.Number.{Number}
use Rattle.report.specs.Text.{Put, fitting, row_of, unread_row, unread_text}
use Rattle.report.specs.CodeNumbers.{number_of, next_number, numbered_row}
use Rattle.report.specs.NumberLaws.{number-next, row-numbered, unread-numbered}
use Rattle.report.specs.Laws.{none, then, kept, fits, length-row, length-unread, frame-sent}
use Rattle.pieces.specs.declared.Held.{Held}
use Rattle.pieces.specs.declared.Gathered.{Gathered}
use Rattle.pieces.specs.Feed.{Feed, none_held, push_of, line_in, number_after, is_read, end_line, out_of}
use Rattle.pieces.specs.CodeGather.{gather_from, gather_of}
use Rattle.pieces.specs.GatherLaws.{Stops, stops as gather-stops, stops-within, gather-end, gather-out, lf-end, lf-out}
use Rattle.pieces.specs.TakenLaws.{gather-taken, lf-taken}
use Rattle.pieces.specs.HoldLaws.{held_same, part_held}
use Rattle.replaying.specs.declared.Player.{Player}
use Rattle.replaying.specs.declared.Tally.{Tally}
use Rattle.replaying.specs.declared.At.{At}
use Rattle.replaying.specs.Replay.{step_in, played_by, step_row, row_by, play, show_row}
use Rattle.replaying.specs.WholeLaws.{over-line}
use Rattle.rules.specs.KeptLinesLaws.{keeps_lines}
use Rattle.controller.specs.KeptLinesLaws.{lines-kept}
use Rattle.replaying.specs.SentLaws.{sent_size, detail-shown, cleared_by, room-cleared, sent-fits}
use Rattle.replaying.specs.CodeLoop.{answer_row, shown_if, shown_by, need_of, goes_on, passes, reaches, lines_after, unread_of, counted_of, sought_of, end_at, Unreads, Answers, feed_at, taken_by, Open, Over, Turns, Played, Plays}

true-false : {G : Type 0} {y : Bool} → y ≡ true → y ≡ false → G
true-false p q = absurd (false≢true (sym q ∙ p))

-- ---- whether the loop goes on

and_left : (x y : Bool) → (x && y) ≡ true → x ≡ true
and_left true y e = refl
and_left false y e = e

and_right : (x y : Bool) → (x && y) ≡ true → y ≡ true
and_right true y e = e
and_right false y e = absurd (false≢true e)

and_none : (x y : Bool) → (x && y) ≡ false → (x ≡ false) ⊎ (y ≡ false)
and_none true y e = inr e
and_none false y e = inl refl

module _ (t : At) (end size : ℕ) where
  pub goes-within : goes_on t end size ≡ true → t.from < end
  unfolding goes_on
  goes-within e = ltb-true t.from end (and_left _ _ e)

  pub goes-ready : goes_on t end size ≡ true → t.written + need_of t.rows ≤ size
  unfolding goes_on
  goes-ready e = leb-true (t.written + need_of t.rows) size (and_right (ltb t.from end) _ e)

  pub goes-not : goes_on t end size ≡ false → (end ≤ t.from) ⊎ (size < t.written + need_of t.rows)
  unfolding goes_on
  goes-not e = by (and_none _ _ e) where
    by : (ltb t.from end ≡ false) ⊎ (leb (t.written + need_of t.rows) size ≡ false) → (end ≤ t.from) ⊎ (size < t.written + need_of t.rows)
    by (inl q) = inl (ltb-false t.from end q)
    by (inr q) = inr (leb-false (t.written + need_of t.rows) size q)

-- ---- where a line ends

pub end_low : (piece : List ℕ) (from : ℕ) → from ≤ end_at piece from
end_low piece from = (gather-stops none_held piece from (length piece) _ refl).low

module _ (piece : List ℕ) (from : ℕ) (h : from ≤ length piece) where
  pub line-stops : Stops piece from (length piece) (gather_of none_held piece from (length piece))
  line-stops = stops-within none_held piece from (length piece) _ refl h (omega arith)

  pub end-high : end_at piece from ≤ length piece
  end-high = line-stops.high

  pub end-lf : end_at piece from < length piece → get_or piece (end_at piece from) 0 ≡ 10
  end-lf l = by-test (gather_of none_held piece from (length piece)).ended (λ f. line-stops.lf f) (λ f. absurd (omega (arith, line-stops.all f)))

-- past the last byte no line ends
pub end-past : (piece : List ℕ) (from : ℕ) → from ≤ length piece → length piece ≤ from → end_at piece from ≡ length piece
end-past piece from h l = omega (arith, end_low piece from, end-high piece from h)

-- the first LF is where gathering stops
lf-from : (k : ℕ) (h : Held) (t : List ℕ) (i : ℕ) → i + k ≡ length t → (gather_from h t i k).at ≡ i + lf_in (drop i t)
unfolding gather_from lf_in
lf-from zero h t i e = let z : drop i t ≡ [] = drop_of_length-le t {i = i} (omega arith) in rw z (omega arith)
lf-from (suc k) h t i e =
    rw (drop-cons t i 0 (omega arith)) (by-test (eqb (get_or t i 0) 10)
    (λ q. simp (pick_true, q) (omega arith))
    (λ q. simp (pick-false, q) (lf-from k (push_of h (get_or t i 0)) t (i + 1) (omega arith) ∙ ap (λ (n : ℕ). i + 1 + lf_in (drop n t)) (add-one i) ∙ omega arith)))

pub end_is : (piece : List ℕ) (from : ℕ) → from ≤ length piece → end_at piece from ≡ from + lf_in (drop from piece)
unfolding gather_of
end_is piece from h =
    let z : min (length piece) (length piece) ≡ length piece = omega arith in
    ap (λ (n : ℕ). (gather_from none_held piece from (n - from)).at) z ∙ lf-from (length piece - from) none_held piece from (omega arith)

-- the line where it lies is the one that would be held
pub line-held : (piece : List ℕ) (from : ℕ) → line_of (take (end_at piece from - from) (drop from piece)) ≡ line_of (line_in (gather_of none_held piece from (length piece)).held)
line-held piece from = sym (held_same line_of over-line _ _ (part_held piece from (length piece) _ refl))

-- ---- the loop's place

abbrev pub player_at : Controller → At → Player
player_at c t = record { controller = c; tally = t.tally }

-- a row is put where there is room for it
row_fits : (rows : Bool) (out : List ℕ) (w : ℕ) (xs : List ℕ) → w + need_of rows ≤ length out → shown_if rows (fitting out w xs) ≡ shown_if rows xs
row_fits true out w xs h = fits out w xs h
row_fits false out w xs h = refl

pub row_small : (rows : Bool) (xs : List ℕ) → length xs ≤ 64 → length (shown_if rows xs) ≤ need_of rows
row_small true xs h = h
row_small false xs h = omega arith

by-small : (p : Player) (n : ℕ) (l : Option Call) (f : FrameBytes) → length (row_by p n l f) ≤ 64
unfolding row_by step_row
by-small p n (Some call) f =
    let o : Outcome = step_of p.controller (step_in call f) in
    length-row n (word_of o.answer) (detail_of o.answer o.sent) (lines_of o.next.control) o.looked (frame-sent o.answer o.sent (sent-fits p.controller (step_in call f)))
by-small p n None f = length-unread n (lines_of p.controller.control)

pub show-small : (p : Player) (n : ℕ) (e : Bool) (l : List ℕ) → length (show_row p n e l) ≤ 64
unfolding show_row
show-small p n e l = by-small p n (line_of l).line (line_of l).frame

-- the digits are counted up with the number
pub digits-next : (x : Number) (n : ℕ) → (is_read n ≡ true → x ≡ number_of n) → is_read (number_after n) ≡ true → next_number x (number_after n) ≡ number_of (number_after n)
unfolding is_read number_after
digits-next x n h = pick-keeps (λ (m : ℕ). leb m 999999 ≡ true → next_number x m ≡ number_of m) (ltb n 4294967295)
    (λ l e.
    let k : n ≤ 999999 = omega (arith, leb-true (n + 1) 999999 e) in
    ap (λ (y : Number). next_number y (n + 1)) (h (le-leb n 999999 k)) ∙ number-next n k)
    (λ l e. absurd (omega (arith, leb-true n 999999 e, ltb-false n 4294967295 l)))

module _ {s₀ : Feed Player} {piece out₀ : List ℕ} where
  pub open-reaches : {c : Controller} {h : Held} {t : At} {out : List ℕ} {g : Gathered} → Open s₀ piece out₀ c h t out → t.written + need_of t.rows ≤ length out₀ →
      g ≡ gather_of h piece t.from (length piece) → Open s₀ piece out₀ c g.held (reaches t g.at) out
  open-reaches {c} {h} {t} {out} {g} o r e =
      let w = stops-within h piece t.from (length piece) g e o.high (omega arith) in
      let show = shown_by t.rows in
      record {
        high = w.high;
        within = o.within;
        digits = o.digits;
        lines = o.lines;
        session = gather-end play show s₀ (player_at c t) h t.number piece t.from (length piece) g e o.session;
        put = rw (gather-out play show s₀ h piece t.from (length piece) g e) o.put;
        taken = o.taken ∙ gather-taken play show (need_of t.rows) (length out₀) (player_at c t) h t.number t.written piece t.from (length piece) g e r;
      }

  -- an LF
  pub open-passes : {c : Controller} {h : Held} {t : At} {out : List ℕ} → Open s₀ piece out₀ c h t out → t.written + need_of t.rows ≤ length out₀ →
      t.from < length piece → get_or piece t.from 0 ≡ 10 →
      (c' : Controller) (irq : ℕ) (tally : Tally) (xs : List ℕ) (written : ℕ) (out' : List ℕ) → irq ≡ lines_of c'.control →
      pick (is_read t.number) (play (player_at c t) t.number (line_in h)) (player_at c t) ≡ record { controller = c'; tally = tally } →
      pick (is_read t.number) (shown_by t.rows (player_at c t) t.number true (line_in h)) [] ≡ xs → length xs ≤ need_of t.rows →
      Put out t.written xs out' written → Open s₀ piece out₀ c' none_held (passes t (t.from + 1) irq tally written) out'
  unfolding end_line
  open-passes {c} {h} {t} {out} o r l lf c' irq tally xs written out' i p q small w =
      let show = shown_by t.rows in
      let next : Feed Player = record { state = record { controller = c'; tally = tally }; held = none_held; number = number_after t.number } in
      let ended : end_line play show (feed_at c h t) ≡ next = ap (λ (x : Player). record { state = x; held = none_held; number = number_after t.number }) p in
      record {
        high = omega arith;
        within = let e : length out ≡ length out₀ = kept o.put in omega (arith, w.next);
        digits = λ e. digits-next t.digits t.number o.digits e;
        lines = i;
        session = lf-end play show s₀ (feed_at c h t) piece t.from l lf o.session ∙ ended;
        put = rw (lf-out play show s₀ (feed_at c h t) piece t.from l lf o.session ∙ ap (λ (x : List ℕ). out_of play show s₀ (take t.from piece) ++ x) q) (then o.put w);
        taken = o.taken ∙ lf-taken play show (need_of t.rows) (length out₀) (feed_at c h t) t.written piece t.from l lf r
            ∙ ap (λ (x : Feed Player). t.from + 1 + taken_by t.rows (length out₀) x (t.written + length (pick (is_read t.number) (show (player_at c t) t.number true (line_in h)) [])) (drop (t.from + 1) piece)) ended
            ∙ ap (λ (x : List ℕ). t.from + 1 + taken_by t.rows (length out₀) next (t.written + length x) (drop (t.from + 1) piece)) q
            ∙ ap (λ (n : ℕ). t.from + 1 + taken_by t.rows (length out₀) next n (drop (t.from + 1) piece)) (sym w.next);
      }

  -- past the last line that is read nothing is written
  open-past : {c : Controller} {h : Held} {t : At} {out : List ℕ} → Open s₀ piece out₀ c h t out → t.written + need_of t.rows ≤ length out₀ →
      t.from < length piece → get_or piece t.from 0 ≡ 10 → is_read t.number ≡ false →
      Open s₀ piece out₀ c none_held (passes t (t.from + 1) t.irq t.tally t.written) out
  open-past {c} {h} {t} {out} o r l lf e =
      open-passes o r l lf c t.irq t.tally [] t.written out o.lines (pick-false _ _ _ e) (pick-false _ _ _ e) (omega arith) (none out t.written)

  room-for : {c : Controller} {h : Held} {t : At} {out : List ℕ} → Open s₀ piece out₀ c h t out → t.written + need_of t.rows ≤ length out₀ → t.written + need_of t.rows ≤ length out
  room-for {c} {h} {t} {out} o r = let e : length out ≡ length out₀ = kept o.put in omega arith

  -- a line that is no step
  open-unread : {c : Controller} {h : Held} {t : At} {out : List ℕ} → Open s₀ piece out₀ c h t out → t.written + need_of t.rows ≤ length out₀ →
      t.from < length piece → get_or piece t.from 0 ≡ 10 → (written : ℕ) (out' : List ℕ) → is_read t.number ≡ true → (line_of (line_in h)).line ≡ None →
      Put out t.written (shown_if t.rows (fitting out t.written (numbered_row t.digits unread_text (45 ∷ []) t.irq 0))) out' written →
      Open s₀ piece out₀ c none_held (passes t (t.from + 1) t.irq (unread_of t.tally) written) out'
  unfolding play played_by show_row row_by
  open-unread {c} {h} {t} {out} o r l lf written out' e u w =
      let row : List ℕ = unread_row t.number t.irq in
      open-passes o r l lf c t.irq (unread_of t.tally) (shown_if t.rows row) written out' o.lines
      (pick_true _ _ _ e ∙ ap (λ (x : Option Call). played_by (player_at c t) x (line_of (line_in h)).frame) u)
      (pick_true _ _ _ e ∙ ap (λ (x : Option Call). shown_if t.rows (row_by (player_at c t) t.number x (line_of (line_in h)).frame)) u
      ∙ ap (λ (n : ℕ). shown_if t.rows (unread_row t.number n)) (sym o.lines))
      (row_small t.rows row (length-unread t.number t.irq))
      (rw (row_fits t.rows out t.written row (room-for o r)) at (rw (ap (λ (x : Number). numbered_row x unread_text (45 ∷ []) t.irq 0) (o.digits e) ∙ unread-numbered t.number t.irq) at w))

  -- a step: done on the controller c, with its answer, the five lines after it, and the room, which was clear
  open-stepped : {c : Controller} {h : Held} {t : At} {out : List ℕ} → Open s₀ piece out₀ c h t out → t.written + need_of t.rows ≤ length out₀ →
      t.from < length piece → get_or piece t.from 0 ≡ 10 → (call : Call) (frame : FrameBytes) (a : Answered) (irq : ℕ) (room : List ℕ) (written : ℕ) (out' : List ℕ) →
      is_read t.number ≡ true → line_of (line_in h) ≡ record { line = Some call; frame = frame } →
      a ≡ answered_of (step_of c (step_in call frame)) → irq ≡ lines_of (step_of c (step_in call frame)).next.control → room ≡ room_for c call (replicate 14 0) →
      Put out t.written (shown_if t.rows (fitting out t.written (answer_row t.digits a room irq))) out' written →
      Open s₀ piece out₀ (step_of c (step_in call frame)).next none_held (passes t (t.from + 1) irq (counted_of t.tally a.answer) written) out'
  unfolding play played_by show_row row_by step_row counted_of step_in
  open-stepped {c} {h} {t} {out} o r l lf call frame a irq room written out' e p answer lines filled w =
      let y : Outcome = step_of c (step_for call (bytes_in frame) (replicate 14 0)) in
      let xs : List ℕ = row_of t.number (word_of y.answer) (detail_of y.answer y.sent) (lines_of y.next.control) y.looked in
      let is : answer_row t.digits a room irq ≡ xs =
      ap (λ (x : Number). answer_row x a room irq) (o.digits e)
      ∙ ap (λ (x : Answered). answer_row (number_of t.number) x room irq) answer
      ∙ ap (λ (x : List ℕ). answer_row (number_of t.number) (answered_of y) x irq) filled
      ∙ row-numbered t.number (word_of y.answer) (detail_of y.answer (take 14 (take (sent_size y.answer (length (room_for c call (replicate 14 0)))) (room_for c call (replicate 14 0))))) irq y.looked
      ∙ ap (λ (x : Detail). row_of t.number (word_of y.answer) x irq y.looked) (detail-shown c (bytes_in frame) (replicate 14 0) call)
      ∙ ap (λ (x : ℕ). row_of t.number (word_of y.answer) (detail_of y.answer y.sent) x y.looked) lines in
      open-passes o r l lf y.next irq (counted_of t.tally a.answer) (shown_if t.rows xs) written out' lines
      (pick_true _ _ _ e ∙ ap (λ (x : Parsed). played_by (player_at c t) x.line x.frame) p
      ∙ ap (λ (x : Answered). record { controller = y.next; tally = counted_of t.tally x.answer }) (sym answer))
      (pick_true _ _ _ e ∙ ap (λ (x : Parsed). shown_if t.rows (row_by (player_at c t) t.number x.line x.frame)) p)
      (row_small t.rows xs
      (length-row t.number (word_of y.answer) (detail_of y.answer y.sent) (lines_of y.next.control) y.looked (frame-sent y.answer y.sent (sent-fits c (step_for call (bytes_in frame) (replicate 14 0))))))
      (rw (row_fits t.rows out t.written xs (room-for o r)) at (rw is at w))

-- ---- a line done with

-- nothing is sought past the last line that is read
sought-read : (piece : List ℕ) (t : At) (f : Found) → sought_of piece t ≡ Some f → (is_read t.number ≡ true) × (found_at piece t.from ≡ Some f)
unfolding sought_of
sought-read piece t f =
    pick-keeps (λ (x : Option Found). x ≡ Some f → (is_read t.number ≡ true) × (found_at piece t.from ≡ Some f)) (is_read t.number) (λ d e. (d, e)) (λ d e. absurd (cc))

pub sought-found : (piece : List ℕ) (t : At) → is_read t.number ≡ true → sought_of piece t ≡ found_at piece t.from
unfolding sought_of
sought-found piece t e = pick_true _ _ _ e

-- the LF of a step that is found stands in the piece
pub sought-within : (piece : List ℕ) (t : At) (f : Found) → sought_of piece t ≡ Some f → f.at < length piece
sought-within piece t f e = let lf = found-lf piece t.from f (sought-read piece t f e).1 in omega (arith, lf.0, lf.1, length-drop t.from piece)

same-at : {x y : At} → Some x ≡ Some y → x ≡ y
same-at e = cc

no-at : {G : Type 0} {x : At} → None ≡ Some x → G
no-at e = absurd (cc)

module _ {piece out : List ℕ} {t : At} {r : Option At} {out' : List ℕ} (u : Unreads piece out t r out') where
  -- a line that is done with ends there
  unread-past : (x : At) → r ≡ Some x → (x.from ≡ end_at piece t.from + 1) × (x.rows ≡ t.rows)
  unread-past x y = by-test (ltb (end_at piece t.from) (length piece))
      (λ e.
      let l : end_at piece t.from < length piece = ltb-true _ _ e in
      by-test (is_read t.number)
      (λ d. let q = same-at (sym y ∙ (u.shown l d).1) in (ap (λ (z : At). z.from) q, ap (λ (z : At). z.rows) q))
      (λ d. let q = same-at (sym y ∙ (u.past l d).0) in (ap (λ (z : At). z.from) q, ap (λ (z : At). z.rows) q)))
      (λ e. no-at (sym (u.unended (ltb-false _ _ e)).0 ∙ y))

  unread-over : r ≡ None → (out' ≡ out) × (length piece ≤ end_at piece t.from)
  unread-over y = by-test (ltb (end_at piece t.from) (length piece))
      (λ e.
      let l : end_at piece t.from < length piece = ltb-true _ _ e in
      by-test (is_read t.number) (λ d. no-at (sym y ∙ (u.shown l d).1)) (λ d. no-at (sym y ∙ (u.past l d).0)))
      (λ e. ((u.unended (ltb-false _ _ e)).1, ltb-false _ _ e))

  unread-stands : (s₀ : Feed Player) (out₀ : List ℕ) (c : Controller) → t.written + need_of t.rows ≤ length out → sought_of piece t ≡ None → Open s₀ piece out₀ c none_held t out →
      (x : At) → r ≡ Some x → Open s₀ piece out₀ c none_held x out'
  unread-stands s₀ out₀ c ready z o x y =
      let size : length out ≡ length out₀ = kept o.put in
      let w : t.written + need_of t.rows ≤ length out₀ = omega arith in
      by-test (ltb (end_at piece t.from) (length piece))
      (λ e.
      let l : end_at piece t.from < length piece = ltb-true _ _ e in
      let at = open-reaches o w refl in
      let lf = end-lf piece t.from o.high l in
      by-test (is_read t.number)
      (λ d.
      let k : lf_in (drop t.from piece) < length (drop t.from piece) = rw (length-drop t.from piece) (omega (arith, end_is piece t.from o.high)) in
      let x : end_at piece t.from - t.from ≡ lf_in (drop t.from piece) = omega (arith, end_is piece t.from o.high) in
      let n = found_none piece t.from (sym (sought-found piece t d) ∙ z) k in
      let v = u.shown l d in
      rw (same-at (sym y ∙ v.1))
      (open-unread at w l lf v.0 out' d
      (ap (λ (p : Parsed). p.line) (sym (line-held piece t.from) ∙ ap (λ (n : ℕ). line_of (take n (drop t.from piece))) x) ∙ n) v.2))
      (λ d. let v = u.past l d in rw (same-at (sym y ∙ v.0), v.1) (open-past at w l lf d)))
      (λ e. no-at (sym (u.unended (ltb-false _ _ e)).0 ∙ y))

-- the five lines after a step
lines_after_lem : (c : Controller) (call : Call) (frame : FrameBytes) (a : Answer) (irq₀ irq : ℕ) → a ≡ (step_of c (step_in call frame)).answer → irq₀ ≡ lines_of c.control →
    irq ≡ lines_after (step_of c (step_in call frame)).next a irq₀ → irq ≡ lines_of (step_of c (step_in call frame)).next.control
unfolding lines_after
lines_after_lem c call frame a irq₀ irq answer before e =
    by-test (keeps_lines a)
    (λ k. e ∙ pick_true _ _ _ k ∙ before ∙ sym (lines-kept c (step_in call frame) (ap keeps_lines (sym answer) ∙ k)))
    (λ k. e ∙ pick-false _ _ _ k)

-- a line read, its step done, and its row written
pub turns-step : {c : Controller} {room piece out : List ℕ} {t r : At} {c' : Controller} {room₁ room' out' : List ℕ} {f : Found} {a : Answered} {irq : ℕ} →
    sought_of piece t ≡ Some f →
    (c' ≡ (step_of c (step_for f.call (bytes_in f.frame) room)).next) × (a ≡ answered_of (step_of c (step_for f.call (bytes_in f.frame) room))) × (room₁ ≡ room_for c f.call room) →
    irq ≡ lines_after c' a.answer t.irq → Answers room₁ out t f.at a irq r room' out' → Turns c room piece out t (Some r) c' room' out'
unfolding step_in
turns-step {c} {room} {piece} {out} {t} {r} {c'} {room₁} {room'} {out'} {f} {a} {irq} s e i u =
    let d = (sought-read piece t f s).0 in
    let p = (sought-read piece t f s).1 in
    let lf = found-lf piece t.from f p in
    let n : f.at ≡ t.from + lf_in (drop t.from piece) = lf.0 in
    let l : f.at < length piece = omega (arith, lf.1, length-drop t.from piece) in
    record {
      ahead = λ x v. omega (arith, ap (λ (z : At). z.from) u.passed, ap (λ (z : At). z.from) (same-at v));
      rows = λ x v. ap (λ (z : At). z.rows) (sym (same-at v) ∙ u.passed);
      clear = λ y.
          u.clear ∙ ap (λ (x : List ℕ). cleared_by a.answer x) (e.2 ∙ ap (room_for c f.call) y)
          ∙ ap (λ (x : Answered). cleared_by x.answer (room_for c f.call (replicate 14 0))) (rw y at e.1) ∙ room-cleared c (bytes_in f.frame) f.call;
      stands = λ y m s₀ out₀ o u' v.
          let size : length out ≡ length out₀ = kept o.put in
          let ready : t.written + need_of t.rows ≤ length out₀ = omega arith in
          let place : end_at piece t.from ≡ f.at = end_is piece t.from o.high ∙ sym n in
          let x : end_at piece t.from - t.from ≡ lf_in (drop t.from piece) = omega arith in
          let line : line_of (line_in (gather_of none_held piece t.from (length piece)).held) ≡ record { line = Some f.call; frame = f.frame } =
          sym (line-held piece t.from) ∙ ap (λ (n : ℕ). line_of (take n (drop t.from piece))) x ∙ found-step piece t.from f p in
          let next : c' ≡ (step_of c (step_in f.call f.frame)).next = rw y at e.0 in
          let answer : a ≡ answered_of (step_of c (step_in f.call f.frame)) = rw y at e.1 in
          let irqs = lines_after_lem c f.call f.frame a.answer t.irq irq (ap (λ (x : Answered). x.answer) answer) o.lines (i ∙ ap (λ (x : Controller). lines_after x a.answer t.irq) next) in
          let before : end_at piece t.from < length piece = omega arith in
          let there : u' ≡ passes t (end_at piece t.from + 1) irq (counted_of t.tally a.answer) r.written =
          sym (same-at v) ∙ u.passed ∙ ap (λ (n : ℕ). passes t (n + 1) irq (counted_of t.tally a.answer) r.written) (sym place) in
          rw (next, there)
          (open-stepped (open-reaches o ready refl) ready before (end-lf piece t.from o.high before) f.call f.frame a irq room₁ r.written out' d line answer irqs (rw y at e.2) u.put);
      over = λ v. no-at (sym v);
    }

-- a line that is no step
pub turns-unread : {c : Controller} {room piece out : List ℕ} {t : At} {r : Option At} {out' : List ℕ} → sought_of piece t ≡ None → Unreads piece out t r out' → Turns c room piece out t r c room out'
turns-unread {c} {room} {piece} {out} {t} s u = record {
  ahead = λ x y. omega (arith, (unread-past u x y).0, end_low piece t.from);
  rows = λ x y. (unread-past u x y).1;
  clear = λ y. y;
  stands = λ y m s₀ out₀ o x v. unread-stands u s₀ out₀ c m s o x v;
  over = λ v. let w = unread-over u v in (refl, w.0, w.1);
}

-- ---- the turns of the loop

pub played-none : (c : Controller) (room piece out : List ℕ) (t : At) → Played c room piece out t t c room out
played-none c room piece out t = record { rows = refl; clear = λ z. z; stands = λ z s₀ out₀ s. s }

module _ {c : Controller} {room piece out : List ℕ} {t u : At} {c₁ : Controller} {room₁ out₁ : List ℕ} (p : Played c room piece out t u c₁ room₁ out₁) where
  pub played-more : {r : At} {c' : Controller} {room' out' : List ℕ} → goes_on u (length piece) (length out₁) ≡ true → Turns c₁ room₁ piece out₁ u (Some r) c' room' out' →
      Played c room piece out t r c' room' out'
  played-more {r} g w = record {
    rows = w.rows r refl ∙ p.rows;
    clear = λ z. w.clear (p.clear z);
    stands = λ z s₀ out₀ s. w.stands (p.clear z) (goes-ready u (length piece) (length out₁) g) s₀ out₀ (p.stands z s₀ out₀ s) r refl;
  }

  -- the loop is over where it doesn't go on
  pub played-all : goes_on u (length piece) (length out₁) ≡ false → Plays c room piece out t u c₁ room₁ out₁
  played-all g = record { over = λ h. ended h (goes-not u (length piece) (length out₁) g); played = p } where
    ended : u.from ≤ length piece → (length piece ≤ u.from) ⊎ (length out₁ < u.written + need_of u.rows) → Over piece (length out₁) u
    ended h (inl q) = inl (end-past piece u.from h q)
    ended h (inr q) = inr q

  -- and at a line that doesn't end in the piece
  pub played-last : {c' : Controller} {room' out' : List ℕ} → Turns c₁ room₁ piece out₁ u None c' room' out' → Plays c room piece out t u c' room' out'
  played-last w =
      let e = w.over refl in
      record {
        over = λ h. inl (omega (arith, end-high piece u.from h, e.2));
        played = record { rows = p.rows; clear = λ z. w.clear (p.clear z); stands = λ z s₀ out₀ s. rw (e.0, e.1) (p.stands z s₀ out₀ s) };
      }
