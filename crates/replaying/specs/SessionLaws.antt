-- Laws of a session: a piece fed by its lines' loop, the first line joined with its end, and the last line ended as an LF would end it.
use Rattle.std.specs.Prelude.{ℕ, zero, suc, ◌+◌, ◌-◌, ◌≤◌, ◌<◌, ◌≡◌, Bool, true, false, ◌&&◌, List, [], ◌∷◌, ◌++◌, length, take, drop, get_or, set, replicate, leb, ltb, eqb, None}
use Rattle.std.proofs.Common.{arith, zero-add, add-one, subst, ◌∙◌, inl, inr, append-nil, le-leb, lt-ltb, le-ltb, ltb-true, ltb-false, leb-true, leb-false, eq-eqb, eqb-true, ne_eqb, length-append, length-set, length-drop, drop_of_length-le, take_all, take_at, take-suc-set, length-take-le, get_or-drop}
use Rattle.std.specs.List.{AllWithin, HoldsAt}
use Rattle.std.proofs.Math.Path.{refl, sym, ap}
use Rattle.std.proofs.lemmas.Bool.{lt-leb}
use Rattle.std.proofs.Math.Seq.{take-append_seam}
use Rattle.masks.specs.Pick.{pick}
use Rattle.masks.specs.PickLaws.{pick_true, pick-false, pick-keeps, by-test}
use Rattle.controller.specs.declared.Controller.{Controller}
use Rattle.lines.specs.declared.Parsed.{Parsed}
use Rattle.lines.specs.Grammar.{plain_of, line_of}
use Rattle.lines.specs.Laws.{over-unread}
use Rattle.lines.specs.Found.{lf_in}
use Rattle.lines.specs.FoundLaws.{lf-first, lf-unread}
use Rattle.report.specs.Text.{Put, Wrote, fitting, heading_of}
use Rattle.report.specs.Laws.{none, kept, wrote, fits, tight, length-heading}
use Rattle.pieces.specs.declared.Held.{Held}
use Rattle.pieces.specs.declared.Gathered.{Gathered}
use Rattle.pieces.specs.Feed.{Feed, none_held, line_in, is_read, number_after, end_line, byte_s, byte_o, feed_end, out_of, taken_of, last_of}
use Rattle.pieces.specs.CodeGather.{gather_of}
use Rattle.pieces.specs.GatherLaws.{Stops, stops-within, gather-end, gather-out, lf-end, lf-out}
use Rattle.pieces.specs.TakenLaws.{taken_none, taken-all, gather-taken, lf-taken}
use Rattle.replaying.specs.declared.Player.{Player}
use Rattle.replaying.specs.declared.Session.{Session}
use Rattle.pieces.specs.declared.Fed.{Fed}
use Rattle.pieces.specs.declared.Finished.{Finished}
use Rattle.replaying.specs.declared.At.{At}
use Rattle.replaying.specs.declared.Joined.{Joined}
use Rattle.replaying.specs.Replay.{played_by, row_by, play, show_row}
use Rattle.replaying.specs.Session.{feed_of, Feeds, finished_of, Finishes, counted_by, last_counted}
use Rattle.replaying.specs.CodeLoop.{over_text, shown_if, shown_by, need_of, opened, reaches, closed, end_at, feed_at, taken_by, Open, Over, Plays, Joins, FedBy}
use Rattle.replaying.specs.LoopLaws.{row_small, show-small, end-lf, end_is, line-held, open-reaches, open-passes}

-- ---- where a session stands in a piece

taken-nothing : (rows : Bool) (size : ℕ) (f : Feed Player) (w : ℕ) → taken_by rows size f w [] ≡ 0
unfolding taken_of
taken-nothing rows size f w = refl

taken-past : (rows : Bool) (size : ℕ) (f : Feed Player) (w : ℕ) (t : List ℕ) (i : ℕ) → length t ≤ i → taken_by rows size f w (drop i t) ≡ 0
taken-past rows size f w t i h = ap (taken_by rows size f w) (drop_of_length-le t {i = i} h) ∙ taken-nothing rows size f w

-- at its start; f: the session, of which nothing is held but h
open-first : (s : Session) (rows : Bool) (h : Held) (text out : List ℕ) →
    Open (record { state = s.player; held = h; number = s.number }) text out s.player.controller h (opened s rows) out
unfolding feed_end out_of
open-first s rows h text out =
    record { high = omega arith; within = omega arith; digits = λ e. refl; lines = refl; session = refl; put = none out 0; taken = sym (zero-add _) }

-- from where nothing more is taken
fed-open : {rows : Bool} (s : Session) {piece out : List ℕ} {c : Controller} {h : Held} {t : At} {r : Fed Session} {out' : List ℕ} → t.rows ≡ rows → Open (feed_of s) piece out c h t out' →
    taken_by t.rows (length out) (feed_at c h t) t.written (drop t.from piece) ≡ 0 → r ≡ closed c t h t.from → FedBy rows s piece out r out'
fed-open {rows} s {piece} {out} {c} {h} {t} {r} {out'} e o z q =
    let n : taken_by t.rows (length out) (feed_of s) 0 piece ≡ t.from = omega (arith, o.taken) in
    rw q (subst (λ (y : Bool). FedBy y s piece out (closed c t h t.from) out') e (record { taken = sym n; session = sym o.session; wrote = wrote o.put o.within }))

-- without room nothing happens
pub fed-tight : {rows : Bool} (s : Session) {piece out : List ℕ} {c : Controller} {t : At} {h : Held} {r : Fed Session} → c ≡ s.player.controller → t ≡ opened s rows → h ≡ s.held →
    leb (0 + need_of rows) (length out) ≡ false → r ≡ closed c t h 0 → FedBy rows s piece out r out
fed-tight {rows} s {piece} {out} {c} {t} {h} {r} i j k e q =
    let l : length out < 0 + need_of rows = leb-false (0 + need_of rows) (length out) e in
    fed-open s refl (open-first s rows s.held piece out) (taken_none play (shown_by rows) (need_of rows) (length out) _ 0 piece l) (q ∙ rw (i, j, k) refl)

module _ (rows : Bool) (s : Session) (piece out : List ℕ) (room : leb (0 + need_of rows) (length out) ≡ true) {g : Gathered} (e : g ≡ gather_of s.held piece 0 (length piece)) where
  ready : 0 + need_of rows ≤ length out
  ready = leb-true (0 + need_of rows) (length out) room

  stop : Stops piece 0 (length piece) g
  stop = stops-within s.held piece 0 (length piece) g e (omega arith) (omega arith)

  at_first : Open (feed_of s) piece out s.player.controller g.held (reaches (opened s rows) g.at) out
  at_first = open-reaches (open-first s rows s.held piece out) ready e

  -- a piece without an LF
  pub fed-unended : {t : At} {r : Fed Session} → t ≡ opened s rows → g.ended ≡ false → r ≡ closed s.player.controller t g.held (length piece) → FedBy rows s piece out r out
  fed-unended {t} {r} i f q =
      let all : g.at ≡ length piece = stop.all f in
      fed-open s refl at_first (taken-past rows (length out) _ 0 piece g.at (omega arith))
      (q ∙ rw i (ap (λ (n : ℕ). closed s.player.controller (reaches (opened s rows) n) g.held n) (sym all)))

  -- ---- the first line, in a text of its own

  module _ {j : Joined} (k : Joins g.held j) where
    abbrev text : List ℕ
    text = take j.size j.text

    abbrev s₁ : Feed Player
    s₁ = record { state = s.player; held = none_held; number = s.number }

    abbrev line : Held
    line = (gather_of none_held text 0 (length text)).held

    lf-before : end_at text 0 < length text
    lf-before = omega (arith, k.ends)

    lf-there : get_or text (end_at text 0) 0 ≡ 10
    lf-there = end-lf text 0 (omega arith) lf-before

    text-start : Open s₁ text out s.player.controller none_held (opened s rows) out
    text-start = open-first s rows none_held text out

    -- nothing of it is left when its loop is over
    text-all : taken_by rows (length out) s₁ 0 text ≡ length text
    text-all =
        let show = shown_by rows in
        let z : 0 + taken_by rows (length out) s₁ 0 (drop 0 text) ≡ length text =
        gather-taken play show (need_of rows) (length out) s.player none_held s.number 0 text 0 (length text) _ refl ready
        ∙ lf-taken play show (need_of rows) (length out) (record { state = s.player; held = line; number = s.number }) 0 text (end_at text 0) lf-before lf-there ready
        ∙ ap (λ (n : ℕ). end_at text 0 + 1 + n) (taken-past rows (length out) _ _ text (end_at text 0 + 1) (omega (arith, k.ends))) ∙ omega (arith, k.ends) in
        omega arith

    text-done : {c₁ : Controller} {t₁ : At} {out₁ : List ℕ} → t₁.rows ≡ rows → Over text (length out) t₁ → Open s₁ text out c₁ none_held t₁ out₁ → t₁.from ≡ length text
    text-done {c₁} {t₁} {out₁} y m w = by m where
      by : Over text (length out) t₁ → t₁.from ≡ length text
      by (inl q) =
          by-test (ltb t₁.from (length text))
          (λ l.
          let h : t₁.from < length text = ltb-true t₁.from (length text) l in
          let i : t₁.from + (end_at text 0 - t₁.from) ≡ end_at text 0 = omega (arith, k.ends) in
          let f : lf_in (drop t₁.from text) ≤ end_at text 0 - t₁.from =
          lf-first (drop t₁.from text) (end_at text 0 - t₁.from) (rw (length-drop t₁.from text) (omega (arith, k.ends)))
          (get_or-drop t₁.from text (end_at text 0 - t₁.from) 0 ∙ ap (λ (n : ℕ). get_or text n 0) i ∙ lf-there) in
          absurd (omega (arith, end_is text t₁.from w.high, k.ends)))
          (λ l. omega (arith, ltb-false t₁.from (length text) l, w.high))
      by (inr q) =
          let z = taken_none play (shown_by t₁.rows) (need_of t₁.rows) (length out) (feed_at c₁ none_held t₁) t₁.written (drop t₁.from text) q in
          let n : taken_by t₁.rows (length out) s₁ 0 text ≡ length text = rw y text-all in
          omega (arith, w.taken)

    -- what it makes of the session is what the line that is held would
    module _ {c₁ : Controller} {t₁ : At} {out₁ : List ℕ} (y : t₁.rows ≡ rows) (m : Over text (length out) t₁) (w : Open s₁ text out c₁ none_held t₁ out₁) where
      abbrev show : Player → ℕ → Bool → List ℕ → List ℕ
      show = shown_by rows

      abbrev after : Feed Player
      after = feed_at c₁ none_held t₁

      whole : take t₁.from text ≡ text
      whole = take_all t₁.from text (omega (arith, text-done y m w))

      all_there : take (end_at text 0 + 1) text ≡ text
      all_there = take_all (end_at text 0 + 1) text (omega (arith, k.ends))

      nothing-fed : feed_end play show s₁ (take 0 text) ≡ s₁
      unfolding feed_end
      nothing-fed = refl

      nothing-out : out_of play show s₁ (take 0 text) ≡ []
      unfolding out_of
      nothing-out = refl

      fed-line : end_line play show (record { state = s.player; held = line; number = s.number }) ≡ after
      fed-line =
          sym (lf-end play show s₁ (record { state = s.player; held = line; number = s.number }) text (end_at text 0) lf-before lf-there (gather-end play show s₁ s.player none_held s.number text 0 (length text) _ refl nothing-fed))
          ∙ ap (feed_end play show s₁) (all_there ∙ sym whole) ∙ subst (λ (b : Bool). feed_end play (shown_by b) s₁ (take t₁.from text) ≡ after) y w.session

      -- the same of its row
      shown-line : pick (is_read s.number) (show s.player s.number true (line_in line)) [] ≡ out_of play show s₁ (take t₁.from text)
      shown-line =
          sym (lf-out play show s₁ (record { state = s.player; held = line; number = s.number }) text (end_at text 0) lf-before lf-there (gather-end play show s₁ s.player none_held s.number text 0 (length text) _ refl nothing-fed)
          ∙ ap (λ (l : List ℕ). l ++ pick (is_read s.number) (show s.player s.number true (line_in line)) []) (gather-out play show s₁ none_held text 0 (length text) _ refl ∙ nothing-out))
          ∙ ap (out_of play show s₁) (all_there ∙ sym whole)

      held-state : pick (is_read s.number) (play s.player s.number (line_in g.held)) s.player ≡ record { controller = c₁; tally = t₁.tally }
      unfolding end_line play
      held-state =
          ap (λ (p : Parsed). pick (is_read s.number) (played_by s.player p.line p.frame) s.player) (sym k.line)
          ∙ ap (λ (f : Feed Player). f.state) fed-line

      number_is : number_after s.number ≡ t₁.number
      unfolding end_line
      number_is = ap (λ (f : Feed Player). f.number) fed-line

      held-row : pick (is_read s.number) (show s.player s.number true (line_in g.held)) [] ≡ out_of play show s₁ (take t₁.from text)
      unfolding show_row
      held-row =
          ap (λ (p : Parsed). pick (is_read s.number) (shown_if rows (row_by s.player s.number p.line p.frame)) []) (sym k.line) ∙ shown-line

      row_put : Put out 0 (out_of play show s₁ (take t₁.from text)) out₁ t₁.written
      row_put = subst (λ (b : Bool). Put out 0 (out_of play (shown_by b) s₁ (take t₁.from text)) out₁ t₁.written) y w.put

      -- no row is longer than the room that it asks for
      small : length (out_of play show s₁ (take t₁.from text)) ≤ need_of rows
      small =
          rw (sym held-row) (pick-keeps (λ (xs : List ℕ). length xs ≤ need_of rows) (is_read s.number)
          (λ e. row_small rows (show_row s.player s.number true (line_in g.held)) (show-small s.player s.number true (line_in g.held))) (λ e. omega arith))

      -- the piece from behind the first LF on
      resumes : g.ended ≡ true → Open (feed_of s) piece out c₁ none_held (reaches t₁ (g.at + 1)) out₁
      resumes f =
          let l : g.at < length piece = stop.ended f in
          let x = open-passes at_first ready l (stop.lf f) c₁ t₁.irq t₁.tally _ t₁.written out₁ w.lines held-state held-row small row_put in
          record {
            high = omega arith;
            within = w.within;
            digits = w.digits;
            lines = w.lines;
            session = rw y (x.session ∙ ap (λ (n : ℕ). record { state = record { controller = c₁; tally = t₁.tally }; held = none_held; number = n }) number_is);
            put = rw y x.put;
            taken = rw y (x.taken ∙ ap (λ (n : ℕ). g.at + 1 + taken_by rows (length out) (record { state = record { controller = c₁; tally = t₁.tally }; held = none_held; number = n }) t₁.written (drop (g.at + 1) piece)) number_is);
          }

    -- both loops
    pub lines-stand : {t t₁ : At} {c₁ : Controller} {room₀ room₁ out₁ : List ℕ} {u t₂ : At} {c₂ : Controller} {room₂ out₂ : List ℕ} → t ≡ opened s rows → room₀ ≡ replicate 14 0 →
        Plays s.player.controller room₀ text out t t₁ c₁ room₁ out₁ → g.ended ≡ true → u ≡ reaches t₁ (g.at + 1) → Plays c₁ room₁ piece out₁ u t₂ c₂ room₂ out₂ →
        Open (feed_of s) piece out c₂ none_held t₂ out₂ × (t₂.rows ≡ rows) × Over piece (length out) t₂
    lines-stand {t} {t₁} {c₁} {room₀} {room₁} {out₁} {u} {t₂} {c₂} {room₂} {out₂} i z p f q p' =
        let one : Plays s.player.controller room₀ text out (opened s rows) t₁ c₁ room₁ out₁ = rw i at p in
        let two : Plays c₁ room₁ piece out₁ (reaches t₁ (g.at + 1)) t₂ c₂ room₂ out₂ = rw q at p' in
        let y : t₁.rows ≡ rows = one.played.rows in
        let w = one.played.stands z s₁ out text-start in
        let v = two.played.stands (one.played.clear z) (feed_of s) out (resumes y (subst (λ (n : ℕ). Over text n t₁) (kept w.put) (one.over w.high)) w f) in
        (v, two.played.rows ∙ y, subst (λ (n : ℕ). Over piece n t₂) (kept v.put) (two.over v.high))

-- the piece's end
pub fed-full : {rows : Bool} (s : Session) {piece out : List ℕ} {c : Controller} {t : At} {r : Fed Session} {out' : List ℕ} {b : Bool} {h : Held} {size : ℕ} → t.rows ≡ rows → Open (feed_of s) piece out c none_held t out' →
    size ≡ length out → b ≡ leb (t.written + need_of rows) size → b ≡ false → h ≡ none_held → r ≡ closed c t h t.from → FedBy rows s piece out r out'
fed-full {rows} s {piece} {out} {c} {t} {r} {out'} y w n e f i q =
    let l : length out < t.written + need_of t.rows = rw y (leb-false (t.written + need_of rows) (length out) (rw n at (sym e ∙ f))) in
    fed-open s y w (taken_none play (shown_by t.rows) (need_of t.rows) (length out) _ t.written (drop t.from piece) l) (q ∙ ap (λ (x : Held). closed c t x t.from) i)

pub fed-rest : {rows : Bool} (s : Session) {piece out : List ℕ} {c : Controller} {t : At} {r : Fed Session} {out' : List ℕ} {b : Bool} {h : Held} {size : ℕ} → t.rows ≡ rows → Over piece (length out) t → Open (feed_of s) piece out c none_held t out' →
    size ≡ length out → b ≡ leb (t.written + need_of rows) size → b ≡ true → h ≡ (gather_of none_held piece t.from (length piece)).held → r ≡ closed c t h (length piece) → FedBy rows s piece out r out'
fed-rest {rows} s {piece} {out} {c} {t} {r} {out'} {b} {h} y m w n e f i q = by m where
  l : t.written + need_of t.rows ≤ length out
  l = rw y (leb-true (t.written + need_of rows) (length out) (rw n at (sym e ∙ f)))

  by : Over piece (length out) t → FedBy rows s piece out r out'
  by (inl z) =
      fed-open s y (open-reaches w l refl) (taken-past t.rows (length out) _ t.written piece (end_at piece t.from) (omega arith))
      (q ∙ ap (λ (x : Held). closed c t x (length piece)) i ∙ ap (closed c t (gather_of none_held piece t.from (length piece)).held) (sym z))
  by (inr z) = absurd (omega (arith, l))

-- the rows are those of the replay
pub feeds : {s : Session} {piece out : List ℕ} {r : Fed Session} {out' : List ℕ} → FedBy true s piece out r out' → Feeds s piece out r out'
feeds w = record { taken = w.taken; session = w.session; wrote = w.wrote }

-- ---- a line joined with its LF

held-over : (h : Held) → 64 < h.len → line_of (line_in h) ≡ plain_of None
unfolding line_in
held-over h k = ap line_of (pick_true _ (replicate 65 0) (take h.len h.bytes) (lt-ltb 64 h.len k)) ∙ over-unread (replicate 65 0) (omega arith)

held-line : (h : Held) → h.len ≤ 64 → line_in h ≡ take h.len h.bytes
unfolding line_in
held-line h k = pick-false _ _ _ (le-ltb 64 h.len k)

zeros-clear : (n : ℕ) → lf_in (replicate n 0) ≡ n
unfolding lf_in pick
zeros-clear zero = refl
zeros-clear (suc n) = ap suc (zeros-clear n)

lf-behind : (l t : List ℕ) → lf_in l ≡ length l → lf_in (l ++ t) ≡ length l + lf_in t
unfolding lf_in
lf-behind [] t h = sym (zero-add _)
lf-behind (b ∷ bs) t h =
    by-test (eqb b 10) (λ e. absurd (let z : ◌≡◌ {A = ℕ} 0 (suc (length bs)) = sym (pick_true (eqb b 10) 0 (suc (lf_in bs)) e) ∙ h in omega arith))
    (λ e.
    let z : suc (lf_in bs) ≡ suc (length bs) = sym (pick-false (eqb b 10) 0 (suc (lf_in bs)) e) ∙ h in
    let i : lf_in (bs ++ t) ≡ length bs + lf_in t = lf-behind bs t (omega arith) in
    pick-false (eqb b 10) 0 (suc (lf_in (bs ++ t))) e ∙ omega arith)

-- a text that is a line without an LF inside, and its LF
joins : (h : Held) (r : Joined) (l : List ℕ) → r.size ≤ length r.text → take r.size r.text ≡ l ++ (10 ∷ []) → lf_in l ≡ length l → line_of l ≡ line_of (line_in h) → Joins h r
unfolding lf_in pick
joins h r l w e n i =
    let text : List ℕ = take r.size r.text in
    let m : length text ≡ length l + 1 = ap length e ∙ length-append l (10 ∷ []) in
    let at : end_at text 0 ≡ length l =
    end_is text 0 (omega arith) ∙ zero-add _ ∙ ap lf_in e ∙ lf-behind l (10 ∷ []) n ∙ omega arith in
    let z : end_at text 0 - 0 ≡ length l = omega arith in
    record {
      within = w;
      ends = omega arith;
      line = sym (line-held text 0) ∙ ap (λ (k : ℕ). line_of (take k text)) z ∙ ap (λ (t : List ℕ). line_of (take (length l) t)) e ∙ ap line_of (take-append_seam l (10 ∷ [])) ∙ i;
    }

-- a text without an LF
pub clear-lf : (l : List ℕ) → AllWithin (λ b. eqb b 10 ≡ false) l 0 (length l) → lf_in l ≡ length l
unfolding lf_in
clear-lf [] h = refl
clear-lf (b ∷ bs) h = pick-false _ _ _ (h 0 0 (omega arith) (omega arith)) ∙ ap suc (clear-lf bs (λ k d p q. h (suc k) d (omega arith) (omega arith)))

-- the line that is held; n: its length
module _ (h : Held) where
  pub joins-line : (text : List ℕ) (n : ℕ) → n ≡ h.len → n ≤ 64 → length h.bytes ≡ 64 → length text ≡ 66 → take n text ≡ take n h.bytes → lf_in (take n h.bytes) ≡ n →
      {r : Joined} → r ≡ record { text = set text n 10; size = n + 1 } → Joins h r
  joins-line text n e l b m t f {r} q =
      let k : length (take n h.bytes) ≡ n = length-take-le n h.bytes (omega arith) in
      rw q (joins h _ (take n h.bytes) (rw (length-set text n 10) (omega arith))
      (ap (λ (i : ℕ). take i (set text n 10)) (add-one n) ∙ take-suc-set text n 10 (omega arith) ∙ ap (λ (x : List ℕ). x ++ (10 ∷ [])) t) (f ∙ sym k)
      (ap line_of (ap (λ (i : ℕ). take i h.bytes) e ∙ sym (held-line h (omega arith)))))

  pub joins-copied : h.len ≤ 64 → length h.bytes ≡ 64 → AllWithin (λ b. eqb b 10 ≡ false) (take h.len h.bytes) 0 (length (take h.len h.bytes)) →
      {front : List ℕ} (rest : List ℕ) → front ≡ take h.len h.bytes → length rest ≡ 66 → {r : Joined} → r ≡ record { text = set (front ++ drop h.len rest) h.len 10; size = h.len + 1 } → Joins h r
  joins-copied l b n {front} rest e z =
      let k : length (take h.len h.bytes) ≡ h.len = length-take-le h.len h.bytes (omega arith) in
      let f : length front ≡ h.len = ap length e ∙ k in
      let w : length (front ++ drop h.len rest) ≡ 66 = simp (length-append, length-drop) (omega arith) in
      joins-line (front ++ drop h.len rest) h.len refl l b w (take_at front (drop h.len rest) h.len f ∙ e) (clear-lf (take h.len h.bytes) n ∙ k)

  over-joins : line_of (line_in h) ≡ plain_of None → Joins h over_text
  over-joins e = joins h over_text (replicate 65 0) (omega arith) refl (zeros-clear 65) (over-unread (replicate 65 0) (omega arith) ∙ sym e)

  pub joins-over : 64 < h.len → {r : Joined} → r ≡ over_text → Joins h r
  joins-over l q = rw q (over-joins (held-over h l))

  pub joins-lf : h.len ≤ 64 → ((i : ℕ) × (i < length (take h.len h.bytes)) × HoldsAt (λ b. eqb b 10 ≡ true) (take h.len h.bytes) i) → {r : Joined} → r ≡ over_text → Joins h r
  joins-lf m (i, l, e) q = rw q (over-joins (ap line_of (held-line h m) ∙ lf-unread (take h.len h.bytes) i l (eqb-true _ _ (e 0))))

-- ---- the heading

pub begins : {out : List ℕ} {r : ℕ} {out' : List ℕ} → Put out 0 (fitting out 0 heading_of) out' r → Wrote out (fitting out 0 heading_of) r out'
begins {out} {r} {out'} w = wrote w (rw w.next (small (leb 64 (length out)) refl)) where
  small : (y : Bool) → leb 64 (length out) ≡ y → 0 + length (fitting out 0 heading_of) ≤ length out
  small true e = let h : 64 ≤ length out = leb-true 64 (length out) e in rw (fits out 0 heading_of h) (omega (arith, length-heading))
  small false e = let h : length out < 64 = leb-false 64 (length out) e in rw (tight out 0 heading_of h) (omega arith)

-- ---- the last line

module _ {s : Session} {out : List ℕ} {r : Finished Session} where
  pub finishes-tight : {out' : List ℕ} → length out < 64 → r.session ≡ s → r.written ≡ 0 → out' ≡ out → Finishes s out r out'
  unfolding finished_of
  finishes-tight h e w q = rw (q, w) (record {
    session = ap feed_of e ∙ sym (pick-false _ _ _ (lt-leb 64 (length out) h));
    wrote = rw (tight out 0 (last_of play show_row (feed_of s)) h) (wrote (none out 0) (omega arith));
  })

  pub finishes-empty : {out' : List ℕ} → 64 ≤ length out → s.held.len ≡ 0 → r.session ≡ s → r.written ≡ 0 → out' ≡ out → Finishes s out r out'
  unfolding finished_of last_of
  finishes-empty h l e w q = rw (q, w) (record {
    session = ap feed_of e ∙ sym (pick_true _ _ _ (le-leb 64 (length out) h) ∙ pick_true _ _ _ (eq-eqb s.held.len 0 l));
    wrote = rw (fits out 0 (last_of play show_row (feed_of s)) h ∙ pick_true _ _ _ (eq-eqb s.held.len 0 l)) (wrote (none out 0) (omega arith));
  })

-- the row of a line is the same whether an LF ends it or not
one_end : (f : Feed Player) → feed_end play show_row f (10 ∷ []) ≡ end_line play show_row f
unfolding feed_end byte_s pick
one_end f = refl

one_out : (f : Feed Player) → (f.held.len ≡ 0 → ⊥) → out_of play show_row f (10 ∷ []) ≡ last_of play show_row f
unfolding out_of byte_o last_of show_row
one_out f h = append-nil _ ∙ sym (pick-false _ _ _ (ne_eqb f.held.len 0 h))

taken-one : (f : Feed Player) (size : ℕ) → 64 ≤ size → taken_of play show_row 64 size f 0 (10 ∷ []) ≡ 1
unfolding taken_of
taken-one f size h = pick-false _ _ _ (le-ltb size 64 h)

pub finishes-last : {s : Session} {out : List ℕ} {r : Finished Session} {out' : List ℕ} {f : Fed Session} → 64 ≤ length out → (s.held.len ≡ 0 → ⊥) → Feeds s (10 ∷ []) out f out' →
    r.session ≡ f.session → r.written ≡ f.written → Finishes s out r out'
unfolding finished_of
finishes-last {s} {out} {r} {out'} {f} h l k e w =
    let one : f.taken ≡ 1 = k.taken ∙ taken-one (feed_of s) (length out) h in
    let m : feed_of f.session ≡ end_line play show_row (feed_of s) = k.session ∙ ap (λ (n : ℕ). feed_end play show_row (feed_of s) (take n (10 ∷ []))) one ∙ one_end (feed_of s) in
    rw w (record {
      session = ap feed_of e ∙ m ∙ sym (pick_true _ _ _ (le-leb 64 (length out) h) ∙ pick-false _ _ _ (ne_eqb s.held.len 0 l));
      wrote = rw (fits out 0 (last_of play show_row (feed_of s)) h ∙ sym (one_out (feed_of s) l)) (rw one at k.wrote);
    })

-- ---- nothing but the counts

pick_same : (b : Bool) (xs : List ℕ) → pick b xs xs ≡ xs
pick_same b xs = pick-keeps (λ (ys : List ℕ). ys ≡ xs) b (λ e. refl) (λ e. refl)

silent : (f : Feed Player) (t : List ℕ) → out_of play (shown_by false) f t ≡ []
unfolding out_of byte_o
silent f [] = refl
silent f (b ∷ bs) = ap (λ (l : List ℕ). l ++ out_of play (shown_by false) (byte_s play (shown_by false) f b) bs) (pick_same (eqb b 10 && is_read f.number) []) ∙ silent (byte_s play (shown_by false) f b) bs

-- what is shown of the lines doesn't count
end-any : (f : Feed Player) (t : List ℕ) → feed_end play (shown_by false) f t ≡ feed_end play show_row f t
unfolding feed_end byte_s end_line
end-any f [] = refl
end-any f (b ∷ bs) = end-any (byte_s play show_row f b) bs

pub counts : (s : Session) (piece out : List ℕ) {r : Fed Session} {out' : List ℕ} → FedBy false s piece out r out' → feed_of r.session ≡ counted_by s piece
counts s piece out {r} w =
    let z : 0 + length (out_of play (shown_by false) (feed_of s) piece) + 0 ≤ length out = rw (silent (feed_of s) piece) (omega arith) in
    let n : r.taken ≡ length piece = w.taken ∙ taken-all play (shown_by false) 0 (length out) (feed_of s) 0 piece z in
    w.session ∙ ap (feed_end play (shown_by false) (feed_of s)) (take_all r.taken piece (omega arith)) ∙ end-any (feed_of s) piece

pub last_none : (s : Session) → s.held.len ≡ 0 → feed_of s ≡ last_counted s
unfolding last_counted
last_none s h = sym (pick_true _ _ _ (eq-eqb s.held.len 0 h))

pub last_some : (s : Session) {r : Session} → (s.held.len ≡ 0 → ⊥) → feed_of r ≡ counted_by s (10 ∷ []) → feed_of r ≡ last_counted s
unfolding last_counted
last_some s h e = e ∙ one_end (feed_of s) ∙ sym (pick-false _ _ _ (ne_eqb s.held.len 0 h))
