-- The bytes after the step that releases a buffer, and the steps that leave a waiting frame where it is and the newest for its buffer.
use Rattle.std.specs.Prelude.{◌≡◌, ℕ, ◌+◌, ◌<◌, Bool, true, false, ◌&&◌, not, length}
use Rattle.std.proofs.Common.{sym, ◌∙◌, subst, arith, get_or-set_same, get_or-set_other}
use Rattle.std.proofs.Math.Path.{ap}
use mathlib.Core.List.{List, [], ◌∷◌}
use Rattle.std.proofs.lemmas.Bool.{not-true, and_parts}
use Rattle.masks.specs.PickLaws.{by-test}
use Rattle.contents.specs.declared.Contents.{Contents}
use Rattle.contents.specs.Bytes.{no_contents, image_of}
use Rattle.rules.specs.Registers.{has, LOCK}
use Rattle.rules.specs.Refusals.{refusal}
use Rattle.rules.specs.Steps.{Step, write, frame}
use Rattle.rules.specs.Rules.{decide}
use Rattle.controller.specs.declared.Controller.{Controller}
use Rattle.controller.specs.Carry.{Outcome, row_at, heads, hold_all, carry}
use Rattle.controller.specs.Session.{step_by, end_by, step_of, end_of}
use Rattle.controller.specs.View.{view_of}
use Rattle.controller.specs.CodeLaws.{step-plain}
use Rattle.invariants.specs.Sound.{Sound}
use Rattle.invariants.proofs.ReachableLaws.{next-sound, session-sound}
use Rattle.invariants.proofs.StillWaitingLaws.{frame-begins, decide-fine}
use Rattle.invariants.specs.Newest.{is_waited_for, newest, is_waiting_for, is_release, leaves_waiting, keeps_waiting}
use Rattle.invariants.proofs.DeliveredLaws.{newest-left}
use Rattle.invariants.specs.ReleasedLaws.{rows-after, released-none, Waiting}

-- ---- the release

module _ (c : Controller) (n v : ℕ) (small : n < 16) (lock : has v LOCK ≡ false) (accepted : refusal c.control (write (0x50 + n) v) ≡ 0) where
  abbrev e : Step
  e = write (0x50 + n) v

  abbrev d : Controller
  d = (step_of c e).next

  pub released-row : length c.rows ≡ 16 → is_waited_for c.control.places n ≡ true →
      row_at d.rows n ≡ row_at c.held (newest c.control.places n)
  released-row l t =
      ap (λ (rows : List Contents). row_at rows n) (rows-after c n v small lock accepted ∙ newest-left e n c.control c.held c.rows t)
      ∙ get_or-set_same c.rows n _ no_contents (omega arith)

  pub released-other : (m : ℕ) → (m ≡ n → ⊥) → row_at d.rows m ≡ row_at c.rows m
  released-other m apart =
      by-test (is_waited_for c.control.places n)
      (λ t. ap (λ (rows : List Contents). row_at rows m) (rows-after c n v small lock accepted ∙ newest-left e n c.control c.held c.rows t)
      ∙ get_or-set_other c.rows n m _ no_contents apart)
      (λ t. ap (λ (rows : List Contents). row_at rows m) (released-none c n v small lock accepted t))

-- ---- the session before it

-- a frame that is answered so
module _ (c : Controller) (good : Bool) (f : List ℕ) (n : ℕ) (two : length c.held ≡ 2) where
  carried-begins : is_waiting_for n (carry (frame good f) c.rows c.held (decide c.control (heads c.rows) (frame good f))).answer ≡ true →
      (n < 16) × Waiting (carry (frame good f) c.rows c.held (decide c.control (heads c.rows) (frame good f))).next n (image_of f)
  unfolding carry
  carried-begins t =
      let b = frame-begins (frame good f) c.rows c.held n c.control (heads c.rows) good f t two in
      (b.0, record { waited = b.1; image = b.2 })

  pub begins-waiting : is_waiting_for n (step_of c (frame good f)).answer ≡ true → (n < 16) × Waiting (step_of c (frame good f)).next n (image_of f)
  begins-waiting =
      subst (λ (o : Outcome). is_waiting_for n o.answer ≡ true → (n < 16) × Waiting o.next n (image_of f)) (sym (step-plain c (frame good f)))
      carried-begins

-- stays so along a step, and along a session
module _ (n : ℕ) (small : n < 16) (b : Contents) where
  carried-stays : (c : Controller) (e : Step) → Waiting c n b → is_release c.control n e ≡ false →
      (carry e c.rows c.held (decide c.control (heads c.rows) e)).next.control.mode.init ≡ false →
      is_waiting_for n (carry e c.rows c.held (decide c.control (heads c.rows) e)).answer ≡ false →
      Waiting (carry e c.rows c.held (decide c.control (heads c.rows) e)).next n b
  unfolding carry
  carried-stays c e w r i a =
      let s = decide-fine c.control e c.rows c.held n small w.waited (heads c.rows) e r a i in
      record {
        waited = s.waited-still;
        image = ap (row_at (hold_all e (decide c.control (heads c.rows) e).moves c.held)) s.newest-same ∙ s.bytes_same ∙ w.image;
      }

  step_stays : (c : Controller) (e : Step) → Waiting c n b → leaves_waiting c n e ≡ true → Waiting (step_of c e).next n b
  step_stays c e w t =
      let ended = (step_of c e).next.control.mode.init in
      let released = is_release c.control n e in
      let newer = is_waiting_for n (step_of c e).answer in
      let all = and_parts (not ended && not released) (not newer) t in
      let two = and_parts (not ended) (not released) all.0 in
      subst (λ (o : Outcome). o.next.control.mode.init ≡ false → is_waiting_for n o.answer ≡ false → Waiting o.next n b) (sym (step-plain c e))
      (carried-stays c e w (not-true released two.1))
      (not-true ended two.0) (not-true newer all.1)

  pub session-stays : (c : Controller) (es : List Step) → Waiting c n b → keeps_waiting c n es ≡ true → Waiting (end_of c es) n b
  unfolding keeps_waiting end_of end_by step_of
  session-stays c [] w t = w
  session-stays c (e ∷ es) w t =
      let here = leaves_waiting c n e in
      let rest = keeps_waiting (step_of c e).next n es in
      let both = and_parts here rest t in session-stays (step_of c e).next es (step_stays c e w both.0) both.1

-- the record at its end is sound
pub sound-after : (c : Controller) → Sound (view_of c) → (e : Step) (es : List Step) → Sound (view_of (end_of (step_of c e).next es))
unfolding end_of step_of
sound-after c s e es = session-sound (step_by decide c e).next es (next-sound c e s)
