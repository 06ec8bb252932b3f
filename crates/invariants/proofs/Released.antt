-- W5, 'When a buffer stops being locked', after any session from reset: what the call that releases buffer n, a write of LOCK 0 to
-- $50 + n that isn't refused, leaves in n and in the two places.
use Rattle.std.specs.Prelude.{◌≡◌, refl, ℕ, ◌+◌, ◌<◌, Bool, true, false, List, length}
use Rattle.std.proofs.Common.{ap, ◌∙◌, arith, eq-eqb}
use Rattle.std.proofs.lemmas.List.{length-map}
use Rattle.contents.specs.Bytes.{head_of, image_of}
use Rattle.rules.specs.declared.Answer.TheVariants.{Waiting}
use Rattle.rules.specs.Registers.{has, LOCK}
use Rattle.rules.specs.Refusals.{refusal}
use Rattle.rules.specs.Steps.{Step, write, frame}
use Rattle.controller.specs.declared.Controller.{Controller}
use Rattle.controller.specs.Carry.{reset_state}
use Rattle.controller.specs.Session.{step_of, end_of}
use Rattle.controller.specs.View.{view_of}
use Rattle.invariants.specs.Sound.{Sound}
use Rattle.invariants.specs.Newest.{is_waiting_for, keeps_waiting}
use Rattle.invariants.proofs.Reachable.{reachable-sound}
use Rattle.invariants.specs.ReleasedLaws.{released-places, released-flag, released-none}
use Rattle.invariants.proofs.ReleasedLaws.{released-row, released-other, begins-waiting, session-stays, sound-after}
use Rattle.invariants.specs.Released.{Released, StoredIn}

-- from any sound record
releases : (c : Controller) → Sound (view_of c) → (n v : ℕ) → n < 16 → has v LOCK ≡ false → refusal c.control (write (0x50 + n) v) ≡ 0 →
    Released c n (step_of c (write (0x50 + n) v)).next
releases c s n v h l r =
    record {
      none-waits = λ k b. released-places c n v h l r k;
      newest-stored = released-row c n v h l r (let z = length-map c.rows head_of in let q = s.contents.sixteen in omega arith);
      flagged = released-flag c n v h l r;
      none-stored = released-none c n v h l r;
      others_same = released-other c n v h l r;
    }

-- every release does that
pub release-stores : (es : List Step) (n v : ℕ) → n < 16 → has v LOCK ≡ false → refusal (end_of reset_state es).control (write (0x50 + n) v) ≡ 0 →
    Released (end_of reset_state es) n (step_of (end_of reset_state es) (write (0x50 + n) v)).next
release-stores es n v h l r = releases (end_of reset_state es) (reachable-sound es) n v h l r

-- "frames waiting for it are stored in order of arrival": a frame f that is answered "waiting n" after the session `before` is in n after
-- the call that releases n, if along the steps `es` between nothing releases n, enters initialization or resets, and no later frame is
-- answered "waiting n". So what n holds then is the newest of the frames that were.
pub waiting-stored : (before : List Step) (good : Bool) (f : List ℕ) (es : List Step) (n v : ℕ) →
    let o = step_of (end_of reset_state before) (frame good f) in
    let d = end_of o.next es in
    o.answer ≡ Waiting n → keeps_waiting o.next n es ≡ true →
    has v LOCK ≡ false → refusal d.control (write (0x50 + n) v) ≡ 0 → StoredIn (step_of d (write (0x50 + n) v)).next n f
waiting-stored before good f es n v a keeps l r =
    let c = end_of reset_state before in
    let s = reachable-sound before in
    let two : length c.held ≡ 2 = let z = length-map c.held head_of in let q = s.places.two in omega arith in
    let begun = begins-waiting c good f n two (ap (is_waiting_for n) a ∙ eq-eqb n n refl) in
    let w = session-stays n begun.0 (image_of f) (step_of c (frame good f)).next es begun.1 keeps in
    let d = end_of (step_of c (frame good f)).next es in
    let out = releases d (sound-after c s (frame good f) es) n v begun.0 l r in
    record { stored = out.newest-stored w.waited ∙ w.image; flagged = out.flagged w.waited; none-waits = out.none-waits }
