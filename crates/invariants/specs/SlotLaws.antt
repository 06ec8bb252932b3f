-- In a sound record the buffer that a slot sends is not locked, so that a plan for a locked one changes nothing.
use Rattle.std.specs.Prelude.{◌≡◌, ℕ, ◌<◌, false, ◌&&◌, not, ltb}
use Rattle.std.proofs.Math.Path.{ap}
use Rattle.std.proofs.Common.{sym, ◌∙◌, ltb-true}
use Rattle.std.proofs.lemmas.Bool.{and_parts}
use Rattle.masks.specs.Pick.{pick}
use Rattle.masks.specs.PickLaws.{pick-false, by-test}
use Rattle.masks.specs.Bits.{highest}
use Rattle.rules.specs.declared.Answer.TheVariants.{Ignored, NotSent}
use Rattle.rules.specs.Kinds.{is_locked}
use Rattle.rules.specs.Bus.{offers, send_from, slot_for, slotted}
use Rattle.rules.specs.Plan.{Plan, plain, Rules}
use Rattle.rules.specs.Steps.{Step, hide}
use Rattle.rules.specs.Rules.{decide}
use Rattle.rules.specs.UntouchedLaws.{offered-armed}
use Rattle.controller.specs.declared.Controller.{Controller}
use Rattle.controller.specs.Carry.{carry}
use Rattle.controller.specs.Session.{step_by}
use Rattle.controller.specs.View.{View, view_of}
use Rattle.invariants.specs.Sound.{Sound}
use Rattle.invariants.specs.Slots.{slotted_with}
use Rattle.invariants.specs.ReachableLaws.{targets-free}

pub slot-unlocked : (w : View) → Sound w → (i : ℕ) → highest (offers w.control w.heads i) 16 < 16 →
    is_locked w.control (highest (offers w.control w.heads i) 16) ≡ false
slot-unlocked w s i b =
    (targets-free w s).armed-free (highest (offers w.control w.heads i) 16) b (offered-armed w.control w.heads i b)

pub slot_same : (p : ℕ → Plan) (w : View) → Sound w → (i : ℕ) → slotted_with p w.control w.heads i ≡ slotted w.control w.heads i
unfolding slotted slot_for
slot_same p w s i =
    let c = w.control in
    let n = highest (offers c w.heads i) 16 in
    let asked = ltb c.mode.last i && ltb n 16 in
    ap (pick (not c.mode.synced) (plain c Ignored))
    (by-test asked
    (λ t. ap (λ (q : Plan). pick asked q (plain c NotSent))
    (pick-false (is_locked c n) (p n) (send_from c i n) (slot-unlocked w s i (ltb-true n 16 (and_parts (ltb c.mode.last i) (ltb n 16) t).1))))
    (λ t. pick-false asked (pick (is_locked c n) (p n) (send_from c i n)) (plain c NotSent) t ∙ sym (pick-false asked (send_from c i n) (plain c NotSent) t)))

-- any rules that decide as document 01's do on every sound record step alike
module _ (r : Rules) (alike : (w : View) → Sound w → (e : Step) → r w.control w.heads e ≡ decide w.control w.heads e) where
  pub same_step : (c : Controller) → Sound (view_of c) → (e : Step) → step_by r c e ≡ step_by decide c e
  same_step c s e = ap (carry e c.rows c.held) (alike (view_of c) s (hide e))
