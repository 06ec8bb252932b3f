-- The rules with a plan for a locked buffer decide on sound records as those without one, and give the same sessions.
use Rattle.std.specs.Prelude.{◌≡◌, ℕ, eqb}
use Rattle.std.proofs.Math.Path.{refl, ap}
use Rattle.std.proofs.Common.{◌∙◌}
use mathlib.Core.List.{List, [], ◌∷◌}
use Rattle.masks.specs.Pick.{pick}
use Rattle.contents.specs.Bytes.{Head}
use Rattle.rules.specs.declared.Answer.TheVariants.{Refused}
use Rattle.rules.specs.declared.Control.{Control}
use Rattle.rules.specs.Flags.{lines_of}
use Rattle.rules.specs.Plan.{Plan, plain, Rules}
use Rattle.rules.specs.Refusals.{refusal}
use Rattle.rules.specs.Steps.{Step, reset, read, write, sync, sync_due, slot, frame, fault, timeout}
use Rattle.rules.specs.Rules.{sleeps_on, act, decide}
use Rattle.controller.specs.declared.Controller.{Controller}
use Rattle.controller.specs.Carry.{Outcome}
use Rattle.controller.specs.Session.{Report, report_of, step_by, run_by, end_by}
use Rattle.controller.specs.View.{View, view_of}
use Rattle.invariants.specs.Sound.{Sound}
use Rattle.invariants.specs.Slots.{decide_with}
use Rattle.invariants.proofs.ReachableLaws.{next-sound}
use Rattle.invariants.specs.SlotLaws.{slot_same, same_step}

pub decide-same : (p : Control → List Head → ℕ → Plan) (w : View) → Sound w → (e : Step) → decide_with p w.control w.heads e ≡ decide w.control w.heads e
unfolding decide act
decide-same p w s reset = refl
decide-same p w s (read a) = refl
decide-same p w s (write a v) = refl
decide-same p w s (sync k) = refl
decide-same p w s sync_due = refl
decide-same p w s (slot i room) =
    let c = w.control in
    let r = refusal c (slot i room) in
    ap (λ (q : Plan). pick (eqb r 0) (sleeps_on c q) (plain c (Refused r))) (slot_same (p c w.heads) w s i)
decide-same p w s (frame good f) = refl
decide-same p w s (fault k) = refl
decide-same p w s timeout = refl

-- any rules that decide as document 01's do on every sound record give the same sessions
module _ (r : Rules) (alike : (w : View) → Sound w → (e : Step) → r w.control w.heads e ≡ decide w.control w.heads e) where
  pub same-run : (c : Controller) → Sound (view_of c) → (es : List Step) → run_by r lines_of c es ≡ run_by decide lines_of c es
  unfolding run_by
  same-run c s [] = refl
  same-run c s (e ∷ es) =
      ap (λ (o : Outcome). report_of lines_of o ∷ run_by r lines_of o.next es) (same_step r alike c s e)
      ∙ ap (λ (rs : List Report). report_of lines_of (step_by decide c e) ∷ rs) (same-run (step_by decide c e).next (next-sound c e s) es)

  pub same_end : (c : Controller) → Sound (view_of c) → (es : List Step) → end_by r c es ≡ end_by decide c es
  unfolding end_by
  same_end c s [] = refl
  same_end c s (e ∷ es) =
      ap (λ (o : Outcome). end_by r o.next es) (same_step r alike c s e) ∙ same_end (step_by decide c e).next (next-sound c e s) es
