-- W8's count after any session, where a dedicated receive buffer carries the frame's identifier: "those from FSIZ to the frame's buffer,
-- that one included". The answer, "stored", "waiting" or "heldoff", names the buffer, which is not below FSIZ.
use Rattle.std.specs.Prelude.{◌≡◌, ℕ, ◌+◌, ◌-◌, ◌≤◌, Bool, true, List, get_or}
use Rattle.std.proofs.Common.{sym, ap, ◌∙◌, subst}
use Rattle.rules.specs.Answers.{given_of, number_in, is_found}
use Rattle.rules.specs.Steps.{Step, frame}
use Rattle.rules.specs.Rules.{decide}
use Rattle.controller.specs.Carry.{heads, Outcome, carry, reset_state}
use Rattle.controller.specs.Session.{step_of, end_of}
use Rattle.controller.specs.CodeLaws.{step-plain}
use Rattle.invariants.specs.ViewLaws.{found-receive, receive-high}
use Rattle.invariants.proofs.Reachable.{reachable-sound}
use Rattle.invariants.specs.ExaminedLaws.{examined-from, reply-found, frame-finds}

pub looked-from : (es : List Step) (good : Bool) (f : List ℕ) → is_found (step_of (end_of reset_state es) (frame good f)).answer ≡ true →
    ((end_of reset_state es).control.config.fsiz ≤ number_in (given_of (step_of (end_of reset_state es) (frame good f)).answer))
    × ((step_of (end_of reset_state es) (frame good f)).looked
    ≡ number_in (given_of (step_of (end_of reset_state es) (frame good f)).answer) + 1 - (end_of reset_state es).control.config.fsiz)
unfolding carry
looked-from es good f t =
    let c = end_of reset_state es in
    let hs = heads c.rows in
    let same = step-plain c (frame good f) in
    let reply = reply-found (frame good f) c.rows (decide c.control hs (frame good f)).reply (ap (λ (o : Outcome). is_found o.answer) (sym same) ∙ t) in
    let plan = (frame-finds c.control hs good f).finds reply.0 in
    let kind = found-receive c.control hs (get_or f 0 0) plan.1 in
    let named = sym plan.0 ∙ reply.1 ∙ ap (λ (o : Outcome). number_in (given_of o.answer)) (sym same) in (
      subst (λ (n : ℕ). c.control.config.fsiz ≤ n) named (receive-high c.control _ kind),
      ap (λ (o : Outcome). o.looked) same ∙ plan.3
          ∙ examined-from c.control _ ((reachable-sound es).modes.lawful plan.2) plan.1 kind
          ∙ ap (λ (n : ℕ). n + 1 - c.control.config.fsiz) named,
    )
