-- After every session from reset, whatever the record: what SLPRQ and SLPAK say of the two places, what a read outside the windows gives,
-- and what it is that a place is taken for. What holds of the record is in proofs/Reachable.antt.
use Rattle.std.specs.Prelude.{◌≡◌, ℕ, ◌≤◌, true, false, ◌&&◌, List, eqb}
use Rattle.std.proofs.Common.{ap, ◌∙◌, eq-eqb}
use Rattle.std.proofs.lemmas.Bool.{and_parts}
use Rattle.masks.specs.PickLaws.{pick_true}
use Rattle.rules.specs.declared.Answer.TheVariants.{Value}
use Rattle.rules.specs.Registers.{region_of, register_at}
use Rattle.rules.specs.Kinds.{is_receive, is_locked}
use Rattle.rules.specs.Waiting.{is_free, asleep}
use Rattle.rules.specs.Reads.{read_reply}
use Rattle.rules.specs.Refusals.{refusal}
use Rattle.rules.specs.Bus.{lookup}
use Rattle.rules.specs.Plan.{head_at, Plan}
use Rattle.rules.specs.Steps.{Step, read}
use Rattle.rules.specs.Rules.{act, decide}
use Rattle.controller.specs.declared.Controller.{Controller}
use Rattle.controller.specs.Carry.{reset_state, heads, answer_of, carry}
use Rattle.controller.specs.Session.{step_of, end_of}
use Rattle.invariants.specs.Reads.{is_window, after, reads}
use Rattle.invariants.specs.TestLaws.{and-rest}
use Rattle.invariants.specs.ReachableLaws.{value-shown}

-- ---- the two places (W5), after any session from reset

-- the frame in place k waits for buffer n: a locked dedicated receive buffer, the lowest with the frame's identifier. The frame's length
-- is cut to 12, and no frame waits in initialization.
pub record TakenFor (c : Controller) (k n : ℕ) : Type 0 where
  pub receive : is_receive c.control n ≡ true
  pub locked : is_locked c.control n ≡ true
  pub lowest-named : lookup c.control (heads c.rows) (head_at (heads c.held) k).ident ≡ n
  pub short : (head_at (heads c.held) k).len ≤ 12
  pub normal : c.control.mode.init ≡ false

-- SLPAK only with SLPRQ, and only with no place taken
pub asleep-free : (es : List Step) → asleep (after es) ≡ true →
    ((after es).mode.slprq ≡ true) × (is_free (after es) 0 ≡ true) × (is_free (after es) 1 ≡ true)
unfolding asleep
asleep-free es e =
    let c = after es in
    let both = and_parts c.mode.slprq (is_free c 0 && is_free c 1) e in
    let free = and_parts (is_free c 0) (is_free c 1) both.1 in (both.0, free.0, free.1)

-- SLPRQ without SLPAK only with a place taken
pub requested-taken : (es : List Step) → (after es).mode.slprq ≡ true → asleep (after es) ≡ false → (is_free (after es) 0 && is_free (after es) 1) ≡ false
unfolding asleep
requested-taken es q e = and-rest (after es).mode.slprq (is_free (after es) 0 && is_free (after es) 1) e q

-- ---- what registers read, after any session from reset

-- the value `reads` is what a read gives, if it isn't refused and no window is read
pub read-gives : (es : List Step) (a : ℕ) → refusal (after es) (read a) ≡ 0 → is_window (region_of (register_at a)) ≡ false →
    (step_of (end_of reset_state es) (read a)).answer ≡ Value (reads es a)
unfolding step_of carry decide act read_reply
read-gives es a r e =
    let c = end_of reset_state es in
    let hs = heads c.rows in
    let accepted : eqb (refusal c.control (read a)) 0 ≡ true = eq-eqb (refusal c.control (read a)) 0 r in
    ap (λ (p : Plan). answer_of (read a) c.rows p.reply) (pick_true (eqb (refusal c.control (read a)) 0) (act c.control hs (read a)) _ accepted)
    ∙ value-shown c.control hs (read a) c.rows (region_of (register_at a)) (reads es a) e
