-- The step that releases a buffer: flag and places after it, and the buffers' bytes where no frame waited.
use Rattle.std.specs.Prelude.{◌≡◌, refl, ℕ, ◌+◌, ◌-◌, ◌<◌, true, false, eqb, ltb}
use Rattle.std.proofs.Common.{◌∙◌, arith, eq-eqb, le-ltb, lt-ltb}
use Rattle.std.proofs.Math.Path.{ap}
use mathlib.Core.List.{List, []}
use Rattle.masks.specs.PickLaws.{pick_true, pick-false}
use Rattle.contents.specs.declared.Contents.{Contents}
use Rattle.rules.specs.declared.Register.{Register}
use Rattle.rules.specs.declared.Register.TheVariants.{Bufctl, Reserved}
use Rattle.rules.specs.declared.Answer.TheVariants.{Ok}
use Rattle.rules.specs.declared.Places.{Places}
use Rattle.rules.specs.declared.Control.{Control}
use Rattle.rules.specs.Registers.{has, register_at, LOCK}
use Rattle.rules.specs.Kinds.{has_iflg}
use Rattle.rules.specs.Waiting.{waits_for, delivered, deliveries}
use Rattle.rules.specs.Writes.{release_all, unlock, write_lock, write_bufctl, written, write_moves}
use Rattle.rules.specs.Refusals.{refusal}
use Rattle.rules.specs.Steps.{Step, write}
use Rattle.rules.specs.Plan.{Move, say, Plan}
use Rattle.rules.specs.Rules.{act, decide}
use Rattle.controller.specs.declared.Controller.{Controller}
use Rattle.controller.specs.Carry.{Outcome, row_at, heads, move_all, carry}
use Rattle.controller.specs.Session.{step_of}
use Rattle.controller.specs.CodeLaws.{step-plain}
use Rattle.invariants.specs.KeptLaws.{prepared}
use Rattle.invariants.specs.ControlWriteLaws.{prepared-by}
use Rattle.invariants.specs.Newest.{is_waited_for, newest}
use Rattle.invariants.specs.DeliveredLaws.{rows_left, delivered-places, delivered-flag, none-waits, without}

-- ---- the release

-- $50 + n is the control register of buffer n
control-at : (n : ℕ) → n < 16 → register_at (0x50 + n) ≡ Bufctl n
unfolding register_at
control-at n h =
    let a = 0x50 + n in
    pick-false (ltb a 0x20) _ _ (le-ltb a 0x20 (omega arith))
    ∙ pick-false (ltb a 0x30) _ _ (le-ltb a 0x30 (omega arith))
    ∙ pick-false (ltb a 0x40) _ _ (le-ltb a 0x40 (omega arith))
    ∙ pick-false (ltb a 0x50) _ _ (le-ltb a 0x50 (omega arith))
    ∙ pick_true (ltb a 0x60) (Bufctl (a - 0x50)) Reserved (lt-ltb a 0x60 (omega arith))
    ∙ ap Bufctl (let back : 0x50 + n - 0x50 ≡ n = omega arith in back)

-- the parts of the write before LOCK change no place
prepared-places : (c : Control) (n v : ℕ) → (prepared c n v).places ≡ c.places
prepared-places c n v = prepared-by (λ (x : Control). x.places ≡ c.places) c n v (λ b p. refl)

module _ (c : Controller) (n v : ℕ) (small : n < 16) (lock : has v LOCK ≡ false) (accepted : refusal c.control (write (0x50 + n) v) ≡ 0) where
  abbrev e : Step
  e = write (0x50 + n) v

  abbrev d : Controller
  d = (step_of c e).next

  -- the record after it, where the address is that of the register r
  abbrev by : Register → Controller
  by r =
      (carry e c.rows c.held
      (record {
        control = written c.control r v;
        moves = write_moves c.control r v;
        reply = say Ok;
        looked = 0;
      })).next

  stepped : d ≡ by (Bufctl n)
  unfolding decide act
  stepped =
      ap (λ (o : Outcome). o.next) (step-plain c e)
      ∙ ap (λ (q : Plan). (carry e c.rows c.held q).next)
      (pick_true (eqb (refusal c.control e) 0) (act c.control (heads c.rows) e) _ (eq-eqb (refusal c.control e) 0 accepted))
      ∙ ap by (control-at n small)

  control-after : d.control ≡ release_all (delivered (prepared c.control n v) n) n
  unfolding carry written write_bufctl write_lock unlock
  control-after = ap (λ (x : Controller). x.control) stepped ∙ pick-false (has v LOCK) _ (unlock (prepared c.control n v) n) lock

  pub rows-after : d.rows ≡ move_all e c.held (deliveries c.control n) c.rows
  unfolding carry write_moves
  rows-after =
      ap (λ (x : Controller). x.rows) stepped
      ∙ ap (λ (ms : List Move). move_all e c.held ms c.rows) (pick-false (has v LOCK) [] (deliveries c.control n) lock)

  places-after : d.control.places ≡ without c.control.places n
  unfolding release_all
  places-after =
      ap (λ (x : Control). x.places) control-after ∙ delivered-places (prepared c.control n v) n
      ∙ ap (λ (p : Places). without p n) (prepared-places c.control n v)

  pub released-places : (k : ℕ) → eqb (waits_for d.control.places k) n ≡ false
  released-places k = ap (λ (p : Places). eqb (waits_for p k) n) places-after ∙ none-waits c.control.places n small k

  pub released-flag : is_waited_for c.control.places n ≡ true → has_iflg d.control n ≡ true
  unfolding release_all
  released-flag t =
      ap (λ (x : Control). has_iflg x n) control-after
      ∙ delivered-flag (prepared c.control n v) n small (ap (λ (p : Places). is_waited_for p n) (prepared-places c.control n v) ∙ t)

  pub released-none : is_waited_for c.control.places n ≡ false → d.rows ≡ c.rows
  released-none t = rows-after ∙ rows_left e n c.control c.held c.rows t

-- ---- the session before it

-- the newest frame that waits for n has the image b
pub record Waiting (c : Controller) (n : ℕ) (b : Contents) : Type 0 where
  pub waited : is_waited_for c.control.places n ≡ true
  pub image : row_at c.held (newest c.control.places n) ≡ b
