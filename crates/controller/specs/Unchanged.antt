-- What changes nothing, from any state: a read, and a step that is answered "refused" or "ignored".
use Rattle.std.specs.Prelude.{◌≡◌, refl, ℕ, true, eqb}
use Rattle.masks.specs.PickLaws.{pick-keeps}
use Rattle.rules.specs.Refusals.{refusal}
use Rattle.rules.specs.Steps.{Step, read, room_in, hide}
use Rattle.rules.specs.Plan.{Plan}
use Rattle.rules.specs.Rules.{act, decide}
use Rattle.rules.specs.Answers.{changes_nothing}
use Rattle.rules.proofs.UnchangedLaws.{decide-still}
use Rattle.controller.specs.declared.Controller.{Controller}
use Rattle.controller.specs.Carry.{move_all, hold_all, carry, heads}
use Rattle.controller.specs.Session.{step_of}
use Rattle.controller.specs.UnchangedLaws.{still-carried}

-- the step leaves the record and the lent room as they are
pub record Unchanged (c : Controller) (e : Step) : Type 0 where
  pub same-record : (step_of c e).next ≡ c
  pub same-room : (step_of c e).room ≡ room_in e

-- "A refusal returns its number only. State and lent memory stay." And a step that is answered "ignored" changes nothing.
pub refused-or-ignored : (c : Controller) (e : Step) → changes_nothing (step_of c e).answer ≡ true → Unchanged c e
unfolding step_of carry
refused-or-ignored c e t =
    let p = decide c.control (heads c.rows) (hide e) in
    let s = decide-still c.control (heads c.rows) (hide e) in
    let r = still-carried c e p.control p.moves p.reply p.looked s.same-control s.no-moves t in
    record { same-record = r.0; same-room = r.1 }

-- a read changes nothing, refused or not
pub read-unchanged : (c : Controller) (a : ℕ) → (step_of c (read a)).next ≡ c
unfolding step_of carry decide act move_all hold_all
read-unchanged c a =
    pick-keeps (λ (p : Plan). (carry (read a) c.rows c.held p).next ≡ c) (eqb (refusal c.control (read a)) 0) (λ t. refl) (λ t. refl)
