-- No bus event changes a locked buffer: its fourteen bytes, what its control register reads, whether it is armed, and whether
-- it is a holder or a contender. From any state in which the FIFO's next place is not itself locked, nor any armed buffer;
-- every session from reset is in such a state.
use Rattle.std.specs.Prelude.{◌≡◌, ℕ, ◌<◌, true}
use Rattle.std.proofs.Common.{◌∙◌}
use Rattle.rules.specs.Kinds.{is_armed, is_locked}
use Rattle.rules.specs.Reads.{bufctl}
use Rattle.rules.specs.Steps.{Step, hide}
use Rattle.rules.specs.Untouched.{is_bus_event, TargetsFree, roles_of}
use Rattle.rules.proofs.UntouchedLaws.{decide-spares}
use Rattle.controller.specs.declared.Controller.{Controller}
use Rattle.controller.specs.Carry.{row_at, heads, carry}
use Rattle.controller.specs.Session.{step_of}
use Rattle.controller.specs.UntouchedLaws.{avoided-row, hide-bus}

-- buffer n is the same before and after the step
pub record Untouched (c : Controller) (e : Step) (n : ℕ) : Type 0 where
  pub same_bytes : row_at (step_of c e).next.rows n ≡ row_at c.rows n
  pub same-control : bufctl (step_of c e).next.control n ≡ bufctl c.control n
  pub same-arming : is_armed (step_of c e).next.control n ≡ is_armed c.control n
  -- no bus event changes a holder or contender at all
  pub same_roles : roles_of (step_of c e).next.control ≡ roles_of c.control

pub locked-untouched : (c : Controller) (e : Step) (n : ℕ) → TargetsFree c.control → is_bus_event e ≡ true → n < 16 →
    is_locked c.control n ≡ true → Untouched c e n
unfolding step_of carry
locked-untouched c e n free b small locked =
    let s = decide-spares c.control n small locked free (heads c.rows) (hide e) (hide-bus e ∙ b) in
    record {
      same_bytes = avoided-row e c.rows c.held n _ s.avoided;
      same-control = s.same-bufctl;
      same-arming = s.same-arming;
      same_roles = s.same_roles;
    }
