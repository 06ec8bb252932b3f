-- What runs. A caller makes any list of calls from reset, each on the record that the last one returned, and looks at the answer
-- with its count, the room and the five lines. What the methods promise is all that is assumed of them. proofs/Runs.antt has demand 3 of it.
use Rattle.std.specs.Prelude.{◌≡◌, ℕ, List, [], ◌∷◌}
use Rattle.rules.specs.Flags.{lines_of}
use Rattle.rules.specs.Steps.{Step}
use Rattle.controller.specs.declared.Controller.{Controller}
use Rattle.controller.specs.declared.Done.{Done}
use Rattle.controller.specs.Carry.{reset_state}
use Rattle.controller.specs.Session.{Report, step_of, run_of, seen_all}
use Rattle.controller.specs.Calls.{done_of, shown}

-- Runs c es rs: the steps es, called one after the other from the record c, showed the reports rs. Each call returned d and
-- left the room so, as its method promises, and the five lines were read off the record that it returned.
pub data Runs : Controller → List Step → List Report → Type 0 where
  ends : {c : Controller} → Runs c [] []
  calls : {c : Controller} {e : Step} {es : List Step} {rs : List Report} (d : Done) (room : List ℕ) (lines : ℕ) →
      d ≡ done_of (step_of c e) → room ≡ (step_of c e).room → lines ≡ lines_of d.next.control →
      Runs d.next es rs → Runs c (e ∷ es) (shown d.answered.answer room lines d.answered.looked ∷ rs)

-- Demand 3, both halves, of what runs: alike sessions show the same, but for what `seen_all` puts to 0, and each shows what
-- document 01's rules give from reset for its list alone.
pub record Demand3 (xs ys : List Step) (rs ss : List Report) : Type 0 where
  pub seen_alike : seen_all xs rs ≡ seen_all ys ss
  pub first-by-rules : rs ≡ run_of reset_state xs
  pub second-by-rules : ss ≡ run_of reset_state ys
