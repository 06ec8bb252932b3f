-- The entries of alike sessions.
use Rattle.std.specs.Prelude.{◌≡◌, List, map, Option}
use Rattle.std.proofs.Common.{sym, ap₂, ◌∙◌}
use Rattle.rules.specs.Flags.{lines_of as irq_of}
use Rattle.rules.specs.Steps.{Step}
use Rattle.controller.specs.Carry.{reset_state}
use Rattle.controller.specs.Session.{run_of, seen_all}
use Rattle.controller.proofs.Demand3.{payload-never-steers}
use Rattle.blanked.specs.Entries.{only_steps, weave, entries_from}
use Rattle.blanked.specs.Alike.{hide_step, seen_beside}
use Rattle.blanked.specs.AlikeLaws.{seen-weave, weave-hide, alike-steps}

seen-entries : (os : List (Option Step)) →
    seen_beside os (entries_from reset_state os)
    ≡ weave (irq_of reset_state.control) (map hide_step os) (seen_all (only_steps os) (run_of reset_state (only_steps os)))
seen-entries os =
    seen-weave (irq_of reset_state.control) os (run_of reset_state (only_steps os))
    ∙ weave-hide (irq_of reset_state.control) os (seen_all (only_steps os) (run_of reset_state (only_steps os)))

pub alike-entries : (os us : List (Option Step)) → map hide_step os ≡ map hide_step us →
    seen_beside os (entries_from reset_state os) ≡ seen_beside us (entries_from reset_state us)
alike-entries os us h =
    seen-entries os
    ∙ ap₂ (weave (irq_of reset_state.control)) h (payload-never-steers (only_steps os) (only_steps us) (alike-steps os us h))
    ∙ sym (seen-entries us)
