-- W2: with open filters, $FF in both masks as after reset, no filter keeps a frame out of the FIFO.
use Rattle.std.specs.Prelude.{◌≡◌, ℕ, true, false, List, get_or, eqb, ltb}
use Rattle.masks.specs.Pick.{pick}
use Rattle.contents.specs.Bytes.{Head}
use Rattle.rules.specs.declared.Control.{Control}
use Rattle.rules.specs.Waiting.{asleep}
use Rattle.rules.specs.Modes.{cancel}
use Rattle.rules.specs.Bus.{lookup, taken_by_fifo, to_fifo, raise_last, examined, found, judged, received}
use Rattle.rules.specs.Refusals.{refusal}
use Rattle.rules.specs.Steps.{frame}
use Rattle.rules.specs.Plan.{with_looked}
use Rattle.rules.specs.Rules.{on_bus, act, decide}
use Rattle.rules.specs.OpenFilterLaws.{takes-any, examined-cancel}

-- In normal operation, awake and synchronized, a FIFO with open filters takes every good frame that isn't refused, whose identifier
-- isn't 0 and which no dedicated receive buffer carries; if it is full, it drops the frame as it drops any.
pub open-fifo-takes : (c : Control) (hs : List Head) (f : List ℕ) →
    c.config.accept.mask ≡ 0xFF → c.config.reject.mask ≡ 0xFF → ltb 0 c.config.fsiz ≡ true →
    refusal c (frame true f) ≡ 0 → c.mode.init ≡ false → asleep c ≡ false → c.mode.synced ≡ true →
    eqb (get_or f 0 0) 0 ≡ false → ltb (lookup c hs (get_or f 0 0)) 16 ≡ false →
    decide c hs (frame true f) ≡ with_looked (taken_by_fifo (raise_last (cancel c) (get_or f 0 0))) (examined c (lookup c hs (get_or f 0 0)))
unfolding decide act on_bus received judged found to_fifo pick
open-fifo-takes c hs f accepting rejecting some sized normal awake synced named none =
    let taken = takes-any c (get_or f 0 0) accepting rejecting some in
    simp (sized, normal, awake, synced, named, none, taken, examined-cancel)
