-- W8's count is told by the answer and the state after the step: as many dedicated receive buffers as were examined for such an answer.
use Rattle.std.specs.Prelude.{ℕ, Bool, ◌||◌, not, List, get_or}
use Rattle.std.proofs.Math.Path.{refl}
use Rattle.std.proofs.Common.{◌∙◌}
use Rattle.std.proofs.Math.Dec.{eqb, ltb}
use Rattle.masks.specs.Pick.{pick}
use Rattle.masks.specs.PickLaws.{pick-keeps}
use Rattle.contents.specs.Bytes.{Head}
use Rattle.rules.specs.declared.Control.{Control}
use Rattle.rules.specs.Registers.{register_at}
use Rattle.rules.specs.Modes.{cancel}
use Rattle.rules.specs.Bus.{lookup, examined, found, judged, received}
use Rattle.rules.specs.Refusals.{refusal}
use Rattle.rules.specs.Steps.{Step, reset, read, write, sync, sync_due, slot, frame, fault, timeout}
use Rattle.rules.specs.Rules.{act, decide}
use Rattle.rules.specs.LookedLaws.{looked_by, examined-all, Told, by, read_told, bus-told, due-told, slot-told, Counts, buffer-told, fifo-told}

module _ (c : Control) where
  found-told : (i n : ℕ) → Told (found c i n)
  unfolding found
  found-told i n =
      by _ (pick-keeps (Counts c (examined c n)) (ltb n 16) (λ t. buffer-told c i n) (λ t. examined-all c n t ∙ fifo-told c i))

module _ (c : Control) where
  frame-told : (hs : List Head) (good : Bool) (i : ℕ) → Told (received c hs good i)
  unfolding received judged looked_by pick
  frame-told hs good i =
      pick-keeps Told (not c.mode.synced) (λ t. by _ refl)
      (λ t. pick-keeps Told (not good || eqb i 0) (λ u. by _ refl) (λ u. found-told (cancel c) i (lookup c hs i)))

  act-told : (hs : List Head) (e : Step) → Told (act c hs e)
  unfolding act looked_by pick
  act-told hs reset = by _ refl
  act-told hs (read a) = by _ (read_told c hs (register_at a))
  act-told hs (write a v) = by _ refl
  act-told hs (sync k) = bus-told c _ _ (by _ refl) (by _ refl)
  act-told hs sync_due = bus-told c _ _ (by _ refl) (due-told c hs)
  act-told hs (slot i room) = bus-told c _ _ (by _ refl) (slot-told c hs i)
  act-told hs (frame good f) = bus-told c _ _ (by _ refl) (frame-told hs good (get_or f 0 0))
  act-told hs (fault k) = bus-told c _ _ (by _ refl) (by _ refl)
  act-told hs timeout = bus-told c _ _ (by _ refl) (by _ refl)

  pub decide-told : (hs : List Head) (e : Step) → Told (decide c hs e)
  unfolding decide looked_by pick
  decide-told hs e = pick-keeps Told (eqb (refusal c e) 0) (λ t. act-told hs e) (λ t. by _ refl)
