-- The answers after which the five lines are as they were, from any state: a read, what changes nothing, and a frame or a slot that
-- changes no more than the last identifier.
use Rattle.std.specs.Prelude.{◌≡◌, ℕ, Bool, true, ◌||◌, not, List, get_or}
use Rattle.std.proofs.Math.Path.{refl}
use Rattle.std.proofs.Math.Dec.{eqb, ltb}
use Rattle.masks.specs.PickLaws.{pick-keeps}
use Rattle.contents.specs.Bytes.{Head}
use Rattle.rules.specs.declared.Control.{Control}
use Rattle.rules.specs.Flags.{lines_of}
use Rattle.rules.specs.Modes.{cancel}
use Rattle.rules.specs.Bus.{lookup, raise_last, found, judged, received}
use Rattle.rules.specs.Refusals.{refusal}
use Rattle.rules.specs.Steps.{Step, reset, read, write, sync, sync_due, slot, frame, fault, timeout}
use Rattle.rules.specs.Rules.{act, decide}
use Rattle.rules.specs.KeptLinesLaws.{keeps_lines, keeps_by, raise-kept, Kept, other, same, counted-kept, bus-kept, due-kept, slot_kept, buffer-kept, fifo-kept}

module _ (c : Control) where
  frame-kept : (hs : List Head) (good : Bool) (i : ℕ) → Kept c (received c hs good i)
  unfolding received judged found keeps_lines
  frame-kept hs good i =
      let n = lookup c hs i in
      let e = raise-kept c i in
      pick-keeps (Kept c) (not c.mode.synced) (λ t. same c _ refl)
      (λ t. pick-keeps (Kept c) (not good || eqb i 0) (λ u. other c _ refl)
      (λ u. counted-kept c _ _ (pick-keeps (Kept c) (ltb n 16) (λ x. buffer-kept c (raise_last (cancel c) i) n e) (λ x. fifo-kept c (raise_last (cancel c) i) i e))))

  act-kept : (hs : List Head) (e : Step) → Kept c (act c hs e)
  unfolding act keeps_lines
  act-kept hs reset = other c _ refl
  act-kept hs (read a) = same c _ refl
  act-kept hs (write a v) = other c _ refl
  act-kept hs (sync k) = bus-kept c _ _ (other c _ refl) (other c _ refl)
  act-kept hs sync_due = bus-kept c _ _ (same c _ refl) (due-kept c hs)
  act-kept hs (slot i room) = bus-kept c _ _ (same c _ refl) (slot_kept c hs i)
  act-kept hs (frame good f) = bus-kept c _ _ (other c _ refl) (frame-kept hs good (get_or f 0 0))
  act-kept hs (fault k) = bus-kept c _ _ (other c _ refl) (other c _ refl)
  act-kept hs timeout = bus-kept c _ _ (same c _ refl) (other c _ refl)

  decide-kept : (hs : List Head) (e : Step) → Kept c (decide c hs e)
  unfolding decide
  decide-kept hs e = pick-keeps (Kept c) (eqb (refusal c e) 0) (λ t. act-kept hs e) (λ t. same c _ refl)

  pub decide-keeps : (hs : List Head) (e : Step) → keeps_by (decide c hs e).reply ≡ true → lines_of (decide c hs e).control ≡ lines_of c
  decide-keeps hs e = (decide-kept hs e).kept
