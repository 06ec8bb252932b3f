-- A plan that is answered "refused" or "ignored" changes nothing, from any state.
use Rattle.std.specs.Prelude.{ℕ, Bool, ◌||◌, not, List, get_or}
use Rattle.std.proofs.Math.Path.{refl}
use Rattle.std.proofs.Math.Dec.{eqb, ltb}
use Rattle.masks.specs.PickLaws.{pick-keeps}
use Rattle.contents.specs.Bytes.{Head}
use Rattle.rules.specs.declared.Answer.TheVariants.{Refused, Ignored}
use Rattle.rules.specs.declared.Control.{Control}
use Rattle.rules.specs.Modes.{cancel}
use Rattle.rules.specs.Bus.{lookup, raise_last, found, judged, received}
use Rattle.rules.specs.Refusals.{refusal}
use Rattle.rules.specs.Steps.{Step, reset, read, write, sync, sync_due, slot, frame, fault, timeout}
use Rattle.rules.specs.Rules.{act, decide}
use Rattle.rules.specs.UnchangedLaws.{Still, other, same, counted-still, bus-still, due-still, buffer-still, fifo-still, slot-still}

module _ (c : Control) where
  frame-still : (hs : List Head) (good : Bool) (i : ℕ) → Still c (received c hs good i)
  unfolding received judged found
  frame-still hs good i =
      pick-keeps (Still c) (not c.mode.synced) (λ t. same c Ignored)
      (λ t. pick-keeps (Still c) (not good || eqb i 0) (λ u. other _ refl)
      (λ u. counted-still _ _
      (pick-keeps (Still c) (ltb (lookup c hs i) 16) (λ x. buffer-still c (raise_last (cancel c) i) (lookup c hs i)) (λ x. fifo-still c (raise_last (cancel c) i) i))))

  act-still : (hs : List Head) (e : Step) → Still c (act c hs e)
  unfolding act
  act-still hs reset = other _ refl
  act-still hs (read a) = record { same-control = λ t. refl; no-moves = λ t. refl }
  act-still hs (write a v) = other _ refl
  act-still hs (sync k) = bus-still c _ _ (other _ refl) (other _ refl)
  act-still hs sync_due = bus-still c _ _ (same c Ignored) (due-still c hs)
  act-still hs (slot i room) = bus-still c _ _ (same c Ignored) (slot-still c hs i)
  act-still hs (frame good f) = bus-still c _ _ (other _ refl) (frame-still hs good (get_or f 0 0))
  act-still hs (fault k) = bus-still c _ _ (other _ refl) (other _ refl)
  act-still hs timeout = bus-still c _ _ (same c Ignored) (other _ refl)

  pub decide-still : (hs : List Head) (e : Step) → Still c (decide c hs e)
  unfolding decide
  decide-still hs e =
      pick-keeps (Still c) (eqb (refusal c e) 0) (λ t. act-still hs e) (λ t. same c (Refused (refusal c e)))
