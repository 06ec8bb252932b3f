-- Only a plan that sends a buffer's frame is answered "sent".
use Rattle.std.specs.Prelude.{◌≡◌, refl, ℕ, Bool, false, ◌||◌, not, List, get_or, eqb, ltb}
use Rattle.masks.specs.PickLaws.{pick-keeps}
use Rattle.contents.specs.Bytes.{Head}
use Rattle.rules.specs.declared.Control.{Control}
use Rattle.rules.specs.Registers.{register_at}
use Rattle.rules.specs.Modes.{cancel}
use Rattle.rules.specs.Bus.{lookup, raise_last, found, judged, received}
use Rattle.rules.specs.Refusals.{refusal}
use Rattle.rules.specs.Steps.{Step, reset, read, write, sync, sync_due, slot, frame, fault, timeout}
use Rattle.rules.specs.Rules.{act, decide}
use Rattle.rules.specs.SendingLaws.{says_sent, Honest, ok, read-honest, bus-honest, due-honest, slot-honest, buffer-honest, fifo-honest}

frame-honest : (c : Control) (hs : List Head) (good : Bool) (i : ℕ) → Honest (received c hs good i)
unfolding received judged found
frame-honest c hs good i =
    pick-keeps Honest (not c.mode.synced) (λ t. ok _ refl)
    (λ t. pick-keeps Honest (not good || eqb i 0) (λ u. ok _ refl)
    (λ u. ok _ (pick-keeps Honest (ltb (lookup c hs i) 16) (λ x. buffer-honest (raise_last (cancel c) i) (lookup c hs i)) (λ x. fifo-honest (raise_last (cancel c) i) i)).honest))

act-honest : (c : Control) (hs : List Head) (e : Step) → Honest (act c hs e)
unfolding act
act-honest c hs reset = ok _ refl
act-honest c hs (read a) = ok _ (read-honest c hs (register_at a)).honest
act-honest c hs (write a v) = ok _ refl
act-honest c hs (sync k) = bus-honest c _ _ (ok _ refl) (ok _ refl)
act-honest c hs sync_due = bus-honest c _ _ (ok _ refl) (due-honest c hs)
act-honest c hs (slot i room) = bus-honest c _ _ (ok _ refl) (slot-honest c hs i)
act-honest c hs (frame good f) = bus-honest c _ _ (ok _ refl) (frame-honest c hs good (get_or f 0 0))
act-honest c hs (fault k) = bus-honest c _ _ (ok _ refl) (ok _ refl)
act-honest c hs timeout = bus-honest c _ _ (ok _ refl) (ok _ refl)

decide-honest : (c : Control) (hs : List Head) (e : Step) → Honest (decide c hs e)
unfolding decide
decide-honest c hs e = pick-keeps Honest (eqb (refusal c e) 0) (λ t. act-honest c hs e) (λ t. ok _ refl)

pub never-says-sent : (c : Control) (hs : List Head) (e : Step) → says_sent (decide c hs e).reply ≡ false
never-says-sent c hs e = (decide-honest c hs e).honest
