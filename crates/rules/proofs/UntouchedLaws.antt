-- The plan of a bus event leaves a locked buffer alone: no byte of it moves, its control register reads the same, it is armed
-- if it was, and holders and contenders stay.
use Rattle.std.specs.Prelude.{◌≡◌, refl, ℕ, ◌<◌, Bool, true, ◌||◌, not, List, get_or}
use Rattle.std.proofs.Math.Bool.{false}
use Rattle.std.proofs.lemmas.Bool.{false≢true}
use Rattle.std.proofs.Math.Dec.{eqb, ltb}
use Rattle.masks.specs.PickLaws.{pick-keeps}
use Rattle.contents.specs.Bytes.{Head}
use Rattle.rules.specs.declared.SyncKind.{SyncKind}
use Rattle.rules.specs.declared.Answer.{Answer}
use Rattle.rules.specs.declared.Answer.TheVariants.{Ok, Pulse, Refused, Ignored}
use Rattle.rules.specs.declared.Control.{Control}
use Rattle.rules.specs.Kinds.{is_locked, fifo_holder}
use Rattle.rules.specs.Reads.{bufctl}
use Rattle.rules.specs.Modes.{cancel}
use Rattle.rules.specs.Bus.{arms, synced, due_kind, due_sync, lookup, found, judged, received}
use Rattle.rules.specs.Refusals.{refusal}
use Rattle.rules.specs.Steps.{Step, reset, read, write, sync, sync_due, slot, frame, fault, timeout}
use Rattle.rules.specs.Plan.{plain}
use Rattle.rules.specs.Rules.{act, decide}
use Rattle.rules.specs.Untouched.{is_bus_event, TargetsFree}
use Rattle.rules.specs.UntouchedLaws.{none, Spares, counted-spares, unarmed-on, same, woken-spares, faulted-spares, timed-out-spares, bus-spares, buffer-spares, fifo-spares, bad-spares, slot-spares}

module _ (c : Control) (n : ℕ) (small : n < 16) (locked : is_locked c n ≡ true) (free : TargetsFree c) where
  synced-spares : (k : SyncKind) (hs : List Head) (a : Answer) → Spares c n (plain (synced k (cancel c) hs) a)
  unfolding cancel synced arms bufctl is_locked fifo_holder
  synced-spares k hs a = record { same-bufctl = refl; same-arming = unarmed-on c n small locked free hs; same_roles = refl; avoided = none }

  due-spares : (hs : List Head) → Spares c n (due_sync c hs)
  unfolding due_sync
  due-spares hs =
      pick-keeps (Spares c n) c.mode.master
      (λ t. synced-spares (due_kind c) hs (Pulse (due_kind c))) (λ t. same c n small locked free Ignored)

  frame-spares : (hs : List Head) (good : Bool) (i : ℕ) → c.mode.init ≡ false → Spares c n (received c hs good i)
  unfolding received judged found
  frame-spares hs good i o =
      pick-keeps (Spares c n) (not c.mode.synced) (λ t. same c n small locked free Ignored)
      (λ t. pick-keeps (Spares c n) (not good || eqb i 0) (λ u. bad-spares c n small locked free)
      (λ u. counted-spares _ _ (pick-keeps (Spares c n) (ltb (lookup c hs i) 16) (λ x. buffer-spares c n small locked free i (lookup c hs i)) (λ x. fifo-spares c n small locked free i o))))

  act-spares : (hs : List Head) (e : Step) → is_bus_event e ≡ true → Spares c n (act c hs e)
  unfolding act
  act-spares hs reset b = absurd (false≢true b)
  act-spares hs (read a) b = absurd (false≢true b)
  act-spares hs (write a v) b = absurd (false≢true b)
  act-spares hs (sync k) b = bus-spares c n small locked free _ _ (woken-spares c n small locked free) (λ o. synced-spares k hs Ok)
  act-spares hs sync_due b = bus-spares c n small locked free _ _ (same c n small locked free Ignored) (λ o. due-spares hs)
  act-spares hs (slot i room) b = bus-spares c n small locked free _ _ (same c n small locked free Ignored) (λ o. slot-spares c n small locked free hs i)
  act-spares hs (frame good f) b = bus-spares c n small locked free _ _ (woken-spares c n small locked free) (λ o. frame-spares hs good (get_or f 0 0) o)
  act-spares hs (fault k) b = bus-spares c n small locked free _ _ (woken-spares c n small locked free) (λ o. faulted-spares c n small locked free k)
  act-spares hs timeout b = bus-spares c n small locked free _ _ (same c n small locked free Ignored) (λ o. timed-out-spares c n small locked free)

  pub decide-spares : (hs : List Head) (e : Step) → is_bus_event e ≡ true → Spares c n (decide c hs e)
  unfolding decide
  decide-spares hs e b =
      pick-keeps (Spares c n) (eqb (refusal c e) 0) (λ t. act-spares hs e b) (λ t. same c n small locked free (Refused (refusal c e)))
