-- Every rule keeps that a waiting frame is for a locked dedicated receive buffer, the lowest with its identifier, and short.
use Rattle.std.specs.Prelude.{◌≡◌}
use Rattle.std.proofs.Math.Path.{refl, ap}
use Prim.Native.Nat.{ℕ}
use Rattle.rules.specs.declared.Fault.{Fault}
use Rattle.rules.specs.declared.Fault.TheVariants.{Early, Lost, Illegal, Mismatch}
use Rattle.rules.specs.declared.Control.{Control}
use Rattle.rules.specs.Record.{with_config, with_fsiz}
use Rattle.rules.specs.Modes.{enter, leave, wake, cancel}
use Rattle.rules.specs.Bus.{synced, timed_out, faulted, raise_last}
use Rattle.controller.specs.View.{View}
use Rattle.invariants.specs.Sound.{PlacesSound, Sound}
use Rattle.invariants.specs.KeptLaws.{at, Kept}
use Rattle.invariants.specs.ControlWriteLaws.{prepared-by}
use Rattle.invariants.specs.KeptPlaceLaws.{grounds, none-waits, same-places, init-places, prepared-places, locks-places, unlocks-places, delivers-places, holds-places, stores-places, queues-places, sends-places}

module _ (w : View) (s : Sound w) where
  abbrev d : Control
  d = w.control

  pub places-kept : Kept PlacesSound w
  unfolding leave enter wake cancel synced timed_out faulted raise_last
  places-kept =
      let hs = w.heads in
      let same : (x : Control) → grounds x ≡ grounds d → PlacesSound (at w x) = same-places w s.places in
      record {
        rewrites = λ v. same _ refl;
        leaves = λ i h. same _ refl;
        enters = none-waits _ refl s.places.two;
        sleeps = λ i. same _ refl;
        cancels = same _ refl;
        wakes = λ i. same _ refl;
        resizes = λ f i h m. init-places w s _ hs i refl;
        configures = λ g e only. same (with_config d g) (ap (λ (f : ℕ). grounds (with_config d (with_fsiz d.config f))) e);
        clears-risr = λ v. same _ refl;
        clears-gisr = λ v. same _ refl;
        sends-ident = λ v h. sends-places w s _ h;
        sends-length = λ l b h. sends-places w s _ h;
        takes-ident = λ v i h. init-places w s d _ i refl;
        takes-length = λ l b i h. init-places w s d _ i refl;
        prepares = λ n v h m. prepared-by (λ (x : Control). PlacesSound (at w x)) d n v (prepared-places w s n v);
        locks-transmit = λ n h u t. same _ refl;
        locks-receive = λ n h u t r o. locks-places w s n o;
        locks-fifo = λ n h t o e. same _ refl;
        delivers = delivers-places w s;
        unlocks = λ n h f g. unlocks-places w s n f g;
        syncs = λ k i. same _ refl;
        times-out = same _ refl;
        faults = λ k i. elim k as (λ (k : Fault). PlacesSound (at w (faulted k w.control))) [ Early ↦ same _ refl | Lost ↦ same _ refl | Illegal ↦ same _ refl | Mismatch ↦ same _ refl ];
        raises = λ b only i. same _ refl;
        passes = λ i o. same _ refl;
        overruns = λ i o. same _ refl;
        holds = λ i l k o b t a f. holds-places w s i l k b t a;
        stores = λ i l o y b u. stores-places w s i l b;
        queues = λ i l o y z n room. queues-places w s i l room;
        sends = λ i n o e b. same _ refl;
      }
