-- Every rule keeps the bits that registers have: no other event flags and enables than document 01's, and sixteen bits of CFG
-- and IENA.
use Rattle.std.proofs.Math.Path.{refl}
use Rattle.rules.specs.declared.Events.{Events}
use Rattle.rules.specs.declared.Control.{Control}
use Rattle.rules.specs.Registers.{OVRNIF}
use Rattle.rules.specs.Modes.{leave, wake, cancel}
use Rattle.rules.specs.Writes.{release_all}
use Rattle.rules.specs.Bus.{synced, timed_out, raise_last}
use Rattle.controller.specs.View.{View}
use Rattle.invariants.specs.Sound.{within, RegistersSound, Sound}
use Rattle.invariants.specs.KeptLaws.{at, Kept}
use Rattle.invariants.specs.ControlWriteLaws.{prepared-by}
use Rattle.invariants.specs.KeptRegisterLaws.{risr-written, gisr-written, sync-raised, raised, faulted-registers, entered-registers, prepared-registers, configured}

module _ (w : View) (s : Sound w) where
  now : RegistersSound w
  now = s.registers

  abbrev events : Events
  events = w.control.events

  pub registers-kept : Kept RegistersSound w
  unfolding leave wake cancel synced timed_out raise_last release_all within
  registers-kept =
      let c = w.control in
      record {
        rewrites = λ v. now;
        leaves = λ i l. now;
        enters = entered-registers w s;
        sleeps = λ i. now;
        cancels = now;
        wakes = λ i. now;
        resizes = λ z i h m. now;
        configures = λ g e h. configured w s g h;
        clears-risr = λ v. risr-written events now v;
        clears-gisr = λ v. gisr-written events now c.mode.synced v;
        sends-ident = λ v h. now;
        sends-length = λ l b h. now;
        takes-ident = λ v i h. now;
        takes-length = λ l b i h. now;
        prepares = λ n v h m. prepared-by (λ (x : Control). RegistersSound (at w x)) c n v (λ b p. prepared-registers w s n v b p);
        locks-transmit = λ n h u t. now;
        locks-receive = λ n h u t r o. now;
        locks-fifo = λ n h t o e. now;
        delivers = λ k n b h e. now;
        unlocks = λ n h f g. now;
        syncs = λ k i. sync-raised events now k;
        times-out = now;
        faults = λ k i. faulted-registers w s k;
        raises = λ b h i. raised w s b h;
        passes = λ i t. now;
        overruns = λ i t. raised w s OVRNIF refl;
        holds = λ i l k t h u b f. now;
        stores = λ i l t y h u. now;
        queues = λ i l t y z u f. now;
        sends = λ i n t e h. now;
      }
