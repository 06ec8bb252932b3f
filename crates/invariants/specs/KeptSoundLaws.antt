-- Reset is sound, and facts that are kept are kept together.
use Rattle.controller.specs.View.{View}
use Rattle.invariants.specs.Sound.{LocksSound, FifoSound, BitsSound, RegistersSound, ArmingSound, ContentsSound, PlacesSound, Sound}
use Rattle.invariants.specs.KeptLaws.{Kept, reset_view}
use Rattle.invariants.specs.KeptLockLaws.{locks-reset}
use Rattle.invariants.specs.KeptFifoLaws.{fifo-reset}
use Rattle.invariants.specs.KeptModeLaws.{modes-reset}
use Rattle.invariants.specs.KeptBitLaws.{bits-reset}
use Rattle.invariants.specs.KeptRegisterLaws.{registers-reset}
use Rattle.invariants.specs.KeptArmingLaws.{arming-reset}
use Rattle.invariants.specs.KeptContentsLaws.{contents-reset}
use Rattle.invariants.specs.KeptPlaceLaws.{places-reset}

pub reset-sound : Sound reset_view
reset-sound =
    record {
      locks = locks-reset;
      fifo = fifo-reset;
      modes = modes-reset;
      bits = bits-reset;
      registers = registers-reset;
      arming = arming-reset;
      contents = contents-reset;
      places = places-reset;
    }

-- what follows from two facts that are kept is kept
pub kept-with : (Q R P : View → Type 0) → ((u : View) → Q u → R u → P u) → (w : View) → Kept Q w → Kept R w → Kept P w
kept-with Q R P f w qs rs =
    record {
      rewrites = λ v. f _ (qs.rewrites v) (rs.rewrites v);
      leaves = λ i h. f _ (qs.leaves i h) (rs.leaves i h);
      enters = f _ qs.enters rs.enters;
      sleeps = λ i. f _ (qs.sleeps i) (rs.sleeps i);
      cancels = f _ qs.cancels rs.cancels;
      wakes = λ i. f _ (qs.wakes i) (rs.wakes i);
      resizes = λ z i h m. f _ (qs.resizes z i h m) (rs.resizes z i h m);
      configures = λ g e o. f _ (qs.configures g e o) (rs.configures g e o);
      clears-risr = λ v. f _ (qs.clears-risr v) (rs.clears-risr v);
      clears-gisr = λ v. f _ (qs.clears-gisr v) (rs.clears-gisr v);
      sends-ident = λ v h. f _ (qs.sends-ident v h) (rs.sends-ident v h);
      sends-length = λ z b h. f _ (qs.sends-length z b h) (rs.sends-length z b h);
      takes-ident = λ v i h. f _ (qs.takes-ident v i h) (rs.takes-ident v i h);
      takes-length = λ z b i h. f _ (qs.takes-length z b i h) (rs.takes-length z b i h);
      prepares = λ n v h m. f _ (qs.prepares n v h m) (rs.prepares n v h m);
      locks-transmit = λ n h u t. f _ (qs.locks-transmit n h u t) (rs.locks-transmit n h u t);
      locks-receive = λ n h u t r o. f _ (qs.locks-receive n h u t r o) (rs.locks-receive n h u t r o);
      locks-fifo = λ n h t o e. f _ (qs.locks-fifo n h t o e) (rs.locks-fifo n h t o e);
      delivers = λ k n b h e. f _ (qs.delivers k n b h e) (rs.delivers k n b h e);
      unlocks = λ n h y z. f _ (qs.unlocks n h y z) (rs.unlocks n h y z);
      syncs = λ k i. f _ (qs.syncs k i) (rs.syncs k i);
      times-out = f _ qs.times-out rs.times-out;
      faults = λ k i. f _ (qs.faults k i) (rs.faults k i);
      raises = λ b o i. f _ (qs.raises b o i) (rs.raises b o i);
      passes = λ i o. f _ (qs.passes i o) (rs.passes i o);
      overruns = λ i o. f _ (qs.overruns i o) (rs.overruns i o);
      holds = λ i z k o b u a e. f _ (qs.holds i z k o b u a e) (rs.holds i z k o b u a e);
      stores = λ i z o y b u. f _ (qs.stores i z o y b u) (rs.stores i z o y b u);
      queues = λ i z o y e n h. f _ (qs.queues i z o y e n h) (rs.queues i z o y e n h);
      sends = λ i n o e b. f _ (qs.sends i n o e b) (rs.sends i n o e b);
    }

abbrev pub Both : (View → Type 0) → (View → Type 0) → View → Type 0
Both Q R u = Q u × R u

pub both : (Q R : View → Type 0) (w : View) → Kept Q w → Kept R w → Kept (Both Q R) w
both Q R = kept-with Q R (Both Q R) (λ u x y. (x, y))

-- the groups together
abbrev pub Layout : View → Type 0
Layout = Both LocksSound FifoSound

abbrev pub Marks : View → Type 0
Marks = Both BitsSound RegistersSound

abbrev pub Frames : View → Type 0
Frames = Both (Both ArmingSound ContentsSound) PlacesSound
