-- Each turn keeps every group of facts.
use Rattle.controller.specs.View.{View}
use Rattle.invariants.specs.Sound.{LocksSound, FifoSound, ModeSound, BitsSound, RegistersSound, ArmingSound, ContentsSound, PlacesSound, Sound}
use Rattle.invariants.specs.KeptLaws.{Kept}
use Rattle.invariants.proofs.KeptLockLaws.{locks-kept}
use Rattle.invariants.specs.KeptFifoLaws.{fifo-kept}
use Rattle.invariants.proofs.KeptModeLaws.{modes-kept}
use Rattle.invariants.specs.KeptBitLaws.{bits-kept}
use Rattle.invariants.proofs.KeptRegisterLaws.{registers-kept}
use Rattle.invariants.specs.KeptArmingLaws.{arming-kept}
use Rattle.invariants.proofs.KeptContentsLaws.{contents-kept}
use Rattle.invariants.proofs.KeptPlaceLaws.{places-kept}
use Rattle.invariants.specs.KeptSoundLaws.{kept-with, Both, both, Layout, Marks, Frames}

pub sound-kept : (w : View) → Sound w → Kept Sound w
sound-kept w s =
    let layout = both LocksSound FifoSound w (locks-kept w s) (fifo-kept w s) in
    let marks = both BitsSound RegistersSound w (bits-kept w s) (registers-kept w s) in
    let stored = both ArmingSound ContentsSound w (arming-kept w s) (contents-kept w s) in
    let frames = both (Both ArmingSound ContentsSound) PlacesSound w stored (places-kept w s) in
    let modes = both Layout ModeSound w layout (modes-kept w s) in
    kept-with (Both Layout ModeSound) (Both Marks Frames) Sound (λ u x y.
    record {
      locks = x.0.0;
      fifo = x.0.1;
      modes = x.1;
      bits = y.0.0;
      registers = y.0.1;
      arming = y.1.0.0;
      contents = y.1.0.1;
      places = y.1.1;
    }) w modes (both Marks Frames w marks frames)
