-- Every rule keeps the locks sound.
use Rattle.std.specs.Prelude.{ℕ, ◌&&◌, not, leb}
use Rattle.std.proofs.Common.{sym, subst}
use Rattle.rules.specs.declared.Fault.{Fault}
use Rattle.rules.specs.declared.Fault.TheVariants.{Early, Lost, Illegal, Mismatch}
use Rattle.rules.specs.declared.Control.{Control}
use Rattle.rules.specs.Kinds.{is_transmit, is_receive}
use Rattle.rules.specs.Modes.{leave, wake, cancel}
use Rattle.rules.specs.Writes.{release_all}
use Rattle.rules.specs.Bus.{synced, timed_out, faulted, raise_last}
use Rattle.controller.specs.View.{View}
use Rattle.invariants.specs.Sound.{PairSound, LocksSound, Sound}
use Rattle.invariants.specs.KeptLaws.{Kept, at}
use Rattle.invariants.specs.LockLaws.{unlocked-parts}
use Rattle.invariants.specs.ControlWriteLaws.{prepared-by}
use Rattle.invariants.specs.KeptLockLaws.{take-sound, release-sound, locks-by, resize-keeps, prepared-locks, enter-locks}

pub locks-kept : (w : View) → Sound w → Kept LocksSound w
unfolding leave wake cancel synced timed_out faulted raise_last release_all
locks-kept w s =
    let c = w.control in
    let r = s.locks.receive in
    let t = s.locks.transmit in
    record {
      rewrites = λ v. locks-by r t;
      leaves = λ i e. locks-by r t;
      enters = enter-locks w _ (locks-by r t);
      sleeps = λ i. locks-by r t;
      cancels = locks-by r t;
      wakes = λ i. locks-by r t;
      resizes = λ size i b still. resize-keeps w size still s.locks;
      configures = λ g e only.
          locks-by (subst (λ (size : ℕ). PairSound (λ n. not (is_transmit c n) && leb size n) c.receive) (sym e) r) t;
      clears-risr = λ v. locks-by r t;
      clears-gisr = λ v. locks-by r t;
      sends-ident = λ v h. locks-by r t;
      sends-length = λ l b h. locks-by r t;
      takes-ident = λ v i h. locks-by r t;
      takes-length = λ l b i h. locks-by r t;
      prepares = λ n v h unmoved. prepared-by (λ (x : Control). LocksSound (at w x)) c n v (λ b p. prepared-locks w n v b p unmoved s.locks);
      locks-transmit = λ n h u k. locks-by r (take-sound (is_transmit c) c.transmit n t h k (unlocked-parts c n u).transmit);
      locks-receive = λ n h u k q o. locks-by (take-sound (is_receive c) c.receive n r h q (unlocked-parts c n u).receive) t;
      locks-fifo = λ n h k o e. locks-by r t;
      delivers = λ k n b h e. locks-by r t;
      unlocks = λ n h f g. locks-by (release-sound (is_receive c) c.receive n r) (release-sound (is_transmit c) c.transmit n t);
      syncs = λ k i. locks-by r t;
      times-out = locks-by r t;
      faults = λ k i. elim k as (λ (k : Fault). LocksSound (at w (faulted k w.control))) [ Early ↦ locks-by r t | Lost ↦ locks-by r t | Illegal ↦ locks-by r t | Mismatch ↦ locks-by r t ];
      raises = λ b only i. locks-by r t;
      passes = λ i e. locks-by r t;
      overruns = λ i e. locks-by r t;
      holds = λ i l k e h z b f. locks-by r t;
      stores = λ i l e f h k. locks-by r t;
      queues = λ i l e f z m h. locks-by r t;
      sends = λ i n e f h. locks-by r t;
    }
