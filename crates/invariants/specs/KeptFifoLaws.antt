-- Every rule keeps the FIFO sound: its places are a ring of FSIZ, of which a rule leaves the ends, or moves one by one place,
-- or empties it.
use Rattle.std.specs.Prelude.{◌≡◌, refl, ℕ, ◌+◌, ◌-◌, ◌<◌, ◌≤◌, false, ◌&&◌, eqb, ltb}
use Rattle.std.proofs.Common.{sym, subst, arith, ltb-true, ltb-false}
use Rattle.std.proofs.lemmas.Bool.{and_parts}
use Rattle.masks.specs.PickLaws.{pick-keeps, by-test}
use Rattle.rules.specs.declared.Fault.{Fault}
use Rattle.rules.specs.declared.Fault.TheVariants.{Early, Lost, Illegal, Mismatch}
use Rattle.rules.specs.declared.Fifo.{Fifo}
use Rattle.rules.specs.declared.Control.{Control}
use Rattle.rules.specs.Registers.{empty_fifo, reset_control}
use Rattle.rules.specs.Kinds.{place_after}
use Rattle.rules.specs.Modes.{enter, leave, wake, cancel}
use Rattle.rules.specs.Writes.{lock_fifo, release_all, release_fifo}
use Rattle.rules.specs.Bus.{synced, timed_out, faulted, raise_last}
use Rattle.controller.specs.View.{View}
use Rattle.invariants.specs.Sound.{RingSound, FifoSound, Sound}
use Rattle.invariants.specs.KeptLaws.{Kept, at, reset_view}
use Rattle.invariants.specs.TestLaws.{impossible}
use Rattle.invariants.specs.ControlWriteLaws.{prepared-by}

-- ---- the ring

empty-ring : (size : ℕ) → size ≤ 16 → RingSound size empty_fifo
empty-ring size b =
    record {
      size-le = b;
      count-le = omega arith;
      oldest-lt = λ h. h;
      next-lt = λ h. h;
      next_low = λ h. refl;
      next-high = λ h. omega arith;
      lock-entry = impossible;
    }

-- the place after n, by whether n is the last
place_after_lem : (P : ℕ → Type 0) (size n : ℕ) → (n + 1 < size → P (n + 1)) → (size ≤ n + 1 → P 0) → P (place_after size n)
unfolding place_after
place_after_lem P size n on turn = pick-keeps P (ltb n (size - 1))
    (λ t. on (let h = ltb-true n (size - 1) t in omega arith))
    (λ t. turn (let h = ltb-false n (size - 1) t in omega arith))

module _ (size : ℕ) (f : Fifo) (r : RingSound size f) where
  -- the next place is behind the entries, or behind those that follow the turn
  next-behind : {G : Type 0} → (f.next ≡ f.oldest + f.count → G) → (f.next + size ≡ f.oldest + f.count → G) → G
  next-behind low high = by-test (ltb (f.oldest + f.count) size)
      (λ t. low (r.next_low (ltb-true (f.oldest + f.count) size t)))
      (λ t. high (r.next-high (ltb-false (f.oldest + f.count) size t)))

  -- without the oldest entry
  drop-ring : 0 < f.count →
      RingSound size (record { oldest = place_after size f.oldest; next = f.next; count = f.count - 1; locked = false })
  drop-ring some =
      let first = r.oldest-lt (omega arith) in
      let place = r.next-lt (omega arith) in
      place_after_lem (λ (m : ℕ). RingSound size (record { oldest = m; next = f.next; count = f.count - 1; locked = false })) size f.oldest
      (λ on. record {
        size-le = r.size-le;
        count-le = omega arith;
        oldest-lt = λ h. on;
        next-lt = r.next-lt;
        next_low = λ h. next-behind (λ e. omega arith) (λ e. omega arith);
        next-high = λ h. next-behind (λ e. omega arith) (λ e. omega arith);
        lock-entry = impossible;
      })
      (λ turn. record {
        size-le = r.size-le;
        count-le = omega arith;
        oldest-lt = λ h. h;
        next-lt = r.next-lt;
        next_low = λ h. next-behind (λ e. omega arith) (λ e. omega arith);
        next-high = λ h. absurd (omega arith);
        lock-entry = impossible;
      })

  -- with one more entry
  add-ring : f.count < size →
      RingSound size (record { oldest = f.oldest; next = place_after size f.next; count = f.count + 1; locked = f.locked })
  add-ring room =
      let first = r.oldest-lt (omega arith) in
      let place = r.next-lt (omega arith) in
      place_after_lem (λ (m : ℕ). RingSound size (record { oldest = f.oldest; next = m; count = f.count + 1; locked = f.locked })) size f.next
      (λ on. record {
        size-le = r.size-le;
        count-le = omega arith;
        oldest-lt = r.oldest-lt;
        next-lt = λ h. on;
        next_low = λ h. next-behind (λ e. omega arith) (λ e. omega arith);
        next-high = λ h. next-behind (λ e. omega arith) (λ e. omega arith);
        lock-entry = λ e. omega arith;
      })
      (λ turn. record {
        size-le = r.size-le;
        count-le = omega arith;
        oldest-lt = r.oldest-lt;
        next-lt = λ h. h;
        next_low = λ h. next-behind (λ e. omega arith) (λ e. omega arith);
        next-high = λ h. next-behind (λ e. omega arith) (λ e. omega arith);
        lock-entry = λ e. omega arith;
      })

  -- with its oldest entry locked
  lock-ring : 0 < f.count → RingSound size (lock_fifo f)
  lock-ring some =
      record {
        size-le = r.size-le;
        count-le = r.count-le;
        oldest-lt = r.oldest-lt;
        next-lt = r.next-lt;
        next_low = r.next_low;
        next-high = r.next-high;
        lock-entry = λ e. some;
      }

-- ---- a control write

enter-ring : (c : Control) → RingSound c.config.fsiz c.fifo → RingSound (enter c).config.fsiz (enter c).fifo
unfolding enter
enter-ring c r = empty-ring c.config.fsiz r.size-le

release-ring : (c : Control) (n : ℕ) → RingSound c.config.fsiz c.fifo → RingSound c.config.fsiz (release_fifo c n)
unfolding release_fifo
release-ring c n r = pick-keeps (RingSound c.config.fsiz) (c.fifo.locked && eqb n c.fifo.oldest)
    (λ t. drop-ring c.config.fsiz c.fifo r (r.lock-entry (and_parts c.fifo.locked (eqb n c.fifo.oldest) t).0))
    (λ t. r)

-- ---- every rule

pub fifo-kept : (w : View) → Sound w → Kept FifoSound w
unfolding leave wake cancel synced timed_out faulted raise_last release_all
fifo-kept w s =
    let c = w.control in
    let r = s.fifo in
    record {
      rewrites = λ v. r;
      leaves = λ i e. r;
      enters = enter-ring _ r;
      sleeps = λ i. r;
      cancels = r;
      wakes = λ i. r;
      resizes = λ size i b still. subst (RingSound size) (sym (s.modes.idle i).fifo) (empty-ring size b);
      configures = λ g e only. subst (λ (size : ℕ). RingSound size c.fifo) (sym e) r;
      clears-risr = λ v. r;
      clears-gisr = λ v. r;
      sends-ident = λ v h. r;
      sends-length = λ l b h. r;
      takes-ident = λ v i h. r;
      takes-length = λ l b i h. r;
      prepares = λ n v h unmoved. prepared-by (λ (x : Control). FifoSound (at w x)) c n v (λ b p. r);
      locks-transmit = λ n h u k. r;
      locks-receive = λ n h u k q o. r;
      locks-fifo = λ n h k some e. lock-ring c.config.fsiz c.fifo r some;
      delivers = λ k n b h e. r;
      unlocks = λ n h f g. release-ring c n r;
      syncs = λ k i. r;
      times-out = r;
      faults = λ k i. elim k as (λ (k : Fault). FifoSound (at w (faulted k w.control))) [ Early ↦ r | Lost ↦ r | Illegal ↦ r | Mismatch ↦ r ];
      raises = λ b only i. r;
      passes = λ i e. r;
      overruns = λ i e. r;
      holds = λ i l k e h z b f. r;
      stores = λ i l e f h k. r;
      queues = λ i l e f z m room. add-ring c.config.fsiz c.fifo r room;
      sends = λ i n e f h. r;
    }

pub fifo-reset : FifoSound reset_view
unfolding reset_control
fifo-reset = empty-ring 0 (omega arith)
