-- What keeps armed buffers as they must be: other modes, heads and locks, a disarmed buffer, a new IFLG, a write of LOCK.
use Rattle.std.specs.Prelude.{◌≡◌, ℕ, ◌<◌, List, false, ◌&&◌, set}
use Rattle.std.proofs.Math.Path.{refl}
use Rattle.std.proofs.Common.{sym, ap, ◌∙◌}
use Rattle.std.proofs.Math.Bool.{true}
use borrow.Author.Tests.{ne_eqb}
use Rattle.std.proofs.Math.Dec.{eqb}
use Rattle.masks.specs.PickLaws.{pick-keeps}
use Rattle.masks.specs.Laws.{put_other}
use Rattle.masks.specs.SearchLaws.{never_both}
use Rattle.locks.specs.declared.Locks.{Locks}
use Rattle.locks.specs.Pair.{take_lock, release_lock}
use Rattle.contents.specs.Bytes.{Head}
use Rattle.rules.specs.declared.Mode.{Mode}
use Rattle.rules.specs.declared.Config.{Config}
use Rattle.rules.specs.declared.Events.{Events}
use Rattle.rules.specs.declared.Fifo.{Fifo}
use Rattle.rules.specs.declared.Control.{Control}
use Rattle.rules.specs.Record.{with_fifo, with_receive, with_transmit}
use Rattle.rules.specs.declared.Places.{Places}
use Rattle.rules.specs.Kinds.{is_transmit, is_armed, is_locked}
use Rattle.rules.specs.Modes.{enter}
use Rattle.rules.specs.Writes.{disarm, lock_fifo, release_fifo, release_all}
use Rattle.controller.specs.View.{View}
use Rattle.invariants.specs.Sound.{Armed, ArmingSound}
use Rattle.invariants.specs.KeptLaws.{at, flagged}
use Rattle.invariants.specs.BitLaws.{put-clear, put-away, bit-absent}
use Rattle.invariants.specs.ViewLaws.{head-other}
use Rattle.invariants.specs.LockLaws.{Unlocked, unlocked-parts, unlocked-by, take-free, release-free}

-- buffers of different CFG differ
pub kinds-apart : (c : Control) (k n : ℕ) → is_transmit c k ≡ true → is_transmit c n ≡ false → k ≡ n → ⊥
kinds-apart c k n p q e = never_both (is_transmit c k) p (ap (is_transmit c) e ∙ q)

-- ---- one part of the view changed

-- nothing armed
pub quiet : (x : View) → x.control.buffers.armed ≡ 0 → ArmingSound x
quiet x e =
    record { armed = λ n b a. absurd (never_both (is_armed x.control n) a (bit-absent x.control.buffers.armed n e)) }

module _ (w : View) (s : ArmingSound w) where
  abbrev c : Control
  c = w.control

  -- of mode, configuration and events only synchronization counts
  pub same-arming : (m : Mode) (g : Config) (e : Events) (p : Places) → m.synced ≡ c.mode.synced →
      ArmingSound (at w (record { mode = m; config = g; events = e; fifo = c.fifo; receive = c.receive; transmit = c.transmit; places = p; buffers = c.buffers }))
  unfolding is_locked
  same-arming m g e p y =
      record {
        armed = λ n b a.
            let q = s.armed n b a in
            record { transmit = q.transmit; full = q.full; unlocked = q.unlocked; named = q.named; synced = y ∙ q.synced };
      }

  -- another head at a place that can't be armed
  pub head-arming : (p : ℕ) (h : Head) → ((n : ℕ) → Armed w n → n ≡ p → ⊥) → ArmingSound (record { control = c; heads = set w.heads p h; held = w.held })
  head-arming p h away =
      record {
        armed = λ n b a.
            let q = s.armed n b a in
            record {
              transmit = q.transmit;
              full = q.full;
              unlocked = q.unlocked;
              named = ap (λ (x : Head). eqb x.ident 0) (head-other w.heads p h n (away n q)) ∙ q.named;
              synced = q.synced;
            };
      }

  -- other frames held
  pub held-arming : (ps : List Head) → ArmingSound (record { control = c; heads = w.heads; held = ps })
  held-arming ps =
      record {
        armed = λ n b a.
            let q = s.armed n b a in
            record { transmit = q.transmit; full = q.full; unlocked = q.unlocked; named = q.named; synced = q.synced };
      }

  -- other locks that lock no armed buffer
  pub locks-arming : (r t : Locks) (f : Fifo) →
      ((n : ℕ) → n < 16 → is_armed c n ≡ true → is_transmit c n ≡ true → Unlocked c n → Unlocked (with_fifo (with_transmit (with_receive c r) t) f) n) →
      ArmingSound (at w (with_fifo (with_transmit (with_receive c r) t) f))
  locks-arming r t f free =
      record {
        armed = λ n b a.
            let q = s.armed n b a in
            let x = with_fifo (with_transmit (with_receive c r) t) f in
            record {
              transmit = q.transmit;
              full = q.full;
              unlocked = unlocked-by x n (free n b a q.transmit (unlocked-parts c n q.unlocked));
              named = q.named;
              synced = q.synced;
            };
      }

  pub disarm-arming : (n : ℕ) → ArmingSound (at w (disarm c n))
  unfolding is_locked
  disarm-arming n =
      record {
        armed = λ k b a.
            let q = s.armed k b (put-clear c.buffers.armed n k b a) in
            record { transmit = q.transmit; full = q.full; unlocked = q.unlocked; named = q.named; synced = q.synced };
      }

  -- IFLG of a buffer that isn't armed
  pub flag-arming : (n : ℕ) → is_armed c n ≡ false → ArmingSound (at w (flagged c n))
  unfolding is_locked
  flag-arming n out =
      record {
        armed = λ k b a.
            let q = s.armed k b a in
            let away = ne_eqb k n (λ e. never_both (is_armed c k) a (ap (is_armed c) e ∙ out)) in
            record {
              transmit = q.transmit;
              full = put_other c.buffers.iflg n true k away b ∙ q.full;
              unlocked = q.unlocked;
              named = q.named;
              synced = q.synced;
            };
      }

  pub enter-arming : (d : Control) → ArmingSound (at w (enter d))
  unfolding enter
  enter-arming d = quiet (at w (enter d)) refl

-- ---- LOCK of buffer n

module _ (w : View) (s : ArmingSound w) (n : ℕ) where
  abbrev d : Control
  d = w.control

  -- a transmit buffer is disarmed
  pub transmit-locked : ArmingSound (at w (with_transmit (disarm d n) (take_lock d.transmit n)))
  transmit-locked =
      locks-arming (at w (disarm d n)) (disarm-arming w s n) d.receive (take_lock d.transmit n) d.fifo (λ k b a q u.
      record {
        receive = u.receive;
        transmit = take-free d.transmit n k u.transmit (put-away d.buffers.armed n k b a);
        fifo = u.fifo;
      })

  -- a buffer of another kind isn't armed
  pub receive-locked : is_transmit d n ≡ false → ArmingSound (at w (with_receive d (take_lock d.receive n)))
  receive-locked t =
      locks-arming w s (take_lock d.receive n) d.transmit d.fifo (λ k b a q u.
      record {
        receive = take-free d.receive n k u.receive (ne_eqb k n (kinds-apart d k n q t));
        transmit = u.transmit;
        fifo = u.fifo;
      })

  pub fifo-locked : is_transmit d n ≡ false → n ≡ d.fifo.oldest → ArmingSound (at w (with_fifo d (lock_fifo d.fifo)))
  fifo-locked t e =
      locks-arming w s d.receive d.transmit (lock_fifo d.fifo) (λ k b a q u.
      record {
        receive = u.receive;
        transmit = u.transmit;
        fifo = ne_eqb k d.fifo.oldest (λ o. kinds-apart d k n q t (o ∙ sym e));
      })

  -- the oldest entry's lock goes with the entry
  fifo-released : (k : ℕ) → (d.fifo.locked && eqb k d.fifo.oldest) ≡ false → ((release_fifo d n).locked && eqb k (release_fifo d n).oldest) ≡ false
  unfolding release_fifo
  fifo-released k e =
      pick-keeps (λ (f : Fifo). (f.locked && eqb k f.oldest) ≡ false) (d.fifo.locked && eqb n d.fifo.oldest) (λ t. refl) (λ t. e)

  pub unlock-arming : ArmingSound (at w (release_all d n))
  unfolding release_all
  unlock-arming =
      locks-arming w s (release_lock d.receive n) (release_lock d.transmit n) (release_fifo d n) (λ k b a q u.
      record {
        receive = release-free d.receive n k u.receive b;
        transmit = release-free d.transmit n k u.transmit b;
        fifo = fifo-released k u.fifo;
      })
