-- What a fact about views needs to be kept by every step: an obligation for each turn, with what is known where the turn
-- acts. Refused and ignored steps, and reads, change nothing.
use Rattle.std.specs.Prelude.{◌≡◌, ℕ, ◌<◌, ◌≤◌, true, false, List, set, replicate, eqb}
use Rattle.locks.specs.Pair.{is_full, take_lock}
use Rattle.masks.specs.Bits.{put_bit, some_of, highest}
use Rattle.contents.specs.Bytes.{Head, no_head, cut}
use Rattle.rules.specs.declared.SyncKind.{SyncKind}
use Rattle.rules.specs.declared.Fault.{Fault}
use Rattle.rules.specs.declared.Config.{Config}
use Rattle.rules.specs.declared.Control.{Control}
use Rattle.rules.specs.Record.{with_mode, with_config, with_events, with_fifo, with_buffers, with_receive, with_transmit, with_places, with_fsiz, with_slprq, with_last, with_iflg}
use Rattle.rules.specs.Registers.{reset_control, OVRNIF}
use Rattle.rules.specs.Kinds.{is_transmit, is_receive, is_locked, is_lawful}
use Rattle.rules.specs.Flags.{write_risr, write_gisr}
use Rattle.rules.specs.Waiting.{waits_for, occupied, stored_from}
use Rattle.rules.specs.Modes.{enter, leave, wake, cancel, written_mode}
use Rattle.rules.specs.Writes.{write_cfg, write_iena, write_iflg, write_abtrq, disarm, lock_fifo, release_all}
use Rattle.rules.specs.Bus.{raise_gisr, synced, timed_out, faulted, lookup, with_entry, raise_last, offers, sent_from}
use Rattle.rules.specs.Refusals.{moved_by_fsiz, moved_by_cfg}
use Rattle.rules.specs.Plan.{head_at}
use Rattle.controller.specs.View.{View}
use Rattle.invariants.specs.Sound.{within, GISR, RIER}

-- the view w with another control state
abbrev pub at : View → Control → View
at w c = record { control = c; heads = w.heads; held = w.held }

-- ALARM, SSWAI and, in initialization, MASTER and WPULSE as written
abbrev pub rewritten : Control → ℕ → Control
rewritten c v = with_mode c (written_mode c.mode v)

-- the heads with another one for buffer n
abbrev pub put_head : View → ℕ → ℕ → ℕ → List Head
put_head w n i l = set w.heads n (record { ident = i; len = l })

-- IFLG of buffer n set
abbrev pub flagged : Control → ℕ → Control
flagged c n = with_buffers c (with_iflg c.buffers (put_bit c.buffers.iflg n true))

-- the view after reset
abbrev pub reset_view : View
reset_view = record { control = reset_control; heads = replicate 16 no_head; held = replicate 2 no_head }

-- what a write of $50 + n makes of the control state before LOCK
abbrev pub prepared : Control → ℕ → ℕ → Control
prepared c n v = write_abtrq (write_iflg (write_iena (write_cfg c n v) n v) n v) n v

-- the view w with another head for buffer n
abbrev pub put : View → Control → ℕ → ℕ → ℕ → View
put w c n i l = record { control = c; heads = put_head w n i l; held = w.held }

-- What P needs at the view w: that it is kept by each turn. A step is a row of turns, so that a turn may ask what holds of
-- every view between them.
pub record Kept (P : View → Type 0) (w : View) : Type 0 where
  -- $00
  pub rewrites : (v : ℕ) → P (at w (rewritten w.control v))
  pub leaves : w.control.mode.init ≡ true → is_lawful w.control ≡ true → P (at w (leave w.control))
  pub enters : P (at w (enter w.control))
  pub sleeps : w.control.mode.init ≡ false → P (at w (with_mode w.control (with_slprq w.control.mode true)))
  pub cancels : P (at w (cancel w.control))
  pub wakes : w.control.mode.init ≡ false → P (at w (wake w.control))
  -- $01
  pub resizes : (s : ℕ) → w.control.mode.init ≡ true → s ≤ 16 → some_of (moved_by_fsiz w.control s) 16 ≡ false →
      P (at w (with_config w.control (with_fsiz w.control.config s)))
  -- the other registers of the configuration
  pub configures : (g : Config) → g.fsiz ≡ w.control.config.fsiz → (within RIER w.control.config.rier → within RIER g.rier) →
      P (at w (with_config w.control g))
  -- $06 and $07
  pub clears-risr : (v : ℕ) → P (at w (with_events w.control (write_risr w.control.events v)))
  pub clears-gisr : (v : ℕ) → P (at w (with_events w.control (write_gisr w.control.mode.synced w.control.events v)))
  -- a window's identifier and length; the receive window only in initialization
  pub sends-ident : (v : ℕ) → w.control.transmit.holder < 16 →
      P (put w w.control w.control.transmit.holder v (head_at w.heads w.control.transmit.holder).len)
  pub sends-length : (l : ℕ) → l ≤ 15 → w.control.transmit.holder < 16 →
      P (put w w.control w.control.transmit.holder (head_at w.heads w.control.transmit.holder).ident l)
  pub takes-ident : (v : ℕ) → w.control.mode.init ≡ true → w.control.receive.holder < 16 →
      P (put w w.control w.control.receive.holder v (head_at w.heads w.control.receive.holder).len)
  pub takes-length : (l : ℕ) → l ≤ 15 → w.control.mode.init ≡ true → w.control.receive.holder < 16 →
      P (put w w.control w.control.receive.holder (head_at w.heads w.control.receive.holder).ident l)
  -- $50 to $5F: before LOCK; a lock of a kind; a frame that waited stored; locks released
  pub prepares : (n v : ℕ) → n < 16 → moved_by_cfg w.control n v ≡ false → P (at w (prepared w.control n v))
  pub locks-transmit : (n : ℕ) → n < 16 → is_locked w.control n ≡ false → is_transmit w.control n ≡ true →
      P (at w (with_transmit (disarm w.control n) (take_lock w.control.transmit n)))
  pub locks-receive : (n : ℕ) → n < 16 → is_locked w.control n ≡ false → is_transmit w.control n ≡ false → is_receive w.control n ≡ true →
      is_full w.control.receive ≡ false → P (at w (with_receive w.control (take_lock w.control.receive n)))
  pub locks-fifo : (n : ℕ) → n < 16 → is_transmit w.control n ≡ false → 0 < w.control.fifo.count → n ≡ w.control.fifo.oldest →
      P (at w (with_fifo w.control (lock_fifo w.control.fifo)))
  pub delivers : (k n : ℕ) → k < 2 → n < 16 → waits_for w.control.places k ≡ n →
      P (put w (stored_from w.control k n) n (head_at w.held k).ident (head_at w.held k).len)
  pub unlocks : (n : ℕ) → n < 16 → (w.control.places.first ≡ n → ⊥) → (w.control.places.second ≡ n → ⊥) →
      P (at w (release_all w.control n))
  -- the bus, in normal operation
  pub syncs : (k : SyncKind) → w.control.mode.init ≡ false → P (at w (synced k w.control w.heads))
  pub times-out : P (at w (timed_out w.control))
  pub faults : (k : Fault) → w.control.mode.init ≡ false → P (at w (faulted k w.control))
  -- an event flag of $07
  pub raises : (b : ℕ) → within GISR b → w.control.mode.init ≡ false → P (at w (raise_gisr w.control b))
  -- a sound frame with identifier i
  pub passes : (i : ℕ) → w.control.mode.init ≡ false → P (at w (raise_last w.control i))
  pub overruns : (i : ℕ) → w.control.mode.init ≡ false → P (at w (raise_gisr (raise_last w.control i) OVRNIF))
  pub holds : (i l k : ℕ) → w.control.mode.init ≡ false → lookup w.control w.heads i < 16 →
      is_locked w.control (lookup w.control w.heads i) ≡ true → k < 2 → 16 ≤ waits_for w.control.places k →
      P (record {
        control = with_places (raise_last w.control i) (occupied w.control.places k (lookup w.control w.heads i));
        heads = w.heads;
        held = set w.held k (record { ident = i; len = cut l });
      })
  pub stores : (i l : ℕ) → w.control.mode.init ≡ false → w.control.mode.synced ≡ true →
      lookup w.control w.heads i < 16 → is_locked w.control (lookup w.control w.heads i) ≡ false →
      P (put w (flagged (raise_last w.control i) (lookup w.control w.heads i)) (lookup w.control w.heads i) i (cut l))
  pub queues : (i l : ℕ) → w.control.mode.init ≡ false → w.control.mode.synced ≡ true → eqb i 0 ≡ false →
      16 ≤ lookup w.control w.heads i → w.control.fifo.count < w.control.config.fsiz →
      P (put w (with_fifo (raise_last w.control i) (with_entry w.control)) w.control.fifo.next i (cut l))
  -- a frame sent from buffer n, at its slot i
  pub sends : (i n : ℕ) → w.control.mode.init ≡ false → n ≡ highest (offers w.control w.heads i) 16 → n < 16 →
      P (at w (with_mode (sent_from w.control n) (with_last w.control.mode i)))
