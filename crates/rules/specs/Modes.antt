-- Document 01, 'Modes': entering and leaving initialization, sleeping and waking, and the write of $00 that does so.
use Rattle.std.specs.Prelude.{ℕ, Bool, true, false, ◌||◌}
use Rattle.std.specs.Int.Bits.{bit_and}
use Rattle.masks.specs.Pick.{pick}
use Rattle.masks.specs.Bits.{mask_of}
use Rattle.rules.specs.declared.Mode.{Mode}
use Rattle.rules.specs.declared.Buffers.{Buffers}
use Rattle.rules.specs.declared.Control.{Control}
use Rattle.rules.specs.Record.{with_mode, with_buffers, with_slprq, with_synced, with_armed, with_iflg, with_rier, with_gier}
use Rattle.rules.specs.Registers.{has, INITRQ, MASTER, ALARM, SLPRQ, WPULSE, SSWAI, LOCKIE, no_events, empty_fifo, no_places}
use Rattle.rules.specs.Kinds.{is_transmit, has_iflg}
use Rattle.rules.specs.Waiting.{asleep}

-- ---- initialization

-- INITRQ and INITAK 1; no synchronization, and SLPRQ cancelled
abbrev pub entered_mode : Mode → Mode
entered_mode m =
    record {
      init = true;
      master = m.master;
      alarm = m.alarm;
      slprq = false;
      wpulse = m.wpulse;
      sswai = m.sswai;
      synced = false;
      last = m.last;
    }

-- "every IFLG and ABTAK, arming"
abbrev pub entered_buffers : Buffers → Buffers
entered_buffers b = record { cfg = b.cfg; iena = b.iena; iflg = 0; abtak = 0; armed = 0 }

-- "Entering initialization (INITRQ 0 to 1, or a lock error) clears $08, $09 but LOCKIE, all event flags [..], every IFLG
-- and ABTAK, arming, synchronization, sleep (SLPRQ, SLPAK) and any remembered clear. It empties the FIFO, both indices 0,
-- and releases the FIFO lock. [..] entering changes nothing else, so other locks stay." W5: "Entering initialization and reset empty both
-- [places], storing nothing, and cancel SLPRQ."
unfoldable pub enter : Control → Control
enter c =
    record {
      mode = entered_mode c.mode;
      config = with_gier (with_rier c.config 0) (bit_and c.config.gier LOCKIE);
      events = no_events;
      fifo = empty_fifo;
      receive = c.receive;
      transmit = c.transmit;
      places = no_places;
      buffers = entered_buffers c.buffers;
    }

abbrev pub left_mode : Mode → Mode
left_mode m =
    record {
      init = false;
      master = m.master;
      alarm = m.alarm;
      slprq = m.slprq;
      wpulse = m.wpulse;
      sswai = m.sswai;
      synced = false;
      last = m.last;
    }

-- "Leaving it, [..], sets IFLG of every transmit buffer; the module is unsynchronized."
unfoldable pub leave : Control → Control
leave c =
    with_buffers (with_mode c (left_mode c.mode)) (with_iflg c.buffers (mask_of (λ n. is_transmit c n || has_iflg c n)))

-- ---- sleep

abbrev pub disarm_all : Control → Control
disarm_all c = with_buffers c (with_armed c.buffers 0)

-- "Every waking clears SLPRQ and SLPAK, loses synchronization and clears arming."
unfoldable pub wake : Control → Control
wake c = disarm_all (with_mode c (with_synced (with_slprq c.mode false) false))

-- W5: "cancels SLPRQ; that is no waking"
unfoldable pub cancel : Control → Control
cancel c = with_mode c (with_slprq c.mode false)

-- For a write with normal operation before and after it: "SLPRQ 1 sets SLPRQ and SLPAK if [..] BFEN is 1; otherwise it is
-- ignored. SLPRQ written 0 while asleep wakes, without WAKEIF." W5: "SLPRQ with a place taken sets SLPRQ alone", and SLPRQ written 0
-- then cancels it. SLPAK is SLPRQ with no place taken (`asleep`), so that SLPRQ is all there is to set.
unfoldable pub write_sleep : Control → Bool → Control
write_sleep c true = pick c.config.bfen (with_mode c (with_slprq c.mode true)) c
write_sleep c false = pick (asleep c) (wake c) (cancel c)

-- ---- $00

-- every accepted write sets ALARM and SSWAI; "MASTER and WPULSE change only if the module was in initialization before"
abbrev pub written_mode : Mode → ℕ → Mode
written_mode m v =
    record {
      init = m.init;
      master = pick m.init (has v MASTER) m.master;
      alarm = has v ALARM;
      slprq = m.slprq;
      wpulse = pick m.init (has v WPULSE) m.wpulse;
      sswai = has v SSWAI;
      synced = m.synced;
      last = m.last;
    }

-- by the mode before, INITRQ and SLPRQ written
unfoldable pub mode_by : Bool → Bool → Bool → Control → Control
mode_by true true s c = c
mode_by true false s c = leave c
mode_by false true s c = enter c
mode_by false false s c = write_sleep c s

unfoldable pub write_mcr : Control → ℕ → Control
write_mcr c v = mode_by c.mode.init (has v INITRQ) (has v SLPRQ) (with_mode c (written_mode c.mode v))
