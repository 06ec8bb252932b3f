-- Document 01, 'Bus steps': what each does where it is neither refused nor ignored nor wakes the module.
use Rattle.std.specs.Prelude.{ℕ, ◌+◌, max, Bool, true, false, ◌&&◌, ◌||◌, not, List, [], ◌∷◌, eqb, ltb, leb}
use Rattle.std.specs.Int.Bits.{bit_or}
use Rattle.masks.specs.Pick.{pick}
use Rattle.masks.specs.Bits.{put_bit, mask_of, lowest, highest, count_of}
use Rattle.filter.specs.Match.{matches, rejects}
use Rattle.contents.specs.Bytes.{Head}
use Rattle.rules.specs.declared.SyncKind.{SyncKind}
use Rattle.rules.specs.declared.SyncKind.TheVariants.{Normal, Alarm}
use Rattle.rules.specs.declared.Fault.{Fault}
use Rattle.rules.specs.declared.Fault.TheVariants.{Early, Lost, Illegal, Mismatch}
use Rattle.rules.specs.declared.Answer.TheVariants.{Stored, Queued, Waiting, HeldOff, Pulse, Overrun, Unmatched, BadFrame, Ignored, NotSent}
use Rattle.rules.specs.declared.Events.{Events}
use Rattle.rules.specs.declared.Fifo.{Fifo}
use Rattle.rules.specs.declared.Control.{Control}
use Rattle.rules.specs.Record.{with_mode, with_events, with_fifo, with_places, with_buffers, with_alarm, with_synced, with_last, with_risr, with_gisr, with_iflg, with_armed}
use Rattle.rules.specs.Registers.{SYNAIF, SYNNIF, SLMMIF, XSYNIF, OVRNIF, ERRIF, SYNEIF, SYNLIF, ILLPIF, WAKEIF}
use Rattle.rules.specs.Kinds.{is_receive, is_armed, is_locked, is_full_transmit, place_after}
use Rattle.rules.specs.Waiting.{is_free, occupied}
use Rattle.rules.specs.Flags.{cleared}
use Rattle.rules.specs.Modes.{disarm_all, wake, cancel}
use Rattle.rules.specs.Plan.{head_at, store, hold, say, send, Plan, plain, with_looked}

-- ---- event flags

abbrev pub raise_gisr : Control → ℕ → Control
raise_gisr c b = with_events c (with_gisr c.events (bit_or c.events.gisr b))

abbrev pub raise_risr : Control → ℕ → Control
raise_risr c b = with_events c (with_risr c.events (bit_or c.events.risr b))

-- "any sync, frame or fault event wakes the module with WAKEIF and has no other effect"
unfoldable pub woken : Control → Control
woken c = wake (raise_gisr c WAKEIF)

-- ---- sync

-- "exactly the full, unlocked transmit buffers with identifier not 0 are armed"
unfoldable pub arms : Control → List Head → ℕ → Bool
arms c hs n = is_full_transmit c n && not (is_locked c n) && not (eqb (head_at hs n).ident 0)

abbrev pub sync_flag : SyncKind → ℕ
sync_flag Normal = SYNNIF
sync_flag Alarm = SYNAIF

-- "sets SYNNIF or SYNAIF, and XSYNIF"; a remembered SYNLIF clear acts now
unfoldable pub sync_events : SyncKind → Events → Events
sync_events k f =
    record {
      risr = bit_or (bit_or f.risr (sync_flag k)) XSYNIF;
      gisr = pick f.clearing (cleared f.gisr SYNLIF) f.gisr;
      clearing = false;
    }

-- "synchronizes; the last identifier becomes 0"
unfoldable pub synced : SyncKind → Control → List Head → Control
synced k c hs =
    with_buffers (with_events (with_mode c (with_last (with_synced c.mode true) 0)) (sync_events k c.events))
    (with_armed c.buffers (mask_of (arms c hs)))

abbrev pub due_kind : Control → SyncKind
due_kind c = pick c.mode.alarm Alarm Normal

-- "a master emits alarm if ALARM is set, else normal, and acts as if it had received it; a slave ignores it"
unfoldable pub due_sync : Control → List Head → Plan
due_sync c hs =
    let k = due_kind c in
    pick c.mode.master (plain (synced k (cancel c) hs) (Pulse k)) (plain c Ignored)

-- "Alarm timeout clears ALARM."
unfoldable pub timed_out : Control → Control
timed_out c = with_mode c (with_alarm c.mode false)

-- ---- faults

-- "lost sets SYNLIF, unsynchronizes, clears arming", and cancels a remembered clear
unfoldable pub lost_events : Events → Events
lost_events f = record { risr = f.risr; gisr = bit_or f.gisr SYNLIF; clearing = false }

unfoldable pub faulted : Fault → Control → Control
faulted Early c = raise_gisr c SYNEIF
faulted Lost c = disarm_all (with_events (with_mode c (with_synced c.mode false)) (lost_events c.events))
faulted Illegal c = raise_gisr c ILLPIF
faulted Mismatch c = raise_risr c SLMMIF

-- ---- frames

-- buffer n is a dedicated receive buffer with identifier i
unfoldable pub receives : Control → List Head → ℕ → ℕ → Bool
receives c hs i n = is_receive c n && eqb (head_at hs n).ident i

-- "The frame's buffer is the lowest dedicated receive buffer with that identifier (h)", or none
unfoldable pub lookup : Control → List Head → ℕ → ℕ
lookup c hs i = lowest (receives c hs i) 0 16

-- W5: "A frame whose buffer is locked takes a free place and is answered 'waiting' with the buffer's number"
abbrev pub waits : Control → ℕ → ℕ → Plan
waits c k n = record { control = with_places c (occupied c.places k n); moves = hold k ∷ []; reply = say (Waiting n); looked = 0 }

-- "with both taken it is 'heldoff'"
unfoldable pub to_place : Control → ℕ → Plan
to_place c n = pick (is_free c 0) (waits c 0 n) (pick (is_free c 1) (waits c 1 n) (plain c (HeldOff n)))

-- "Unlocked: stored, IFLG set."
unfoldable pub to_buffer : Control → ℕ → Plan
to_buffer c n =
    pick (is_locked c n) (to_place c n)
    (record {
      control = with_buffers c (with_iflg c.buffers (put_bit c.buffers.iflg n true));
      moves = store n ∷ [];
      reply = say (Stored n);
      looked = 0;
    })

-- "the FIFO takes it if FSIZ > 0 and it is accepted and not rejected"
unfoldable pub fifo_takes : Control → ℕ → Bool
fifo_takes c i = ltb 0 c.config.fsiz && matches c.config.accept i && not (rejects c.config.reject i)

-- the FIFO with one more entry, in its next place
abbrev pub with_entry : Control → Fifo
with_entry c =
    record {
      oldest = c.fifo.oldest;
      next = place_after c.config.fsiz c.fifo.next;
      count = c.fifo.count + 1;
      locked = c.fifo.locked;
    }

-- A frame that the filters let in goes "in place 0 first after initialization, then in the place after the last one used [..]. A full
-- FIFO sets OVRNIF and drops the new frame (h)."
abbrev pub taken_by_fifo : Control → Plan
taken_by_fifo c =
    pick (leb c.config.fsiz c.fifo.count) (plain (raise_gisr c OVRNIF) Overrun)
    (record {
      control = with_fifo c (with_entry c);
      moves = store c.fifo.next ∷ [];
      reply = say (Queued c.fifo.next);
      looked = 0;
    })

-- a frame that no dedicated receive buffer carries; kept out by the filters or without a FIFO, "Otherwise 'unmatched'"
unfoldable pub to_fifo : Control → ℕ → Plan
to_fifo c i = pick (fifo_takes c i) (taken_by_fifo c) (plain c Unmatched)

-- "the last identifier becomes the larger of itself and this one"
unfoldable pub raise_last : Control → ℕ → Control
raise_last c i = with_mode c (with_last c.mode (max c.mode.last i))

-- W8: "those from FSIZ to the frame's buffer, that one included, or all dedicated receive buffers if none carries the identifier". The
-- frame's buffer is n, or 16 for none; no buffer below FSIZ is a dedicated receive buffer.
unfoldable pub examined : Control → ℕ → ℕ
examined c n = count_of (λ k. is_receive c k && leb k n) 16

-- a sound frame with identifier i, whose buffer is n, or none: it "is looked up"
unfoldable pub found : Control → ℕ → ℕ → Plan
found c i n = with_looked (pick (ltb n 16) (to_buffer (raise_last c i) n) (to_fifo (raise_last c i) i)) (examined c n)

-- "unsynchronized, ignored. A bad verdict or identifier 0 sets ERRIF ('badframe')." The frame's buffer is n, or none. W5: a frame that
-- isn't ignored cancels SLPRQ.
unfoldable pub judged : Control → Bool → ℕ → ℕ → Plan
judged c good i n =
    pick (not c.mode.synced) (plain c Ignored)
    (pick (not good || eqb i 0) (plain (raise_gisr (cancel c) ERRIF) BadFrame) (found (cancel c) i n))

unfoldable pub received : Control → List Head → Bool → ℕ → Plan
received c hs good i = judged c good i (lookup c hs i)

-- ---- slots

-- buffer n is armed and carries identifier i
unfoldable pub offers : Control → List Head → ℕ → ℕ → Bool
offers c hs i n = is_armed c n && eqb (head_at hs n).ident i

-- buffer n after sending: "IFLG set, disarmed"
abbrev pub sent_from : Control → ℕ → Control
sent_from c n =
    with_buffers c (with_armed (with_iflg c.buffers (put_bit c.buffers.iflg n true)) (put_bit c.buffers.armed n false))

unfoldable pub send_from : Control → ℕ → ℕ → Plan
send_from c i n = record { control = with_mode (sent_from c n) (with_last c.mode i); moves = []; reply = send n; looked = 0 }

-- "unsynchronized, ignored. If i exceeds the last identifier and armed buffers carry i, the highest is sent [..]. Otherwise
-- 'notsent'.", as W10 leaves it: an armed buffer is never locked. The highest such buffer is n, or none.
unfoldable pub slot_for : Control → ℕ → ℕ → Plan
slot_for c i n =
    pick (not c.mode.synced) (plain c Ignored)
    (pick (ltb c.mode.last i && ltb n 16) (send_from c i n) (plain c NotSent))

unfoldable pub slotted : Control → List Head → ℕ → Plan
slotted c hs i = slot_for c i (highest (offers c hs i) 16)
