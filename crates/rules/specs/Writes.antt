-- Register writes that are not refused: a buffer's control register (document 01, 'Kinds and locks') and the others.
use Rattle.std.specs.Prelude.{ℕ, ◌+◌, ◌-◌, ◌%◌, Bool, true, false, ◌&&◌, not, List, [], ◌∷◌, eqb}
use Rattle.std.specs.Int.Bits.{bit_and, bit_or}
use Rattle.masks.specs.Pick.{pick}
use Rattle.masks.specs.Bits.{put_bit}
use Rattle.locks.specs.declared.Locks.{Locks}
use Rattle.locks.specs.Pair.{has_holder, take_lock, release_lock}
use Rattle.rules.specs.declared.Register.{Register}
use Rattle.rules.specs.declared.Register.TheVariants.{Mcr, Fsizr, Tcr1, Tcr2, Tcr3, Risr, Gisr, Rier, Gier, Rivec, Tivec, Fidac, Fidmr, Mvr, Pctlbf, Buflock, Fidrj, Fidrmr, TransmitWindow, ReceiveWindow, FifoWindow, Bufctl, Reserved}
use Rattle.rules.specs.declared.Buffers.{Buffers}
use Rattle.rules.specs.declared.Fifo.{Fifo}
use Rattle.rules.specs.declared.Control.{Control}
use Rattle.rules.specs.Record.{with_config, with_events, with_fifo, with_receive, with_transmit, with_buffers, with_fsiz, with_tcr1, with_tcr2, with_tcr3, with_rier, with_gier, with_accept, with_reject, with_bfen, with_pattern, with_mask, with_cfg, with_iena, with_iflg, with_abtak, with_armed}
use Rattle.rules.specs.Registers.{Region, send_place, receive_place, fifo_place, control_of, elsewhere, region_of, has, RCVFIF, RXIF, SYNAIF, SYNNIF, SLMMIF, XSYNIF, LOCKIE, BFEN, CFG, IENA, IFLG, LOCK, ABTRQ}
use Rattle.rules.specs.Kinds.{is_transmit, is_receive, is_locked, is_full_transmit, place_after}
use Rattle.rules.specs.Waiting.{delivered, deliveries}
use Rattle.rules.specs.Flags.{write_risr, write_gisr}
use Rattle.rules.specs.Modes.{enter, write_mcr}
use Rattle.rules.specs.Plan.{Move, set_ident, set_length, set_data}

-- ---- locks

-- "A new contender with LOCKIE set enters initialization if the module isn't there yet": a lock of the kind whose locks
-- were l
unfoldable pub enters_by_lock : Locks → Control → Bool
enters_by_lock l c = has_holder l && has c.config.gier LOCKIE && not c.mode.init

unfoldable pub lock_error : Locks → Control → Control
lock_error l c = pick (enters_by_lock l c) (enter c) c

abbrev pub disarm : Control → ℕ → Control
disarm c n = with_buffers c (with_armed c.buffers (put_bit c.buffers.armed n false))

abbrev pub lock_fifo : Fifo → Fifo
lock_fifo f = record { oldest = f.oldest; next = f.next; count = f.count; locked = true }

-- A new lock on buffer n; "Locking a transmit buffer disarms it." Of FIFO buffers refusal 9 has left only the oldest entry.
unfoldable pub lock : Control → ℕ → Control
lock c n =
    pick (is_transmit c n) (lock_error c.transmit (with_transmit (disarm c n) (take_lock c.transmit n)))
    (pick (is_receive c n) (lock_error c.receive (with_receive c (take_lock c.receive n)))
    (with_fifo c (lock_fifo c.fifo)))

-- "releasing it removes that entry, and its place is used again"
abbrev pub without_oldest : Control → Fifo
without_oldest c =
    record {
      oldest = place_after c.config.fsiz c.fifo.oldest;
      next = c.fifo.next;
      count = c.fifo.count - 1;
      locked = false;
    }

unfoldable pub release_fifo : Control → ℕ → Fifo
release_fifo c n = pick (c.fifo.locked && eqb n c.fifo.oldest) (without_oldest c) c.fifo

-- "Writing LOCK 0 releases": whichever lock buffer n has
unfoldable pub release_all : Control → ℕ → Control
release_all c n =
    with_fifo (with_transmit (with_receive c (release_lock c.receive n)) (release_lock c.transmit n)) (release_fifo c n)

-- W5: "When a buffer stops being locked, frames waiting for it are stored". For a buffer that isn't locked no frame waits
-- (`unlocked-unwaited`).
unfoldable pub unlock : Control → ℕ → Control
unlock c n = release_all (delivered c n) n

-- ---- a control write: "acts in this order: CFG (initialization only, otherwise ignored), IENA, IFLG, ABTRQ, LOCK"

-- CFG of buffer n after the write of v
unfoldable pub cfg_after : Control → ℕ → ℕ → Bool
cfg_after c n v = pick c.mode.init (has v CFG) (is_transmit c n)

unfoldable pub write_cfg : Control → ℕ → ℕ → Control
write_cfg c n v = with_buffers c (with_cfg c.buffers (put_bit c.buffers.cfg n (cfg_after c n v)))

unfoldable pub write_iena : Control → ℕ → ℕ → Control
write_iena c n v = with_buffers c (with_iena c.buffers (put_bit c.buffers.iena n (has v IENA)))

-- on a transmit buffer also "ABTAK goes to 0"
abbrev pub clear_iflg : Control → ℕ → Buffers
clear_iflg c n =
    with_abtak (with_iflg c.buffers (put_bit c.buffers.iflg n false))
    (pick (is_transmit c n) (put_bit c.buffers.abtak n false) c.buffers.abtak)

-- "IFLG 1 outside initialization clears IFLG"
unfoldable pub write_iflg : Control → ℕ → ℕ → Control
write_iflg c n v = pick (has v IFLG && not c.mode.init) (with_buffers c (clear_iflg c n)) c

abbrev pub abort : Control → ℕ → Buffers
abort c n =
    with_armed
    (with_abtak (with_iflg c.buffers (put_bit c.buffers.iflg n true)) (put_bit c.buffers.abtak n true))
    (put_bit c.buffers.armed n false)

-- "ABTRQ 1 on a full transmit buffer outside initialization sets IFLG and ABTAK and disarms."
unfoldable pub write_abtrq : Control → ℕ → ℕ → Control
write_abtrq c n v = pick (has v ABTRQ && not c.mode.init && is_full_transmit c n) (with_buffers c (abort c n)) c

unfoldable pub write_lock : Control → ℕ → ℕ → Control
write_lock c n v = pick (has v LOCK) (pick (is_locked c n) c (lock c n)) (unlock c n)

unfoldable pub write_bufctl : Control → ℕ → ℕ → Control
write_bufctl c n v = write_lock (write_abtrq (write_iflg (write_iena (write_cfg c n v) n v) n v) n v) n v

-- ---- the other registers

-- "LOCKIE changes only in initialization."
unfoldable pub write_gier : Bool → ℕ → ℕ → ℕ
write_gier init old v = pick init v (bit_or (bit_and v (0xFF - LOCKIE)) (bit_and old LOCKIE))

-- the bits that $08 has: the enables in the places of $06
abbrev pub rier_bits : ℕ
rier_bits = RCVFIF + RXIF + SYNAIF + SYNNIF + SLMMIF + XSYNIF

unfoldable pub written : Control → Register → ℕ → Control
written c Mcr v = write_mcr c v
written c Fsizr v = with_config c (with_fsiz c.config (v % 32))
written c Tcr1 v = with_config c (with_tcr1 c.config v)
written c Tcr2 v = with_config c (with_tcr2 c.config v)
written c Tcr3 v = with_config c (with_tcr3 c.config v)
written c Risr v = with_events c (write_risr c.events v)
written c Gisr v = with_events c (write_gisr c.mode.synced c.events v)
written c Rier v = with_config c (with_rier c.config (bit_and v rier_bits))
written c Gier v = with_config c (with_gier c.config (write_gier c.mode.init c.config.gier v))
written c Rivec v = c
written c Tivec v = c
written c Fidac v = with_config c (with_accept c.config (with_pattern c.config.accept v))
written c Fidmr v = with_config c (with_accept c.config (with_mask c.config.accept v))
written c Mvr v = c
written c Pctlbf v = with_config c (with_bfen c.config (has v BFEN))
written c Buflock v = c
written c Fidrj v = with_config c (with_reject c.config (with_pattern c.config.reject v))
written c Fidrmr v = with_config c (with_reject c.config (with_mask c.config.reject v))
written c (TransmitWindow p) v = c
written c (ReceiveWindow p) v = c
written c (FifoWindow p) v = c
written c (Bufctl n) v = write_bufctl c n v
written c Reserved v = c

-- place p of the window of buffer n; "A length register keeps its low four bits."
unfoldable pub window_moves : ℕ → ℕ → ℕ → List Move
window_moves n p v =
    pick (eqb p 0) (set_ident n v ∷ []) (pick (eqb p 1) (set_length n (v % 16) ∷ []) (set_data n (p - 2) ∷ []))

-- what a write moves: a byte of a window, or the frames that waited for a buffer whose LOCK is written 0
abbrev pub moves_in : Control → Region → ℕ → List Move
moves_in c (send_place p) v = window_moves c.transmit.holder p v
moves_in c (receive_place p) v = window_moves c.receive.holder p v
moves_in c (fifo_place p) v = []
moves_in c (control_of n) v = pick (has v LOCK) [] (deliveries c n)
moves_in c elsewhere v = []

unfoldable pub write_moves : Control → Register → ℕ → List Move
write_moves c r v = moves_in c (region_of r) v
