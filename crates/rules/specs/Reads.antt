-- What the registers read (document 01, 'Register bits').
use Rattle.std.specs.Prelude.{ℕ, ◌-◌, Bool, ◌||◌, List, eqb, ltb}
use Rattle.masks.specs.Pick.{pick}
use Rattle.locks.specs.Pair.{has_holder, has_contender}
use Rattle.contents.specs.Bytes.{Head}
use Rattle.rules.specs.declared.Register.{Register}
use Rattle.rules.specs.declared.Register.TheVariants.{Mcr, Fsizr, Tcr1, Tcr2, Tcr3, Risr, Gisr, Rier, Gier, Rivec, Tivec, Fidac, Fidmr, Mvr, Pctlbf, Buflock, Fidrj, Fidrmr, TransmitWindow, ReceiveWindow, FifoWindow, Bufctl, Reserved}
use Rattle.rules.specs.declared.Answer.TheVariants.{Value}
use Rattle.rules.specs.declared.Mode.{Mode}
use Rattle.rules.specs.declared.Control.{Control}
use Rattle.rules.specs.Registers.{Region, send_place, receive_place, fifo_place, control_of, elsewhere, region_of, with_flag, INITRQ, MASTER, ALARM, SLPAK, SLPRQ, WPULSE, SSWAI, INITAK, BFEN, TXBUFLOCK, RXBUFLOCK, CFG, IENA, IFLG, LOCK, ABTAK}
use Rattle.rules.specs.Kinds.{is_transmit, has_iena, has_iflg, has_abtak, is_locked, fifo_holder}
use Rattle.rules.specs.Waiting.{asleep}
use Rattle.rules.specs.Flags.{risr, gisr, receive_vector, transmit_vector}
use Rattle.rules.specs.Plan.{head_at, Reply, say, show}

-- $00, with SLPAK as given
unfoldable pub mcr : Bool → Mode → ℕ
mcr slpak m =
    with_flag m.init INITAK
    (with_flag m.sswai SSWAI
    (with_flag m.wpulse WPULSE
    (with_flag m.slprq SLPRQ
    (with_flag slpak SLPAK
    (with_flag m.alarm ALARM
    (with_flag m.master MASTER
    (with_flag m.init INITRQ 0)))))))

-- "bit 1 a transmit buffer is locked, bit 0 a dedicated receive buffer is locked"
unfoldable pub buflock : Control → ℕ
buflock c =
    with_flag (has_holder c.receive || has_contender c.receive) RXBUFLOCK
    (with_flag (has_holder c.transmit || has_contender c.transmit) TXBUFLOCK 0)

-- "7 CFG (1 transmit), 6 IENA, 5 IFLG, 4 LOCK, 3 ABTRQ (reads 0), 2 ABTAK"
unfoldable pub bufctl : Control → ℕ → ℕ
bufctl c n =
    with_flag (has_abtak c n) ABTAK
    (with_flag (is_locked c n) LOCK
    (with_flag (has_iflg c n) IFLG
    (with_flag (has_iena c n) IENA
    (with_flag (is_transmit c n) CFG 0))))

-- every register but the windows
unfoldable pub value_of : Control → Register → ℕ
value_of c Mcr = mcr (asleep c) c.mode
value_of c Fsizr = c.config.fsiz
value_of c Tcr1 = c.config.tcr1
value_of c Tcr2 = c.config.tcr2
value_of c Tcr3 = c.config.tcr3
value_of c Risr = risr c
value_of c Gisr = gisr c
value_of c Rier = c.config.rier
value_of c Gier = c.config.gier
value_of c Rivec = receive_vector c
value_of c Tivec = transmit_vector c
value_of c Fidac = c.config.accept.pattern
value_of c Fidmr = c.config.accept.mask
value_of c Mvr = 0
value_of c Pctlbf = with_flag c.config.bfen BFEN 0
value_of c Buflock = buflock c
value_of c Fidrj = c.config.reject.pattern
value_of c Fidrmr = c.config.reject.mask
value_of c (TransmitWindow p) = 0
value_of c (ReceiveWindow p) = 0
value_of c (FifoWindow p) = 0
value_of c (Bufctl n) = bufctl c n
value_of c Reserved = 0

-- identifier or length
abbrev pub head_byte : Head → ℕ → ℕ
head_byte h p = pick (eqb p 0) h.ident h.len

-- Place p of a window whose holder is n. "With no holder a window reads 0": past the last buffer the head is 0.
unfoldable pub window_reply : List Head → ℕ → ℕ → Reply
window_reply hs n p =
    pick (ltb p 2) (say (Value (head_byte (head_at hs n) p)))
    (pick (ltb n 16) (show n (p - 2)) (say (Value 0)))

abbrev pub reply_in : Control → List Head → Region → ℕ → Reply
reply_in c hs (send_place p) v = window_reply hs c.transmit.holder p
reply_in c hs (receive_place p) v = window_reply hs c.receive.holder p
reply_in c hs (fifo_place p) v = window_reply hs (fifo_holder c) p
reply_in c hs (control_of n) v = say (Value v)
reply_in c hs elsewhere v = say (Value v)

unfoldable pub read_reply : Control → List Head → Register → Reply
read_reply c hs r = reply_in c hs (region_of r) (value_of c r)
