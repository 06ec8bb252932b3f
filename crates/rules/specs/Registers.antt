-- Document 01, 'Register bits': the bits by name, the map of the 96 addresses, the state after reset.
use Rattle.std.specs.Prelude.{ℕ, ◌-◌, ◌/◌, ◌%◌, Bool, true, false, ◌&&◌, List, [], ◌∷◌, get_or, eqb, ltb, leb}
use Rattle.std.specs.Int.Bits.{bit_or}
use Rattle.masks.specs.Pick.{pick}
use Rattle.locks.specs.Pair.{none, no_locks}
use Rattle.rules.specs.declared.Register.{Register}
use Rattle.rules.specs.declared.Register.TheVariants.{Mcr, Fsizr, Tcr1, Tcr2, Tcr3, Risr, Gisr, Rier, Gier, Rivec, Tivec, Fidac, Fidmr, Mvr, Pctlbf, Buflock, Fidrj, Fidrmr, TransmitWindow, ReceiveWindow, FifoWindow, Bufctl, Reserved}
use Rattle.rules.specs.declared.Fifo.{Fifo}
use Rattle.rules.specs.declared.Events.{Events}
use Rattle.rules.specs.declared.Places.{Places}
use Rattle.rules.specs.declared.Control.{Control}

-- ---- bits, each by its weight in the register

-- the bit of weight b in v
abbrev pub has : ℕ → ℕ → Bool
has v b = eqb (v / b % 2) 1

-- v, with the bit of weight b where t holds
unfoldable pub with_flag : Bool → ℕ → ℕ → ℕ
with_flag t b v = pick t (bit_or v b) v

-- $00
abbrev pub INITRQ : ℕ
INITRQ = 0x80

abbrev pub MASTER : ℕ
MASTER = 0x40

abbrev pub ALARM : ℕ
ALARM = 0x20

abbrev pub SLPAK : ℕ
SLPAK = 0x10

abbrev pub SLPRQ : ℕ
SLPRQ = 0x08

abbrev pub WPULSE : ℕ
WPULSE = 0x04

abbrev pub SSWAI : ℕ
SSWAI = 0x02

abbrev pub INITAK : ℕ
INITAK = 0x01

-- $06, and the enables in $08
abbrev pub RCVFIF : ℕ
RCVFIF = 0x80

abbrev pub RXIF : ℕ
RXIF = 0x40

abbrev pub SYNAIF : ℕ
SYNAIF = 0x20

abbrev pub SYNNIF : ℕ
SYNNIF = 0x10

abbrev pub SLMMIF : ℕ
SLMMIF = 0x08

abbrev pub XSYNIF : ℕ
XSYNIF = 0x02

-- $07, and the enables in $09
abbrev pub TXIF : ℕ
TXIF = 0x80

abbrev pub OVRNIF : ℕ
OVRNIF = 0x40

abbrev pub ERRIF : ℕ
ERRIF = 0x20

abbrev pub SYNEIF : ℕ
SYNEIF = 0x10

abbrev pub SYNLIF : ℕ
SYNLIF = 0x08

abbrev pub ILLPIF : ℕ
ILLPIF = 0x04

abbrev pub LOCKIF : ℕ
LOCKIF = 0x02

abbrev pub LOCKIE : ℕ
LOCKIE = 0x02

abbrev pub WAKEIF : ℕ
WAKEIF = 0x01

-- $10
abbrev pub BFEN : ℕ
BFEN = 0x80

-- $12: a transmit buffer is locked, a dedicated receive buffer is locked
abbrev pub TXBUFLOCK : ℕ
TXBUFLOCK = 0x02

abbrev pub RXBUFLOCK : ℕ
RXBUFLOCK = 0x01

-- $50 to $5F
abbrev pub CFG : ℕ
CFG = 0x80

abbrev pub IENA : ℕ
IENA = 0x40

abbrev pub IFLG : ℕ
IFLG = 0x20

abbrev pub LOCK : ℕ
LOCK = 0x10

abbrev pub ABTRQ : ℕ
ABTRQ = 0x08

abbrev pub ABTAK : ℕ
ABTAK = 0x04

-- ---- the map of the addresses

abbrev pub between : ℕ → ℕ → ℕ → Bool
between lo a hi = leb lo a && leb a hi

-- $00 to $1F
unfoldable pub low_map : List Register
low_map =
    Mcr ∷ Fsizr ∷ Tcr1 ∷ Tcr2 ∷ Tcr3 ∷ Reserved ∷ Risr ∷ Gisr
    ∷ Rier ∷ Gier ∷ Rivec ∷ Tivec ∷ Fidac ∷ Fidmr ∷ Mvr ∷ Reserved
    ∷ Pctlbf ∷ Reserved ∷ Buflock ∷ Reserved ∷ Fidrj ∷ Fidrmr ∷ Reserved ∷ Reserved
    ∷ Reserved ∷ Reserved ∷ Reserved ∷ Reserved ∷ Reserved ∷ Reserved ∷ Reserved ∷ Reserved ∷ []

-- the sixteen addresses of a window: identifier, length, data 0 to 11, and two reserved ones
abbrev pub window_map : (ℕ → Register) → ℕ → Register
window_map window p = pick (ltb p 14) (window p) Reserved

unfoldable pub register_at : ℕ → Register
register_at a =
    pick (ltb a 0x20) (get_or low_map a Reserved)
    (pick (ltb a 0x30) (window_map TransmitWindow (a - 0x20))
    (pick (ltb a 0x40) (window_map ReceiveWindow (a - 0x30))
    (pick (ltb a 0x50) (window_map FifoWindow (a - 0x40))
    (pick (ltb a 0x60) (Bufctl (a - 0x50)) Reserved))))

-- ---- the registers by what they reach of the buffers' bytes: a window's place shows or changes a byte, and the control register of
-- buffer n can release the frames that wait for it; the others reach none
pub data Region : Type 0 where
  send_place receive_place fifo_place control_of : ℕ → Region
  elsewhere : Region

abbrev pub region_of : Register → Region
region_of Mcr = elsewhere
region_of Fsizr = elsewhere
region_of Tcr1 = elsewhere
region_of Tcr2 = elsewhere
region_of Tcr3 = elsewhere
region_of Risr = elsewhere
region_of Gisr = elsewhere
region_of Rier = elsewhere
region_of Gier = elsewhere
region_of Rivec = elsewhere
region_of Tivec = elsewhere
region_of Fidac = elsewhere
region_of Fidmr = elsewhere
region_of Mvr = elsewhere
region_of Pctlbf = elsewhere
region_of Buflock = elsewhere
region_of Fidrj = elsewhere
region_of Fidrmr = elsewhere
region_of (TransmitWindow p) = send_place p
region_of (ReceiveWindow p) = receive_place p
region_of (FifoWindow p) = fifo_place p
region_of (Bufctl n) = control_of n
region_of Reserved = elsewhere

-- ---- after reset: "zero everywhere, buffers too (h), but $00 = $81, $0A = $0B = $10, $0D = $FF (h), $15 = $FF"

abbrev pub no_events : Events
no_events = record { risr = 0; gisr = 0; clearing = false }

-- an empty FIFO, "both indices 0", unlocked
abbrev pub empty_fifo : Fifo
empty_fifo = record { oldest = 0; next = 0; count = 0; locked = false }

-- both waiting places free (W5)
abbrev pub no_places : Places
no_places = record { first = none; second = none; swapped = false }

unfoldable pub reset_control : Control
reset_control =
    record {
      mode = record { init = true; master = false; alarm = false; slprq = false; wpulse = false; sswai = false; synced = false; last = 0 };
      config = record {
        fsiz = 0;
        tcr1 = 0;
        tcr2 = 0;
        tcr3 = 0;
        rier = 0;
        gier = 0;
        accept = record { pattern = 0; mask = 0xFF };
        reject = record { pattern = 0; mask = 0xFF };
        bfen = false;
      };
      events = no_events;
      fifo = empty_fifo;
      receive = no_locks;
      transmit = no_locks;
      places = no_places;
      buffers = record { cfg = 0; iena = 0; iflg = 0; abtak = 0; armed = 0 };
    }
