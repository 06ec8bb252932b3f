-- What registers read after a session from reset, and which of their bits are reserved.
use Rattle.std.specs.Prelude.{ℕ, Bool, true, false, List}
use Rattle.rules.specs.declared.Control.{Control}
use Rattle.rules.specs.Registers.{Region, send_place, receive_place, fifo_place, control_of, elsewhere, register_at}
use Rattle.rules.specs.Reads.{value_of}
use Rattle.rules.specs.Steps.{Step}
use Rattle.controller.specs.Carry.{reset_state}
use Rattle.controller.specs.Session.{end_of}
use Rattle.rules.specs.declared.Register.{Register}
use Rattle.rules.specs.declared.Register.TheVariants.{Mcr, Fsizr, Tcr1, Tcr2, Tcr3, Risr, Gisr, Rier, Gier, Rivec, Tivec, Fidac, Fidmr, Mvr, Pctlbf, Buflock, Fidrj, Fidrmr, TransmitWindow, ReceiveWindow, FifoWindow, Bufctl, Reserved}

-- the control state after the session
abbrev pub after : List Step → Control
after es = (end_of reset_state es).control

-- the value of the register at address a
abbrev pub reads : List Step → ℕ → ℕ
reads es a = value_of (after es) (register_at a)

-- a byte of a window, which is no register's value but a buffer's
abbrev pub is_window : Region → Bool
is_window (send_place p) = true
is_window (receive_place p) = true
is_window (fifo_place p) = true
is_window (control_of n) = false
is_window elsewhere = false

-- The bits that a register has not, and in $50 to $5F also ABTRQ, which reads 0. (A window's bytes are not among the values.)
abbrev pub reserved_bits : Register → ℕ
reserved_bits Mcr = 0x00
reserved_bits Fsizr = 0xE0
reserved_bits Tcr1 = 0x00
reserved_bits Tcr2 = 0x00
reserved_bits Tcr3 = 0x00
reserved_bits Risr = 0x05
reserved_bits Gisr = 0x00
reserved_bits Rier = 0x05
reserved_bits Gier = 0x00
reserved_bits Rivec = 0xE0
reserved_bits Tivec = 0xE0
reserved_bits Fidac = 0x00
reserved_bits Fidmr = 0x00
reserved_bits Mvr = 0xFF
reserved_bits Pctlbf = 0x7F
reserved_bits Buflock = 0xFC
reserved_bits Fidrj = 0x00
reserved_bits Fidrmr = 0x00
reserved_bits (TransmitWindow p) = 0x00
reserved_bits (ReceiveWindow p) = 0x00
reserved_bits (FifoWindow p) = 0x00
reserved_bits (Bufctl n) = 0x0B
reserved_bits Reserved = 0xFF
