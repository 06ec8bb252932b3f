-- The values of registers have no reserved bits.
use Rattle.std.specs.Prelude.{◌≡◌, ℕ, ◌≤◌, ◌||◌}
use Rattle.std.proofs.Math.Path.{refl}
use Rattle.std.proofs.Common.{arith}
use Rattle.std.specs.Int.Bits.{bit_and, and_zero_r}
use Rattle.masks.specs.SearchLaws.{lowest-le, highest-le}
use Rattle.locks.specs.Pair.{has_holder, has_contender}
use Rattle.rules.specs.declared.Register.{Register}
use Rattle.rules.specs.declared.Register.TheVariants.{Mcr, Fsizr, Tcr1, Tcr2, Tcr3, Risr, Gisr, Rier, Gier, Rivec, Tivec, Fidac, Fidmr, Mvr, Pctlbf, Buflock, Fidrj, Fidrmr, TransmitWindow, ReceiveWindow, FifoWindow, Bufctl, Reserved}
use Rattle.rules.specs.declared.Control.{Control}
use Rattle.rules.specs.Registers.{BFEN, TXBUFLOCK, RXBUFLOCK, CFG, IENA, IFLG, LOCK, ABTAK, RCVFIF, RXIF}
use Rattle.rules.specs.Kinds.{is_transmit, has_iena, has_iflg, has_abtak, is_locked}
use Rattle.rules.specs.Flags.{rcvfif, rxif, risr, receive_pending, transmit_pending, receive_vector, transmit_vector}
use Rattle.rules.specs.Reads.{buflock, bufctl, value_of}
use Rattle.invariants.specs.Sound.{within, RISR, RIER}
use Rattle.invariants.specs.FlagLaws.{within_more, flag-within, without, five-bits}
use Rattle.invariants.specs.Reads.{reserved_bits}

-- sizes and vectors, at most 16
at-most-16 : (x : ℕ) → x ≤ 16 → bit_and x 0xE0 ≡ 0
at-most-16 x h = without 0x1F (omega arith) 0xE0 x (five-bits x (omega arith)) refl

module _ (c : Control) where
  -- the flags that follow the state beside the event flags
  risr-within : within RISR c.events.risr → within RIER (risr c)
  unfolding risr within
  risr-within h =
      flag-within RIER (omega arith) (rxif c) RXIF _ refl
      (flag-within RIER (omega arith) (rcvfif c) RCVFIF _ refl (within_more RISR (omega arith) RIER c.events.risr h refl))

  buflock-within : within 0x03 (buflock c)
  unfolding buflock within
  buflock-within =
      flag-within 0x03 (omega arith) (has_holder c.receive || has_contender c.receive) RXBUFLOCK _ refl
      (flag-within 0x03 (omega arith) (has_holder c.transmit || has_contender c.transmit) TXBUFLOCK 0 refl refl)

  bufctl-within : (n : ℕ) → within 0xF4 (bufctl c n)
  unfolding bufctl within
  bufctl-within n =
      flag-within 0xF4 (omega arith) (has_abtak c n) ABTAK _ refl
      (flag-within 0xF4 (omega arith) (is_locked c n) LOCK _ refl
      (flag-within 0xF4 (omega arith) (has_iflg c n) IFLG _ refl
      (flag-within 0xF4 (omega arith) (has_iena c n) IENA _ refl
      (flag-within 0xF4 (omega arith) (is_transmit c n) CFG 0 refl refl))))

  pub reserved-by : within RISR c.events.risr → within RIER c.config.rier → c.config.fsiz ≤ 16 →
      (r : Register) → bit_and (value_of c r) (reserved_bits r) ≡ 0
  unfolding value_of receive_vector transmit_vector within
  reserved-by e i s Mcr = and_zero_r (value_of c Mcr)
  reserved-by e i s Fsizr = at-most-16 c.config.fsiz s
  reserved-by e i s Tcr1 = and_zero_r (value_of c Tcr1)
  reserved-by e i s Tcr2 = and_zero_r (value_of c Tcr2)
  reserved-by e i s Tcr3 = and_zero_r (value_of c Tcr3)
  reserved-by e i s Risr = without RIER (omega arith) 0x05 (risr c) (risr-within e) refl
  reserved-by e i s Gisr = and_zero_r (value_of c Gisr)
  reserved-by e i s Rier = without RIER (omega arith) 0x05 c.config.rier i refl
  reserved-by e i s Gier = and_zero_r (value_of c Gier)
  reserved-by e i s Rivec = at-most-16 (receive_vector c) (lowest-le (receive_pending c) 0 16 refl)
  reserved-by e i s Tivec = at-most-16 (transmit_vector c) (highest-le (transmit_pending c) 16 (omega arith))
  reserved-by e i s Fidac = and_zero_r (value_of c Fidac)
  reserved-by e i s Fidmr = and_zero_r (value_of c Fidmr)
  reserved-by e i s Mvr = refl
  reserved-by e i s Pctlbf = without BFEN (omega arith) 0x7F _ (flag-within BFEN (omega arith) c.config.bfen BFEN 0 refl refl) refl
  reserved-by e i s Buflock = without 0x03 (omega arith) 0xFC (buflock c) buflock-within refl
  reserved-by e i s Fidrj = and_zero_r (value_of c Fidrj)
  reserved-by e i s Fidrmr = and_zero_r (value_of c Fidrmr)
  reserved-by e i s (TransmitWindow p) = refl
  reserved-by e i s (ReceiveWindow p) = refl
  reserved-by e i s (FifoWindow p) = refl
  reserved-by e i s (Bufctl n) = without 0xF4 (omega arith) 0x0B (bufctl c n) (bufctl-within n) refl
  reserved-by e i s Reserved = refl
