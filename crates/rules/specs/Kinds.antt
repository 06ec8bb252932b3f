-- Document 01, 'Kinds and locks': kinds of buffers, what is locked, the lawful layout.
use Rattle.std.specs.Prelude.{ℕ, ◌+◌, ◌-◌, Bool, ◌&&◌, ◌||◌, not, eqb, ltb, leb}
use Rattle.masks.specs.Pick.{pick}
use Rattle.masks.specs.Bits.{bit_of, rising, count_of}
use Rattle.locks.specs.Pair.{none, in_pair, has_contender}
use Rattle.rules.specs.declared.Control.{Control}

-- "CFG 1 is transmit. CFG 0 is FIFO below FSIZ, else dedicated receive; 'receive buffer' here means a dedicated one."
abbrev pub is_transmit : Control → ℕ → Bool
is_transmit c n = bit_of c.buffers.cfg n

abbrev pub is_fifo : Control → ℕ → Bool
is_fifo c n = not (bit_of c.buffers.cfg n) && ltb n c.config.fsiz

abbrev pub is_receive : Control → ℕ → Bool
is_receive c n = not (bit_of c.buffers.cfg n) && leb c.config.fsiz n

-- IFLG, IENA, ABTAK, armed, of buffer n
abbrev pub has_iflg : Control → ℕ → Bool
has_iflg c n = bit_of c.buffers.iflg n

abbrev pub has_iena : Control → ℕ → Bool
has_iena c n = bit_of c.buffers.iena n

abbrev pub has_abtak : Control → ℕ → Bool
has_abtak c n = bit_of c.buffers.abtak n

abbrev pub is_armed : Control → ℕ → Bool
is_armed c n = bit_of c.buffers.armed n

-- "A transmit buffer with IFLG 0 is full."
abbrev pub is_full_transmit : Control → ℕ → Bool
is_full_transmit c n = is_transmit c n && not (has_iflg c n)

-- holders and contenders, and the FIFO's oldest entry while the FIFO is locked, are locked
unfoldable pub is_locked : Control → ℕ → Bool
is_locked c n = in_pair c.receive n || in_pair c.transmit n || (c.fifo.locked && eqb n c.fifo.oldest)

-- "the oldest entry of a non-empty FIFO"
unfoldable pub is_oldest : Control → ℕ → Bool
is_oldest c n = ltb 0 c.fifo.count && eqb n c.fifo.oldest

-- "the place after the last one used, 0 following FSIZ − 1"
unfoldable pub place_after : ℕ → ℕ → ℕ
place_after fsiz n = pick (ltb n (fsiz - 1)) (n + 1) 0

-- the FIFO window's holder, or none
unfoldable pub fifo_holder : Control → ℕ
fifo_holder c = pick c.fifo.locked c.fifo.oldest none

-- "LOCKIF is 1 exactly while there is a contender."
unfoldable pub lockif : Control → Bool
lockif c = has_contender c.receive || has_contender c.transmit

-- "A lawful layout has all CFG 0 buffers before all CFG 1 buffers, and FSIZ at most the number of CFG 0 buffers."
unfoldable pub is_lawful : Control → Bool
is_lawful c = rising (is_transmit c) 15 && leb c.config.fsiz (count_of (λ n. not (is_transmit c n)) 16)
