-- What holds of every record that a session reaches from reset, as one record of facts about its public view: the control
-- state, the buffers' heads and the heads of the frames that wait.
use Rattle.std.specs.Prelude.{◌≡◌, ℕ, ◌+◌, ◌≤◌, ◌<◌, Bool, true, false, ◌&&◌, ◌||◌, length, eqb, ltb, leb}
use Rattle.std.specs.Int.Bits.{bit_and}
use Rattle.locks.specs.declared.Locks.{Locks}
use Rattle.locks.specs.Pair.{in_pair}
use Rattle.contents.specs.Bytes.{Head}
use Rattle.rules.specs.declared.Events.{Events}
use Rattle.rules.specs.declared.Fifo.{Fifo}
use Rattle.rules.specs.declared.Control.{Control}
use Rattle.rules.specs.Registers.{has, SYNLIF, empty_fifo, no_places}
use Rattle.rules.specs.Kinds.{is_transmit, is_fifo, is_receive, is_locked, is_lawful, has_iflg, has_abtak, is_armed}
use Rattle.rules.specs.Waiting.{waits_for}
use Rattle.rules.specs.Bus.{lookup}
use Rattle.rules.specs.Plan.{head_at}
use Rattle.controller.specs.View.{View}

-- the locks of a kind: both of that kind and different, and a contender only with a holder
pub record PairSound (kind : ℕ → Bool) (l : Locks) : Type 0 where
  pub holder-le : l.holder ≤ 16
  pub contender-le : l.contender ≤ 16
  pub holder-kind : l.holder < 16 → kind l.holder ≡ true
  pub contender-kind : l.contender < 16 → kind l.contender ≡ true
  pub contender-held : l.contender < 16 → l.holder < 16
  pub apart : l.contender < 16 → l.holder ≡ l.contender → ⊥

pub record LocksSound (w : View) : Type 0 where
  pub receive : PairSound (is_receive w.control) w.control.receive
  pub transmit : PairSound (is_transmit w.control) w.control.transmit

-- a FIFO f of FSIZ places, FSIZ at most 16: at most FSIZ entries from the oldest on; the next place is behind the last of
-- them, place 0 following place FSIZ − 1
pub record RingSound (fsiz : ℕ) (f : Fifo) : Type 0 where
  pub size-le : fsiz ≤ 16
  pub count-le : f.count ≤ fsiz
  pub oldest-lt : 0 < fsiz → f.oldest < fsiz
  pub next-lt : 0 < fsiz → f.next < fsiz
  pub next_low : f.oldest + f.count < fsiz → f.next ≡ f.oldest + f.count
  pub next-high : fsiz ≤ f.oldest + f.count → f.next + fsiz ≡ f.oldest + f.count
  -- a FIFO lock only with an entry
  pub lock-entry : f.locked ≡ true → 0 < f.count

abbrev pub FifoSound : View → Type 0
FifoSound w = RingSound w.control.config.fsiz w.control.fifo

-- nothing of what entering initialization clears, but for the enables, which may be written there
pub record Idle (c : Control) : Type 0 where
  pub risr : c.events.risr ≡ 0
  pub gisr : c.events.gisr ≡ 0
  pub clearing : c.events.clearing ≡ false
  pub iflg : c.buffers.iflg ≡ 0
  pub abtak : c.buffers.abtak ≡ 0
  pub armed : c.buffers.armed ≡ 0
  pub slprq : c.mode.slprq ≡ false
  pub synced : c.mode.synced ≡ false
  pub fifo : c.fifo ≡ empty_fifo
  pub places : c.places ≡ no_places

pub record ModeSound (w : View) : Type 0 where
  pub idle : w.control.mode.init ≡ true → Idle w.control
  -- outside initialization the layout is lawful
  pub lawful : w.control.mode.init ≡ false → is_lawful w.control ≡ true
  -- a remembered clear only of a standing SYNLIF, unsynchronized
  pub clear-stands : w.control.events.clearing ≡ true → has w.control.events.gisr SYNLIF ≡ true
  pub clear-unsynced : w.control.events.clearing ≡ true → w.control.mode.synced ≡ false

-- the control bits of buffer n
pub record BitsSound (w : View) : Type 0 where
  pub abtak-transmit : (n : ℕ) → n < 16 → has_abtak w.control n ≡ true → is_transmit w.control n ≡ true
  pub abtak-iflg : (n : ℕ) → n < 16 → has_abtak w.control n ≡ true → has_iflg w.control n ≡ true
  -- "A FIFO buffer's IFLG is always 0."
  pub fifo-iflg : (n : ℕ) → n < 16 → is_fifo w.control n ≡ true → has_iflg w.control n ≡ false

-- x has no other bits than m
unfoldable pub within : ℕ → ℕ → Type 0
within m x = bit_and x m ≡ x

-- the event flags of $06 and of $07, and the enables of $08
abbrev pub RISR : ℕ
RISR = 0x3A

abbrev pub GISR : ℕ
GISR = 0x7D

abbrev pub RIER : ℕ
RIER = 0xFA

-- $06 and $07 are kept as their event flags, and $08 as its enables, without reserved bits and the flags that follow the state
pub record Registers (f : Events) (rier cfg iena : ℕ) : Type 0 where
  pub risr-only : within RISR f.risr
  pub gisr-only : within GISR f.gisr
  pub rier-only : within RIER rier
  -- a bit for each of the buffers 0 to 15
  pub cfg-lt : cfg < 65536
  pub iena-lt : iena < 65536

abbrev pub RegistersSound : View → Type 0
RegistersSound w = Registers w.control.events w.control.config.rier w.control.buffers.cfg w.control.buffers.iena

-- an armed buffer n
pub record Armed (w : View) (n : ℕ) : Type 0 where
  pub transmit : is_transmit w.control n ≡ true
  pub full : has_iflg w.control n ≡ false
  pub unlocked : is_locked w.control n ≡ false
  pub named : eqb (head_at w.heads n).ident 0 ≡ false
  pub synced : w.control.mode.synced ≡ true

pub record ArmingSound (w : View) : Type 0 where
  pub armed : (n : ℕ) → n < 16 → is_armed w.control n ≡ true → Armed w n

-- place n holds an entry of the FIFO
unfoldable pub is_entry : Control → ℕ → Bool
is_entry c n =
    ltb n c.config.fsiz
    && ((leb c.fifo.oldest n && ltb n (c.fifo.oldest + c.fifo.count)) || ltb (n + c.config.fsiz) (c.fifo.oldest + c.fifo.count))

pub record ContentsSound (w : View) : Type 0 where
  pub sixteen : length w.heads ≡ 16
  pub length-le : (n : ℕ) → (head_at w.heads n).len ≤ 15
  -- a received length is cut to 12
  pub received-le : (n : ℕ) → n < 16 → is_receive w.control n ≡ true → has_iflg w.control n ≡ true → (head_at w.heads n).len ≤ 12
  pub entry-le : (n : ℕ) → is_entry w.control n ≡ true → (head_at w.heads n).len ≤ 12
  -- FIFO entries carry no receive buffer's identifier
  pub entry-unmatched : (m n : ℕ) → is_entry w.control m ≡ true → n < 16 → is_receive w.control n ≡ true →
      eqb (head_at w.heads n).ident (head_at w.heads m).ident ≡ false

-- W5: a frame with the head h waits for buffer n, a locked dedicated receive buffer (holder or contender), the lowest with the frame's
-- identifier; its length is cut to 12, as it will be stored
pub record Waits (w : View) (n : ℕ) (h : Head) : Type 0 where
  pub locked : in_pair w.control.receive n ≡ true
  pub lowest-named : lookup w.control w.heads h.ident ≡ n
  pub short : h.len ≤ 12

-- two places, and each that is taken holds such a frame
pub record PlacesSound (w : View) : Type 0 where
  pub two : length w.held ≡ 2
  pub waiting : (k : ℕ) → k < 2 → waits_for w.control.places k < 16 → Waits w (waits_for w.control.places k) (head_at w.held k)

pub record Sound (w : View) : Type 0 where
  pub locks : LocksSound w
  pub fifo : FifoSound w
  pub modes : ModeSound w
  pub bits : BitsSound w
  pub registers : RegistersSound w
  pub arming : ArmingSound w
  pub contents : ContentsSound w
  pub places : PlacesSound w
