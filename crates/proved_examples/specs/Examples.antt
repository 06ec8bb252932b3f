-- Document 01, 'Proved examples': one table, one statement.
use Rattle.std.specs.Prelude.{◌≡◌, refl, ℕ, ◌^◌, Bool, true, List, [], ◌∷◌, map, replicate}
use Rattle.masks.specs.Pick.{pick}
use Rattle.masks.specs.Bits.{bit_of, lowest, highest, count_of, rising}
use Rattle.filter.specs.declared.Filter.{Filter}
use Rattle.filter.specs.Match.{agrees, matches}
use Rattle.contents.specs.Bytes.{head_of, store_frame}
use Rattle.rules.specs.declared.Control.{Control}
use Rattle.rules.specs.Record.{with_config, with_buffers, with_fsiz}
use Rattle.rules.specs.Registers.{reset_control}
use Rattle.rules.specs.Kinds.{is_lawful}
use Rattle.rules.specs.Flags.{receive_pending, transmit_pending, receive_vector, transmit_vector}
use Rattle.rules.specs.Refusals.{refuses11, refusal}
use Rattle.rules.specs.Steps.{frame}

-- a filter pair
abbrev pair : ℕ → ℕ → Filter
pair p m = record { pattern = p; mask = m }

-- a length byte as it is stored
abbrev stored_length : ℕ → ℕ
stored_length l = (head_of (store_frame 0x21 l (replicate 12 7))).len

-- FSIZ and the CFG bits of a layout
abbrev layout : ℕ → ℕ → Control
layout fsiz cfg =
    with_buffers (with_config reset_control (with_fsiz reset_control.config fsiz))
    (record { cfg = cfg; iena = 0; iflg = 0; abtak = 0; armed = 0 })

-- the buffers of a mask with IFLG and IENA, the upper four of all being transmit buffers
abbrev pending : ℕ → Control
pending m = with_buffers reset_control (record { cfg = 0xF000; iena = m; iflg = m; abtak = 0; armed = 0 })

abbrev one : Bool → ℕ
one t = pick t 1 0

-- what the definitions give, and what document 01 says
pub table : List (ℕ × ℕ)
table =
    -- pattern $20 mask $0F matches $2F, not $30; mask $FF matches all
    (one (matches (pair 0x20 0x0F) 0x2F), 1)
    ∷ (one (matches (pair 0x20 0x0F) 0x30), 0)
    ∷ (count_of (matches (pair 0x20 0xFF)) 256, 256)
    -- length byte $1F stores $0C, $00 stores 0
    ∷ (stored_length 0x1F, 0x0C)
    ∷ (stored_length 0x00, 0)
    -- slices of 0 and 1 bytes refuse 11
    ∷ (refusal reset_control (frame true []), 11)
    ∷ (refusal reset_control (frame true (0x21 ∷ [])), 11)
    -- FSIZ 16 with all CFG 0 is lawful, 16 with one CFG 1, whichever, is not
    ∷ (one (is_lawful (layout 16 0)), 1)
    ∷ (count_of (λ n. is_lawful (layout 16 (2 ^ n))) 16, 0)
    -- no pending gives $10; receive 3 and 9 pending gives 3, transmit 12 and 14 gives 14
    ∷ (receive_vector (pending 0), 0x10)
    ∷ (transmit_vector (pending 0), 0x10)
    ∷ (receive_vector (pending 0x0208), 3)
    ∷ (transmit_vector (pending 0x5000), 14)
    ∷ []

pub proved-examples : map (λ (r : ℕ × ℕ). r.0) table ≡ map (λ (r : ℕ × ℕ). r.1) table
unfolding table pick bit_of lowest highest count_of rising agrees matches store_frame reset_control is_lawful receive_pending transmit_pending receive_vector transmit_vector refuses11 refusal
proved-examples = refl
