-- The refusals of a write as the code asks for them: those of a control register in one pass, and those of the other registers.
use Rattle.std.specs.Prelude.{ℕ, ◌%◌, Bool, ◌&&◌, not, [], ◌∷◌, eqb, ltb}
use Rattle.std.specs.Bool.{beq}
use Rattle.masks.specs.Pick.{pick}
use Rattle.masks.specs.Bits.{some_of}
use Rattle.locks.specs.Pair.{is_full}
use Rattle.rules.specs.declared.Control.{Control}
use Rattle.rules.specs.Registers.{has, LOCK}
use Rattle.rules.specs.Kinds.{is_transmit, is_locked, is_oldest}
use Rattle.rules.specs.Writes.{cfg_after}
use Rattle.rules.specs.Refusals.{refuses2, refuses3, refuses4, refuses5, refuses6, moved_by_fsiz, refuses7, refuses8, refuses9, refuses10, first_of}

-- 9 and 10, where buffer n, which is not locked, is locked, and its CFG is then cfg
unfoldable pub lock_refusal : Control → ℕ → Bool → ℕ
lock_refusal c n cfg =
    pick cfg (pick (is_full c.transmit) 10 0)
    (pick (ltb n c.config.fsiz) (pick (is_oldest c n) 0 9) (pick (is_full c.receive) 10 0))

-- 7, 9 and 10, where v is written to the control register of buffer n
unfoldable pub control_refusal : Control → ℕ → ℕ → ℕ
control_refusal c n v =
    pick (is_locked c n) (pick (not (beq (cfg_after c n v) (is_transmit c n))) 7 0)
    (pick (has v LOCK) (lock_refusal c n (cfg_after c n v)) 0)

-- 2 to 5, which look at no written value
unfoldable pub address_refusal : Control → ℕ → ℕ
address_refusal c a = pick (refuses2 c a) 2 (pick (refuses3 a) 3 (pick (refuses4 c a) 4 (pick (refuses5 c a) 5 0)))

-- 6 to 8, where v is written to another register
unfoldable pub low_refusal : Control → ℕ → ℕ → ℕ
low_refusal c a v =
    pick (refuses6 a v) 6 (pick (eqb a 0x01 && some_of (moved_by_fsiz c (v % 32)) 16) 7 (pick (refuses8 c a v) 8 0))

-- those of `write_refusal` from 6 on
unfoldable pub late_refusal : Control → ℕ → ℕ → ℕ
late_refusal c a v = first_of 6 (refuses6 a v ∷ refuses7 c a v ∷ refuses8 c a v ∷ refuses9 c a v ∷ refuses10 c a v ∷ [])
