-- W5, 'When a buffer stops being locked': what it is that a call that releases buffer n leaves in n and in the two places, and that a frame
-- is in n. proofs/Released.antt has it of every session from reset.
use Rattle.std.specs.Prelude.{◌≡◌, ℕ, ◌<◌, true, false, List, eqb}
use Rattle.contents.specs.Bytes.{image_of}
use Rattle.rules.specs.Kinds.{has_iflg}
use Rattle.rules.specs.Waiting.{waits_for}
use Rattle.controller.specs.declared.Controller.{Controller}
use Rattle.controller.specs.Carry.{row_at}
use Rattle.invariants.specs.Newest.{is_waited_for, newest}

-- the records c before and d after buffer n was released
pub record Released (c : Controller) (n : ℕ) (d : Controller) : Type 0 where
  -- no place waits for n any more
  pub none-waits : (k : ℕ) → k < 2 → eqb (waits_for d.control.places k) n ≡ false
  -- where frames waited for n, it holds the newest of them, and its IFLG is 1
  pub newest-stored : is_waited_for c.control.places n ≡ true → row_at d.rows n ≡ row_at c.held (newest c.control.places n)
  pub flagged : is_waited_for c.control.places n ≡ true → has_iflg d.control n ≡ true
  -- where none did, no buffer's bytes change
  pub none-stored : is_waited_for c.control.places n ≡ false → d.rows ≡ c.rows
  -- in either case no other buffer's do
  pub others_same : (m : ℕ) → (m ≡ n → ⊥) → row_at d.rows m ≡ row_at c.rows m

-- the frame f is in buffer n: n's bytes are those of f stored, its IFLG is 1, and no place waits for n
pub record StoredIn (d : Controller) (n : ℕ) (f : List ℕ) : Type 0 where
  pub stored : row_at d.rows n ≡ image_of f
  pub flagged : has_iflg d.control n ≡ true
  pub none-waits : (k : ℕ) → k < 2 → eqb (waits_for d.control.places k) n ≡ false
