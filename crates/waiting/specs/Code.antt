-- The waiting places as the code has them: what a release comes to. With W4 a stored frame leaves nothing of an older one, so that of
-- two frames for a buffer the newer alone is left.
use Rattle.std.specs.Prelude.{ℕ, Bool, true, ◌||◌, eqb}
use Rattle.masks.specs.Pick.{pick}
use Rattle.masks.specs.Bits.{put_bit}
use Rattle.locks.specs.Pair.{none}
use Rattle.rules.specs.declared.Places.{Places}
use Rattle.rules.specs.declared.Control.{Control}
use Rattle.rules.specs.Record.{with_places, with_buffers, with_iflg}

-- a frame waits for buffer n
unfoldable pub is_awaited : Places → ℕ → Bool
is_awaited p n = eqb p.first n || eqb p.second n

-- the place of the newest such frame; the second if there is none
unfoldable pub newest_of : Places → ℕ → ℕ
newest_of p n = pick (eqb p.first n) (pick (eqb p.second n) (pick p.swapped 0 1) 0) 1

-- the places without them
unfoldable pub freed_for : Places → ℕ → Places
freed_for p n =
    record {
      first = pick (eqb p.first n) none p.first;
      second = pick (eqb p.second n) none p.second;
      swapped = p.swapped;
    }

-- the control state after them, where there is one: IFLG set, their places free
unfoldable pub deliver_to : Control → ℕ → Control
deliver_to c n = with_places (with_buffers c (with_iflg c.buffers (put_bit c.buffers.iflg n true))) (freed_for c.places n)

unfoldable pub delivered_to : Control → ℕ → Control
delivered_to c n = pick (is_awaited c.places n) (deliver_to c n) c
