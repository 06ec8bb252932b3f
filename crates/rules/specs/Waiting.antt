-- W5, 'The two temporary buffers': two places in which frames wait for a locked buffer, "shared by all dedicated buffers, oldest first".
use Rattle.std.specs.Prelude.{ℕ, zero, suc, Bool, true, false, ◌&&◌, List, [], ◌∷◌, ◌++◌, eqb, leb}
use Rattle.masks.specs.Pick.{pick}
use Rattle.masks.specs.Bits.{put_bit}
use Rattle.locks.specs.Pair.{none}
use Rattle.rules.specs.declared.Places.{Places}
use Rattle.rules.specs.declared.Control.{Control}
use Rattle.rules.specs.Record.{with_places, with_buffers, with_iflg}
use Rattle.rules.specs.Plan.{Move, release}

-- the buffer that the frame in place k waits for, or none: place 0 is the first, any other the second
abbrev pub waits_for : Places → ℕ → ℕ
waits_for p zero = p.first
waits_for p (suc k) = p.second

-- place k is free
abbrev pub is_free : Control → ℕ → Bool
is_free c k = leb none (waits_for c.places k)

-- "SLPAK follows in the call that empties the places, whatever BFEN then is": SLPAK is SLPRQ with both places free
unfoldable pub asleep : Control → Bool
asleep c = c.mode.slprq && (is_free c 0 && is_free c 1)

-- ---- a frame takes a place

-- place k with a frame for buffer n, which is then the newest
abbrev pub occupied : Places → ℕ → ℕ → Places
occupied p zero n = record { first = n; second = p.second; swapped = true }
occupied p (suc k) n = record { first = p.first; second = n; swapped = false }

-- ---- "When a buffer stops being locked, frames waiting for it are stored in order of arrival within that same call, IFLG set, and
-- their places are free again."

-- place k free again
abbrev pub freed : Places → ℕ → Places
freed p zero = record { first = none; second = p.second; swapped = p.swapped }
freed p (suc k) = record { first = p.first; second = none; swapped = p.swapped }

-- the frame in place k stored in buffer n
abbrev pub stored_from : Control → ℕ → ℕ → Control
stored_from c k n = with_places (with_buffers c (with_iflg c.buffers (put_bit c.buffers.iflg n true))) (freed c.places k)

-- the same if it waits for n: the control state, and what is moved
unfoldable pub deliver : Control → ℕ → ℕ → Control
deliver c k n = pick (eqb (waits_for c.places k) n) (stored_from c k n) c

unfoldable pub delivery : Control → ℕ → ℕ → List Move
delivery c k n = pick (eqb (waits_for c.places k) n) (release k n ∷ []) []

-- place k before place j
unfoldable pub deliver_both : Control → ℕ → ℕ → ℕ → Control
deliver_both c k j n = deliver (deliver c k n) j n

-- all frames that wait for buffer n, in order of arrival
unfoldable pub delivered : Control → ℕ → Control
delivered c n = pick c.places.swapped (deliver_both c 1 0 n) (deliver_both c 0 1 n)

unfoldable pub deliveries : Control → ℕ → List Move
deliveries c n = pick c.places.swapped (delivery c 1 n ++ delivery c 0 n) (delivery c 0 n ++ delivery c 1 n)
