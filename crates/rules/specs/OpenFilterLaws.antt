-- Towards OpenFilters.antt.
use Rattle.std.specs.Prelude.{◌≡◌, refl, ℕ, true, ltb}
use Rattle.filter.specs.MatchLaws.{open-matches-all, open-rejects-none}
use Rattle.rules.specs.declared.Control.{Control}
use Rattle.rules.specs.Modes.{cancel}
use Rattle.rules.specs.Bus.{fifo_takes, raise_last, examined}

-- with open filters a FIFO takes any identifier, also where a frame has cancelled SLPRQ and raised the last identifier
pub takes-any : (c : Control) (i : ℕ) → c.config.accept.mask ≡ 0xFF → c.config.reject.mask ≡ 0xFF → ltb 0 c.config.fsiz ≡ true →
    fifo_takes (raise_last (cancel c) i) i ≡ true
unfolding fifo_takes raise_last cancel
takes-any c i accepting rejecting some =
    let accepted = open-matches-all c.config.accept i accepting in
    let unrejected = open-rejects-none c.config.reject i rejecting in
    simp (some, accepted, unrejected)

pub examined-cancel : (c : Control) (n : ℕ) → examined (cancel c) n ≡ examined c n
unfolding examined cancel
examined-cancel c n = refl
