-- What the test for 64 bytes of room tells of the text that is written.
use Rattle.std.proofs.Common.{◌≡◌, ℕ, ◌+◌, ◌≤◌, Bool, true, false, leb, List, length, sym, ◌∙◌, leb-false, leb-true}
use Rattle.report.specs.Text.{Put, fitting}
use Rattle.report.specs.Laws.{none, fits, tight}

pub enough : {t : Bool} {m n : ℕ} → t ≡ leb m n → t ≡ true → m ≤ n
enough {t} {m} {n} e f = leb-true m n (sym e ∙ f)

-- the text whole, in the room as it is given back
pub whole : {t : Bool} {o : List ℕ} {at : ℕ} {xs p q : List ℕ} {r : ℕ} → t ≡ leb (at + 64) (length o) → t ≡ true → Put o at xs p r → q ≡ p → Put o at (fitting o at xs) q r
whole {t} {o} {at} {xs} e f put back = rw (back, fits o at xs (enough e f)) put

-- or nothing
pub nothing : {t : Bool} {o : List ℕ} {at : ℕ} (xs : List ℕ) → t ≡ leb (at + 64) (length o) → t ≡ false → Put o at (fitting o at xs) o at
nothing {t} {o} {at} xs e f = rw (tight o at xs (leb-false (at + 64) (length o) (sym e ∙ f))) (none o at)
