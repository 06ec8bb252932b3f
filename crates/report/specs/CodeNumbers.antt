-- A line's number as digits that are counted up: decimal digits in the bytes of a word, with a tab behind them.
use Rattle.std.specs.Prelude.{ℕ, zero, suc, ◌+◌, ◌-◌, ◌*◌, ◌/◌, ◌%◌, ◌^◌, List, [], ◌∷◌, ◌++◌, nat_lt}
use Rattle.masks.specs.Pick.{pick}
use Rattle.report.specs.declared.Number.{Number}
use Rattle.report.specs.Text.{width_of, decimal_of, end_text}

-- the bytes xs below the word d, the first lowest
unfoldable pub pack_on : List ℕ → ℕ → ℕ
pack_on [] d = d
pack_on (x ∷ xs) d = x + 256 * pack_on xs d

-- b, k bytes higher
unfoldable pub grown : ℕ → ℕ → ℕ
grown zero b = b
grown (suc k) b = grown k (256 * b)

-- the k lowest bytes of a word, the lowest first
unfoldable pub word_bytes : ℕ → ℕ → List ℕ
word_bytes zero d = []
word_bytes (suc k) d = d % 256 ∷ word_bytes k (d / 256)

-- the number n
unfoldable pub number_of : ℕ → Number
number_of n = record { digits = pack_on (decimal_of n) 9; unit = grown (width_of n - 1) 1; until = 9 - n % 10; len = width_of n }

-- x with its last digit counted up
unfoldable pub counted_up : Number → Number
counted_up x = record { digits = (x.digits + x.unit) % 2 ^ 64; unit = x.unit; until = x.until - 1; len = x.len }

-- the number m, which comes after x
unfoldable pub next_number : Number → ℕ → Number
next_number x m = pick (nat_lt 0 x.until) (counted_up x) (number_of m)

-- what is put of a number: its digits and the tab, of any word at least one byte and at most eight
unfoldable pub number_text : Number → List ℕ
number_text x = word_bytes (x.len % 8 + 1) x.digits

-- a row by such a number
unfoldable pub numbered_row : Number → List ℕ → List ℕ → ℕ → ℕ → List ℕ
numbered_row x word detail irq looked = number_text x ++ word ++ (9 ∷ []) ++ detail ++ (9 ∷ []) ++ end_text irq looked
