-- The numbers of the answers: a word, a detail and a count in one number, and three that no step of the controller has.
use Rattle.std.specs.Prelude.{ℕ, ◌+◌, ◌*◌, ◌/◌, ◌%◌, Result, Ok, Err}
use Rattle.rules.specs.Answers.{word_of, given_of, number_in}
use Rattle.controller.specs.declared.Answered.{Answered}
use Rattle.encoding.specs.declared.Wrong.{Wrong}
use Rattle.encoding.specs.declared.Wrong.TheVariants.{Unknown, Size, NoFrame}

-- a word, a detail, and how many dedicated receive buffers were examined, in one number
unfoldable pub number_of : Answered → ℕ
number_of a = 65536 * a.looked + 256 * word_of a.answer + number_in (given_of a.answer)

-- what a caller reads of it
abbrev pub word_in : ℕ → ℕ
word_in n = n / 256 % 256

abbrev pub detail_in : ℕ → ℕ
detail_in n = n % 256

abbrev pub looked_in : ℕ → ℕ
looked_in n = n / 65536

-- outside document 01: the kind or one of its numbers names no step
abbrev pub unknown : ℕ
unknown = 256 * 64

-- outside document 01: the caller's record is not of this size
abbrev pub wrong_size : ℕ
wrong_size = 256 * 65

-- outside document 01: no frame waits that could be shown
abbrev pub no_frame : ℕ
no_frame = 256 * 66

unfoldable pub wrong_number : Wrong → ℕ
wrong_number Unknown = unknown
wrong_number Size = wrong_size
wrong_number NoFrame = no_frame

-- the number that C gets where something may be wrong
unfoldable pub said_number : Result ℕ Wrong → ℕ
said_number (Ok n) = n
said_number (Err w) = wrong_number w
