-- Words are below 16, and only a sent frame shows in a detail.
use Rattle.std.specs.Prelude.{ℕ, ◌<◌, ◌≡◌, Bool, false, List}
use Rattle.std.proofs.Common.{arith, sym, ap, ◌∙◌}
use Rattle.rules.specs.declared.Answer.{Answer}
use Rattle.rules.specs.declared.Answer.TheVariants.{Ok, Value, Stored, Queued, Waiting, HeldOff, Sent, Pulse, Refused, Overrun, Unmatched, BadFrame, Ignored, Woke, NotSent}
use Rattle.rules.specs.Answers.{word_of, given_of, is_sent, framed, detail_of}

-- the words' numbers are below it
abbrev pub WORDS : ℕ
WORDS = 16

pub word_below : (a : Answer) → word_of a < WORDS
word_below Ok = omega arith
word_below (Value v) = omega arith
word_below (Stored n) = omega arith
word_below (Queued n) = omega arith
word_below (Waiting n) = omega arith
word_below (HeldOff n) = omega arith
word_below (Sent k) = omega arith
word_below (Pulse k) = omega arith
word_below (Refused r) = omega arith
word_below Overrun = omega arith
word_below Unmatched = omega arith
word_below BadFrame = omega arith
word_below Ignored = omega arith
word_below Woke = omega arith
word_below NotSent = omega arith

-- any other answer's detail shows no frame
pub detail-same : (a : Answer) (f g : List ℕ) → is_sent a ≡ false → detail_of a f ≡ detail_of a g
detail-same a f g s = ap (λ (t : Bool). framed t (given_of a) f) s ∙ sym (ap (λ (t : Bool). framed t (given_of a) g) s)
