-- An answer is given by its word and its detail.
use Rattle.std.specs.Prelude.{◌≡◌, refl, ℕ, [], ◌∷◌, get_or, eqb}
use Rattle.masks.specs.Pick.{pick}
use Rattle.rules.specs.declared.SyncKind.TheVariants.{Normal, Alarm}
use Rattle.rules.specs.declared.Answer.{Answer}
use Rattle.rules.specs.declared.Answer.TheVariants.{Ok, Value, Stored, Queued, Waiting, HeldOff, Sent, Pulse, Refused, Overrun, Unmatched, BadFrame, Ignored, Woke, NotSent}
use Rattle.rules.specs.Answers.{word_of, given_of, number_in}

-- the answer with word w and detail n; any for 5, which is unused
pub answer_by : ℕ → ℕ → Answer
answer_by w n =
    get_or
    (Ok ∷ Value n ∷ Stored n ∷ Queued n ∷ HeldOff n ∷ Ok ∷ Sent n ∷ Pulse (pick (eqb n 0) Normal Alarm) ∷ Refused n
    ∷ Overrun ∷ Unmatched ∷ BadFrame ∷ Ignored ∷ Woke ∷ NotSent ∷ Waiting n ∷ [])
    w Ok

pub by_parts : (a : Answer) → answer_by (word_of a) (number_in (given_of a)) ≡ a
unfolding answer_by pick
by_parts Ok = refl
by_parts (Value v) = refl
by_parts (Stored n) = refl
by_parts (Queued n) = refl
by_parts (Waiting n) = refl
by_parts (HeldOff n) = refl
by_parts (Sent k) = refl
by_parts (Pulse Normal) = refl
by_parts (Pulse Alarm) = refl
by_parts (Refused r) = refl
by_parts Overrun = refl
by_parts Unmatched = refl
by_parts BadFrame = refl
by_parts Ignored = refl
by_parts Woke = refl
by_parts NotSent = refl
