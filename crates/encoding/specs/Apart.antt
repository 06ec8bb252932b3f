-- Answers as numbers for C: each part is read as it was put in, none is taken for another, and after any steps that bring bytes every
-- answer's detail is a byte.
use Rattle.std.specs.Prelude.{◌≡◌, ℕ, ◌<◌, List}
use Rattle.std.proofs.Common.{sym, ap, ap₂, ◌∙◌, arith}
use Rattle.rules.specs.declared.Answer.{Answer}
use Rattle.rules.specs.Answers.{word_of, given_of, number_in}
use Rattle.rules.specs.AnswerLaws.{word_below}
use Rattle.controller.specs.declared.Answered.{Answered}
use Rattle.encoding.specs.Answers.{number_of, word_in, detail_in, looked_in, unknown, wrong_size, no_frame}
use Rattle.encoding.specs.AnswerLaws.{answer_by, by_parts}
use Rattle.rules.specs.Steps.{Step}
use Rattle.controller.specs.Carry.{reset_state}
use Rattle.controller.specs.Session.{end_of}
use Rattle.encoding.specs.Bytes.{BringsBytes, AllBytes, answer_after}
use Rattle.encoding.specs.ByteSessionLaws.{reset-bytes, detail-byte, end-bytes}

-- what is read of an answer's number, its detail being below 256
pub record Reads (a : Answered) : Type 0 where
  pub word : word_in (number_of a) ≡ word_of a.answer
  pub detail : detail_in (number_of a) ≡ number_in (given_of a.answer)
  pub looked : looked_in (number_of a) ≡ a.looked

pub answers-read : (a : Answered) → number_in (given_of a.answer) < 256 → Reads a
unfolding number_of
answers-read a h =
    let w = word_below a.answer in
    record { word = omega (arith, w); detail = omega (arith, w); looked = omega (arith, w) }

-- no answer of the controller has the word of one of the two that are none of its own
pub answers-below : (a : Answered) → number_in (given_of a.answer) < 256 → (word_in (number_of a) < word_in unknown) × (word_in (number_of a) < word_in wrong_size)
answers-below a h =
    let w = (answers-read a h).word in
    let b = word_below a.answer in
    (omega (arith, w, b), omega (arith, w, b))

-- nor that of the number which says that no frame waits
pub answers-no_frame : (a : Answered) → number_in (given_of a.answer) < 256 → word_in (number_of a) < word_in no_frame
answers-no_frame a h =
    let w = (answers-read a h).word in
    let b = word_below a.answer in
    omega (arith, w, b)

-- two answers with the same number are the same, where their details are below 256
pub answers-apart : (a b : Answered) → number_in (given_of a.answer) < 256 → number_in (given_of b.answer) < 256 → number_of a ≡ number_of b → a ≡ b
answers-apart a b h k e =
    let x = answers-read a h in
    let y = answers-read b k in
    let w : word_of a.answer ≡ word_of b.answer = sym x.word ∙ ap word_in e ∙ y.word in
    let n : number_in (given_of a.answer) ≡ number_in (given_of b.answer) = sym x.detail ∙ ap detail_in e ∙ y.detail in
    let l : a.looked ≡ b.looked = sym x.looked ∙ ap looked_in e ∙ y.looked in
    ap₂ (λ (m : Answer) (c : ℕ). record { answer = m; looked = c }) (sym (by_parts a.answer) ∙ ap₂ answer_by w n ∙ by_parts b.answer) l

-- after any steps from reset that bring bytes, the detail of what such a step answers is a byte,
pub session-details : (es : List Step) (e : Step) → AllBytes es → BringsBytes e → number_in (given_of (answer_after es e).answer) < 256
session-details es e b last = detail-byte (end_of reset_state es) e (end-bytes reset_state es reset-bytes b) last

-- its word, its detail and its count are read of its number
pub session-read : (es : List Step) (e : Step) → AllBytes es → BringsBytes e → Reads (answer_after es e)
session-read es e b last = answers-read (answer_after es e) (session-details es e b last)

-- its word is none of the two that no step of the controller has
pub session-answers : (es : List Step) (e : Step) → AllBytes es → BringsBytes e →
    (word_in (number_of (answer_after es e)) < word_in unknown) × (word_in (number_of (answer_after es e)) < word_in wrong_size)
session-answers es e b last = answers-below (answer_after es e) (session-details es e b last)

-- nor the one which says that no frame waits
pub session-no_frame : (es : List Step) (e : Step) → AllBytes es → BringsBytes e → word_in (number_of (answer_after es e)) < word_in no_frame
session-no_frame es e b last = answers-no_frame (answer_after es e) (session-details es e b last)

-- and no other answer of such a session has its number
pub session-apart : (xs ys : List Step) (d e : Step) → AllBytes xs → BringsBytes d → AllBytes ys → BringsBytes e →
    number_of (answer_after xs d) ≡ number_of (answer_after ys e) → answer_after xs d ≡ answer_after ys e
session-apart xs ys d e a p b q = answers-apart (answer_after xs d) (answer_after ys e) (session-details xs d a p) (session-details ys e b q)
