-- A row's answer and detail in two parts: all but a number in hex, and that number.
use Rattle.std.specs.Prelude.{◌≡◌, ℕ, ◌≤◌, Option, None, Some, List, [], ◌∷◌, ◌++◌, length, refl}
use Rattle.std.specs.Option.{is_some}
use Rattle.std.proofs.Common.{sym, subst, arith}
use Rattle.masks.specs.Pick.{pick}
use Rattle.rules.specs.declared.Answer.{Answer}
use Rattle.rules.specs.declared.Answer.TheVariants.{Ok, Value, Stored, Queued, HeldOff, Sent, Pulse, Refused, Overrun, Unmatched, BadFrame, Ignored, Woke, NotSent, Waiting}
use Rattle.rules.specs.Answers.{Given, dash, value, buffer, counted, kind, number, word_of, given_of, detail_of}
use Rattle.report.specs.Text.{hex_of, word_texts, word_text, given_text, detail_text}
use Rattle.report.specs.declared.puts.Writer.{Writer}
use Rattle.report.specs.CodeWriter.{Appends, both}

-- a value, a buffer or a refusal; no other detail is a number in hex
abbrev pub hex_in : Given → Option ℕ
hex_in dash = None
hex_in (value v) = Some v
hex_in (buffer n) = Some n
hex_in (counted k) = None
hex_in (kind k) = None
hex_in (number r) = Some r

-- answer and detail with their tabs, but for such a number and its tab
unfoldable pub before_hex : Answer → List ℕ → List ℕ
before_hex a f = word_text (word_of a) ++ (9 ∷ []) ++ pick (is_some (hex_in (given_of a))) [] (detail_text (detail_of a f) ++ (9 ∷ []))

-- an option without a number
pub without : (o : Option ℕ) {p : Option ℕ} → o ≡ p → ((x : ℕ) → o ≡ Some x → ⊥) → p ≡ None
without None e h = sym e
without (Some x) e h = absurd (h x refl)

same : {v n : ℕ} → Some v ≡ Some n → v ≡ n
same e = cc

-- with it the text is whole
hex-whole : (a : Answer) (f : List ℕ) (n : ℕ) → hex_in (given_of a) ≡ Some n →
    before_hex a f ++ (hex_of n ++ (9 ∷ [])) ≡ word_text (word_of a) ++ (9 ∷ []) ++ detail_text (detail_of a f) ++ (9 ∷ [])
unfolding before_hex pick word_texts detail_text given_text
hex-whole Ok f n e = absurd (cc)
hex-whole (Value v) f n e = rw (same e) refl
hex-whole (Stored v) f n e = rw (same e) refl
hex-whole (Queued v) f n e = rw (same e) refl
hex-whole (HeldOff v) f n e = rw (same e) refl
hex-whole (Sent k) f n e = absurd (cc)
hex-whole (Pulse k) f n e = absurd (cc)
hex-whole (Refused r) f n e = rw (same e) refl
hex-whole Overrun f n e = absurd (cc)
hex-whole Unmatched f n e = absurd (cc)
hex-whole BadFrame f n e = absurd (cc)
hex-whole Ignored f n e = absurd (cc)
hex-whole Woke f n e = absurd (cc)
hex-whole NotSent f n e = absurd (cc)
hex-whole (Waiting v) f n e = rw (same e) refl

-- there is room for it
pub hex-room : (a : Answer) (f : List ℕ) (n : ℕ) → hex_in (given_of a) ≡ Some n → length (before_hex a f) ≤ 8
unfolding before_hex pick word_texts
hex-room Ok f n e = absurd (cc)
hex-room (Value v) f n e = omega arith
hex-room (Stored v) f n e = omega arith
hex-room (Queued v) f n e = omega arith
hex-room (HeldOff v) f n e = omega arith
hex-room (Sent k) f n e = absurd (cc)
hex-room (Pulse k) f n e = absurd (cc)
hex-room (Refused r) f n e = omega arith
hex-room Overrun f n e = absurd (cc)
hex-room Unmatched f n e = absurd (cc)
hex-room BadFrame f n e = absurd (cc)
hex-room Ignored f n e = absurd (cc)
hex-room Woke f n e = absurd (cc)
hex-room NotSent f n e = absurd (cc)
hex-room (Waiting v) f n e = omega arith

-- without such a number it is whole as it stands
plain-whole : (a : Answer) (f : List ℕ) → hex_in (given_of a) ≡ None → before_hex a f ≡ word_text (word_of a) ++ (9 ∷ []) ++ detail_text (detail_of a f) ++ (9 ∷ [])
unfolding before_hex pick word_texts detail_text given_text
plain-whole Ok f e = refl
plain-whole (Value v) f e = absurd (cc)
plain-whole (Stored n) f e = absurd (cc)
plain-whole (Queued n) f e = absurd (cc)
plain-whole (HeldOff n) f e = absurd (cc)
plain-whole (Sent k) f e = refl
plain-whole (Pulse k) f e = refl
plain-whole (Refused r) f e = absurd (cc)
plain-whole Overrun f e = refl
plain-whole Unmatched f e = refl
plain-whole BadFrame f e = refl
plain-whole Ignored f e = refl
plain-whole Woke f e = refl
plain-whole NotSent f e = refl
plain-whole (Waiting n) f e = absurd (cc)

-- the two parts, one put behind the other
module _ {w v : Writer} (a : Answer) (f : List ℕ) where
  pub hex-put : {u : Writer} {n : ℕ} → hex_in (given_of a) ≡ Some n → Appends w (before_hex a f) v → Appends v (hex_of n ++ (9 ∷ [])) u →
      Appends w (word_text (word_of a) ++ (9 ∷ []) ++ detail_text (detail_of a f) ++ (9 ∷ [])) u
  hex-put {u} {n} e x y = subst (λ (xs : List ℕ). Appends w xs u) (hex-whole a f n e) (both x y)

  pub plain-put : hex_in (given_of a) ≡ None → Appends w (before_hex a f) v →
      Appends w (word_text (word_of a) ++ (9 ∷ []) ++ detail_text (detail_of a f) ++ (9 ∷ [])) v
  plain-put e x = subst (λ (xs : List ℕ). Appends w xs v) (plain-whole a f e) x
