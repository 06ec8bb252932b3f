-- Lines put together again: a text's lines are had back from them, whatever was done to each line, as long as it has no LF and
-- an unended line is the last and not empty.
use Rattle.std.specs.Prelude.{ℕ, zero, suc, ◌<◌, ◌≡◌, Bool, true, false, List, [], ◌∷◌, ◌++◌, take, length, replicate, eqb}
use Rattle.std.proofs.Math.Path.{refl}
use Rattle.std.proofs.Common.{sym, ap, ◌∙◌, append_assoc, append-nil, arith}
use Rattle.std.proofs.Math.Seq.{take-nil}
use Rattle.masks.specs.Pick.{pick}
use Rattle.masks.specs.PickLaws.{pick-false, pick-keeps}
use Rattle.pieces.specs.Lines.{Line, rest_of, lines_from, text_lines}

-- the LF of an ended line
abbrev pub end_text : Bool → List ℕ
end_text ended = pick ended (10 ∷ []) []

-- the text of lines
unfoldable pub joined : List Line → List ℕ
joined [] = []
joined (l ∷ ls) = (l.text ++ end_text l.ended) ++ joined ls

-- no byte is LF
abbrev pub NoLf : List ℕ → Type 0
NoLf [] = Unit {0}
NoLf (b ∷ bs) = (eqb b 10 ≡ false) × NoLf bs

-- a line without LF stands last, and isn't empty
abbrev pub Ends : Bool → List ℕ → List Line → Type 0
Ends true l ls = Unit {0}
Ends false l ls = (0 < length l) × (ls ≡ [])

-- lines as a text has them
abbrev pub InText : List Line → Type 0
InText [] = Unit {0}
InText (l ∷ ls) = NoLf l.text × Ends l.ended l.text ls × InText ls

-- ---- bytes that are no LF

pub no-lf-append : (p q : List ℕ) → NoLf p → NoLf q → NoLf (p ++ q)
no-lf-append [] q a b = b
no-lf-append (x ∷ p) q a b = (a.0, no-lf-append p q a.1 b)

pub no-lf-take : (k : ℕ) (l : List ℕ) → NoLf l → NoLf (take k l)
no-lf-take zero l a = tt
no-lf-take (suc k) [] a = tt
no-lf-take (suc k) (x ∷ l) a = (a.0, no-lf-take k l a.1)

pub no-lf-zeros : (k : ℕ) → NoLf (replicate k 48)
no-lf-zeros zero = tt
no-lf-zeros (suc k) = (refl, no-lf-zeros k)

-- ---- the lines of a text are so

rest-in-text : (p : List ℕ) → NoLf p → InText (rest_of p)
rest-in-text [] a = tt
rest-in-text (x ∷ p) a = (a, (omega arith, refl), tt)

from-in-text : (p t : List ℕ) → NoLf p → InText (lines_from p t)
unfolding lines_from
from-in-text p [] a = rest-in-text p a
from-in-text p (b ∷ bs) a =
    pick-keeps InText (eqb b 10) (λ e. (a, tt, from-in-text [] bs tt)) (λ e. from-in-text (p ++ (b ∷ [])) bs (no-lf-append p (b ∷ []) a (e, tt)))

pub lines-in-text : (t : List ℕ) → InText (text_lines t)
unfolding text_lines
lines-in-text t = from-in-text [] t tt

-- the first of them too
ends-take : (n : ℕ) (e : Bool) (l : List ℕ) (ls : List Line) → Ends e l ls → Ends e l (take n ls)
ends-take n true l ls h = tt
ends-take n false l ls h = (h.0, ap (take n) h.1 ∙ take-nil n)

pub take-in-text : (n : ℕ) (ls : List Line) → InText ls → InText (take n ls)
take-in-text zero ls h = tt
take-in-text (suc n) [] h = tt
take-in-text (suc n) (l ∷ ls) h = (h.0, ends-take n l.ended l.text ls h.1, take-in-text n ls h.2)

-- ---- lines put together and had back

from-append : (p q t : List ℕ) → NoLf q → lines_from p (q ++ t) ≡ lines_from (p ++ q) t
unfolding lines_from
from-append p [] t a = ap (λ (x : List ℕ). lines_from x t) (sym (append-nil p))
from-append p (b ∷ q) t a =
    pick-false (eqb b 10) _ _ a.0 ∙ from-append (p ++ (b ∷ [])) q t a.1 ∙ ap (λ (x : List ℕ). lines_from x t) (append_assoc p (b ∷ []) q)

rest-of : (l : List ℕ) → 0 < length l → rest_of l ≡ record { text = l; ended = false } ∷ []
rest-of [] h = absurd (omega arith)
rest-of (x ∷ l) h = refl

-- a line, and those behind it
line-back : (e : Bool) (l : List ℕ) (ls : List Line) → NoLf l → Ends e l ls →
    text_lines (joined ls) ≡ ls → text_lines ((l ++ end_text e) ++ joined ls) ≡ record { text = l; ended = e } ∷ ls
unfolding text_lines joined pick lines_from
line-back true l ls a h ih =
    ap text_lines (append_assoc l (10 ∷ []) (joined ls)) ∙ from-append [] l (10 ∷ joined ls) a ∙ ap (λ (x : List Line). record { text = l; ended = true } ∷ x) ih
line-back false l ls a h ih =
    ap (λ (x : List Line). text_lines ((l ++ []) ++ joined x)) h.1 ∙ ap text_lines (append-nil (l ++ []) ∙ append-nil l ∙ sym (append-nil l))
    ∙ from-append [] l [] a ∙ rest-of l h.0 ∙ ap (λ (x : List Line). record { text = l; ended = false } ∷ x) (sym h.1)

pub lines-back : (ls : List Line) → InText ls → text_lines (joined ls) ≡ ls
unfolding joined
lines-back [] h = unfold text_lines lines_from in refl
lines-back (l ∷ ls) h = line-back l.ended l.text ls h.0 h.1 (lines-back ls h.2)
