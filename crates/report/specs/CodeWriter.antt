-- A text that is written into a lent room, part by part.
use Rattle.std.specs.Prelude.{◌≡◌, ℕ, ◌+◌, ◌≤◌, List, [], ◌∷◌, ◌++◌, length, refl}
use Rattle.std.proofs.Common.{◌∙◌}
use Rattle.std.proofs.lemmas.List.Edits.{sets}
use Rattle.report.specs.declared.Number.{Number}
use Rattle.report.specs.declared.puts.Writer.{Writer}
use Rattle.report.specs.Text.{end_text, Put}
use Rattle.report.specs.CodeNumbers.{number_text, word_bytes, numbered_row}
use Rattle.report.specs.Laws.{none, then, kept}
use Rattle.report.specs.NumberLaws.{row-over as over}

-- the text xs was put where the writer w stood, which is w' now, in the same room
pub record Appends (w : Writer) (xs : List ℕ) (w' : Writer) : Type 0 where
  pub room : w'.out.ghost_name ≡ w.out.ghost_name
  pub size : length w'.out.now ≡ length w.out.now
  pub put : Put w.out.now w.at xs w'.out.now w'.at

-- a number was put, and its tab: eight bytes, of which those behind the tab don't count
pub record AppendsNumber (w : Writer) (x : Number) (w' : Writer) : Type 0 where
  pub room : w'.out.ghost_name ≡ w.out.ghost_name
  pub size : length w'.out.now ≡ length w.out.now
  pub next : w'.at ≡ w.at + length (number_text x)
  pub text : w'.out.now ≡ sets w.out.now w.at (word_bytes 8 x.digits)

-- one text behind the other
pub both : {w v u : Writer} {xs ys : List ℕ} → Appends w xs v → Appends v ys u → Appends w (xs ++ ys) u
both a b = record { room = b.room ∙ a.room; size = b.size ∙ a.size; put = then a.put b.put }

-- nothing put
pub nothing : (w : Writer) → Appends w [] w
nothing w = record { room = refl; size = refl; put = none w.out.now w.at }

pub appends : {w : Writer} {xs : List ℕ} {w' : Writer} → w'.out.ghost_name ≡ w.out.ghost_name → w'.at ≡ w.at + length xs → w'.out.now ≡ sets w.out.now w.at xs → Appends w xs w'
appends {w} {xs} {w'} a b c =
    let p : Put w.out.now w.at xs w'.out.now w'.at = record { next = b; text = c } in
    record { room = a; size = kept p; put = p }

-- a whole row: its number, its answer and detail, and its end
pub row-over : {w v u t : Writer} (x : Number) (word detail : List ℕ) (irq looked : ℕ) → 2 ≤ length word → AppendsNumber w x v
    → Appends v (word ++ (9 ∷ []) ++ detail ++ (9 ∷ [])) u → Appends u (end_text irq looked) t → Put w.out.now w.at (numbered_row x word detail irq looked) t.out.now t.at
row-over x word detail irq looked two a b c = over x word detail irq looked two (a.next, a.text) b.put c.put
