-- A text fed part by part: what is written for a part and then for the rest is what is written for both fed whole.
use Rattle.std.specs.Prelude.{ℕ, ◌≡◌, Bool, take, drop}
use Rattle.std.proofs.Math.Path.{refl, sym, ap}
use Rattle.std.proofs.Common.{◌∙◌, take-append-drop}
use mathlib.Core.List.{List, [], ◌∷◌, ◌++◌, append_assoc}
use Rattle.pieces.specs.Feed.{Feed, feed_end, out_of, last_of, stream_of, fed_whole}
use Rattle.pieces.specs.WholeLaws.{stream-joined}

-- where k bytes of a piece were taken, the rest of it is still to be fed
pub rest-joined : (k : ℕ) (piece later : List ℕ) → take k piece ++ (drop k piece ++ later) ≡ piece ++ later
rest-joined k piece later = sym (append_assoc (take k piece) (drop k piece) later) ∙ ap (λ (l : List ℕ). l ++ later) (take-append-drop k piece)

module _ {S : Type 0} (act : S → ℕ → List ℕ → S) (show : S → ℕ → Bool → List ℕ → List ℕ) where
  pub last-whole : (f : Feed S) → last_of act show f ≡ fed_whole act show f []
  unfolding stream_of out_of feed_end
  last-whole f = refl

  pub part-whole : (f : Feed S) (k : ℕ) (piece later : List ℕ)
      → out_of act show f (take k piece) ++ fed_whole act show (feed_end act show f (take k piece)) (drop k piece ++ later) ≡ fed_whole act show f (piece ++ later)
  unfolding stream_of
  part-whole f k piece later =
      stream-joined act show f (take k piece ∷ ((drop k piece ++ later) ∷ []))
      ∙ ap (λ (t : List ℕ). out_of act show f t ++ last_of act show (feed_end act show f t))
      (sym (append_assoc (take k piece) (drop k piece ++ later) []) ∙ ap (λ (l : List ℕ). l ++ []) (rest-joined k piece later))
      ∙ sym (stream-joined act show f ((piece ++ later) ∷ []))
