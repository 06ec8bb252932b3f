-- Laws of feeding, for any act and show.
use Rattle.std.specs.Prelude.{ℕ, ◌+◌, ◌<◌, ◌≡◌, Bool, length, get_or, eqb}
use Rattle.std.proofs.Common.{add-one, ◌∙◌}
use Rattle.std.proofs.Math.Path.{refl, sym, ap}
use mathlib.Core.List.{List, [], ◌∷◌, ◌++◌, append_assoc, append-nil}
use Rattle.std.proofs.Math.ListN.{take}
use Rattle.std.proofs.Math.Seq.{take-suc}
use Rattle.masks.specs.Pick.{pick}
use Rattle.masks.specs.PickLaws.{pick_true, pick-false, by-test}
use Rattle.pieces.specs.Feed.{Feed, number_after, end_line, byte_s, byte_o, feed_end, out_of}

-- the number of the next line after a text
unfoldable pub count_from : ℕ → List ℕ → ℕ
count_from n [] = n
count_from n (b ∷ bs) = count_from (pick (eqb b 10) (number_after n) n) bs

module _ {S : Type 0} (act : S → ℕ → List ℕ → S) (show : S → ℕ → Bool → List ℕ → List ℕ) where
  -- feeding a text in two pieces is feeding it whole
  pub end_of-append : (f : Feed S) (a b : List ℕ) → feed_end act show f (a ++ b) ≡ feed_end act show (feed_end act show f a) b
  unfolding feed_end
  end_of-append f [] b = refl
  end_of-append f (x ∷ a) b = end_of-append (byte_s act show f x) a b

  pub out_of-append : (f : Feed S) (a b : List ℕ) → out_of act show f (a ++ b) ≡ out_of act show f a ++ out_of act show (feed_end act show f a) b
  unfolding feed_end out_of
  out_of-append f [] b = refl
  out_of-append f (x ∷ a) b =
      ap (λ (l : List ℕ). byte_o act show f x ++ l) (out_of-append (byte_s act show f x) a b)
      ∙ sym (append_assoc (byte_o act show f x) (out_of act show (byte_s act show f x) a) (out_of act show (feed_end act show (byte_s act show f x) a) b))

  -- one byte more
  pub end_of-more : (f : Feed S) (t : List ℕ) (i : ℕ) → i < length t → feed_end act show f (take (i + 1) t) ≡ byte_s act show (feed_end act show f (take i t)) (get_or t i 0)
  unfolding feed_end
  end_of-more f t i h =
      ap (feed_end act show f) (ap (λ (n : ℕ). take n t) (add-one i) ∙ take-suc t i 0 h) ∙ end_of-append f (take i t) (get_or t i 0 ∷ [])

  pub out_of-more : (f : Feed S) (t : List ℕ) (i : ℕ) → i < length t
      → out_of act show f (take (i + 1) t) ≡ out_of act show f (take i t) ++ byte_o act show (feed_end act show f (take i t)) (get_or t i 0)
  unfolding out_of
  out_of-more f t i h =
      ap (out_of act show f) (ap (λ (n : ℕ). take n t) (add-one i) ∙ take-suc t i 0 h) ∙ out_of-append f (take i t) (get_or t i 0 ∷ [])
      ∙ ap (λ (l : List ℕ). out_of act show f (take i t) ++ l) (append-nil (byte_o act show (feed_end act show f (take i t)) (get_or t i 0)))

  -- the number goes by the LFs alone
  number-byte : (f : Feed S) (b : ℕ) → (byte_s act show f b).number ≡ pick (eqb b 10) (number_after f.number) f.number
  unfolding byte_s end_line
  number-byte f b = by-test (eqb b 10) (λ e. simp (pick_true, e)) (λ e. simp (pick-false, e))

  pub number-after : (f : Feed S) (t : List ℕ) → (feed_end act show f t).number ≡ count_from f.number t
  unfolding feed_end count_from
  number-after f [] = refl
  number-after f (b ∷ bs) = number-after (byte_s act show f b) bs ∙ ap (λ (n : ℕ). count_from n bs) (number-byte f b)
