-- A copy into a list, element by element: the loops of crates receiving and sending.
use Prim.Native.Nat.{ℕ, ◌+◌, ◌<◌}
use mathlib.Core.List.{List}
use mathlib.Core.Path.{◌≡◌, ap, sym, ◌∙◌}
use native.Mathlib.Numerals.{add-one}
use lib.ListN.{length, get_or, set}
use lib.Seq.{paste, paste-zero, paste-suc}

-- d, with the n elements from place at on replaced by the first n of s
unfoldable pub copied : List ℕ → ℕ → List ℕ → ℕ → List ℕ
copied d at s n = paste d at s n

pub copied_none : (d : List ℕ) (at : ℕ) (s : List ℕ) → d ≡ copied d at s 0
unfolding copied
copied_none d at s = paste-zero d at s

pub copied_more : (d : List ℕ) (at : ℕ) (s : List ℕ) (k : ℕ) → at + k < length d → k < length s
    → set (copied d at s k) (at + k) (get_or s k 0) ≡ copied d at s (k + 1)
unfolding copied
copied_more d at s k hd hs = paste-suc d at s k 0 hd hs ∙ ap (λ (n : ℕ). paste d at s n) (sym (add-one k))
