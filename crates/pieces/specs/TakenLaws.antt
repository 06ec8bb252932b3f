-- Laws of how many bytes of a piece are taken, for any act and show.
use Prim.Native.Nat.{ℕ, zero, suc, ◌+◌, ◌-◌, ◌≤◌, ◌<◌, min, max}
use native.Mathlib.Omega.{arith}
use Rattle.std.proofs.Common.{add-one, sym, ◌∙◌, drop-cons}
use Rattle.std.specs.Prelude.{◌≡◌, Bool, false, ltb}
use Rattle.std.proofs.Math.Path.{refl, ap}
use mathlib.Core.List.{List, [], ◌∷◌, ◌++◌}
use Rattle.std.proofs.Math.Bool.{true}
use borrow.Author.Tests.{lt-ltb, le-ltb, eq-eqb}
use Rattle.std.proofs.Math.ListN.{length, length-append, drop, get_or}
use Rattle.std.proofs.Math.Dec.{eqb}
use Rattle.masks.specs.Pick.{pick}
use Rattle.masks.specs.PickLaws.{pick_true, pick-false, pick-keeps}
use Rattle.pieces.specs.declared.Held.{Held}
use Rattle.pieces.specs.declared.Gathered.{Gathered}
use Rattle.pieces.specs.Feed.{Feed, push_of, line_in, is_read, end_line, byte_s, byte_o, out_of, taken_of}
use Rattle.pieces.specs.CodeGather.{gather_from, gather_of}
use Rattle.pieces.specs.GatherLaws.{byte-pushes, byte-silent}

module _ {S : Type 0} (act : S → ℕ → List ℕ → S) (show : S → ℕ → Bool → List ℕ → List ℕ) (need size : ℕ) where
  -- without room nothing is taken
  pub taken_none : (f : Feed S) (w : ℕ) (t : List ℕ) → size < w + need → taken_of act show need size f w t ≡ 0
  unfolding taken_of
  taken_none f w [] h = refl
  taken_none f w (b ∷ bs) h = pick_true _ _ _ (lt-ltb size (w + need) h)

  pub taken-le : (f : Feed S) (w : ℕ) (t : List ℕ) → taken_of act show need size f w t ≤ length t
  unfolding taken_of
  taken-le f w [] = omega arith
  taken-le f w (b ∷ bs) =
      pick-keeps (λ (n : ℕ). n ≤ suc (length bs)) (ltb size (w + need)) (λ e. omega arith)
      (λ e. omega (arith, taken-le (byte_s act show f b) (w + length (byte_o act show f b)) bs))

  -- with room enough for all that is written, all is taken
  pub taken-all : (f : Feed S) (w : ℕ) (t : List ℕ) → w + length (out_of act show f t) + need ≤ size → taken_of act show need size f w t ≡ length t
  unfolding taken_of out_of
  taken-all f w [] h = refl
  taken-all f w (b ∷ bs) h =
      let l : length (byte_o act show f b ++ out_of act show (byte_s act show f b) bs) ≡ length (byte_o act show f b) + length (out_of act show (byte_s act show f b) bs) =
      length-append (byte_o act show f b) (out_of act show (byte_s act show f b) bs) in
      pick-false _ _ _ (le-ltb size (w + need) (omega arith)) ∙ ap suc (taken-all (byte_s act show f b) (w + length (byte_o act show f b)) bs (omega arith))

  -- one byte, with room
  byte-taken : (f : Feed S) (w : ℕ) (t : List ℕ) (i : ℕ) → i < length t → w + need ≤ size → taken_of act show need size f w (drop i t)
      ≡ suc (taken_of act show need size (byte_s act show f (get_or t i 0)) (w + length (byte_o act show f (get_or t i 0))) (drop (i + 1) t))
  unfolding taken_of
  byte-taken f w t i l h =
      ap (taken_of act show need size f w) (drop-cons t i 0 l ∙ ap (λ (n : ℕ). get_or t i 0 ∷ drop n t) (sym (add-one i)))
      ∙ pick-false _ _ _ (le-ltb size (w + need) h)

  -- a byte that is no LF
  push-taken : (s : S) (h : Held) (n w : ℕ) (t : List ℕ) (i : ℕ) → i < length t → w + need ≤ size → eqb (get_or t i 0) 10 ≡ false
      → i + taken_of act show need size (record { state = s; held = h; number = n }) w (drop i t)
      ≡ i + 1 + taken_of act show need size (record { state = s; held = push_of h (get_or t i 0); number = n }) w (drop (i + 1) t)
  push-taken s h n w t i l r q =
      let b : ℕ = get_or t i 0 in
      let f : Feed S = record { state = s; held = h; number = n } in
      let g : Feed S = record { state = s; held = push_of h b; number = n } in
      let z : w + 0 ≡ w = omega arith in
      let e : taken_of act show need size f w (drop i t) ≡ suc (taken_of act show need size g w (drop (i + 1) t)) =
      byte-taken f w t i l r
      ∙ ap (λ (x : Feed S). suc (taken_of act show need size x (w + length (byte_o act show f b)) (drop (i + 1) t))) (byte-pushes act show s h n b q)
      ∙ ap (λ (o : List ℕ). suc (taken_of act show need size g (w + length o) (drop (i + 1) t))) (byte-silent act show f b q)
      ∙ ap (λ (m : ℕ). suc (taken_of act show need size g m (drop (i + 1) t))) z in
      omega arith

  taken-from : (k : ℕ) (s : S) (h : Held) (n w : ℕ) (t : List ℕ) (i : ℕ) → i + k ≤ max i (length t) → w + need ≤ size
      → i + taken_of act show need size (record { state = s; held = h; number = n }) w (drop i t)
      ≡ (gather_from h t i k).at + taken_of act show need size (record { state = s; held = (gather_from h t i k).held; number = n }) w (drop (gather_from h t i k).at t)
  unfolding gather_from
  taken-from zero s h n w t i l r = refl
  taken-from (suc k) s h n w t i l r =
      pick-keeps
      (λ (g : Gathered).
      i + taken_of act show need size (record { state = s; held = h; number = n }) w (drop i t)
      ≡ g.at + taken_of act show need size (record { state = s; held = g.held; number = n }) w (drop g.at t))
      (eqb (get_or t i 0) 10) (λ q. refl)
      (λ q. push-taken s h n w t i (omega arith) r q ∙ taken-from k s (push_of h (get_or t i 0)) n w t (i + 1) (omega arith) r)

  -- with room, all that is gathered is taken
  pub gather-taken : (s : S) (h : Held) (n w : ℕ) (t : List ℕ) (from to : ℕ) (g : Gathered) → g ≡ gather_of h t from to → w + need ≤ size
      → from + taken_of act show need size (record { state = s; held = h; number = n }) w (drop from t)
      ≡ g.at + taken_of act show need size (record { state = s; held = g.held; number = n }) w (drop g.at t)
  unfolding gather_of
  gather-taken s h n w t from to g q r = rw q (taken-from (min to (length t) - from) s h n w t from (omega arith) r)

  -- and so is the LF behind it
  pub lf-taken : (f : Feed S) (w : ℕ) (t : List ℕ) (i : ℕ) → i < length t → get_or t i 0 ≡ 10 → w + need ≤ size → i + taken_of act show need size f w (drop i t)
      ≡ i + 1 + taken_of act show need size (end_line act show f) (w + length (pick (is_read f.number) (show f.state f.number true (line_in f.held)) [])) (drop (i + 1) t)
  unfolding byte_s byte_o
  lf-taken f w t i l k r =
      let e = byte-taken f w t i l r in
      let q : eqb (get_or t i 0) 10 ≡ true = eq-eqb (get_or t i 0) 10 k in
      simp (e, q, pick_true) (omega arith)
