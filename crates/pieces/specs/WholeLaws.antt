-- However a text is cut in pieces, what is written is what its lines give: for any act and show that take all lines above
-- 64 bytes for the same.
use Prim.Native.Nat.{ℕ, zero, suc, ◌+◌, ◌≤◌, ◌<◌}
use native.Mathlib.Omega.{arith}
use Rattle.std.specs.Prelude.{◌≡◌, Bool, length, take, ltb, eqb}
use Rattle.std.proofs.Math.Path.{refl, sym, ap}
use Rattle.std.proofs.Common.{◌∙◌}
use Rattle.std.proofs.Math.Logic.{⊎_elim}
use mathlib.Core.List.{List, [], ◌∷◌, ◌++◌, append_assoc, append-nil}
use Rattle.std.proofs.Math.Bool.{true, false}
use borrow.Author.Tests.{lt-ltb, le-leb, lt-leb, eq-eqb, ne_eqb}
use Rattle.std.proofs.Math.Seq.{take-nil}
use Rattle.masks.specs.PickLaws.{pick_true, pick-false, pick-keeps, by-test}
use Rattle.pieces.specs.declared.Held.{Held}
use Rattle.pieces.specs.Lines.{Line, rest_of, lines_from, text_lines}
use Rattle.pieces.specs.Feed.{Feed, none_held, push_of, line_in, number_after, is_read, end_line, byte_s, byte_o, feed_end, out_of, last_of, run_from, whole_of, stream_of}
use Rattle.pieces.specs.FeedLaws.{end_of-append, out_of-append}
use Rattle.pieces.specs.HoldLaws.{Short, Long, Holds, held_same, push-holds, none-holds}

-- ---- a text in pieces

abbrev pub joined : List (List ℕ) → List ℕ
joined [] = []
joined (c ∷ cs) = c ++ joined cs

-- nothing fed yet
abbrev pub fresh : {S : Type 0} → S → Feed S
fresh s = record { state = s; held = none_held; number = 1 }

-- past the last line that is read the number never comes back
later : (n : ℕ) → 999999 < n → 999999 < number_after n
unfolding number_after
later n h = pick-keeps (λ (x : ℕ). 999999 < x) (ltb n 4294967295) (λ e. omega arith) (λ e. h)

module _ {S : Type 0} (act : S → ℕ → List ℕ → S) (show : S → ℕ → Bool → List ℕ → List ℕ) where
  -- pieces are as good as the text
  pub stream-joined : (f : Feed S) (cs : List (List ℕ)) → stream_of act show f cs ≡ out_of act show f (joined cs) ++ last_of act show (feed_end act show f (joined cs))
  unfolding stream_of out_of feed_end
  stream-joined f [] = refl
  stream-joined f (c ∷ cs) =
      let m : Feed S = feed_end act show f c in
      ap (λ (l : List ℕ). out_of act show f c ++ l) (stream-joined (feed_end act show f c) cs)
      ∙ sym (append_assoc (out_of act show f c) (out_of act show m (joined cs)) (last_of act show (feed_end act show m (joined cs))))
      ∙ ap (λ (l : List ℕ). l ++ last_of act show (feed_end act show m (joined cs))) (sym (out_of-append act show f c (joined cs)))
      ∙ ap (λ (x : Feed S). out_of act show f (c ++ joined cs) ++ last_of act show x) (sym (end_of-append act show f c (joined cs)))

  -- nothing is written past the last line that is read
  later-byte : (f : Feed S) (b : ℕ) → 999999 < f.number → 999999 < (byte_s act show f b).number
  unfolding byte_s end_line
  later-byte f b h = pick-keeps (λ (x : Feed S). 999999 < x.number) (eqb b 10) (λ e. later f.number h) (λ e. h)

  idle-byte : (f : Feed S) (b : ℕ) → 999999 < f.number → byte_o act show f b ≡ []
  unfolding byte_o is_read
  idle-byte f b h =
      by-test (eqb b 10) (λ e. simp (e, lt-leb f.number 999999 h, pick-false)) (λ e. simp (e, pick-false))

  idle-last : (f : Feed S) → 999999 < f.number → last_of act show f ≡ []
  unfolding last_of is_read
  idle-last f h =
      by-test (eqb f.held.len 0) (λ e. simp (e, pick_true)) (λ e. simp (e, lt-leb f.number 999999 h, pick-false))

  idle : (f : Feed S) (t : List ℕ) → 999999 < f.number → out_of act show f t ++ last_of act show (feed_end act show f t) ≡ []
  unfolding out_of feed_end
  idle f [] h = idle-last f h
  idle f (b ∷ bs) h =
      ap (λ (l : List ℕ). (l ++ out_of act show (byte_s act show f b) bs) ++ last_of act show (feed_end act show (byte_s act show f b) bs)) (idle-byte f b h)
      ∙ idle (byte_s act show f b) bs (later-byte f b h)

  -- what is to be shown of a text t, wherever feeding stands
  abbrev Told : List ℕ → Type 0
  Told t =
      (f : Feed S) (p : List ℕ) → Holds f.held p → (k : ℕ) → f.number + k ≡ 1000000
      → out_of act show f t ++ last_of act show (feed_end act show f t) ≡ run_from act show f.state f.number (take k (lines_from p t))

module _ {S : Type 0} (act : S → ℕ → List ℕ → S) (show : S → ℕ → Bool → List ℕ → List ℕ)
    (over-act : (s : S) (n : ℕ) (l m : List ℕ) → 64 < length l → 64 < length m → act s n l ≡ act s n m)
    (over-show : (s : S) (n : ℕ) (e : Bool) (l m : List ℕ) → 64 < length l → 64 < length m → show s n e l ≡ show s n e m) where
  -- what is held is as good as the line
  act-line : (h : Held) (p : List ℕ) → Holds h p → (s : S) (n : ℕ) → act s n (line_in h) ≡ act s n p
  act-line h p w s n = held_same (act s n) (over-act s n) h p w

  show-line : (h : Held) (p : List ℕ) → Holds h p → (s : S) (n : ℕ) (e : Bool) → show s n e (line_in h) ≡ show s n e p
  show-line h p w s n e = held_same (show s n e) (over-show s n e) h p w

  -- an LF
  line-ended : (f : Feed S) (p : List ℕ) → Holds f.held p → f.number ≤ 999999
      → end_line act show f ≡ record { state = act f.state f.number p; held = none_held; number = f.number + 1 }
  unfolding end_line is_read number_after
  line-ended f p w h =
      let k : f.number < 4294967295 = omega arith in
      simp (pick_true, le-leb f.number 999999 h, lt-ltb f.number 4294967295 k, act-line f.held p w)

  told-end : (bs : List ℕ) → Told act show bs → (f : Feed S) (p : List ℕ) → Holds f.held p → (k : ℕ) → f.number + suc k ≡ 1000000
      → (show f.state f.number true (line_in f.held) ++ out_of act show (end_line act show f) bs) ++ last_of act show (feed_end act show (end_line act show f) bs)
      ≡ run_from act show f.state f.number (record { text = p; ended = true } ∷ take k (lines_from [] bs))
  unfolding run_from
  told-end bs ih f p w k e =
      let h : f.number ≤ 999999 = omega arith in
      let g : Feed S = record { state = act f.state f.number p; held = none_held; number = f.number + 1 } in
      let n : f.number + 1 + k ≡ 1000000 = omega arith in
      append_assoc (show f.state f.number true (line_in f.held)) (out_of act show (end_line act show f) bs) (last_of act show (feed_end act show (end_line act show f) bs))
      ∙ ap (λ (x : Feed S). show f.state f.number true (line_in f.held) ++ (out_of act show x bs ++ last_of act show (feed_end act show x bs))) (line-ended f p w h)
      ∙ ap (λ (l : List ℕ). show f.state f.number true (line_in f.held) ++ l) (ih g [] none-holds k n)
      ∙ ap (λ (l : List ℕ). l ++ run_from act show g.state (f.number + 1) (take k (lines_from [] bs))) (show-line f.held p w f.state f.number true)

  -- any other byte
  told_push : (b : ℕ) (bs : List ℕ) → Told act show bs → (f : Feed S) (p : List ℕ) → Holds f.held p → (k : ℕ) → f.number + k ≡ 1000000
      → out_of act show (record { state = f.state; held = push_of f.held b; number = f.number }) bs
      ++ last_of act show (feed_end act show (record { state = f.state; held = push_of f.held b; number = f.number }) bs)
      ≡ run_from act show f.state f.number (take k (lines_from (p ++ (b ∷ [])) bs))
  told_push b bs ih f p w k e =
      ih (record { state = f.state; held = push_of f.held b; number = f.number }) (p ++ (b ∷ [])) (push-holds f.held p b w) k e

  told-byte : (b : ℕ) (bs : List ℕ) → Told act show bs → (f : Feed S) (p : List ℕ) → Holds f.held p → (k : ℕ) → f.number + suc k ≡ 1000000
      → out_of act show f (b ∷ bs) ++ last_of act show (feed_end act show f (b ∷ bs)) ≡ run_from act show f.state f.number (take (suc k) (lines_from p (b ∷ bs)))
  unfolding out_of feed_end byte_s byte_o is_read lines_from
  told-byte b bs ih f p w k e =
      let h : f.number ≤ 999999 = omega arith in
      by-test (eqb b 10)
      (λ q. simp (pick_true, q, le-leb f.number 999999 h) (told-end bs ih f p w k e))
      (λ q. simp (pick-false, q) (told_push b bs ih f p w (suc k) e))

  -- the end of the text
  told-last : (f : Feed S) (p : List ℕ) → Holds f.held p → (k : ℕ) → f.number + suc k ≡ 1000000
      → last_of act show f ≡ run_from act show f.state f.number (take (suc k) (rest_of p))
  unfolding last_of is_read run_from
  told-last f [] w k e =
      let z : f.held.len ≡ 0 = ⊎_elim (λ (u : Short f.held []). u.len) (λ (u : Long f.held []). absurd (omega (arith, u.high))) w.kind in
      pick_true _ _ _ (eq-eqb f.held.len 0 z)
  told-last f (x ∷ p) w k e =
      let h : f.number ≤ 999999 = omega arith in
      let z : (f.held.len ≡ 0) → ⊥ = λ q. ⊎_elim (λ (u : Short f.held (x ∷ p)). omega (arith, u.len)) (λ (u : Long f.held (x ∷ p)). omega (arith, u.len)) w.kind in
      pick-false _ _ _ (ne_eqb f.held.len 0 z) ∙ pick_true _ _ _ (le-leb f.number 999999 h)
      ∙ show-line f.held (x ∷ p) w f.state f.number false
      ∙ sym (append-nil (show f.state f.number false (x ∷ p)))
      ∙ ap (λ (ls : List Line). show f.state f.number false (x ∷ p) ++ run_from act show (act f.state f.number (x ∷ p)) (f.number + 1) ls) (sym (take-nil k))

  told-nil : Told act show []
  unfolding out_of feed_end lines_from run_from
  told-nil f p w zero e = idle act show f [] (omega arith)
  told-nil f p w (suc k) e = told-last f p w k e

  told-cons : (b : ℕ) (bs : List ℕ) → Told act show bs → Told act show (b ∷ bs)
  unfolding run_from
  told-cons b bs ih f p w zero e = idle act show f (b ∷ bs) (omega arith)
  told-cons b bs ih f p w (suc k) e = told-byte b bs ih f p w k e

  told : (t : List ℕ) → Told act show t
  told [] = told-nil
  told (b ∷ bs) = told-cons b bs (told bs)

  -- a text fed whole gives what its lines give
  pub whole : (s : S) (t : List ℕ) → out_of act show (fresh s) t ++ last_of act show (feed_end act show (fresh s) t) ≡ whole_of act show s t
  unfolding whole_of text_lines
  whole s t = told t (fresh s) [] none-holds 999999 refl

  -- and so does a text in any pieces
  pub any-pieces : (s : S) (cs : List (List ℕ)) → stream_of act show (fresh s) cs ≡ whole_of act show s (joined cs)
  any-pieces s cs = stream-joined act show (fresh s) cs ∙ whole s (joined cs)
