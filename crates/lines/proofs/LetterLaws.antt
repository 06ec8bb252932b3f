-- A text's first line: what is read by its first letter is what is found.
use Rattle.std.proofs.Common.{ℕ, zero, suc, ◌-◌, ◌≤◌, ◌<◌, ◌≡◌, refl, ap, sym, ◌∙◌, arith, List, [], ◌∷◌, true, false, length, take, drop, get_or, ltb, eqb, min, le-ltb, ltb-false, eqb-true, length-take, length-drop, take_all, drop_of_length-le, get_or-take, Option, Some, None}
use Rattle.std.proofs.lemmas.Bool.{eqb-false}
use Rattle.masks.specs.Pick.{pick}
use Rattle.masks.specs.PickLaws.{pick_true, pick-false, pick-keeps, by-test}
use Rattle.controller.specs.declared.Call.{Call}
use Rattle.lines.specs.declared.Parsed.{Parsed}
use Rattle.lines.specs.declared.Found.{Found}
use Rattle.lines.specs.Grammar.{byte_of, no_frame, plain_of, one_of, three_of, four_of, seven_of, short_of, is_frame, line_of}
use Rattle.lines.specs.Laws.{begun-length}
use Rattle.lines.specs.Found.{lf_in, found_in, found_at}
use Rattle.lines.specs.FoundLaws.{begun, none_found_lem, step-found}
use Rattle.lines.specs.CodeFound.{ended_by, read_of}
use Rattle.lines.proofs.DecodeLaws.{within, frame-found}

-- ---- a line by its letter, a, and its length, m

abbrev No : Option Call → Type 0
No x = x ≡ None

one-other : (a : ℕ) → eqb a 90 ≡ false → eqb a 77 ≡ false → eqb a 81 ≡ false → No (one_of a)
unfolding one_of
one-other a p q r = pick-false _ _ _ p ∙ pick-false _ _ _ q ∙ pick-false _ _ _ r

three-other : (a : ℕ) → eqb a 83 ≡ false → eqb a 80 ≡ false → (t k : ℕ) → No (three_of a t k)
unfolding three_of
three-other a p q t k = pick-keeps No (eqb t 9) (λ e. pick-false _ _ _ p ∙ pick-false _ _ _ q) (λ e. refl)

four-other : (a : ℕ) → eqb a 82 ≡ false → eqb a 84 ≡ false → (t h l : ℕ) → No (four_of a t h l)
unfolding four_of
four-other a p q t h l =
    pick-keeps No (eqb t 9) (λ e. pick-keeps No (ltb 255 (byte_of h l)) (λ f. refl) (λ f. pick-false _ _ _ p ∙ pick-false _ _ _ q)) (λ e. refl)

seven-other : (a : ℕ) → eqb a 87 ≡ false → (t h l t2 h2 l2 : ℕ) → No (seven_of a t h l t2 h2 l2)
unfolding seven_of
seven-other a p t h l t2 h2 l2 = pick-false _ _ _ p

-- no step but a frame
record Unread-by (a m : ℕ) : Type 0 where
  pub one : m ≡ 1 → No (one_of a)
  pub three : m ≡ 3 → (t k : ℕ) → No (three_of a t k)
  pub four : m ≡ 4 → (t h l : ℕ) → No (four_of a t h l)
  pub seven : m ≡ 7 → (t h l t2 h2 l2 : ℕ) → No (seven_of a t h l t2 h2 l2)

unread-by : (a : ℕ) (l : List ℕ) → is_frame (a ∷ l) ≡ false → Unread-by a (length (a ∷ l)) → (line_of (a ∷ l)).line ≡ None
unfolding line_of short_of
unread-by a l f w =
    pick-keeps (λ (p : Parsed). p.line ≡ None) (ltb 64 (length (a ∷ l))) (λ e. refl)
    (λ e.
    ap (λ (p : Parsed). p.line) (pick-false _ _ _ f)
    ∙ pick-keeps No (eqb (length (a ∷ l)) 1) (λ e. w.one (eqb-true _ 1 e))
    (λ e.
    pick-keeps No (eqb (length (a ∷ l)) 3) (λ e. w.three (eqb-true _ 3 e) _ _)
    (λ e.
    pick-keeps No (eqb (length (a ∷ l)) 4) (λ e. w.four (eqb-true _ 4 e) _ _ _)
    (λ e. pick-keeps No (eqb (length (a ∷ l)) 7) (λ e. w.seven (eqb-true _ 7 e) _ _ _ _ _ _) (λ e. refl)))))

-- ---- what a text begins with

frame-long : (l : List ℕ) → 4 ≤ length l
    → is_frame l ≡ pick (eqb (get_or l 0 0) 70) (pick (eqb (get_or l 1 0) 9) (pick (eqb (get_or l 3 0) 9) true false) false) false
unfolding is_frame
frame-long l h = pick-false _ _ _ (le-ltb (length l) 4 h)

take-frame : (t : List ℕ) (m : ℕ) → is_frame t ≡ false → is_frame (take m t) ≡ false
unfolding is_frame
take-frame t m f =
    by-test (ltb (length (take m t)) 4) (λ e. pick_true _ _ _ e)
    (λ e.
    let n : length (take m t) ≡ min m (length t) = length-take m t in
    let h : 4 ≤ length (take m t) = ltb-false _ 4 e in
    let k : 4 ≤ length t = omega arith in
    let i : 4 ≤ m = omega arith in
    frame-long (take m t) h
    ∙ rw (get_or-take m t 0 0 (omega arith), get_or-take m t 1 0 (omega arith), get_or-take m t 3 0 (omega arith)) (sym (frame-long t k) ∙ f))

one-text : (a : ℕ) (t : List ℕ) → line_of (take 1 (a ∷ t)) ≡ plain_of (one_of a)
unfolding line_of is_frame short_of pick
one-text a t = refl

three-text : (a : ℕ) (t : List ℕ) → 3 ≤ length (a ∷ t) → line_of (take 3 (a ∷ t)) ≡ plain_of (three_of a (get_or t 0 0) (get_or t 1 0))
unfolding line_of is_frame short_of pick
three-text a [] h = absurd (omega arith)
three-text a (b ∷ []) h = absurd (omega arith)
three-text a (b ∷ c ∷ t) h = refl

four-text : (a : ℕ) (t : List ℕ) → eqb a 70 ≡ false → 4 ≤ length (a ∷ t) → line_of (take 4 (a ∷ t)) ≡ plain_of (four_of a (get_or t 0 0) (get_or t 1 0) (get_or t 2 0))
unfolding line_of is_frame short_of pick
four-text a [] f h = absurd (omega arith)
four-text a (b ∷ []) f h = absurd (omega arith)
four-text a (b ∷ c ∷ []) f h = absurd (omega arith)
four-text a (b ∷ c ∷ d ∷ t) f h = rw f

seven-text : (a : ℕ) (t : List ℕ) → eqb a 70 ≡ false → 7 ≤ length (a ∷ t)
    → line_of (take 7 (a ∷ t)) ≡ plain_of (seven_of a (get_or t 0 0) (get_or t 1 0) (get_or t 2 0) (get_or t 3 0) (get_or t 4 0) (get_or t 5 0))
unfolding line_of is_frame short_of pick
seven-text a [] f h = absurd (omega arith)
seven-text a (b ∷ []) f h = absurd (omega arith)
seven-text a (b ∷ c ∷ []) f h = absurd (omega arith)
seven-text a (b ∷ c ∷ d ∷ []) f h = absurd (omega arith)
seven-text a (b ∷ c ∷ d ∷ x ∷ []) f h = absurd (omega arith)
seven-text a (b ∷ c ∷ d ∷ x ∷ y ∷ []) f h = absurd (omega arith)
seven-text a (b ∷ c ∷ d ∷ x ∷ y ∷ z ∷ t) f h = rw f

-- ---- a text that begins with a, and with no frame

module _ (a : ℕ) (t : List ℕ) (from : ℕ) (not : is_frame (a ∷ t) ≡ false) where
  unread : (m : ℕ) → m < length (a ∷ t) → Unread-by a m → (line_of (take m (a ∷ t))).line ≡ None
  unfolding line_of is_frame short_of pick
  unread zero h w = refl
  unread (suc m) h w =
      let n : length (take (suc m) (a ∷ t)) ≡ suc m = rw length-take (omega arith) in
      unread-by a (take m t) (take-frame (a ∷ t) (suc m) not) (rw n w)

  -- x is what k bytes are, and any other number of bytes is unread
  module _ (k : ℕ) (others : (m : ℕ) → (m ≡ k → ⊥) → Unread-by a m) where
    none-in : (k < length (a ∷ t) → get_or (a ∷ t) k 0 ≡ 10 → (line_of (take k (a ∷ t))).line ≡ None) → None ≡ found_in (a ∷ t) from
    none-in own =
        sym
        (none_found_lem (a ∷ t) from
        (λ m h e.
        by-test (eqb m k) (λ q. let z : m ≡ k = eqb-true m k q in rw z (own (rw z at h) (rw z at e)))
        (λ q. unread m h (others m (eqb-false m k q)))))

    by-length : (x : Option Call) → (k ≤ length (a ∷ t) → line_of (take k (a ∷ t)) ≡ plain_of x) → ended_by k x (a ∷ t) from ≡ found_in (a ∷ t) from
    by-length None own =
        pick-keeps (λ (r : Option Found). r ≡ found_in (a ∷ t) from) (eqb (get_or (a ∷ t) k 0) 10)
        (λ q. none-in (λ h e. ap (λ (p : Parsed). p.line) (own (omega arith)))) (λ q. none-in (λ h e. ap (λ (p : Parsed). p.line) (own (omega arith))))
    by-length (Some call) own =
        pick-keeps (λ (r : Option Found). r ≡ found_in (a ∷ t) from) (eqb (get_or (a ∷ t) k 0) 10)
        (λ q.
        let e : get_or (a ∷ t) k 0 ≡ 10 = eqb-true _ 10 q in
        let h : k < length (a ∷ t) = within (a ∷ t) k e in
        sym (step-found (a ∷ t) from k call no_frame (own (omega arith)) h e))
        (λ q. none-in (λ h e. absurd (eqb-false _ 10 q e)))

-- ---- by the first letter

module _ (a : ℕ) (t : List ℕ) (from : ℕ) (f : is_frame (a ∷ t) ≡ false) where
  seven : a ≡ 87 → ended_by 7 (seven_of a (get_or t 0 0) (get_or t 1 0) (get_or t 2 0) (get_or t 3 0) (get_or t 4 0) (get_or t 5 0)) (a ∷ t) from ≡ found_in (a ∷ t) from
  seven z =
      by-length a t from f 7
      (λ m n. record {
        one = λ q. one-other a (rw z refl) (rw z refl) (rw z refl);
        three = λ q. three-other a (rw z refl) (rw z refl);
        four = λ q. four-other a (rw z refl) (rw z refl);
        seven = λ q. absurd (n q);
      }) _
      (seven-text a t (rw z refl))

  four : eqb a 70 ≡ false → eqb a 90 ≡ false → eqb a 77 ≡ false → eqb a 81 ≡ false → eqb a 83 ≡ false → eqb a 80 ≡ false → eqb a 87 ≡ false →
      ended_by 4 (four_of a (get_or t 0 0) (get_or t 1 0) (get_or t 2 0)) (a ∷ t) from ≡ found_in (a ∷ t) from
  four g x y z p q w =
      by-length a t from f 4 (λ m n. record { one = λ e. one-other a x y z; three = λ e. three-other a p q; four = λ e. absurd (n e); seven = λ e. seven-other a w }) _
      (four-text a t g)

  three : eqb a 90 ≡ false → eqb a 77 ≡ false → eqb a 81 ≡ false → eqb a 82 ≡ false → eqb a 84 ≡ false → eqb a 87 ≡ false →
      ended_by 3 (three_of a (get_or t 0 0) (get_or t 1 0)) (a ∷ t) from ≡ found_in (a ∷ t) from
  three x y z r s w =
      by-length a t from f 3 (λ m n. record { one = λ e. one-other a x y z; three = λ e. absurd (n e); four = λ e. four-other a r s; seven = λ e. seven-other a w }) _
      (three-text a t)

  one : eqb a 82 ≡ false → eqb a 84 ≡ false → eqb a 83 ≡ false → eqb a 80 ≡ false → eqb a 87 ≡ false → ended_by 1 (one_of a) (a ∷ t) from ≡ found_in (a ∷ t) from
  one r s p q w =
      by-length a t from f 1 (λ m n. record { one = λ e. absurd (n e); three = λ e. three-other a p q; four = λ e. four-other a r s; seven = λ e. seven-other a w }) _
      (λ h. one-text a t)

  abbrev Is : Option Found → Type 0
  Is r = r ≡ found_in (a ∷ t) from

  plain : read_of (a ∷ t) from ≡ found_in (a ∷ t) from
  unfolding read_of
  plain =
      pick-false _ _ _ f
      ∙ pick-keeps Is (eqb a 87) (λ e. seven (eqb-true a 87 e))
      (λ w.
      pick-keeps Is (eqb a 82)
      (λ e. let z = eqb-true a 82 e in four (rw z refl) (rw z refl) (rw z refl) (rw z refl) (rw z refl) (rw z refl) (rw z refl))
      (λ r.
      pick-keeps Is (eqb a 84)
      (λ e. let z = eqb-true a 84 e in four (rw z refl) (rw z refl) (rw z refl) (rw z refl) (rw z refl) (rw z refl) (rw z refl))
      (λ s.
      pick-keeps Is (eqb a 83) (λ e. let z = eqb-true a 83 e in three (rw z refl) (rw z refl) (rw z refl) (rw z refl) (rw z refl) (rw z refl))
      (λ p.
      pick-keeps Is (eqb a 80) (λ e. let z = eqb-true a 80 e in three (rw z refl) (rw z refl) (rw z refl) (rw z refl) (rw z refl) (rw z refl))
      (λ q. one r s p q w)))))

-- a frame's letter and its tabs
framed : (t : List ℕ) (from : ℕ) → is_frame t ≡ true → read_of t from ≡ found_in t from
unfolding read_of
framed [] from f = absurd (omega (arith, begun-length [] f))
framed (a ∷ []) from f = absurd (omega (arith, begun-length (a ∷ []) f))
framed (a ∷ b ∷ []) from f = absurd (omega (arith, begun-length (a ∷ b ∷ []) f))
framed (a ∷ b ∷ v ∷ []) from f = absurd (omega (arith, begun-length (a ∷ b ∷ v ∷ []) f))
framed (a ∷ b ∷ v ∷ d ∷ ds) from f =
    let w = begun (a ∷ b ∷ v ∷ d ∷ ds) f in
    pick_true _ _ _ f ∙ rw (w.0, w.1.0, w.1.1) (frame-found v ds from)

pub read_is : (t : List ℕ) (from : ℕ) → read_of t from ≡ found_in t from
unfolding read_of is_frame found_in lf_in pick
read_is [] from = refl
read_is (a ∷ t) from = by-test (is_frame (a ∷ t)) (λ f. framed (a ∷ t) from f) (λ f. plain a t from f)

-- a text from an index of a longer one
pub past-end : (s : List ℕ) (from : ℕ) → length s < from → None ≡ found_at s from
unfolding found_in lf_in pick
past-end s from h = let l : length s ≤ from = omega arith in rw (drop_of_length-le s l)

pub in-text : (s : List ℕ) (from : ℕ) → read_of (take (length s - from) (drop from s)) from ≡ found_at s from
in-text s from = rw (take_all (length s - from) (drop from s) (omega (arith, length-drop from s))) (read_is (drop from s) from)
