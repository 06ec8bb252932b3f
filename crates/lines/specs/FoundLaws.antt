-- Laws of a step that stands in a text: no LF is inside its line, so the first LF behind it ends it.
use Rattle.std.specs.Prelude.{ℕ, zero, suc, ◌+◌, ◌-◌, ◌≤◌, ◌<◌, ◌≡◌, refl, List, [], ◌∷◌, Bool, true, false, take, drop, set, ltb, eqb, Option, Some, None}
use native.Mathlib.Omega.{arith}
use Rattle.std.proofs.Common.{sym, ◌∙◌, length-take, length-drop, get_or-take, get_or-drop}
use Rattle.std.proofs.Math.Path.{ap}
use Rattle.std.proofs.lemmas.Bool.{false≢true}
use borrow.Author.Tests.{lt-ltb, ltb-true, ltb-false, eqb-true, eqb-false}
use Rattle.std.proofs.Math.ListN.{length, get_or}
use Rattle.masks.specs.Pick.{pick}
use Rattle.masks.specs.PickLaws.{pick_true, pick-keeps, by-test}
use Rattle.controller.specs.declared.Call.{Call}
use Rattle.lines.specs.declared.FrameBytes.{FrameBytes}
use Rattle.lines.specs.declared.Parsed.{Parsed}
use Rattle.lines.specs.declared.Found.{Found}
use Rattle.lines.specs.Grammar.{nibble_of, byte_of, plain_of, one_of, sync_of, fault_of, three_of, four_of, seven_of, short_of, is_frame, decode_from, frame_line, line_of}
use Rattle.lines.specs.Found.{lf_in, found_by, found_in, found_at}

-- ---- digits

pub byte_high : (h l : ℕ) → 15 < nibble_of h → byte_of h l ≡ 256
unfolding byte_of
byte_high h l p = pick_true _ _ _ (lt-ltb 15 (nibble_of h) p)

pub byte_low : (h l : ℕ) → 15 < nibble_of l → byte_of h l ≡ 256
unfolding byte_of
byte_low h l p = pick-keeps (λ (x : ℕ). x ≡ 256) (ltb 15 (nibble_of h)) (λ e. refl) (λ e. pick_true _ _ _ (lt-ltb 15 (nibble_of l) p))

-- an LF is no digit
pub lf-high : (h l : ℕ) → byte_of h l ≤ 255 → h ≡ 10 → ⊥
unfolding nibble_of pick
lf-high h l p e = let z : 15 < nibble_of h = rw e (omega arith) in omega (arith, byte_high h l z)

lf-low : (h l : ℕ) → byte_of h l ≤ 255 → l ≡ 10 → ⊥
unfolding nibble_of pick
lf-low h l p e = let z : 15 < nibble_of l = rw e (omega arith) in omega (arith, byte_low h l z)

-- ---- a line with an LF inside is no step

abbrev No : Option Call → Type 0
No x = x ≡ None

abbrev Plain : Parsed → Type 0
Plain p = p ≡ plain_of None

pub past : (b n : ℕ) → (b ≡ n → ⊥) → n ≤ b → n + 1 ≤ b
past b n p q = omega arith

-- the LF stands at index j
module _ (l : List ℕ) (j : ℕ) (e : get_or l j 0 ≡ 10) where
  -- it is none of the bytes that are known not to be one
  other : (i b : ℕ) → get_or l i 0 ≡ b → (b ≡ 10 → ⊥) → j ≡ i → ⊥
  other i b p n q = n (sym p ∙ ap (λ (k : ℕ). get_or l k 0) (sym q) ∙ e)

  high : (i k : ℕ) → byte_of (get_or l i 0) (get_or l k 0) ≤ 255 → j ≡ i → ⊥
  high i k h = other i _ refl (lf-high _ _ h)

  low : (i k : ℕ) → byte_of (get_or l i 0) (get_or l k 0) ≤ 255 → j ≡ k → ⊥
  low i k h = other k _ refl (lf-low _ _ h)

  one-lf : j < 1 → No (one_of (get_or l 0 0))
  unfolding one_of pick
  one-lf h = let z : j ≡ 0 = omega arith in let y : get_or l 0 0 ≡ 10 = ap (λ (k : ℕ). get_or l k 0) (sym z) ∙ e in ap one_of y

  sync-lf : j ≡ 2 → No (sync_of (get_or l 2 0))
  unfolding sync_of pick
  sync-lf z = let y : get_or l 2 0 ≡ 10 = ap (λ (k : ℕ). get_or l k 0) (sym z) ∙ e in ap sync_of y

  fault-lf : j ≡ 2 → No (fault_of (get_or l 2 0))
  unfolding fault_of pick
  fault-lf z = let y : get_or l 2 0 ≡ 10 = ap (λ (k : ℕ). get_or l k 0) (sym z) ∙ e in ap fault_of y

  three-lf : j < 3 → No (three_of (get_or l 0 0) (get_or l 1 0) (get_or l 2 0))
  unfolding three_of
  three-lf h =
      pick-keeps No (eqb (get_or l 1 0) 9)
      (λ t.
      let q = other 1 9 (eqb-true _ 9 t) (λ z. omega arith) in
      let last : (j ≡ 0 → ⊥) → j ≡ 2 = λ p. omega arith in
      pick-keeps No (eqb (get_or l 0 0) 83) (λ a. sync-lf (last (other 0 83 (eqb-true _ 83 a) (λ z. omega arith))))
      (λ a. pick-keeps No (eqb (get_or l 0 0) 80) (λ b. fault-lf (last (other 0 80 (eqb-true _ 80 b) (λ z. omega arith)))) (λ b. refl)))
      (λ t. refl)

  four-lf : j < 4 → No (four_of (get_or l 0 0) (get_or l 1 0) (get_or l 2 0) (get_or l 3 0))
  unfolding four_of
  four-lf h =
      pick-keeps No (eqb (get_or l 1 0) 9)
      (λ t.
      pick-keeps No (ltb 255 (byte_of (get_or l 2 0) (get_or l 3 0))) (λ d. refl)
      (λ d.
      let q = other 1 9 (eqb-true _ 9 t) (λ z. omega arith) in
      let d = ltb-false 255 _ d in
      let never : (j ≡ 0 → ⊥) → ⊥ = λ p. let k = past j 3 (low 2 3 d) (past j 2 (high 2 3 d) (past j 1 q (past j 0 p (omega arith)))) in omega arith in
      pick-keeps No (eqb (get_or l 0 0) 82) (λ a. absurd (never (other 0 82 (eqb-true _ 82 a) (λ z. omega arith))))
      (λ a. pick-keeps No (eqb (get_or l 0 0) 84) (λ b. absurd (never (other 0 84 (eqb-true _ 84 b) (λ z. omega arith)))) (λ b. refl))))
      (λ t. refl)

  seven-lf : j < 7 → No (seven_of (get_or l 0 0) (get_or l 1 0) (get_or l 2 0) (get_or l 3 0) (get_or l 4 0) (get_or l 5 0) (get_or l 6 0))
  unfolding seven_of
  seven-lf h =
      pick-keeps No (eqb (get_or l 0 0) 87)
      (λ a.
      pick-keeps No (eqb (get_or l 1 0) 9)
      (λ t.
      pick-keeps No (eqb (get_or l 4 0) 9)
      (λ u.
      pick-keeps No (ltb 255 (byte_of (get_or l 2 0) (get_or l 3 0))) (λ c. refl)
      (λ c.
      pick-keeps No (ltb 255 (byte_of (get_or l 5 0) (get_or l 6 0))) (λ d. refl)
      (λ d.
      let c = ltb-false 255 _ c in
      let d = ltb-false 255 _ d in
      let three = past j 2 (high 2 3 c) (past j 1 (other 1 9 (eqb-true _ 9 t) (λ z. omega arith)) (past j 0 (other 0 87 (eqb-true _ 87 a) (λ z. omega arith)) (omega arith))) in
      let k = past j 6 (low 5 6 d) (past j 5 (high 5 6 d) (past j 4 (other 4 9 (eqb-true _ 9 u) (λ z. omega arith)) (past j 3 (low 2 3 c) three))) in
      absurd (omega arith))))
      (λ u. refl))
      (λ t. refl))
      (λ a. refl)

  short-lf : j < length l → No (short_of l)
  unfolding short_of
  short-lf h =
      pick-keeps No (eqb (length l) 1) (λ n. one-lf (rw (eqb-true (length l) 1 n) at h))
      (λ n.
      pick-keeps No (eqb (length l) 3) (λ n. three-lf (rw (eqb-true (length l) 3 n) at h))
      (λ n.
      pick-keeps No (eqb (length l) 4) (λ n. four-lf (rw (eqb-true (length l) 4 n) at h))
      (λ n. pick-keeps No (eqb (length l) 7) (λ n. seven-lf (rw (eqb-true (length l) 7 n) at h)) (λ n. refl))))

decoded-lf : (g : Bool) (bytes : List ℕ) (i : ℕ) (ds : List ℕ) (j : ℕ) → j < length ds → get_or ds j 0 ≡ 10 → Plain (decode_from g bytes i ds)
unfolding decode_from
decoded-lf g bytes i [] j h e = absurd (omega arith)
decoded-lf g bytes i (x ∷ []) j h e = refl
decoded-lf g bytes i (x ∷ y ∷ ds) zero h e =
    pick-keeps Plain (ltb 255 (byte_of x y)) (λ t. refl) (λ t. absurd (lf-high x y (ltb-false 255 _ t) e))
decoded-lf g bytes i (x ∷ y ∷ ds) (suc zero) h e =
    pick-keeps Plain (ltb 255 (byte_of x y)) (λ t. refl) (λ t. absurd (lf-low x y (ltb-false 255 _ t) e))
decoded-lf g bytes i (x ∷ y ∷ ds) (suc (suc j)) h e =
    pick-keeps Plain (ltb 255 (byte_of x y)) (λ t. refl) (λ t. decoded-lf g (set bytes i (byte_of x y)) (i + 1) ds j (omega arith) e)

digits-lf : (v : ℕ) (ds : List ℕ) (j : ℕ) → j < length ds → get_or ds j 0 ≡ 10 → Plain (frame_line v ds)
unfolding frame_line
digits-lf v ds j h e =
    pick-keeps Plain (eqb v 71) (λ t. decoded-lf true _ 0 ds j h e) (λ t. pick-keeps Plain (eqb v 66) (λ u. decoded-lf false _ 0 ds j h e) (λ u. refl))

verdict-lf : (v : ℕ) (ds : List ℕ) → v ≡ 10 → Plain (frame_line v ds)
unfolding frame_line pick
verdict-lf v ds e = ap (λ (b : ℕ). frame_line b ds) e

-- a line that begins as a frame's has an F, and a tab on either side of its verdict
abbrev pub Begun : List ℕ → Type 0
Begun l = (get_or l 0 0 ≡ 70) × ((get_or l 1 0 ≡ 9) × (get_or l 3 0 ≡ 9))

pub begun : (l : List ℕ) → is_frame l ≡ true → Begun l
unfolding is_frame
begun l =
    pick-keeps Q (ltb (length l) 4) (λ n e. absurd (false≢true e))
    (λ n.
    pick-keeps Q (eqb (get_or l 0 0) 70)
    (λ a.
    pick-keeps Q (eqb (get_or l 1 0) 9)
    (λ t. pick-keeps Q (eqb (get_or l 3 0) 9) (λ u e. (eqb-true _ 70 a, (eqb-true _ 9 t, eqb-true _ 9 u))) (λ u e. absurd (false≢true e)))
    (λ t e. absurd (false≢true e)))
    (λ a e. absurd (false≢true e)))
  where
    Q : Bool → Type 0
    Q t = t ≡ true → Begun l

frame-lf : (l : List ℕ) (j : ℕ) → is_frame l ≡ true → j < length l → get_or l j 0 ≡ 10 → Plain (frame_line (get_or l 2 0) (drop 4 l))
frame-lf l j f h e =
    let b = begun l f in
    by-test (ltb j 4)
    (λ t.
    let k : j < 4 = ltb-true j 4 t in
    let p = other l j e 0 70 b.0 (λ z. omega arith) in
    let q = other l j e 1 9 b.1.0 (λ z. omega arith) in
    let r = other l j e 3 9 b.1.1 (λ z. omega arith) in
    let z : j ≡ 2 = omega arith in
    verdict-lf _ _ (ap (λ (i : ℕ). get_or l i 0) (sym z) ∙ e))
    (λ t.
    let k : 4 ≤ j = ltb-false j 4 t in
    let z : 4 + (j - 4) ≡ j = omega arith in
    digits-lf _ _ (j - 4) (omega (arith, length-drop 4 l)) (get_or-drop 4 l (j - 4) 0 ∙ ap (λ (i : ℕ). get_or l i 0) z ∙ e))

pub lf-unread : (l : List ℕ) (j : ℕ) → j < length l → get_or l j 0 ≡ 10 → line_of l ≡ plain_of None
unfolding line_of
lf-unread l j h e =
    pick-keeps Plain (ltb 64 (length l)) (λ t. refl)
    (λ t. pick-keeps Plain (is_frame l) (λ f. frame-lf l j f h e) (λ f. ap plain_of (short-lf l j e h)))

-- ---- the first LF

pub lf-at : (t : List ℕ) → lf_in t < length t → get_or t (lf_in t) 0 ≡ 10
unfolding lf_in
lf-at [] = λ h. absurd (omega arith)
lf-at (b ∷ bs) =
    pick-keeps (λ (i : ℕ). i < suc (length bs) → get_or (b ∷ bs) i 0 ≡ 10) (eqb b 10) (λ e h. eqb-true b 10 e) (λ e h. lf-at bs (omega arith))

-- it stands before any other
pub lf-first : (t : List ℕ) (k : ℕ) → k < length t → get_or t k 0 ≡ 10 → lf_in t ≤ k
unfolding lf_in
lf-first [] k h e = absurd (omega arith)
lf-first (b ∷ bs) zero h e = pick-keeps (λ (i : ℕ). i ≤ 0) (eqb b 10) (λ p. omega arith) (λ p. absurd (eqb-false b 10 p e))
lf-first (b ∷ bs) (suc k) h e =
    let l : lf_in bs ≤ k = lf-first bs k (omega arith) e in
    pick-keeps (λ (i : ℕ). i ≤ suc k) (eqb b 10) (λ p. omega arith) (λ p. omega arith)

pub no_step : {A : Type 0} (call : Call) → None ≡ Some call → A
no_step call e = absurd (let z : ◌≡◌ {A = ℕ} 0 1 = cc in omega arith)

-- ---- what is found

module _ (t : List ℕ) (from : ℕ) where
  pub none_found_lem : ((m : ℕ) → m < length t → get_or t m 0 ≡ 10 → (line_of (take m t)).line ≡ None) → found_in t from ≡ None
  unfolding found_in
  none_found_lem f =
      pick-keeps (λ (r : Option Found). r ≡ None) (ltb (lf_in t) (length t))
      (λ e.
      let h : lf_in t < length t = ltb-true (lf_in t) (length t) e in
      ap (λ (x : Option Call). found_by x (line_of (take (lf_in t) t)).frame (from + lf_in t)) (f (lf_in t) h (lf-at t h)))
      (λ e. refl)

  -- k bytes that are a step
  module _ (k : ℕ) (call : Call) (f : FrameBytes) (own : line_of (take k t) ≡ record { line = Some call; frame = f }) where
    pub no-lf : (j : ℕ) → j < k → j < length t → get_or t j 0 ≡ 10 → ⊥
    no-lf j h i e =
        let l : j < length (take k t) = rw length-take (omega arith) in
        let u : line_of (take k t) ≡ plain_of None = lf-unread (take k t) j l (get_or-take k t j 0 h ∙ e) in
        no_step call (ap (λ (p : Parsed). p.line) (sym u ∙ own))

    pub step-found : k < length t → get_or t k 0 ≡ 10 → found_in t from ≡ found_by (Some call) f (from + k)
    unfolding found_in
    step-found h e =
        let l : lf_in t ≤ k = lf-first t k h e in
        let i : lf_in t < length t = omega arith in
        let z : lf_in t ≡ k = by-test (eqb (lf_in t) k) (λ n. eqb-true _ _ n)
        (λ n. let d : lf_in t ≡ k → ⊥ = eqb-false _ _ n in absurd (no-lf (lf_in t) (omega arith) i (lf-at t i))) in
        pick_true _ _ _ (lt-ltb _ _ i)
        ∙ ap (λ (n : ℕ). found_by (line_of (take n t)).line (line_of (take n t)).frame (from + n)) z
        ∙ ap (λ (p : Parsed). found_by p.line p.frame (from + k)) own

-- ---- what a step that is found says of its line

by-some : (p : Parsed) (at : ℕ) (r : Found) → found_by p.line p.frame at ≡ Some r → (r.at ≡ at) × (p ≡ record { line = Some r.call; frame = r.frame })
by-some p at r = by-line p.line refl where
  by-line : (x : Option Call) → p.line ≡ x → found_by x p.frame at ≡ Some r → (r.at ≡ at) × (p ≡ record { line = Some r.call; frame = r.frame })
  by-line (Some call) q e =
      let z : ◌≡◌ {A = Found} (record { call = call; frame = p.frame; at = at }) r = cc in
      (ap (λ (x : Found). x.at) (sym z), ap (λ (x : Option Call). record { line = x; frame = p.frame }) q ∙ ap (λ (x : Found). record { line = Some x.call; frame = x.frame }) z)
  by-line None q e = absurd (cc)

by-none : (x : Option Call) (f : FrameBytes) (at : ℕ) → found_by x f at ≡ None → x ≡ None
by-none (Some call) f at e = absurd (cc)
by-none None f at e = refl

module _ (s : List ℕ) (from : ℕ) where
  abbrev rest : List ℕ
  rest = drop from s

  abbrev own : Parsed
  own = line_of (take (lf_in rest) rest)

  -- its LF is its line's
  pub found-lf : (r : Found) → found_at s from ≡ Some r → (r.at ≡ from + lf_in (drop from s)) × (lf_in (drop from s) < length (drop from s))
  unfolding found_in
  found-lf r =
      pick-keeps (λ (x : Option Found). x ≡ Some r → (r.at ≡ from + lf_in rest) × (lf_in rest < length rest)) (ltb (lf_in rest) (length rest))
      (λ t e. ((by-some own (from + lf_in rest) r e).0, ltb-true (lf_in rest) (length rest) t)) (λ t e. absurd (cc))

  pub found-step : (r : Found) → found_at s from ≡ Some r
      → line_of (take (lf_in (drop from s)) (drop from s)) ≡ record { line = Some r.call; frame = r.frame }
  unfolding found_in
  found-step r =
      pick-keeps (λ (x : Option Found). x ≡ Some r → own ≡ record { line = Some r.call; frame = r.frame }) (ltb (lf_in rest) (length rest))
      (λ t e. (by-some own (from + lf_in rest) r e).1) (λ t e. absurd (cc))

  pub found_none : found_at s from ≡ None → lf_in (drop from s) < length (drop from s) → (line_of (take (lf_in (drop from s)) (drop from s))).line ≡ None
  unfolding found_in
  found_none =
      pick-keeps (λ (x : Option Found). x ≡ None → lf_in rest < length rest → own.line ≡ None) (ltb (lf_in rest) (length rest))
      (λ t e k. by-none own.line own.frame (from + lf_in rest) e)
      (λ t e k. absurd (omega (arith, ltb-false (lf_in rest) (length rest) t)))

  -- at index 0 there is no LF of a step: its line has at least one byte
  empty : lf_in rest ≡ 0 → own.line ≡ None
  unfolding line_of is_frame short_of pick
  empty e = ap (λ (n : ℕ). (line_of (take n rest)).line) e

  -- so a step that is found has its LF behind index 0
  pub found_nothing : (r : Found) → found_at s from ≡ Some r → r.at ≡ 0 → ⊥
  found_nothing r e z =
      let l : lf_in rest ≡ 0 = omega (arith, (found-lf r e).0) in
      no_step r.call (sym (empty l) ∙ ap (λ (p : Parsed). p.line) (found-step r e))
