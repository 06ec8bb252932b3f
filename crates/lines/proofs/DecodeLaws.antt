-- A frame's digits, two a byte.
use Rattle.std.proofs.Common.{ℕ, zero, suc, ◌+◌, ◌-◌, ◌*◌, ◌≤◌, ◌<◌, ◌≡◌, refl, ap, sym, ◌∙◌, arith, List, [], ◌∷◌, Bool, true, false, length, take, drop, get_or, set, ltb, eqb, lt-ltb, le-ltb, ltb-true, ltb-false, eqb-true, eq-eqb, ne_eqb, length-take, Option, Some, None, take_all}
use Rattle.std.proofs.lemmas.Bool.{eqb-false}
use Rattle.masks.specs.Pick.{pick}
use Rattle.masks.specs.PickLaws.{pick_true, pick-false, pick-keeps, by-test}
use Rattle.controller.specs.declared.Call.TheVariants.{Frame}
use Rattle.lines.specs.declared.FrameBytes.{FrameBytes}
use Rattle.lines.specs.declared.Parsed.{Parsed}
use Rattle.lines.specs.Grammar.{no_bytes, byte_of, plain_of, one_of, three_of, short_of, is_frame, decode_from, frame_line, line_of}
use Rattle.lines.specs.Laws.{over-unread}
use Rattle.lines.specs.Found.{found_by, found_in}
use Rattle.lines.specs.FoundLaws.{lf-high, none_found_lem, step-found}
use Rattle.lines.specs.CodeFound.{below, verdict_of, count_in, put_in, frame_in, framed_in, verdict_then}
use Rattle.lines.proofs.DigitLaws.{below-some, below-none}

-- ---- the loop in `frame_bytes`, before byte i

-- the digits s are left, with room for n bytes
pub record Left (digits b : List ℕ) (i n : ℕ) (s : List ℕ) : Type 0 where
  pub bytes : put_in no_bytes 0 30 digits ≡ put_in b i n s
  pub count : count_in 30 digits ≡ i + count_in n s

-- no byte more
ended : {digits b : List ℕ} {i n : ℕ} {s : List ℕ} → Left digits b i n s → put_in b i n s ≡ b → count_in n s ≡ 0 → record { bytes = b; size = i } ≡ frame_in digits
ended {digits} {b} {i} {n} {s} w p q =
    let z : count_in 30 digits ≡ i = omega (arith, w.count) in
    sym (rw (w.bytes, p, z))

pub no-room : {digits b : List ℕ} {i n : ℕ} {s : List ℕ} → Left digits b i n s → n ≡ 0 → i ≡ 30 → record { bytes = b; size = 30 } ≡ frame_in digits
unfolding put_in count_in
no-room {digits} {b} {i} {n} {s} w e k =
    ap (λ (j : ℕ). record { bytes = b; size = j }) (sym k) ∙ ended w (ap (λ (j : ℕ). put_in b i j s) e) (ap (λ (j : ℕ). count_in j s) e)

pub one-left : {digits b : List ℕ} {i n : ℕ} {s : List ℕ} → Left digits b i n s → length s < 2 → record { bytes = b; size = i } ≡ frame_in digits
unfolding put_in count_in
one-left {n = zero} w h = ended w refl refl
one-left {n = suc n} {s = []} w h = ended w refl refl
one-left {n = suc n} {s = x ∷ []} w h = ended w refl refl
one-left {n = suc n} {s = x ∷ y ∷ s} w h = absurd (omega arith)

pub none-left : {digits b : List ℕ} {i n : ℕ} {s : List ℕ} {r : Option ℕ} → Left digits b i n s → r ≡ below 256 (byte_of (get_or s 0 0) (get_or s 1 0)) → r ≡ None →
    record { bytes = b; size = i } ≡ frame_in digits
unfolding put_in count_in
none-left {n = zero} w e f = ended w refl refl
none-left {n = suc n} {s = []} w e f = ended w refl refl
none-left {n = suc n} {s = x ∷ []} w e f = ended w refl refl
none-left {n = suc n} {s = x ∷ y ∷ s} w e f =
    let t : ltb 255 (byte_of x y) ≡ true = lt-ltb 255 (byte_of x y) (omega (arith, below-none 256 (byte_of x y) (sym e ∙ f))) in
    ended w (pick_true _ _ _ t) (pick_true _ _ _ t)

-- a byte more
pub two-left : {digits b : List ℕ} {i n : ℕ} {s : List ℕ} {r : Option ℕ} {v : ℕ} → Left digits b i n s → 0 < n → 2 ≤ length s → r ≡ below 256 (byte_of (get_or s 0 0) (get_or s 1 0)) → r ≡ Some v →
    Left digits (set b i v) (i + 1) (n - 1) (take (length s - 2) (drop 2 s))
unfolding put_in count_in
two-left {n = zero} w l h e f = absurd (omega arith)
two-left {n = suc n} {s = []} w l h e f = absurd (omega arith)
two-left {n = suc n} {s = x ∷ []} w l h e f = absurd (omega arith)
two-left {digits} {b} {i} {n = suc n} {s = x ∷ y ∷ s} {r} {v} w l h e f =
    let p = below-some 256 (byte_of x y) v (sym e ∙ f) in
    let t : ltb 255 (byte_of x y) ≡ false = le-ltb 255 (byte_of x y) (omega arith) in
    let z : take (length (x ∷ y ∷ s) - 2) s ≡ s = take_all (length (x ∷ y ∷ s) - 2) s (omega arith) in
    let m : suc n - 1 ≡ n = omega arith in
    let k : i + suc (count_in n s) ≡ i + 1 + count_in n s = omega arith in
    rw (z, m, p.0) (record { bytes = w.bytes ∙ pick-false _ _ _ t; count = w.count ∙ ap (λ (c : ℕ). i + c) (pick-false _ _ _ t) ∙ k })

count-le : (n : ℕ) (ds : List ℕ) → count_in n ds ≤ n
unfolding count_in
count-le zero ds = omega arith
count-le (suc n) [] = omega arith
count-le (suc n) (x ∷ []) = omega arith
count-le (suc n) (x ∷ y ∷ ds) = pick-keeps (λ (c : ℕ). c ≤ suc n) (ltb 255 (byte_of x y)) (λ t. omega arith) (λ t. omega (arith, count-le n ds))

-- an LF stands within the list
pub within : (l : List ℕ) (i : ℕ) → get_or l i 0 ≡ 10 → i < length l
within [] i e = absurd (let z : ◌≡◌ {A = ℕ} 0 10 = e in omega arith)
within (x ∷ l) zero e = omega arith
within (x ∷ l) (suc i) e = omega (arith, within l i e)

-- ---- what the digits before index k mean, c of them being a frame's bytes

-- all of these
decoded-from : (g : Bool) (n : ℕ) (b : List ℕ) (i : ℕ) (ds : List ℕ) → decode_from g b i (take (count_in n ds + count_in n ds) ds)
    ≡ record { line = Some (Frame g); frame = record { bytes = put_in b i n ds; size = i + count_in n ds } }
unfolding decode_from put_in count_in
decoded-from g zero b i ds = let z : i + 0 ≡ i = omega arith in rw z
decoded-from g (suc n) b i [] = let z : i + 0 ≡ i = omega arith in rw z
decoded-from g (suc n) b i (x ∷ []) = let z : i + 0 ≡ i = omega arith in rw z
decoded-from g (suc n) b i (x ∷ y ∷ ds) =
    by-test (ltb 255 (byte_of x y)) (λ t. let z : i + 0 ≡ i = omega arith in simp (t, pick_true) (rw z))
    (λ t.
    let c : ℕ = count_in n ds in
    let z : suc c + suc c ≡ suc (suc (c + c)) = omega arith in
    let k : i + suc c ≡ i + 1 + c = omega arith in
    simp (t, pick-false) (rw (z, k) (pick-false _ _ _ t ∙ decoded-from g n (set b i (byte_of x y)) (i + 1) ds)))

-- any others, if an LF or nothing stands behind them
stopped-from : (g : Bool) (n : ℕ) (b : List ℕ) (i : ℕ) (ds : List ℕ) (k : ℕ) → k ≤ length ds → k ≤ n + n → (k ≡ count_in n ds + count_in n ds → ⊥) →
    (k < length ds → get_or ds k 0 ≡ 10) → decode_from g b i (take k ds) ≡ plain_of None
unfolding decode_from count_in
stopped-from g zero b i ds k h l d e = absurd (d (omega arith))
stopped-from g (suc n) b i [] k h l d e = absurd (d (omega arith))
stopped-from g (suc n) b i (x ∷ []) zero h l d e = absurd (d refl)
stopped-from g (suc n) b i (x ∷ []) (suc k) h l d e = let z : k ≡ 0 = omega arith in rw z
stopped-from g (suc n) b i (x ∷ y ∷ ds) zero h l d e =
    by-test (ltb 255 (byte_of x y)) (λ t. absurd (d (rw (pick_true (ltb 255 (byte_of x y)) 0 (suc (count_in n ds)) t))))
    (λ t. absurd (lf-high x y (ltb-false 255 _ t) (e (omega arith))))
stopped-from g (suc n) b i (x ∷ y ∷ ds) (suc zero) h l d e = refl
stopped-from g (suc n) b i (x ∷ y ∷ ds) (suc (suc k)) h l d e =
    by-test (ltb 255 (byte_of x y)) (λ t. pick_true _ _ _ t)
    (λ t.
    let z : pick (ltb 255 (byte_of x y)) 0 (suc (count_in n ds)) ≡ suc (count_in n ds) = pick-false _ _ _ t in
    pick-false _ _ _ t ∙ stopped-from g n (set b i (byte_of x y)) (i + 1) ds k (omega arith) (omega arith) (λ q. d (omega arith)) (λ q. e (omega arith)))

-- ---- `decode`: up to the line's end

pub decoded : (g : Bool) (ds : List ℕ) (f : FrameBytes) → f ≡ frame_in ds → length ds ≡ f.size + f.size → decode_from g no_bytes 0 ds ≡ record { line = Some (Frame g); frame = f }
decoded g ds f e h =
    let z : 0 + count_in 30 ds ≡ count_in 30 ds = omega arith in
    let all : take (count_in 30 ds + count_in 30 ds) ds ≡ ds = take_all _ ds (omega (arith, rw e at h)) in
    rw e (rw (z, all) at (decoded-from g 30 no_bytes 0 ds))

pub stopped : (g : Bool) (ds : List ℕ) (f : FrameBytes) → f ≡ frame_in ds → length ds ≤ 60 → (length ds ≡ f.size + f.size → ⊥) → decode_from g no_bytes 0 ds ≡ plain_of None
stopped g ds f e h d =
    let all : take (length ds) ds ≡ ds = take_all (length ds) ds (omega arith) in
    rw all at (stopped-from g 30 no_bytes 0 ds (length ds) (omega arith) h (rw e at d) (λ q. absurd (omega arith)))

-- ---- `framed`: up to an LF, behind F, G or B and their tabs

-- the digits of a line that begins so
frame-line : (v : ℕ) (ds : List ℕ) → length ds ≤ 60 → line_of (70 ∷ 9 ∷ v ∷ 9 ∷ ds) ≡ frame_line v ds
unfolding line_of is_frame
frame-line v ds h =
    let l : length (70 ∷ 9 ∷ v ∷ 9 ∷ ds) ≤ 64 = omega arith in
    let m : 4 ≤ length (70 ∷ 9 ∷ v ∷ 9 ∷ ds) = omega arith in
    simp (pick_true, pick-false, le-ltb 64 _ l, le-ltb _ 4 m)

module _ (v : ℕ) (ds : List ℕ) (from : ℕ) where
  abbrev text : List ℕ
  text = 70 ∷ 9 ∷ v ∷ 9 ∷ ds

  -- the bytes before an LF, where its digits are none before each
  line-at : ((k : ℕ) → k ≤ 60 → k < length ds → get_or ds k 0 ≡ 10 → (frame_line v (take k ds)).line ≡ None) →
      (m : ℕ) → m < length text → get_or text m 0 ≡ 10 → (line_of (take m text)).line ≡ None
  unfolding line_of is_frame short_of one_of three_of pick
  line-at f zero h e = refl
  line-at f (suc zero) h e = refl
  line-at f (suc (suc zero)) h e = refl
  line-at f (suc (suc (suc zero))) h e = refl
  line-at f (suc (suc (suc (suc k)))) h e =
      by-test (ltb 60 k)
      (λ t.
      let l : 60 < k = ltb-true 60 k t in
      let o : 64 < length (take (suc (suc (suc (suc k)))) text) = rw length-take (omega arith) in
      ap (λ (p : Parsed). p.line) (over-unread (take (suc (suc (suc (suc k)))) text) o))
      (λ t.
      let l : k ≤ 60 = ltb-false 60 k t in
      let o : length (take k ds) ≤ 60 = rw length-take (omega arith) in
      ap (λ (p : Parsed). p.line) (frame-line v (take k ds) o) ∙ f k l (omega arith) e)

  no-verdict : ((l : List ℕ) → frame_line v l ≡ plain_of None) → found_in text from ≡ None
  no-verdict f = none_found_lem text from (line-at (λ k l h e. ap (λ (p : Parsed). p.line) (f (take k ds))))

  abbrev c : ℕ
  c = count_in 30 ds

  with-verdict : (g : Bool) → ((l : List ℕ) → frame_line v l ≡ decode_from g no_bytes 0 l) → framed_in g ds (from + 4) ≡ found_in text from
  unfolding framed_in
  with-verdict g f =
      by-test (eqb (get_or ds (c + c) 0) 10)
      (λ t.
      let e : get_or ds (c + c) 0 ≡ 10 = eqb-true _ 10 t in
      let h : c + c < length ds = within ds (c + c) e in
      let l : length (take (c + c) ds) ≤ 60 = rw length-take (omega (arith, count-le 30 ds)) in
      let z : 0 + c ≡ c = omega arith in
      let own : line_of (take (suc (suc (suc (suc (c + c))))) text) ≡ record { line = Some (Frame g); frame = frame_in ds } =
      frame-line v (take (c + c) ds) l ∙ f (take (c + c) ds) ∙ rw z at (decoded-from g 30 no_bytes 0 ds) in
      let y : from + 4 + (c + c) ≡ from + suc (suc (suc (suc (c + c)))) = omega arith in
      pick_true _ _ _ t ∙ ap (found_by (Some (Frame g)) (frame_in ds)) y ∙ sym (step-found text from (suc (suc (suc (suc (c + c))))) (Frame g) (frame_in ds) own (omega arith) e))
      (λ t.
      pick-false _ _ _ t
      ∙ sym
      (none_found_lem text from
      (line-at
      (λ k l h e.
      ap (λ (p : Parsed). p.line)
      (f (take k ds) ∙ stopped-from g 30 no_bytes 0 ds k (omega arith) l (λ q. eqb-false _ 10 t (ap (λ (i : ℕ). get_or ds i 0) (sym q) ∙ e)) (λ q. e))))))

  good : eqb v 71 ≡ true → (l : List ℕ) → frame_line v l ≡ decode_from true no_bytes 0 l
  unfolding frame_line
  good t l = pick_true _ _ _ t

  bad : eqb v 71 ≡ false → eqb v 66 ≡ true → (l : List ℕ) → frame_line v l ≡ decode_from false no_bytes 0 l
  unfolding frame_line
  bad t u l = pick-false _ _ _ t ∙ pick_true _ _ _ u

  other : eqb v 71 ≡ false → eqb v 66 ≡ false → (l : List ℕ) → frame_line v l ≡ plain_of None
  unfolding frame_line
  other t u l = pick-false _ _ _ t ∙ pick-false _ _ _ u

  pub frame-found : verdict_then (verdict_of v) ds (from + 4) ≡ found_in text from
  unfolding verdict_of
  frame-found =
      by-test (eqb v 71) (λ t. simp (t, pick_true) (with-verdict true (good t)))
      (λ t. by-test (eqb v 66) (λ u. simp (t, u, pick_true, pick-false) (with-verdict false (bad t u))) (λ u. simp (t, u, pick-false) (sym (no-verdict (other t u)))))

-- by what stands behind its digits
module _ (g : Bool) (ds : List ℕ) (from : ℕ) (f : FrameBytes) (e : f ≡ frame_in ds) where
  ends : 2 * f.size ≡ count_in 30 ds + count_in 30 ds
  ends = rw e (omega arith)

  pub framed-lf : get_or ds (2 * f.size) 0 ≡ 10 → Some (record { call = Frame g; frame = f; at = from + 2 * f.size }) ≡ framed_in g ds from
  unfolding framed_in
  framed-lf h =
      rw (ends, e) (sym (pick_true _ _ _ (eq-eqb _ 10 (ap (λ (i : ℕ). get_or ds i 0) (sym ends) ∙ h))))

  pub framed-none : (get_or ds (2 * f.size) 0 ≡ 10 → ⊥) → None ≡ framed_in g ds from
  unfolding framed_in
  framed-none h = sym (pick-false _ _ _ (ne_eqb _ 10 (λ q. h (ap (λ (i : ℕ). get_or ds i 0) ends ∙ q))))
