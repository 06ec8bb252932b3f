-- What is held of a line stands for the line: its bytes, or any line above 64 bytes where it has more.
use Rattle.std.specs.Prelude.{ℕ, zero, suc, ◌+◌, ◌-◌, ◌≤◌, ◌<◌, min, max, ◌≡◌, refl, ◌⊎◌, List, [], ◌∷◌, ◌++◌, length, take, drop, get_or, set, replicate, ltb, eqb}
use Rattle.std.proofs.Common.{arith, add-one, sym, ap, ◌∙◌, inl, inr, ⊎_elim, append_assoc, append-nil, lt-ltb, le-ltb, ltb-true, ltb-false, length-append, length-set, take-suc-set, drop-cons}
use Rattle.masks.specs.PickLaws.{pick_true, pick-false, pick-keeps}
use Rattle.pieces.specs.declared.Held.{Held}
use Rattle.pieces.specs.declared.Gathered.{Gathered}
use Rattle.pieces.specs.Feed.{none_held, push_of, line_in}
use Rattle.pieces.specs.CodeGather.{gather_from, gather_of}
use Rattle.pieces.specs.GatherLaws.{stops-from}

-- the beginning p of a line is held
pub record Short (h : Held) (p : List ℕ) : Type 0 where
  pub len : h.len ≡ length p
  pub text : take h.len h.bytes ≡ p
  pub low : length p ≤ 64

pub record Long (h : Held) (p : List ℕ) : Type 0 where
  pub len : 64 < h.len
  pub high : 64 < length p

pub record Holds (h : Held) (p : List ℕ) : Type 0 where
  pub room : length h.bytes ≡ 64
  pub kind : Short h p ⊎ Long h p

line-short : (h : Held) (p : List ℕ) → Short h p → line_in h ≡ p
unfolding line_in
line-short h p w = let k : h.len ≤ 64 = omega (arith, w.len, w.low) in pick-false _ _ _ (le-ltb 64 h.len k) ∙ w.text

line-long : (h : Held) (p : List ℕ) → Long h p → 64 < length (line_in h)
unfolding line_in
line-long h p w = rw (pick_true _ (replicate 65 0) (take h.len h.bytes) (lt-ltb 64 h.len w.len)) (omega arith)

-- a byte more
pub push-holds : (h : Held) (p : List ℕ) (b : ℕ) → Holds h p → Holds (push_of h b) (p ++ (b ∷ []))
unfolding push_of
push-holds h p b w =
    let room : length h.bytes ≡ 64 = w.room in
    pick-keeps (λ (x : Held). Holds x (p ++ (b ∷ []))) (ltb h.len 64)
    (λ e.
    let k : h.len < 64 = ltb-true h.len 64 e in
    let i : h.len < length h.bytes = omega arith in
    record {
      room = length-set h.bytes h.len b ∙ room;
      kind =
          ⊎_elim
          (λ (u : Short h p). inl (record {
            len = ap (λ (n : ℕ). n + 1) u.len ∙ sym (length-append p (b ∷ []));
            text = ap (λ (n : ℕ). take n (set h.bytes h.len b)) (add-one h.len) ∙ take-suc-set h.bytes h.len b i ∙ ap (λ (l : List ℕ). l ++ (b ∷ [])) u.text;
            low = omega (arith, length-append p (b ∷ []), u.len);
          }))
          (λ (u : Long h p). absurd (omega (arith, u.len)))
          w.kind;
    })
    (λ e.
    let k : 64 ≤ h.len = ltb-false h.len 64 e in
    record {
      room = room;
      kind = inr (record {
        len = omega arith;
        high = ⊎_elim (λ (u : Short h p). omega (arith, length-append p (b ∷ []), u.len)) (λ (u : Long h p). omega (arith, length-append p (b ∷ []), u.high)) w.kind;
      });
    })

pub none-holds : Holds none_held []
none-holds = record { room = refl; kind = inl (record { len = refl; text = refl; low = omega arith }) }

-- whatever takes all lines above 64 bytes for the same takes what is held for the line
pub held_same : {A : Type 0} (f : List ℕ → A) → ((l m : List ℕ) → 64 < length l → 64 < length m → f l ≡ f m) → (h : Held) (p : List ℕ) → Holds h p → f (line_in h) ≡ f p
held_same f over h p w = ⊎_elim (λ u. ap f (line-short h p u)) (λ u. over (line_in h) p (line-long h p u) u.high) w.kind

-- ---- a part of a piece

-- a byte more at the front of what is still to be gathered
part-more : (t : List ℕ) (i at : ℕ) → i < length t → i + 1 ≤ at → take (at - i) (drop i t) ≡ get_or t i 0 ∷ take (at - (i + 1)) (drop (i + 1) t)
part-more t i at l k =
    let z : at - i ≡ suc (at - (i + 1)) = omega arith in
    ap (λ (n : ℕ). take n (drop i t)) z ∙ ap (take (suc (at - (i + 1)))) (drop-cons t i 0 l ∙ ap (λ (n : ℕ). get_or t i 0 ∷ drop n t) (sym (add-one i)))

gathers-from : (k : ℕ) (h : Held) (p t : List ℕ) (i : ℕ) → Holds h p → i + k ≤ max i (length t)
    → Holds (gather_from h t i k).held (p ++ take ((gather_from h t i k).at - i) (drop i t))
unfolding gather_from
gathers-from zero h p t i w l = let z : i - i ≡ 0 = omega arith in rw (z, append-nil p) w
gathers-from (suc k) h p t i w l =
    pick-keeps (λ (g : Gathered). Holds g.held (p ++ take (g.at - i) (drop i t))) (eqb (get_or t i 0) 10)
    (λ q. let z : i - i ≡ 0 = omega arith in rw (z, append-nil p) w)
    (λ q.
    let b : ℕ = get_or t i 0 in
    let g : Gathered = gather_from (push_of h b) t (i + 1) k in
    let s = stops-from k (push_of h b) t (i + 1) in
    let e : (p ++ (b ∷ [])) ++ take (g.at - (i + 1)) (drop (i + 1) t) ≡ p ++ take (g.at - i) (drop i t) =
    append_assoc p (b ∷ []) (take (g.at - (i + 1)) (drop (i + 1) t)) ∙ ap (λ (l : List ℕ). p ++ l) (sym (part-more t i g.at (omega arith) s.low)) in
    rw e at (gathers-from k (push_of h b) (p ++ (b ∷ [])) t (i + 1) (push-holds h p b w) (omega arith)))

-- gathering from nothing holds the bytes where they lie
pub part_held : (t : List ℕ) (from to : ℕ) (g : Gathered) → g ≡ gather_of none_held t from to → Holds g.held (take (g.at - from) (drop from t))
unfolding gather_of
part_held t from to g e = rw e (gathers-from (min to (length t) - from) none_held [] t from none-holds (omega arith))
