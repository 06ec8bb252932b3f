-- Laws of gathering: where it stops, and that it is feeding without an LF, for any act and show.
use Prim.Native.Nat.{ℕ, zero, suc, ◌+◌, ◌-◌, ◌≤◌, ◌<◌, min, max}
use Rattle.std.proofs.Common.{arith, sym, ◌∙◌, append-nil, lt-ltb, le-ltb, ltb-true, ltb-false, eqb-true, eq-eqb, ne_eqb}
use Rattle.std.specs.Prelude.{◌≡◌, List, [], ◌++◌, Bool, true, false, ◌||◌, length, take, set, get_or, eqb, ltb}
use Rattle.std.proofs.Math.Path.{refl, ap}
use Rattle.std.proofs.lemmas.Bool.{eqb-false}
use Rattle.masks.specs.Pick.{pick}
use Rattle.masks.specs.PickLaws.{pick_true, pick-false, pick-keeps, by-test}
use Rattle.pieces.specs.declared.Held.{Held}
use Rattle.pieces.specs.declared.Gathered.{Gathered}
use Rattle.pieces.specs.Feed.{Feed, none_held, push_of, line_in, is_read, end_line, byte_s, byte_o, feed_end, out_of}
use Rattle.pieces.specs.FeedLaws.{end_of-more, out_of-more}
use Rattle.pieces.specs.CodeGather.{gather_from, gather_of, Clear}

-- ---- one byte at a time, up to index stop

pub gather-is : (h : Held) (t : List ℕ) (from to stop : ℕ) → stop ≡ min to (length t) → gather_of h t from to ≡ gather_from h t from (stop - from)
unfolding gather_of
gather-is h t from to stop e = ap (λ (n : ℕ). gather_from h t from (n - from)) (sym e)

pub push-room : (bytes : List ℕ) (len b : ℕ) → len < 64 → push_of (record { bytes = bytes; len = len }) b ≡ record { bytes = set bytes len b; len = len + 1 }
unfolding push_of
push-room bytes len b h = pick_true _ _ _ (lt-ltb len 64 h)

pub push-full : (bytes : List ℕ) (len b : ℕ) → 64 ≤ len → push_of (record { bytes = bytes; len = len }) b ≡ record { bytes = bytes; len = 65 }
unfolding push_of
push-full bytes len b h = pick-false _ _ _ (le-ltb len 64 h)

pub from_end : (h : Held) (t : List ℕ) (i stop : ℕ) → stop ≤ i → gather_from h t i (stop - i) ≡ record { held = h; at = i; ended = false }
unfolding gather_from
from_end h t i stop l = let z : stop - i ≡ 0 = omega arith in ap (gather_from h t i) z

-- gathering up to index stop ends there, or at an index beyond it where it begins
pub ends-at : (h h' : Held) (t : List ℕ) (i stop last : ℕ) {from : ℕ} → last ≡ max stop from → (from ≤ stop → i ≤ stop) → stop ≤ i →
    (gather_from h t from (stop - from)).at ≡ (gather_from h' t i (stop - i)).at → i ≡ last
ends-at h h' t i stop last {from} e within past inv =
    by-test (ltb stop from)
    (λ q.
    let l : stop < from = ltb-true stop from q in
    let k : (gather_from h t from (stop - from)).at ≡ from = ap (λ (g : Gathered). g.at) (from_end h t from stop (omega arith)) in
    let m : (gather_from h' t i (stop - i)).at ≡ i = ap (λ (g : Gathered). g.at) (from_end h' t i stop past) in
    omega arith)
    (λ q. let l : from ≤ stop = ltb-false stop from q in omega (arith, within l))

pub stopped-at : (t : List ℕ) (i stop last : ℕ) {from : ℕ} → last ≡ max stop from → (from ≤ stop → i ≤ stop) → stop ≤ i →
    (gather_from none_held t from (stop - from)).at ≡ (gather_from none_held t i (stop - i)).at → last ≡ (gather_from none_held t from (stop - from)).at
stopped-at t i stop last e within past inv =
    sym (inv ∙ ap (λ (g : Gathered). g.at) (from_end none_held t i stop past) ∙ ends-at none_held none_held t i stop last e within past inv)

pub gathered-all : (h h' : Held) (t : List ℕ) (i stop last : ℕ) {from : ℕ} → last ≡ max stop from → (from ≤ stop → i ≤ stop) → stop ≤ i →
    gather_from h t from (stop - from) ≡ gather_from h' t i (stop - i) → record { held = h'; at = last; ended = false } ≡ gather_from h t from (stop - from)
gathered-all h h' t i stop last e within past inv =
    sym (inv ∙ from_end h' t i stop past
    ∙ ap (λ (n : ℕ). record { held = h'; at = n; ended = false }) (ends-at h h' t i stop last e within past (ap (λ (g : Gathered). g.at) inv)))

pub from-lf : (h : Held) (t : List ℕ) (i stop : ℕ) → i < stop → get_or t i 0 ≡ 10 → gather_from h t i (stop - i) ≡ record { held = h; at = i; ended = true }
unfolding gather_from
from-lf h t i stop l e =
    let z : stop - i ≡ suc (stop - (i + 1)) = omega arith in
    ap (gather_from h t i) z ∙ pick_true _ _ _ (eq-eqb (get_or t i 0) 10 e)

pub from_byte : (h : Held) (t : List ℕ) (i stop : ℕ) → i < stop → (get_or t i 0 ≡ 10 → ⊥)
    → gather_from h t i (stop - i) ≡ gather_from (push_of h (get_or t i 0)) t (i + 1) (stop - (i + 1))
unfolding gather_from
from_byte h t i stop l e =
    let z : stop - i ≡ suc (stop - (i + 1)) = omega arith in
    ap (gather_from h t i) z ∙ pick-false _ _ _ (ne_eqb (get_or t i 0) 10 e)

-- where it stops goes by the LFs alone
pub at-any : (k : ℕ) (h h' : Held) (t : List ℕ) (i : ℕ) → (gather_from h t i k).at ≡ (gather_from h' t i k).at
unfolding gather_from
at-any zero h h' t i = refl
at-any (suc k) h h' t i =
    by-test (eqb (get_or t i 0) 10) (λ q. simp (pick_true, q))
    (λ q. simp (pick-false, q) (at-any k (push_of h (get_or t i 0)) (push_of h' (get_or t i 0)) t (i + 1)))

-- ---- bytes without an LF

pub clear-one : (t : List ℕ) (i : ℕ) → eqb (get_or t i 0) 10 ≡ false → Clear t i 1
clear-one t i q j l e = let z : i + j ≡ i = omega arith in eqb-false (get_or t i 0) 10 q (rw z at e)

pub clear_both : (t : List ℕ) (i k m : ℕ) (a b : Bool) → (a ≡ false → Clear t i k) → (b ≡ false → Clear t (i + k) m) → (a || b) ≡ false → Clear t i (k + m)
clear_both t i k m true b f g q = absurd (let z : ◌≡◌ {A = ℕ} 0 1 = cc in omega arith)
clear_both t i k m false b f g q =
    λ j l e.
    by-test (ltb j k) (λ h. f refl j (ltb-true j k h) e)
    (λ h.
    let n = ltb-false j k h in
    let z : i + j ≡ i + k + (j - k) = omega arith in
    g q (j - k) (omega arith) (rw z at e))

-- they are passed over
pub from-clear : (k : ℕ) (h : Held) (t : List ℕ) (i stop : ℕ) → i + k ≤ stop → Clear t i k
    → (gather_from h t i (stop - i)).at ≡ (gather_from h t (i + k) (stop - (i + k))).at
from-clear zero h t i stop l c = let z : i ≡ i + 0 = omega arith in ap (λ (n : ℕ). (gather_from h t n (stop - n)).at) z
from-clear (suc k) h t i stop l c =
    let z : i + k + 1 ≡ i + suc k = omega arith in
    from-clear k h t i stop (omega arith) (λ j m. c j (omega arith))
    ∙ ap (λ (g : Gathered). g.at) (from_byte h t (i + k) stop (omega arith) (c k (omega arith)))
    ∙ at-any (stop - (i + k + 1)) (push_of h (get_or t (i + k) 0)) h t (i + k + 1)
    ∙ ap (λ (n : ℕ). (gather_from h t n (stop - n)).at) z

-- ---- where gathering stops: at an LF before index stop, or there

pub record Stops (t : List ℕ) (from stop : ℕ) (g : Gathered) : Type 0 where
  pub low : from ≤ g.at
  pub high : g.at ≤ stop
  pub ended : g.ended ≡ true → g.at < stop
  pub lf : g.ended ≡ true → get_or t g.at 0 ≡ 10
  pub all : g.ended ≡ false → g.at ≡ stop

pub stops-from : (k : ℕ) (h : Held) (t : List ℕ) (i : ℕ) → Stops t i (i + k) (gather_from h t i k)
unfolding gather_from
stops-from zero h t i = record {
  low = omega arith;
  high = omega arith;
  ended = λ e. absurd (let z : ◌≡◌ {A = ℕ} 0 1 = cc in omega arith);
  lf = λ e. absurd (let z : ◌≡◌ {A = ℕ} 0 1 = cc in omega arith);
  all = λ e. omega arith;
}
stops-from (suc k) h t i =
    pick-keeps (λ (g : Gathered). Stops t i (i + suc k) g) (eqb (get_or t i 0) 10)
    (λ q. record {
      low = omega arith;
      high = omega arith;
      ended = λ e. omega arith;
      lf = λ e. eqb-true (get_or t i 0) 10 q;
      all = λ e. absurd (let z : ◌≡◌ {A = ℕ} 0 1 = cc in omega arith);
    })
    (λ q.
    let w = stops-from k (push_of h (get_or t i 0)) t (i + 1) in
    record {
      low = omega (arith, w.low);
      high = omega (arith, w.high);
      ended = λ e. omega (arith, w.ended e);
      lf = w.lf;
      all = λ e. omega (arith, w.all e);
    })

pub stops : (h : Held) (t : List ℕ) (from to : ℕ) (g : Gathered) → g ≡ gather_of h t from to → Stops t from (max from (min to (length t))) g
unfolding gather_of
stops h t from to g e =
    let z : from + (min to (length t) - from) ≡ max from (min to (length t)) = omega arith in
    rw e (rw z at (stops-from (min to (length t) - from) h t from))

-- in a part of the piece it stops within the part
pub stops-within : (h : Held) (t : List ℕ) (from to : ℕ) (g : Gathered) → g ≡ gather_of h t from to → from ≤ to → to ≤ length t → Stops t from to g
stops-within h t from to g e k l = let z : max from (min to (length t)) ≡ to = omega arith in rw z at (stops h t from to g e)

module _ {S : Type 0} (act : S → ℕ → List ℕ → S) (show : S → ℕ → Bool → List ℕ → List ℕ) where
  -- ---- a byte that is no LF

  pub byte-pushes : (s : S) (h : Held) (n b : ℕ) → eqb b 10 ≡ false
      → byte_s act show (record { state = s; held = h; number = n }) b ≡ record { state = s; held = push_of h b; number = n }
  unfolding byte_s
  byte-pushes s h n b e = pick-false _ _ _ e

  pub byte-silent : (f : Feed S) (b : ℕ) → eqb b 10 ≡ false → byte_o act show f b ≡ []
  unfolding byte_o
  byte-silent f b e = simp (e, pick-false)

  push-end : (f : Feed S) (s : S) (h : Held) (n : ℕ) (t : List ℕ) (i : ℕ) → i < length t → eqb (get_or t i 0) 10 ≡ false
      → feed_end act show f (take i t) ≡ record { state = s; held = h; number = n }
      → feed_end act show f (take (i + 1) t) ≡ record { state = s; held = push_of h (get_or t i 0); number = n }
  push-end f s h n t i l q e =
      end_of-more act show f t i l ∙ ap (λ (x : Feed S). byte_s act show x (get_or t i 0)) e ∙ byte-pushes s h n (get_or t i 0) q

  push-out : (f : Feed S) (t : List ℕ) (i : ℕ) → i < length t → eqb (get_or t i 0) 10 ≡ false → out_of act show f (take (i + 1) t) ≡ out_of act show f (take i t)
  push-out f t i l q =
      out_of-more act show f t i l ∙ ap (λ (x : List ℕ). out_of act show f (take i t) ++ x) (byte-silent (feed_end act show f (take i t)) (get_or t i 0) q)
      ∙ append-nil (out_of act show f (take i t))

  -- ---- gathering is feeding, and nothing is written for it

  end-from : (k : ℕ) (f : Feed S) (s : S) (h : Held) (n : ℕ) (t : List ℕ) (i : ℕ) → i + k ≤ max i (length t)
      → feed_end act show f (take i t) ≡ record { state = s; held = h; number = n }
      → feed_end act show f (take (gather_from h t i k).at t) ≡ record { state = s; held = (gather_from h t i k).held; number = n }
  unfolding gather_from
  end-from zero f s h n t i l e = e
  end-from (suc k) f s h n t i l e =
      pick-keeps (λ (g : Gathered). feed_end act show f (take g.at t) ≡ record { state = s; held = g.held; number = n }) (eqb (get_or t i 0) 10)
      (λ q. e)
      (λ q. end-from k f s (push_of h (get_or t i 0)) n t (i + 1) (omega arith) (push-end f s h n t i (omega arith) q e))

  out-from : (k : ℕ) (f : Feed S) (h : Held) (t : List ℕ) (i : ℕ) → i + k ≤ max i (length t)
      → out_of act show f (take (gather_from h t i k).at t) ≡ out_of act show f (take i t)
  unfolding gather_from
  out-from zero f h t i l = refl
  out-from (suc k) f h t i l =
      pick-keeps (λ (g : Gathered). out_of act show f (take g.at t) ≡ out_of act show f (take i t)) (eqb (get_or t i 0) 10)
      (λ q. refl)
      (λ q. out-from k f (push_of h (get_or t i 0)) t (i + 1) (omega arith) ∙ push-out f t i (omega arith) q)

  pub gather-end : (f : Feed S) (s : S) (h : Held) (n : ℕ) (t : List ℕ) (from to : ℕ) (g : Gathered) → g ≡ gather_of h t from to
      → feed_end act show f (take from t) ≡ record { state = s; held = h; number = n }
      → feed_end act show f (take g.at t) ≡ record { state = s; held = g.held; number = n }
  unfolding gather_of
  gather-end f s h n t from to g q e = rw q (end-from (min to (length t) - from) f s h n t from (omega arith) e)

  pub gather-out : (f : Feed S) (h : Held) (t : List ℕ) (from to : ℕ) (g : Gathered) → g ≡ gather_of h t from to
      → out_of act show f (take g.at t) ≡ out_of act show f (take from t)
  unfolding gather_of
  gather-out f h t from to g q = rw q (out-from (min to (length t) - from) f h t from (omega arith))

  -- ---- an LF ends the line

  pub lf-end : (f m : Feed S) (t : List ℕ) (i : ℕ) → i < length t → get_or t i 0 ≡ 10 → feed_end act show f (take i t) ≡ m → feed_end act show f (take (i + 1) t) ≡ end_line act show m
  unfolding byte_s
  lf-end f m t i l k e = end_of-more act show f t i l ∙ ap (λ (x : Feed S). byte_s act show x (get_or t i 0)) e ∙ pick_true _ _ _ (eq-eqb (get_or t i 0) 10 k)

  pub lf-out : (f m : Feed S) (t : List ℕ) (i : ℕ) → i < length t → get_or t i 0 ≡ 10 → feed_end act show f (take i t) ≡ m
      → out_of act show f (take (i + 1) t) ≡ out_of act show f (take i t) ++ pick (is_read m.number) (show m.state m.number true (line_in m.held)) []
  unfolding byte_o
  lf-out f m t i l k e =
      out_of-more act show f t i l ∙ ap (λ (x : Feed S). out_of act show f (take i t) ++ byte_o act show x (get_or t i 0)) e ∙ simp (eq-eqb (get_or t i 0) 10 k)
