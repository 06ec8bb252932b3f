-- What a release comes to: the bytes that it stores, IFLG of the buffer, and that no place waits for it. Places of frames for other
-- buffers stay. (That the newest frame is left in the buffer is in proofs/DeliveredLaws.antt.)
use Rattle.std.specs.Prelude.{◌≡◌, ℕ, zero, suc, ◌<◌, Bool, ◌||◌, List, [], ◌∷◌, ◌++◌, set, eqb}
use Rattle.std.proofs.Math.Path.{refl}
use Rattle.std.proofs.Common.{sym, ap, ◌∙◌, arith, eqb-true, ne_eqb}
use Rattle.std.proofs.Math.Bool.{true, false}
use Rattle.std.proofs.Math.Seq.{set-set}
use Rattle.masks.specs.Pick.{pick}
use Rattle.masks.specs.PickLaws.{pick_true, pick-false, pick-keeps, by-test}
use Rattle.masks.specs.Bits.{bit_of, put_bit}
use Rattle.masks.specs.Laws.{mask-ext, put-bit, put-lt, put_same}
use Rattle.locks.specs.Pair.{none}
use Rattle.contents.specs.declared.Contents.{Contents}
use Rattle.rules.specs.declared.Places.{Places}
use Rattle.rules.specs.declared.Control.{Control}
use Rattle.rules.specs.Record.{with_buffers, with_places, with_iflg}
use Rattle.rules.specs.Kinds.{has_iflg}
use Rattle.rules.specs.Waiting.{waits_for, deliver, delivery, deliver_both, delivered, deliveries}
use Rattle.rules.specs.Steps.{Step}
use Rattle.rules.specs.Plan.{Move, release}
use Rattle.controller.specs.Carry.{row_at, move_all, hold_all}
use Rattle.invariants.specs.TestLaws.{impossible}
use Rattle.invariants.specs.Newest.{is_waited_for, newest}

-- ---- the bytes

module _ (e : Step) (n : ℕ) where
  -- the moves by the tests of the places: `swapped`, the first waits for n, the second does
  unfoldable pub moves : Bool → Bool → Bool → List Move
  moves s t u = pick s (pick u (release 1 n ∷ []) [] ++ pick t (release 0 n ∷ []) []) (pick t (release 0 n ∷ []) [] ++ pick u (release 1 n ∷ []) [])

  -- a stored frame leaves nothing of an older one (W4)
  pub last-left : (held rows : List Contents) (s t u : Bool) → (t || u) ≡ true →
      move_all e held (moves s t u) rows ≡ set rows n (row_at held (pick s (pick t 0 1) (pick u 1 0)))
  unfolding moves pick move_all
  last-left held rows true true true w = set-set rows n (row_at held 1) (row_at held 0)
  last-left held rows true true false w = refl
  last-left held rows true false true w = refl
  last-left held rows true false false w = impossible w
  last-left held rows false true true w = set-set rows n (row_at held 0) (row_at held 1)
  last-left held rows false true false w = refl
  last-left held rows false false true w = refl
  last-left held rows false false false w = impossible w

  none_left : (held rows : List Contents) (s t u : Bool) → (t || u) ≡ false → move_all e held (moves s t u) rows ≡ rows
  unfolding moves pick move_all
  none_left held rows true true u w = impossible (sym w)
  none_left held rows true false true w = impossible (sym w)
  none_left held rows true false false w = refl
  none_left held rows false true u w = impossible (sym w)
  none_left held rows false false true w = impossible (sym w)
  none_left held rows false false false w = refl

  held-stay : (held : List Contents) (s t u : Bool) → hold_all e (moves s t u) held ≡ held
  unfolding moves pick hold_all
  held-stay held true true true = refl
  held-stay held true true false = refl
  held-stay held true false true = refl
  held-stay held true false false = refl
  held-stay held false true true = refl
  held-stay held false true false = refl
  held-stay held false false true = refl
  held-stay held false false false = refl

  module _ (c : Control) where
    pub rows_left : (held rows : List Contents) → is_waited_for c.places n ≡ false → move_all e held (deliveries c n) rows ≡ rows
    unfolding moves deliveries delivery
    rows_left held rows = none_left held rows c.places.swapped (eqb c.places.first n) (eqb c.places.second n)

    pub held-left : (held : List Contents) → hold_all e (deliveries c n) held ≡ held
    unfolding moves deliveries delivery
    held-left held = held-stay held c.places.swapped (eqb c.places.first n) (eqb c.places.second n)

-- ---- the control state

put-twice : (m n : ℕ) → put_bit (put_bit m n true) n true ≡ put_bit m n true
put-twice m n =
    mask-ext _ _ (put-lt (put_bit m n true) n true) (put-lt m n true)
    (λ k h. put-bit (put_bit m n true) n true k h ∙ twice k h ∙ sym (put-bit m n true k h))
  where
    twice : (k : ℕ) → k < 16 → pick (eqb k n) true (bit_of (put_bit m n true) k) ≡ pick (eqb k n) true (bit_of m k)
    twice k h =
        by-test (eqb k n) (λ e. pick_true (eqb k n) true (bit_of (put_bit m n true) k) e ∙ sym (pick_true (eqb k n) true (bit_of m k) e))
        (λ e. ap (pick (eqb k n) true) (put-bit m n true k h ∙ pick-false (eqb k n) true (bit_of m k) e))

-- no place for n
abbrev pub without : Places → ℕ → Places
without p n = record { first = pick (eqb p.first n) none p.first; second = pick (eqb p.second n) none p.second; swapped = p.swapped }

-- IFLG of n where a frame waited for it
abbrev delivered_to : Control → ℕ → Control
delivered_to c n =
    with_places (with_buffers c (with_iflg c.buffers (pick (is_waited_for c.places n) (put_bit c.buffers.iflg n true) c.buffers.iflg)))
    (without c.places n)

module _ (c : Control) (n : ℕ) where
  first-second : deliver_both c 0 1 n ≡ delivered_to c n
  unfolding deliver_both deliver pick
  first-second =
      by-test (eqb c.places.first n) (λ t. by-test (eqb c.places.second n) (λ u. simp (t, u, put-twice)) (λ u. simp (t, u)))
      (λ t. by-test (eqb c.places.second n) (λ u. simp (t, u)) (λ u. simp (t, u)))

  second-first : deliver_both c 1 0 n ≡ delivered_to c n
  unfolding deliver_both deliver pick
  second-first =
      by-test (eqb c.places.first n) (λ t. by-test (eqb c.places.second n) (λ u. simp (t, u, put-twice)) (λ u. simp (t, u)))
      (λ t. by-test (eqb c.places.second n) (λ u. simp (t, u)) (λ u. simp (t, u)))

  delivered-as : delivered c n ≡ delivered_to c n
  unfolding delivered
  delivered-as = pick-keeps (λ (d : Control). d ≡ delivered_to c n) c.places.swapped (λ t. second-first) (λ t. first-second)

  pub delivered-places : (delivered c n).places ≡ without c.places n
  delivered-places = ap (λ (d : Control). d.places) delivered-as

  pub delivered-flag : n < 16 → is_waited_for c.places n ≡ true → has_iflg (delivered c n) n ≡ true
  delivered-flag h t =
      ap (λ (d : Control). has_iflg d n) delivered-as
      ∙ ap (λ (m : ℕ). bit_of m n) (pick_true (is_waited_for c.places n) (put_bit c.buffers.iflg n true) c.buffers.iflg t)
      ∙ put_same c.buffers.iflg n true h

-- ---- the places

-- a number that isn't n's any more
left : (x n : ℕ) → n < 16 → eqb (pick (eqb x n) none x) n ≡ false
left x n h = pick-keeps (λ (y : ℕ). eqb y n ≡ false) (eqb x n) (λ t. ne_eqb 16 n (λ e. omega arith)) (λ t. t)

-- or is n's still, where another's went
stays : (x m n : ℕ) → n < 16 → (m ≡ n → ⊥) → eqb (pick (eqb x m) none x) n ≡ eqb x n
stays x m n h d =
    pick-keeps (λ (y : ℕ). eqb y n ≡ eqb x n) (eqb x m)
    (λ t. ne_eqb 16 n (λ e. omega arith) ∙ sym (ne_eqb x n (λ e. d (sym (eqb-true x m t) ∙ e)))) (λ t. refl)

pub none-waits : (p : Places) (n : ℕ) → n < 16 → (k : ℕ) → eqb (waits_for (without p n) k) n ≡ false
none-waits p n h zero = left p.first n h
none-waits p n h (suc k) = left p.second n h

module _ (p : Places) (m n : ℕ) (h : n < 16) (apart : m ≡ n → ⊥) where
  pub waited-still : is_waited_for (without p m) n ≡ is_waited_for p n
  waited-still = simp (stays p.first m n h apart, stays p.second m n h apart)

  pub newest-still : newest (without p m) n ≡ newest p n
  newest-still = simp (stays p.first m n h apart, stays p.second m n h apart)
