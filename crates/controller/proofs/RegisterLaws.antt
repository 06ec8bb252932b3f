-- Laws of the register calls.
use Prim.Native.Nat.{ℕ, ◌+◌, ◌-◌, ◌%◌, ◌≤◌, ◌<◌}
use mathlib.Core.Path.{◌≡◌, refl, sym, ap, ◌∙◌}
use mathlib.Core.Bool.{Bool, true, false, false≢true}
use native.Mathlib.Omega.{arith}
use borrow.Author.Tests.{lt-ltb, ltb-true, ltb-false, eqb-true}
use lib.Dec.{eqb, ltb}
use lib.ListN.{length}
use denote.Struct.Declared.{row}
use Rattle.masks.specs.PickLaws.{pick_true, pick-false, pick-keeps, by-test}
use Rattle.masks.specs.Pick.{pick}
use Rattle.masks.specs.Bits.{some_of}
use Rattle.masks.specs.SearchLaws.{some-false}
use Rattle.contents.specs.declared.Contents.{Contents}
use Rattle.rules.specs.declared.Answer.TheVariants.{Ok, Refused}
use Rattle.rules.specs.declared.Places.{Places}
use Rattle.rules.specs.declared.Control.{Control}
use Rattle.rules.specs.declared.Register.{Register}
use Rattle.rules.specs.Registers.{Region, send_place, receive_place, fifo_place, control_of, elsewhere, region_of, low_map, register_at}
use Rattle.rules.specs.declared.Register.TheVariants.{Bufctl}
use Rattle.rules.specs.Steps.{write}
use Rattle.rules.specs.Writes.{written}
use Rattle.rules.specs.Refusals.{refuses1, first_of, read_refusal, write_refusal}
use Rattle.controller.specs.declared.Controller.{Controller}
use Rattle.writes.specs.Code.{control-at, low-written}
use Rattle.writes.specs.CodeDelivery.{delivery-whole}
use Rattle.waiting.specs.Code.{newest_of}
use Rattle.controller.specs.Carry.{row_at}
use Rattle.controller.specs.Session.{step_of}
use Rattle.controller.specs.Calls.{done_of}
use Rattle.controller.specs.Code.{unlooked, saying, changed, holder_in, holder_of, window_row, read_answer, reached_in, change_in, register_change, low_change_in, low_change, control_change, write_change}
use Rattle.controller.specs.AccessLaws.{write-changes}

-- ---- the control registers

-- what is accepted is written at or below $5F
accepted-below : (c : Control) (a v : ℕ) → write_refusal c a v ≡ 0 → a < 0x60
unfolding write_refusal first_of refuses1
accepted-below c a v e =
    by-test (ltb 0x5F a)
    (λ t. absurd (let z : ◌≡◌ {A = ℕ} 1 0 = sym (pick_true (ltb 0x5F a) 1 _ t) ∙ e in omega arith))
    (λ t. let below = ltb-false 0x5F a t in omega arith)

-- their own path is that of any write
pub control-written : (c : Control) (a v : ℕ) (row : Contents) → 0x50 ≤ a → control_change c (a - 0x50) v row ≡ write_change c a v row
unfolding control_change write_change register_change
control-written c a v row h = same (a - 0x50) ∙ ap (λ (k : ℕ). write_change c k v row) (omega arith)
  where
    same : (n : ℕ) → control_change c n v row ≡ write_change c (0x50 + n) v row
    same n =
        by-test (eqb (write_refusal c (0x50 + n) v) 0)
        (λ t.
        let none = eqb-true (write_refusal c (0x50 + n) v) 0 t in
        let register = control-at (0x50 + n) (omega arith) (accepted-below c (0x50 + n) v none) ∙ ap Bufctl {y = n} (omega arith) in
        pick_true (eqb (write_refusal c (0x50 + n) v) 0) _ _ t ∙ ap (λ (r : Register). register_change c (written c r v) r v row) (sym register) ∙ sym (pick_true (eqb (write_refusal c (0x50 + n) v) 0) _ _ t))
        (λ t. pick-false (eqb (write_refusal c (0x50 + n) v) 0) _ _ t ∙ sym (pick-false (eqb (write_refusal c (0x50 + n) v) 0) _ _ t))

-- image being the newest frame that waits for the register's buffer
module _ (c : Controller) (sixteen : length c.rows ≡ 16) (a v : ℕ) (h : 0x50 ≤ a) (image : Contents) (e : image ≡ row_at c.held (newest_of c.control.places (a - 0x50))) where
  pub control-reached : changed c (write_change c.control a v image) ≡ done_of (step_of c (write a v))
  control-reached =
      write-changes c sixteen a v image
      (λ z. e ∙ ap (λ (r : Register). reached_in c (region_of r)) (sym (control-at a h (accepted-below c.control a v z))))

  pub control-changes : changed c (control_change c.control (a - 0x50) v image) ≡ done_of (step_of c (write a v))
  control-changes = ap (changed c) (control-written c.control a v image h) ∙ control-reached

-- ---- the registers below them

is_control : Region → Bool
is_control (send_place p) = false
is_control (receive_place p) = false
is_control (fifo_place p) = false
is_control (control_of n) = true
is_control elsewhere = false

-- computed over the map
none-control : some_of (λ a. is_control (region_of (register_at a))) 0x50 ≡ false
unfolding some_of is_control register_at low_map pick
none-control = refl

region-reached : (c : Controller) (g : Region) → is_control g ≡ false → row_at c.rows (holder_in c.control g % 16) ≡ reached_in c g
unfolding is_control
region-reached c (send_place p) t = refl
region-reached c (receive_place p) t = refl
region-reached c (fifo_place p) t = refl
region-reached c (control_of n) t = absurd (false≢true (sym t))
region-reached c elsewhere t = refl

region-low : (c d : Control) (row : Contents) (g : Region) (v : ℕ) → is_control g ≡ false → low_change_in c d row g v ≡ change_in c d row g v
unfolding is_control
region-low c d row (send_place p) v t = refl
region-low c d row (receive_place p) v t = refl
region-low c d row (fifo_place p) v t = refl
region-low c d row (control_of n) v t = absurd (false≢true (sym t))
region-low c d row elsewhere v t = refl

pub low-register : (c d : Control) (a v : ℕ) (row : Contents) → a < 0x50 → low_change c d (register_at a) v row ≡ register_change c d (register_at a) v row
unfolding low_change register_change
low-register c d a v row h = region-low c d row (region_of (register_at a)) v (some-false (λ b. is_control (region_of (register_at b))) 0x50 none-control a h)

-- row being that of the window's holder
pub low-changes : (c : Controller) → length c.rows ≡ 16 → (a v : ℕ) → a < 0x50 → (row : Contents) → row ≡ row_at c.rows (window_row c.control (register_at a)) →
    changed c (write_change c.control a v row) ≡ done_of (step_of c (write a v))
unfolding holder_of
low-changes c sixteen a v h row e =
    write-changes c sixteen a v row (λ z. e ∙ region-reached c (region_of (register_at a)) (some-false (λ b. is_control (region_of (register_at b))) 0x50 none-control a h))

-- ---- the ways of a write below $50: below $20 no buffer's bytes are reached, and from there on no control state is written

reaches : Region → Bool
reaches (send_place p) = true
reaches (receive_place p) = true
reaches (fifo_place p) = true
reaches (control_of n) = true
reaches elsewhere = false

-- computed over the map
none-reached : some_of (λ a. reaches (region_of (register_at a))) 0x20 ≡ false
unfolding some_of reaches register_at low_map pick
none-reached = refl

region-plain : (c d : Control) (row : Contents) (g : Region) (v : ℕ) → reaches g ≡ false → saying d (unlooked Ok) ≡ change_in c d row g v
unfolding reaches
region-plain c d row (send_place p) v t = absurd (false≢true (sym t))
region-plain c d row (receive_place p) v t = absurd (false≢true (sym t))
region-plain c d row (fifo_place p) v t = absurd (false≢true (sym t))
region-plain c d row (control_of n) v t = absurd (false≢true (sym t))
region-plain c d row elsewhere v t = refl

pub plain-register : (c d : Control) (a v : ℕ) (row : Contents) → a < 0x20 → saying d (unlooked Ok) ≡ register_change c d (register_at a) v row
unfolding register_change
plain-register c d a v row h = region-plain c d row (region_of (register_at a)) v (some-false (λ b. reaches (region_of (register_at b))) 0x20 none-reached a h)

pub window-kept : (c : Control) (a v : ℕ) → 0x20 ≤ a → a < 0x50 → written c (register_at a) v ≡ c
unfolding register_at written
window-kept c a v l h =
    pick-keeps Same (ltb a 0x20) (λ t. absurd (let under = ltb-true a 0x20 t in omega arith))
    (λ t. pick-keeps Same (ltb a 0x30) (λ u. pick-keeps Same (ltb (a - 0x20) 14) (λ w. refl) (λ w. refl))
    (λ u. pick-keeps Same (ltb a 0x40) (λ w. pick-keeps Same (ltb (a - 0x30) 14) (λ x. refl) (λ x. refl))
    (λ w. pick-keeps Same (ltb a 0x50) (λ x. pick-keeps Same (ltb (a - 0x40) 14) (λ y. refl) (λ y. refl))
    (λ x. absurd (let over = ltb-false a 0x50 x in omega arith)))))
  where
    Same : Register → Type 0
    Same r = written c r v ≡ c

-- ---- an address above $5F

pub far-read : (c : Control) (a : ℕ) (row : Contents) → 0x5F < a → unlooked (Refused 1) ≡ read_answer c a row
unfolding read_answer read_refusal first_of refuses1
far-read c a row h = simp (lt-ltb 0x5F a h, pick_true, pick-false)

-- ---- the two places

pub newest-below : (p : Places) (n : ℕ) → newest_of p n < 2
unfolding newest_of
newest-below p n =
    pick-keeps Below (eqb p.first n)
    (λ t. pick-keeps Below (eqb p.second n) (λ u. pick-keeps Below p.swapped (λ x. omega arith) (λ x. omega arith)) (λ u. omega arith))
    (λ t. omega arith)
  where
    Below : ℕ → Type 0
    Below k = k < 2

-- what the ways ask for
pub ruleset reads_far = (far-read)

pub ruleset low_ways = (low-written, plain-register)

pub ruleset window_ways = (low-register, window-kept)

pub ruleset write_ways = (low-written, low-register, control-written)

pub ruleset control_ways = (delivery-whole)
