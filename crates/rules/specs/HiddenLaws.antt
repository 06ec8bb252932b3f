-- A step with its payload put to 0, and that no rule sees the difference.
use Rattle.std.specs.Prelude.{◌≡◌, refl, ℕ, ◌-◌, ◌≤◌, Bool, true, false, ◌&&◌, List, eqb, ltb, leb}
use Rattle.std.proofs.Common.{◌∙◌, arith, leb-true, lt-ltb, le-ltb, ne_eqb}
use Rattle.masks.specs.Pick.{pick}
use Rattle.masks.specs.PickLaws.{pick-false, by-test}
use Rattle.contents.specs.Bytes.{Head}
use Rattle.contents.specs.Payload.{zeros, hide_data}
use Rattle.contents.specs.PayloadLaws.{zeros-zeros, hide-hide}
use Rattle.rules.specs.declared.Register.TheVariants.{TransmitWindow, ReceiveWindow, FifoWindow}
use Rattle.rules.specs.declared.Control.{Control}
use Rattle.rules.specs.Registers.{between, register_at}
use Rattle.rules.specs.Steps.{Step, reset, read, write, sync, sync_due, slot, frame, fault, timeout, data_register, reads_data, frame_in, room_in, hide}
use Rattle.rules.specs.Writes.{written, window_moves, write_moves}
use Rattle.rules.specs.Refusals.{refuses6, refuses7, refuses8, refuses9, refuses10, write_refusal, refusal}
use Rattle.rules.specs.Rules.{act, decide}

pub frame-hide : (e : Step) → frame_in (hide e) ≡ hide_data (frame_in e)
frame-hide reset = refl
frame-hide (read a) = refl
frame-hide (write a v) = refl
frame-hide (sync k) = refl
frame-hide sync_due = refl
frame-hide (slot i room) = refl
frame-hide (frame good f) = refl
frame-hide (fault k) = refl
frame-hide timeout = refl

pub room-hide : (e : Step) → room_in (hide e) ≡ zeros (room_in e)
room-hide reset = refl
room-hide (read a) = refl
room-hide (write a v) = refl
room-hide (sync k) = refl
room-hide sync_due = refl
room-hide (slot i room) = refl
room-hide (frame good f) = refl
room-hide (fault k) = refl
room-hide timeout = refl

pub reads-hide : (e : Step) → reads_data (hide e) ≡ reads_data e
reads-hide reset = refl
reads-hide (read a) = refl
reads-hide (write a v) = refl
reads-hide (sync k) = refl
reads-hide sync_due = refl
reads-hide (slot i room) = refl
reads-hide (frame good f) = refl
reads-hide (fault k) = refl
reads-hide timeout = refl

twice : (d : Bool) (v : ℕ) → pick d 0 (pick d 0 v) ≡ pick d 0 v
unfolding pick
twice true v = refl
twice false v = refl

pub hide-again : (e : Step) → hide (hide e) ≡ hide e
hide-again reset = refl
hide-again (read a) = refl
hide-again (write a v) = simp twice
hide-again (sync k) = refl
hide-again sync_due = refl
hide-again (slot i room) = simp zeros-zeros
hide-again (frame good f) = simp hide-hide
hide-again (fault k) = refl
hide-again timeout = refl

-- ---- the rules decide alike

-- the data places of the windows

transmit-at : (a : ℕ) → 0x22 ≤ a → a ≤ 0x2D → register_at a ≡ TransmitWindow (a - 0x20)
unfolding register_at pick
transmit-at a lo hi =
    let f : ltb a 0x20 ≡ false = le-ltb a 0x20 (omega arith) in
    let g : ltb a 0x30 ≡ true = lt-ltb a 0x30 (omega arith) in
    let p : ltb (a - 0x20) 14 ≡ true = lt-ltb (a - 0x20) 14 (omega arith) in
    simp (f, g, p)

receive-at : (a : ℕ) → 0x32 ≤ a → a ≤ 0x3D → register_at a ≡ ReceiveWindow (a - 0x30)
unfolding register_at pick
receive-at a lo hi =
    let f : ltb a 0x20 ≡ false = le-ltb a 0x20 (omega arith) in
    let g : ltb a 0x30 ≡ false = le-ltb a 0x30 (omega arith) in
    let h : ltb a 0x40 ≡ true = lt-ltb a 0x40 (omega arith) in
    let p : ltb (a - 0x30) 14 ≡ true = lt-ltb (a - 0x30) 14 (omega arith) in
    simp (f, g, h, p)

fifo-at : (a : ℕ) → 0x42 ≤ a → a ≤ 0x4D → register_at a ≡ FifoWindow (a - 0x40)
unfolding register_at pick
fifo-at a lo hi =
    let f : ltb a 0x20 ≡ false = le-ltb a 0x20 (omega arith) in
    let g : ltb a 0x30 ≡ false = le-ltb a 0x30 (omega arith) in
    let h : ltb a 0x40 ≡ false = le-ltb a 0x40 (omega arith) in
    let i : ltb a 0x50 ≡ true = lt-ltb a 0x50 (omega arith) in
    let p : ltb (a - 0x40) 14 ≡ true = lt-ltb (a - 0x40) 14 (omega arith) in
    simp (f, g, h, i, p)

between-low : (lo a hi : ℕ) → between lo a hi ≡ true → lo ≤ a
between-low lo a hi e = leb-true lo a (both (leb lo a) (leb a hi) e).0
  where
    both : (x y : Bool) → (x && y) ≡ true → (x ≡ true) × (y ≡ true)
    both true y q = (refl, q)
    both false y q = (q, by-test y (λ t. t) (λ t. t ∙ q))

between-high : (lo a hi : ℕ) → between lo a hi ≡ true → a ≤ hi
between-high lo a hi e = leb-true a hi (last (leb lo a) (leb a hi) e)
  where
    last : (x y : Bool) → (x && y) ≡ true → y ≡ true
    last true y q = q
    last false true q = refl
    last false false q = q

-- the three ranges of data registers
by-range : (P : Type 0) (a : ℕ) → data_register a ≡ true → (0x22 ≤ a → a ≤ 0x2D → P) → (0x32 ≤ a → a ≤ 0x3D → P) → (0x42 ≤ a → a ≤ 0x4D → P) → P
unfolding data_register
by-range P a d f g h =
    by-test (between 0x22 a 0x2D) (λ t. f (between-low 0x22 a 0x2D t) (between-high 0x22 a 0x2D t))
    (λ t. by-test (between 0x32 a 0x3D) (λ u. g (between-low 0x32 a 0x3D u) (between-high 0x32 a 0x3D u))
    (λ u. let w : between 0x42 a 0x4D ≡ true = simp (t, u) at d in h (between-low 0x42 a 0x4D w) (between-high 0x42 a 0x4D w)))

-- what such a write does doesn't depend on the value
window-blind : (n p v u : ℕ) → 2 ≤ p → window_moves n p v ≡ window_moves n p u
unfolding window_moves
window-blind n p v u h =
    let z : eqb p 0 ≡ false = ne_eqb p 0 (λ e. omega arith) in
    let o : eqb p 1 ≡ false = ne_eqb p 1 (λ e. omega arith) in
    simp (pick-false, z, o)

record Blind (c : Control) (a v u : ℕ) : Type 0 where
  same-control : written c (register_at a) v ≡ written c (register_at a) u
  same-moves : write_moves c (register_at a) v ≡ write_moves c (register_at a) u

data-blind : (c : Control) (a v u : ℕ) → data_register a ≡ true → Blind c a v u
unfolding written write_moves
data-blind c a v u d =
    by-range (Blind c a v u) a d
    (λ lo hi. record { same-control = simp (transmit-at a lo hi); same-moves = simp (transmit-at a lo hi) (window-blind _ (a - 0x20) v u (omega arith)) })
    (λ lo hi. record { same-control = simp (receive-at a lo hi); same-moves = simp (receive-at a lo hi) (window-blind _ (a - 0x30) v u (omega arith)) })
    (λ lo hi. record { same-control = simp (fifo-at a lo hi); same-moves = simp (fifo-at a lo hi) })

-- nor does its refusal: 6 to 10 are of other addresses
refusal-blind : (c : Control) (a v u : ℕ) → 2 ≤ a → a ≤ 0x4D → write_refusal c a v ≡ write_refusal c a u
unfolding write_refusal refuses6 refuses7 refuses8 refuses9 refuses10
refusal-blind c a v u lo hi =
    let z : eqb a 0 ≡ false = ne_eqb a 0 (λ e. omega arith) in
    let o : eqb a 1 ≡ false = ne_eqb a 1 (λ e. omega arith) in
    let b : leb 0x50 a ≡ false = le-ltb 0x4F a (omega arith) in
    simp (z, o, b)

data-refusal : (c : Control) (a v u : ℕ) → data_register a ≡ true → write_refusal c a v ≡ write_refusal c a u
data-refusal c a v u d =
    by-range (write_refusal c a v ≡ write_refusal c a u) a d (λ lo hi. refusal-blind c a v u (omega arith) (omega arith))
    (λ lo hi. refusal-blind c a v u (omega arith) (omega arith)) (λ lo hi. refusal-blind c a v u (omega arith) (omega arith))

pub write-hide : (c : Control) (hs : List Head) (a v : ℕ) → decide c hs (write a (pick (data_register a) 0 v)) ≡ decide c hs (write a v)
unfolding decide act refusal
write-hide c hs a v =
    by-test (data_register a)
    (λ d. let b = data-blind c a (pick (data_register a) 0 v) v d in simp (data-refusal c a (pick (data_register a) 0 v) v d, b.same-control, b.same-moves))
    (λ d. simp (pick-false (data_register a) 0 v d))
