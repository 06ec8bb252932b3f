-- Register reads and writes in the terms of the code: that the changes of writes do what the rules say, and towards the answers of reads,
-- which are in proofs/AccessLaws.antt.
use Rattle.std.proofs.Math.Path.{◌≡◌, refl, sym, ap, ap₂}
use Rattle.std.proofs.Common.{◌∙◌}
use Rattle.std.specs.Prelude.{ℕ, suc, ◌-◌, ◌%◌, ◌≤◌, ◌<◌, Bool, ◌&&◌, ◌||◌, set, length}
use Rattle.std.proofs.Math.Bool.{true, false, not}
use mathlib.Core.List.{List, [], ◌∷◌, ◌++◌}
use native.Mathlib.Omega.{arith}
use borrow.Author.Tests.{not-false, eqb-true, eqb-false, ltb-true, ltb-false}
use Rattle.std.proofs.Math.ListN.{get_or, get_or-eq_default}
use Rattle.std.proofs.Math.Seq.{set-set}
use Rattle.std.proofs.Math.Dec.{eqb, ltb}
use Rattle.masks.specs.Pick.{pick}
use Rattle.masks.specs.PickLaws.{pick_true, pick-false, by-test}
use Rattle.masks.specs.Bits.{some_of}
use Rattle.masks.specs.SearchLaws.{some-false}
use Rattle.contents.specs.declared.Contents.{Contents}
use Rattle.contents.specs.Bytes.{data_at, no_contents}
use Rattle.rules.specs.declared.Answer.TheVariants.{Ok, Value, Refused}
use Rattle.rules.specs.declared.Register.{Register}
use Rattle.rules.specs.declared.Control.{Control}
use Rattle.rules.specs.Registers.{Region, send_place, receive_place, fifo_place, control_of, elsewhere, region_of, low_map, register_at, has, LOCK}
use Rattle.rules.specs.Steps.{read, write, data_register}
use Rattle.rules.specs.Plan.{head_at, Move, release, say}
use Rattle.rules.specs.Waiting.{delivery, deliveries}
use Rattle.waiting.specs.Code.{is_awaited, newest_of}
use Rattle.writes.specs.CodeDelivery.{releases}
use Rattle.rules.specs.Reads.{window_reply, read_reply}
use Rattle.rules.specs.Writes.{written, window_moves, moves_in, write_moves}
use Rattle.rules.specs.Refusals.{refuses1, first_of, read_refusal, write_refusal, refusal}
use Rattle.rules.specs.Rules.{act, decide}
use Rattle.controller.specs.declared.Controller.{Controller}
use Rattle.controller.specs.declared.Done.{Done}
use Rattle.controller.specs.Carry.{heads, row_at, move_all, hold_all, answer_of, carry}
use Rattle.controller.specs.Session.{step_of}
use Rattle.controller.specs.ViewLaws.{head_at_lem}
use Rattle.controller.specs.Calls.{done_of}
use Rattle.controller.specs.Code.{answered, unlooked, staying, changed, window_byte, write_place, window_change, reached_in, release_change, change_in, register_change, write_change}
use Rattle.controller.specs.CodeLaws.{step-plain, by-plan, plain_done, row-own, unlooked-told, says-only, places_row, puts-row}

-- ---- register reads

-- the places of the windows that are data registers
unfoldable pub data_in : Region → Bool
data_in (send_place p) = not (ltb p 2)
data_in (receive_place p) = not (ltb p 2)
data_in (fifo_place p) = not (ltb p 2)
data_in (control_of n) = false
data_in elsewhere = false

unfoldable pub data_place : Register → Bool
data_place r = data_in (region_of r)

mixed : ℕ → Bool
mixed a = data_place (register_at a) && not (data_register a)

-- computed over the whole map
none-mixed : some_of mixed 0x60 ≡ false
unfolding some_of mixed data_place data_in data_register register_at low_map pick
none-mixed = refl

pub data-place : (a : ℕ) → a < 0x60 → data_place (register_at a) ≡ true → data_register a ≡ true
unfolding mixed
data-place a h d = not-false (data_register a) (simp d at (some-false mixed 0x60 none-mixed a h))

module _ (rows : List Contents) (sixteen : length rows ≡ 16) (a : ℕ) where
  past-last : (n p : ℕ) → 16 ≤ n → get_or (row_at rows n).bytes p 0 ≡ 0
  past-last n p h = ap (λ (b : Contents). get_or b.bytes p 0) (get_or-eq_default rows no_contents (omega arith))

  window-byte : (n p : ℕ) → window_byte n p (row_at rows (n % 16)) ≡ get_or (row_at rows n).bytes p 0
  unfolding window_byte
  window-byte n p =
      by-test (ltb n 16) (λ t. pick_true (ltb n 16) _ _ t ∙ ap (λ (b : Contents). get_or b.bytes p 0) (row-own rows n _ (ltb-true n 16 t) refl))
      (λ t. pick-false (ltb n 16) _ _ t ∙ sym (past-last n p (ltb-false n 16 t)))

  pub window-value : (n p : ℕ) → (ltb p 2 ≡ false → data_register a ≡ true) →
      Value (window_byte n p (row_at rows (n % 16))) ≡ answer_of (read a) rows (window_reply (heads rows) n p)
  unfolding window_reply
  window-value n p d =
      ap Value (window-byte n p) ∙ by-test (ltb p 2) (λ t. simp (pick_true, t) (head-value (eqb p 0) refl t))
      (λ t. by-test (ltb n 16) (λ u. simp (pick_true, pick-false, t, u, d t) (data-value t)) (λ u. simp (pick-false, t, u) (ap Value (past-last n p (ltb-false n 16 u)))))
    where
      head-value : (z : Bool) → eqb p 0 ≡ z → ltb p 2 ≡ true → Value (get_or (row_at rows n).bytes p 0) ≡ Value (pick (eqb p 0) (head_at (heads rows) n).ident (head_at (heads rows) n).len)
      head-value true e t = simp (pick_true, head_at_lem, eqb-true p 0 e)
      head-value false e t = simp (pick-false, head_at_lem, one (ltb-true p 2 t) (eqb-false p 0 e))
        where
          one : p < 2 → (p ≡ 0 → ⊥) → p ≡ 1
          one x y = omega (arith, y)

      data-value : ltb p 2 ≡ false → Value (get_or (row_at rows n).bytes p 0) ≡ Value (data_at (row_at rows n) (p - 2))
      data-value t = ap (λ (k : ℕ). Value (get_or (row_at rows n).bytes k 0)) (back (ltb-false p 2 t))
        where
          back : 2 ≤ p → p ≡ suc (suc (p - 2))
          back h = omega arith

module _ (c : Controller) (sixteen : length c.rows ≡ 16) (a : ℕ) where
  pub low-address : read_refusal c.control a ≡ 0 → a < 0x60
  unfolding read_refusal first_of refuses1
  low-address e =
      by-test (ltb 0x5F a) (λ t. absurd (never (simp (pick_true, t) at e))) (λ t. let h = ltb-false 0x5F a t in omega arith)
    where
      never : ◌≡◌ {A = ℕ} 1 0 → ⊥
      never q = omega arith

  pub read-plan : read_refusal c.control a ≡ 0 → step_of c (read a) ≡ carry (read a) c.rows c.held (record { control = c.control; moves = []; reply = read_reply c.control (heads c.rows) (register_at a); looked = 0 })
  unfolding decide refusal act pick
  read-plan e = step-plain c (read a) ∙ ap (carry (read a) c.rows c.held) (simp e)

  pub read-refused : eqb (read_refusal c.control a) 0 ≡ false → done_of (step_of c (read a)) ≡ answered c (Refused (read_refusal c.control a))
  unfolding decide refusal
  read-refused t = by-plan c (read a) _ (pick-false (eqb (read_refusal c.control a) 0) _ _ t) ∙ plain_done c (read a) c.control _

-- ---- register writes

module _ (c : Controller) (a v : ℕ) where
  -- the move of a window is its place written
  pub window-moves : (n p : ℕ) → set c.rows n (write_place (row_at c.rows n) p v) ≡ move_all (write a v) c.held (window_moves n p v) c.rows
  unfolding window_moves write_place move_all
  window-moves n p =
      by-test (eqb p 0) (λ t. simp (pick_true, t))
      (λ t. by-test (eqb p 1) (λ u. simp (pick_true, pick-false, t, u)) (λ u. simp (pick-false, t, u)))

  -- and leaves the frames that wait
  window-held : (n p : ℕ) → hold_all (write a v) (window_moves n p v) c.held ≡ c.held
  unfolding window_moves hold_all
  window-held n p =
      by-test (eqb p 0) (λ t. simp (pick_true, t))
      (λ t. by-test (eqb p 1) (λ u. simp (pick_true, pick-false, t, u)) (λ u. simp (pick-false, t, u)))

  -- the frames that waited for n, stored in order of arrival: the newest is left
  in_order : (s t u : Bool) (n : ℕ) →
      move_all (write a v) c.held (pick s (pick u (release 1 n ∷ []) [] ++ pick t (release 0 n ∷ []) []) (pick t (release 0 n ∷ []) [] ++ pick u (release 1 n ∷ []) [])) c.rows
      ≡ pick (t || u) (set c.rows n (row_at c.held (pick t (pick u (pick s 0 1) 0) 1))) c.rows
  unfolding move_all pick
  in_order true true true n = set-set c.rows n (row_at c.held 1) (row_at c.held 0)
  in_order false true true n = set-set c.rows n (row_at c.held 0) (row_at c.held 1)
  in_order true true false n = refl
  in_order false true false n = refl
  in_order true false true n = refl
  in_order false false true n = refl
  in_order true false false n = refl
  in_order false false false n = refl

  still-held : (s t u : Bool) (n : ℕ) →
      hold_all (write a v) (pick s (pick u (release 1 n ∷ []) [] ++ pick t (release 0 n ∷ []) []) (pick t (release 0 n ∷ []) [] ++ pick u (release 1 n ∷ []) [])) c.held ≡ c.held
  unfolding hold_all pick
  still-held true true true n = refl
  still-held false true true n = refl
  still-held true true false n = refl
  still-held false true false n = refl
  still-held true false true n = refl
  still-held false false true n = refl
  still-held true false false n = refl
  still-held false false false n = refl

  pub deliveries-rows : (n : ℕ) → move_all (write a v) c.held (deliveries c.control n) c.rows
      ≡ pick (is_awaited c.control.places n) (set c.rows n (row_at c.held (newest_of c.control.places n))) c.rows
  unfolding deliveries delivery is_awaited newest_of
  deliveries-rows n = in_order c.control.places.swapped (eqb c.control.places.first n) (eqb c.control.places.second n) n

  pub deliveries-held : (n : ℕ) → hold_all (write a v) (deliveries c.control n) c.held ≡ c.held
  unfolding deliveries delivery
  deliveries-held n = still-held c.control.places.swapped (eqb c.control.places.first n) (eqb c.control.places.second n) n

  write-plan : write_refusal c.control a v ≡ 0 →
      decide c.control (heads c.rows) (write a v)
      ≡ record { control = written c.control (register_at a) v; moves = write_moves c.control (register_at a) v; reply = say Ok; looked = 0 }
  unfolding decide refusal act pick
  write-plan e = simp e

  pub write-accepted : write_refusal c.control a v ≡ 0 →
      done_of (step_of c (write a v))
      ≡ answered (record {
        control = written c.control (register_at a) v;
        rows = move_all (write a v) c.held (write_moves c.control (register_at a) v) c.rows;
        held = hold_all (write a v) (write_moves c.control (register_at a) v) c.held;
      }) Ok
  unfolding carry
  write-accepted e = by-plan c (write a v) _ (write-plan e)

  pub write-refused : eqb (write_refusal c.control a v) 0 ≡ false → done_of (step_of c (write a v)) ≡ answered c (Refused (write_refusal c.control a v))
  unfolding decide refusal
  write-refused t = by-plan c (write a v) _ (pick-false (eqb (write_refusal c.control a v) 0) _ _ t) ∙ plain_done c (write a v) c.control _

module _ (c : Controller) (sixteen : length c.rows ≡ 16) (a v : ℕ) where
  -- the control state d and these moves, answered "ok"
  abbrev after : Control → List Move → Done
  after d ms =
      staying (record { control = d; rows = move_all (write a v) c.held ms c.rows; held = hold_all (write a v) ms c.held }) (unlooked Ok)

  window-changes : (d : Control) (n p : ℕ) (row : Contents) → row ≡ row_at c.rows (n % 16) →
      changed c (window_change d n p v row) ≡ after d (window_moves n p v)
  window-changes d n p row e =
      puts-row c d (unlooked Ok) (λ (b : Contents). write_place b p v) n row sixteen e
      ∙ ap₂ (λ (rows held : List Contents). staying (record { control = d; rows = rows; held = held }) (unlooked Ok))
      (window-moves c a v n p) (sym (window-held c a v n p))

  release-changes : (d : Control) (n : ℕ) (image : Contents) → image ≡ row_at c.held (newest_of c.control.places n) →
      changed c (release_change c.control d n v image) ≡ after d (pick (has v LOCK) [] (deliveries c.control n))
  unfolding releases move_all hold_all
  release-changes d n image e =
      by-test (has v LOCK)
      (λ t. simp (t, pick_true, pick-false) (says-only c d (unlooked Ok)))
      (λ t. simp (t, pick-false)
      (by-test (is_awaited c.control.places n)
      (λ u. simp (u, pick_true)
      (places_row c d (unlooked Ok) n image
      ∙ ap₂ kept (ap (set c.rows n) e ∙ sym (deliveries-rows c a v n ∙ pick_true _ _ _ u)) (sym (deliveries-held c a v n))))
      (λ u. simp (u, pick-false) (says-only c d (unlooked Ok) ∙ ap₂ kept (sym (deliveries-rows c a v n ∙ pick-false _ _ _ u)) (sym (deliveries-held c a v n))))))
    where
      kept : List Contents → List Contents → Done
      kept rows held = staying (record { control = d; rows = rows; held = held }) (unlooked Ok)

  region-changes : (d : Control) (g : Region) (row : Contents) → row ≡ reached_in c g →
      changed c (change_in c.control d row g v) ≡ after d (moves_in c.control g v)
  unfolding move_all hold_all
  region-changes d (send_place p) row e = window-changes d c.control.transmit.holder p row e
  region-changes d (receive_place p) row e = window-changes d c.control.receive.holder p row e
  region-changes d (fifo_place p) row e = says-only c d (unlooked Ok)
  region-changes d (control_of n) row e = release-changes d n row e
  region-changes d elsewhere row e = says-only c d (unlooked Ok)

  register-changes : (d : Control) (r : Register) (row : Contents) → row ≡ reached_in c (region_of r) →
      changed c (register_change c.control d r v row) ≡ after d (write_moves c.control r v)
  unfolding register_change write_moves
  register-changes d r row e = region-changes d (region_of r) row e

  -- row being the one that the register reaches, if the write is accepted
  pub write-changes : (row : Contents) → (write_refusal c.control a v ≡ 0 → row ≡ reached_in c (region_of (register_at a))) → changed c (write_change c.control a v row) ≡ done_of (step_of c (write a v))
  unfolding write_change
  write-changes row e =
      by-test (eqb (write_refusal c.control a v) 0)
      (λ t. ap (changed c) (pick_true (eqb (write_refusal c.control a v) 0) _ _ t) ∙ register-changes _ (register_at a) row (e (eqb-true (write_refusal c.control a v) 0 t))
      ∙ unlooked-told _ Ok refl ∙ sym (write-accepted c a v (eqb-true (write_refusal c.control a v) 0 t)))
      (λ t. ap (changed c) (pick-false (eqb (write_refusal c.control a v) 0) _ _ t) ∙ says-only c c.control _ ∙ unlooked-told c (Refused _) refl ∙ sym (write-refused c a v t))
