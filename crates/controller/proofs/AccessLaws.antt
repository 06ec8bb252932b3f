-- Register reads in the terms of the code: that their answers do what the rules say.
use Rattle.std.proofs.Math.Path.{◌≡◌, refl, sym, ap}
use Rattle.std.proofs.Common.{◌∙◌}
use Rattle.std.specs.Prelude.{ℕ, ◌%◌, length}
use Rattle.std.proofs.Math.Bool.{true, not}
use borrow.Author.Tests.{eqb-true}
use Rattle.std.proofs.Math.Dec.{eqb}
use Rattle.masks.specs.PickLaws.{pick_true, pick-false, by-test}
use Rattle.contents.specs.declared.Contents.{Contents}
use Rattle.rules.specs.declared.Answer.{Answer}
use Rattle.rules.specs.declared.Answer.TheVariants.{Value, Refused}
use Rattle.rules.specs.declared.Register.{Register}
use Rattle.rules.specs.Registers.{Region, send_place, receive_place, fifo_place, control_of, elsewhere, region_of, register_at}
use Rattle.rules.specs.Kinds.{fifo_holder}
use Rattle.rules.specs.Steps.{read, data_register}
use Rattle.rules.specs.Reads.{value_of, reply_in, read_reply}
use Rattle.rules.specs.Refusals.{read_refusal}
use Rattle.controller.specs.declared.Controller.{Controller}
use Rattle.controller.specs.Carry.{heads, row_at, move_all, hold_all, answer_of, carry}
use Rattle.controller.specs.Session.{step_of}
use Rattle.controller.specs.Calls.{done_of}
use Rattle.controller.specs.Code.{answered, unlooked, staying, told_of, holder_in, holder_of, window_row, value_in, register_value, read_answer}
use Rattle.controller.specs.CodeLaws.{step-told, unlooked-told}
use Rattle.controller.specs.AccessLaws.{data_in, data_place, data-place, window-value, low-address, read-plan, read-refused}

-- ---- register reads

module _ (c : Controller) (sixteen : length c.rows ≡ 16) (a : ℕ) where
  region-value : (g : Region) (v : ℕ) → (data_in g ≡ true → data_register a ≡ true) →
      Value (value_in c.control (row_at c.rows (holder_in c.control g % 16)) g v) ≡ answer_of (read a) c.rows (reply_in c.control (heads c.rows) g v)
  unfolding data_in
  region-value (send_place p) v d = window-value c.rows sixteen a c.control.transmit.holder p (λ t. d (ap not t))
  region-value (receive_place p) v d = window-value c.rows sixteen a c.control.receive.holder p (λ t. d (ap not t))
  region-value (fifo_place p) v d = window-value c.rows sixteen a (fifo_holder c.control) p (λ t. d (ap not t))
  region-value (control_of n) v d = refl
  region-value elsewhere v d = refl

  register-value : (r : Register) → (data_place r ≡ true → data_register a ≡ true) →
      Value (register_value c.control r (row_at c.rows (window_row c.control r))) ≡ answer_of (read a) c.rows (read_reply c.control (heads c.rows) r)
  unfolding read_reply register_value holder_of data_place
  register-value r d = region-value (region_of r) (value_of c.control r) d

  read-accepted : read_refusal c.control a ≡ 0 → done_of (step_of c (read a)) ≡ answered c (Value (register_value c.control (register_at a) (row_at c.rows (window_row c.control (register_at a)))))
  unfolding carry move_all hold_all
  read-accepted e = step-told c (read a) ∙ ap told_of (read-plan c sixteen a e) ∙ ap (λ (x : Answer). answered c x) (sym (register-value (register_at a) (data-place a (low-address c sixteen a e))))

  -- row being that of the window's holder
  pub read-answers : (row : Contents) → row ≡ row_at c.rows (window_row c.control (register_at a)) → staying c (read_answer c.control a row) ≡ done_of (step_of c (read a))
  unfolding read_answer
  read-answers row e =
      ap (λ (b : Contents). staying c (read_answer c.control a b)) e
      ∙ by-test (eqb (read_refusal c.control a) 0)
      (λ t. ap (λ (x : Answer). staying c (unlooked x)) (pick_true (eqb (read_refusal c.control a) 0) _ _ t) ∙ unlooked-told c (Value _) refl
      ∙ sym (read-accepted (eqb-true (read_refusal c.control a) 0 t)))
      (λ t. ap (λ (x : Answer). staying c (unlooked x)) (pick-false (eqb (read_refusal c.control a) 0) _ _ t) ∙ unlooked-told c (Refused _) refl ∙ sym (read-refused c sixteen a t))
