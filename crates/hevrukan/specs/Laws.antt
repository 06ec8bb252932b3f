-- What holds of the C interface.
use Rattle.std.specs.Prelude.{◌≡◌, ℕ, List, eqb}
use Rattle.std.proofs.Math.Path.{sym}
use Rattle.std.proofs.Common.{ap, ◌∙◌}
use Rattle.masks.specs.PickLaws.{pick_true, pick-false, by-test}
use Rattle.controller.specs.declared.Controller.{Controller}
use Rattle.controller.specs.declared.Done.{Done}
use Rattle.controller.specs.CodeLaws.{reset-step}
use Rattle.encoding.specs.Answers.{number_of}
use Rattle.encoding.specs.Calls.{record_size, call_of}
use Rattle.hevrukan.specs.Interface.{Effect, effect_of, step_effect, reset_next, reset_answer}

-- `hevrukan_reset` is the step of kind 0, whatever its numbers, frame and room
module _ (c : Controller) (size first second : ℕ) (frame room : List ℕ) where
  abbrev stepped : Effect
  stepped = step_effect c size 0 first second frame room

  pub reset-next : reset_next c size ≡ stepped.next
  unfolding reset_next step_effect effect_of call_of
  reset-next =
      by-test (eqb size record_size)
      (λ e. pick_true _ _ _ e ∙ sym (ap (λ (d : Done). d.next) (reset-step c)) ∙ sym (ap (λ (x : Effect). x.next) (pick_true _ _ _ e)))
      (λ e. pick-false _ _ _ e ∙ sym (ap (λ (x : Effect). x.next) (pick-false _ _ _ e)))

  pub reset-answer : reset_answer size ≡ stepped.answer
  unfolding reset_answer step_effect effect_of call_of
  reset-answer =
      by-test (eqb size record_size)
      (λ e. pick_true _ _ _ e ∙ sym (ap (λ (d : Done). number_of d.answered) (reset-step c)) ∙ sym (ap (λ (x : Effect). x.answer) (pick_true _ _ _ e)))
      (λ e. pick-false _ _ _ e ∙ sym (ap (λ (x : Effect). x.answer) (pick-false _ _ _ e)))
