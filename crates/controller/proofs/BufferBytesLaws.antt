-- A buffer's bytes from step to step, and what a register reads that shows one.
use Rattle.std.specs.Prelude.{◌≡◌, true, false, ◌&&◌, eqb}
use Rattle.std.proofs.Math.Path.{ap}
use Rattle.std.proofs.Common.{sym, ap₂, ◌∙◌}
use Prim.Native.Nat.{ℕ}
use Rattle.std.proofs.Math.Bool.{and-eq-true_iff, false≢true}
use mathlib.Core.List.{List}
use borrow.Author.Tests.{eqb-true}
use Rattle.std.proofs.Math.ListN.{get_or}
use Rattle.masks.specs.Pick.{pick}
use Rattle.masks.specs.PickLaws.{by-test}
use Rattle.contents.specs.declared.Contents.{Contents}
use Rattle.rules.specs.declared.Answer.TheVariants.{Value, Refused}
use Rattle.rules.specs.Registers.{Region, send_place, receive_place, fifo_place, control_of, elsewhere, region_of, register_at}
use Rattle.rules.specs.Kinds.{fifo_holder}
use Rattle.rules.specs.Refusals.{refusal, read_refusal, first_of, refuses1, refuses2}
use Rattle.rules.specs.Reads.{window_reply, reply_in, read_reply}
use Rattle.rules.specs.Waiting.{asleep}
use Rattle.rules.specs.Answers.{is_put_in}
use Rattle.rules.specs.Steps.{Step, reset, read, write, sync, sync_due, slot, frame, fault, timeout}
use Rattle.rules.specs.Rules.{act, decide}
use Rattle.rules.specs.BusPlanLaws.{slot-plan}
use Rattle.rules.proofs.BusPlanLaws.{frame-plan}
use Rattle.controller.specs.declared.Controller.{Controller}
use Rattle.controller.specs.Carry.{heads, row_at, answer_of, Outcome, carry}
use Rattle.controller.specs.Session.{step_of}
use Rattle.controller.specs.BufferBytes.{byte_at, is_place_of, shows, may_change}
use Rattle.controller.specs.CodeLaws.{step-plain, sync-changes, sync-due-changes, fault-changes, timeout-changes, slot_plan}
use Rattle.controller.specs.Unchanged.{read-unchanged}
use Rattle.controller.specs.BufferBytesLaws.{unput-plan, write_keeps, slot-rows, event-keeps, place-reads, in_map, not-mcr}

module _ (c : Controller) (n k : ℕ) where
  pub step_keeps : (e : Step) → may_change c n k e ≡ false → byte_at (step_of c e).next n k ≡ byte_at c n k
  unfolding may_change
  step_keeps reset x = absurd (false≢true (sym x))
  step_keeps (read a) x = ap (λ (d : Controller). byte_at d n k) (read-unchanged c a)
  step_keeps (write a v) x = write_keeps c a v n k x
  step_keeps (sync s) x = event-keeps c n k (sync s) (sync-changes c s)
  step_keeps sync_due x = event-keeps c n k sync_due (sync-due-changes c)
  step_keeps (slot i room) x =
      ap (λ (o : Outcome). byte_at o.next n k) (step-plain c (slot i room))
      ∙ ap (λ (rows : List Contents). get_or (row_at rows n).bytes k 0) (slot-rows (slot i room) c.rows c.held (slot_plan c i room) (slot-plan c.control (heads c.rows) i room))
  step_keeps (frame good f) x =
      let same = step-plain c (frame good f) in
      ap (λ (o : Outcome). byte_at o.next n k) same
      ∙ ap (λ (b : Contents). get_or b.bytes k 0)
      (unput-plan c.rows c.held good f n _ (frame-plan c.control (heads c.rows) good f) (ap (λ (o : Outcome). is_put_in n o.answer) (sym same) ∙ x))
  step_keeps (fault s) x = event-keeps c n k (fault s) (fault-changes c s)
  step_keeps timeout x = event-keeps c n k timeout (timeout-changes c)

module _ (c : Controller) (a n : ℕ) where
  window-reads : (h p k : ℕ) → (eqb h n && eqb p k) ≡ true → byte_at c n k ≡ 0 → answer_of (read a) c.rows (window_reply (heads c.rows) h p) ≡ Value 0
  window-reads h p k e z =
      let both = (and-eq-true_iff (eqb h n) (eqb p k)).0 e in
      ap₂ (λ (x y : ℕ). answer_of (read a) c.rows (window_reply (heads c.rows) x y)) (eqb-true h n both.0) (eqb-true p k both.1) ∙ place-reads c a n k z

  region-reads : (k : ℕ) (g : Region) (v : ℕ) → is_place_of c.control n k g ≡ true → byte_at c n k ≡ 0 →
      answer_of (read a) c.rows (reply_in c.control (heads c.rows) g v) ≡ Value 0
  region-reads k (send_place p) v e z = window-reads c.control.transmit.holder p k e z
  region-reads k (receive_place p) v e z = window-reads c.control.receive.holder p k e z
  region-reads k (fifo_place p) v e z = window-reads (fifo_holder c.control) p k e z
  region-reads k (control_of m) v e z = absurd (false≢true e)
  region-reads k elsewhere v e z = absurd (false≢true e)

module _ (c : Controller) (n k a : ℕ) (shown : shows c.control n k a ≡ true) where
  pub zero-read : byte_at c n k ≡ 0 → (step_of c (read a)).answer ≡ pick (asleep c.control) (Refused 2) (Value 0)
  unfolding carry decide refusal read_refusal first_of refuses1 refuses2 act read_reply shows pick
  zero-read z =
      ap (λ (o : Outcome). o.answer) (step-plain c (read a))
      ∙ by-test (asleep c.control) (λ t. simp (in_map c n k a shown, not-mcr c n k a shown, t)) (λ t. simp (in_map c n k a shown, not-mcr c n k a shown, t) (region-reads c a n k (region_of (register_at a)) _ shown z))
