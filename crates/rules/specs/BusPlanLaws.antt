-- The plans of frames and slots: a frame's stores it in the buffer that its answer names, lets it wait, or moves no byte (of all that
-- comes in, in proofs/BusPlanLaws.antt); a slot's answers, or sends a buffer's frame.
use Rattle.std.specs.Prelude.{◌≡◌, refl, ℕ, ◌<◌, true, false, List, [], ◌∷◌}
use Rattle.std.proofs.Common.{arith, eq-eqb}
use Rattle.masks.specs.PickLaws.{pick-keeps}
use Rattle.contents.specs.Bytes.{Head}
use Rattle.rules.specs.declared.Answer.{Answer}
use Rattle.rules.specs.declared.Control.{Control}
use Rattle.rules.specs.Bus.{to_place, to_buffer, to_fifo, send_from, slot_for, slotted}
use Rattle.rules.specs.Answers.{is_put, is_put_in, is_held, is_looked_up}
use Rattle.rules.specs.Steps.{slot}
use Rattle.rules.specs.Plan.{store, hold, say, send, Plan, plain, with_looked}
use Rattle.rules.specs.Rules.{on_bus, act, decide}

-- ---- frames

pub data FramePlan : Plan → Type 0 where
  drops : (c : Control) (a : Answer) (k : ℕ) → is_put a ≡ false → is_held a ≡ false → FramePlan (with_looked (plain c a) k)
  waits : (c : Control) (j : ℕ) (a : Answer) (k : ℕ) → j < 2 → is_held a ≡ true → FramePlan (record { control = c; moves = hold j ∷ []; reply = say a; looked = k })
  puts : (c : Control) (n : ℕ) (a : Answer) (k : ℕ) → is_put_in n a ≡ true →
      FramePlan (record { control = c; moves = store n ∷ []; reply = say a; looked = k })

pub counted-plan : {p : Plan} (k : ℕ) → FramePlan p → FramePlan (with_looked p k)
counted-plan k (drops c a j e f) = drops c a k e f
counted-plan k (waits c j a i h e) = waits c j a k h e
counted-plan k (puts c n a j e) = puts c n a k e

pub buffer-plan : (c : Control) (n : ℕ) → FramePlan (to_buffer c n)
unfolding to_buffer to_place
buffer-plan c n =
    pick-keeps FramePlan _
    (λ t. pick-keeps FramePlan _ (λ u. waits _ 0 _ 0 (omega arith) refl) (λ u. pick-keeps FramePlan _ (λ x. waits _ 1 _ 0 (omega arith) refl) (λ x. drops _ _ 0 refl refl)))
    (λ t. puts _ n _ 0 (eq-eqb n n refl))

pub fifo-plan : (c : Control) (i : ℕ) → FramePlan (to_fifo c i)
unfolding to_fifo
fifo-plan c i =
    pick-keeps FramePlan _
    (λ t. pick-keeps FramePlan _ (λ u. drops _ _ 0 refl refl) (λ u. puts _ c.fifo.next _ 0 (eq-eqb c.fifo.next c.fifo.next refl)))
    (λ t. drops _ _ 0 refl refl)

-- ---- slots

pub data SlotPlan : Plan → Type 0 where
  says : (c : Control) (a : Answer) → is_looked_up a ≡ false → SlotPlan (plain c a)
  sends : (c : Control) (n : ℕ) → SlotPlan (record { control = c; moves = []; reply = send n; looked = 0 })

pub slot-plan : (c : Control) (hs : List Head) (i : ℕ) (room : List ℕ) → SlotPlan (decide c hs (slot i room))
unfolding decide act on_bus slotted slot_for send_from
slot-plan c hs i room =
    pick-keeps SlotPlan _
    (λ t. pick-keeps SlotPlan _ (λ u. says _ _ refl)
    (λ u. pick-keeps SlotPlan _ (λ x. says _ _ refl)
    (λ x. pick-keeps SlotPlan _ (λ y. says _ _ refl) (λ y. pick-keeps SlotPlan _ (λ z. sends _ _) (λ z. says _ _ refl)))))
    (λ t. says _ _ refl)
