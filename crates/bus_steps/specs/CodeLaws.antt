-- Laws of the code's rulings, for the crate that carries them out.
use Rattle.std.specs.Prelude.{◌≡◌, refl, ℕ, ◌<◌, Bool, true, false, ◌&&◌, not, List}
use Rattle.std.proofs.Common.{ap, ◌∙◌}
use Rattle.masks.specs.Pick.{pick}
use Rattle.masks.specs.PickLaws.{pick-false}
use Rattle.masks.specs.Bits.{bit_of, mask_of}
use Rattle.masks.specs.Laws.{bit_mask, same-mask}
use Rattle.contents.specs.Bytes.{Head}
use Rattle.rules.specs.declared.SyncKind.{SyncKind}
use Rattle.rules.specs.declared.Answer.TheVariants.{Ignored}
use Rattle.rules.specs.declared.Control.{Control}
use Rattle.rules.specs.Plan.{Plan, plain}
use Rattle.rules.specs.Rules.{on_bus}
use Rattle.rules.specs.Kinds.{is_full_transmit, is_locked}
use Rattle.rules.specs.Waiting.{asleep}
use Rattle.rules.specs.Modes.{cancel}
use Rattle.rules.specs.Bus.{arms, synced, due_kind, due_sync}
use Rattle.bus_steps.specs.Code.{is_named, is_ready, arms_of, synced_of, due_of}

-- ---- the full transmit buffers with an identifier, as a mask

-- a is asked twice
twice : (a b x : Bool) → (a && b && (a && x)) ≡ (a && b && x)
twice true b x = refl
twice false b x = refl

arms-ready : (c : Control) (hs : List Head) (m n : ℕ) → m ≡ mask_of (is_ready c hs) → n < 16 → arms_of c m n ≡ arms c hs n
unfolding arms_of arms is_ready is_named
arms-ready c hs m n e h =
    ap (λ (t : Bool). is_full_transmit c n && not (is_locked c n) && t) (ap (λ (x : ℕ). bit_of x n) e ∙ bit_mask (is_ready c hs) n h)
    ∙ twice (is_full_transmit c n) (not (is_locked c n)) (is_named hs n)

-- SLPRQ is in no arming
arms-cancel : (c : Control) (hs : List Head) (n : ℕ) → arms c hs n ≡ arms (cancel c) hs n
unfolding arms is_locked cancel
arms-cancel c hs n = refl

pub synced-ready : (k : SyncKind) (c : Control) (hs : List Head) (m : ℕ) → m ≡ mask_of (is_ready c hs) → synced_of k c m ≡ synced k (cancel c) hs
unfolding synced_of synced cancel
synced-ready k c hs m e = simp (same-mask (arms_of c m) (arms (cancel c) hs) (λ n h. arms-ready c hs m n e h ∙ arms-cancel c hs n))

pub due-ready : (c : Control) (hs : List Head) (m : ℕ) → m ≡ mask_of (is_ready c hs) → due_of c m ≡ due_sync c hs
unfolding due_of due_sync
due-ready c hs m e = simp (synced-ready (due_kind c) c hs m e)

-- out of initialization and awake, a bus step is the plan given last
pub bus-awake : (c : Control) (p q : Plan) → c.mode.init ≡ false → asleep c ≡ false → on_bus c p q ≡ q
unfolding on_bus
bus-awake c p q i s = pick-false c.mode.init (plain c Ignored) (pick (asleep c) p q) i ∙ pick-false (asleep c) p q s
