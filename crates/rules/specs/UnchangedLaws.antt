-- Towards proofs/UnchangedLaws.antt: the plans that change nothing if they are answered "refused" or "ignored", but for a frame's.
use Rattle.std.specs.Prelude.{◌≡◌, ℕ, Bool, true, false, ◌&&◌, not, List, [], leb}
use Rattle.std.proofs.Math.Path.{refl}
use Rattle.std.proofs.Common.{sym, ◌∙◌}
use Rattle.std.proofs.lemmas.Bool.{false≢true}
use Rattle.std.proofs.Math.Dec.{ltb}
use Rattle.masks.specs.PickLaws.{pick-keeps}
use Rattle.masks.specs.Bits.{highest}
use Rattle.contents.specs.Bytes.{Head}
use Rattle.rules.specs.declared.Answer.{Answer}
use Rattle.rules.specs.declared.Answer.TheVariants.{Ignored}
use Rattle.rules.specs.declared.Control.{Control}
use Rattle.rules.specs.Kinds.{is_locked}
use Rattle.rules.specs.Waiting.{asleep, is_free}
use Rattle.rules.specs.Bus.{due_sync, to_place, to_buffer, fifo_takes, to_fifo, offers, send_from, slot_for, slotted}
use Rattle.rules.specs.Answers.{changes_nothing}
use Rattle.rules.specs.Plan.{Reply, say, show, send, Plan, plain, with_looked}
use Rattle.rules.specs.Rules.{on_bus}

abbrev pub still_reply : Reply → Bool
still_reply (say a) = changes_nothing a
still_reply (show n j) = false
still_reply (send n) = false

-- a plan that changes nothing if it is answered so
pub record Still (c : Control) (p : Plan) : Type 0 where
  pub same-control : still_reply p.reply ≡ true → p.control ≡ c
  pub no-moves : still_reply p.reply ≡ true → p.moves ≡ []

impossible : {G : Type 0} → false ≡ true → G
impossible e = absurd (false≢true e)

-- an answer of another kind, and a plan that is no change
pub other : {c : Control} (p : Plan) → still_reply p.reply ≡ false → Still c p
other p e = record { same-control = λ t. impossible (sym e ∙ t); no-moves = λ t. impossible (sym e ∙ t) }

pub same : (c : Control) (a : Answer) → Still c (plain c a)
same c a = record { same-control = λ t. refl; no-moves = λ t. refl }

-- a count changes nothing
pub counted-still : {c : Control} (p : Plan) (k : ℕ) → Still c p → Still c (with_looked p k)
counted-still p k s = record { same-control = s.same-control; no-moves = s.no-moves }

module _ (c : Control) where
  pub bus-still : (x y : Plan) → Still c x → Still c y → Still c (on_bus c x y)
  unfolding on_bus
  bus-still x y p q = pick-keeps (Still c) c.mode.init (λ t. same c Ignored) (λ t. pick-keeps (Still c) (asleep c) (λ u. p) (λ u. q))

  pub due-still : (hs : List Head) → Still c (due_sync c hs)
  unfolding due_sync
  due-still hs =
      pick-keeps (Still c) c.mode.master (λ t. other _ refl) (λ t. same c Ignored)

  pub buffer-still : (d : Control) (n : ℕ) → Still c (to_buffer d n)
  unfolding to_buffer to_place
  buffer-still d n =
      pick-keeps (Still c) (is_locked d n)
      (λ t. pick-keeps (Still c) (is_free d 0) (λ u. other _ refl) (λ u. pick-keeps (Still c) (is_free d 1) (λ x. other _ refl) (λ x. other _ refl)))
      (λ t. other _ refl)

  pub fifo-still : (d : Control) (i : ℕ) → Still c (to_fifo d i)
  unfolding to_fifo
  fifo-still d i =
      pick-keeps (Still c) (fifo_takes d i)
      (λ t. pick-keeps (Still c) (leb d.config.fsiz d.fifo.count) (λ u. other _ refl) (λ u. other _ refl)) (λ t. other _ refl)

  pub slot-still : (hs : List Head) (i : ℕ) → Still c (slotted c hs i)
  unfolding slotted slot_for send_from
  slot-still hs i =
      let n = highest (offers c hs i) 16 in
      pick-keeps (Still c) (not c.mode.synced) (λ t. same c Ignored)
      (λ t. pick-keeps (Still c) (ltb c.mode.last i && ltb n 16)
      (λ u. other _ refl) (λ u. other _ refl))
