-- Towards proofs/KeptLinesLaws.antt: the answers after which the five lines are as they were, and the plans that are answered so, but
-- for a frame's.
use Rattle.std.specs.Prelude.{◌≡◌, ℕ, Bool, true, false, ◌&&◌, ◌||◌, not, List, leb}
use Rattle.std.proofs.Math.Path.{refl}
use Rattle.std.proofs.Common.{sym, ◌∙◌}
use Rattle.std.proofs.lemmas.Bool.{false≢true}
use Rattle.std.proofs.Math.Dec.{eqb, ltb}
use Rattle.masks.specs.PickLaws.{pick-keeps}
use Rattle.masks.specs.Bits.{highest}
use Rattle.contents.specs.Bytes.{Head}
use Rattle.rules.specs.declared.SyncKind.{SyncKind}
use Rattle.rules.specs.declared.Answer.{Answer}
use Rattle.rules.specs.declared.Answer.TheVariants.{Ok, Value, Stored, Queued, Waiting, HeldOff, Sent, Pulse, Refused, Overrun, Unmatched, BadFrame, Ignored, Woke, NotSent}
use Rattle.rules.specs.declared.Places.{Places}
use Rattle.rules.specs.declared.Control.{Control}
use Rattle.rules.specs.Record.{with_places}
use Rattle.rules.specs.Kinds.{is_locked, lockif}
use Rattle.rules.specs.Flags.{receive_pending, transmit_pending, rxif, txif, risr, gisr, lines_of}
use Rattle.rules.specs.Waiting.{asleep, is_free}
use Rattle.rules.specs.Modes.{cancel}
use Rattle.rules.specs.Bus.{due_sync, to_place, to_buffer, fifo_takes, to_fifo, raise_last, offers, send_from, slot_for, slotted}
use Rattle.rules.specs.Answers.{word_of, HELDOFF, WAITING, UNMATCHED, changes_nothing}
use Rattle.rules.specs.Plan.{Reply, say, show, send, Plan, with_looked}
use Rattle.rules.specs.Rules.{on_bus}

-- ---- those answers

abbrev VALUE : ℕ
VALUE = 1

abbrev NOTSENT : ℕ
NOTSENT = 14

-- "read", "refused", "ignored", "waiting", "heldoff", "unmatched", "notsent"
unfoldable pub keeps_lines : Answer → Bool
keeps_lines a =
    changes_nothing a || eqb (word_of a) VALUE || eqb (word_of a) WAITING || eqb (word_of a) HELDOFF || eqb (word_of a) UNMATCHED || eqb (word_of a) NOTSENT

pub keeps-seven : (n : ℕ) →
    (keeps_lines (Value n) ≡ true) × (keeps_lines (Waiting n) ≡ true) × (keeps_lines (HeldOff n) ≡ true) × (keeps_lines (Refused n) ≡ true)
    × (keeps_lines Unmatched ≡ true) × (keeps_lines Ignored ≡ true) × (keeps_lines NotSent ≡ true)
unfolding keeps_lines
keeps-seven n = (refl, refl, refl, refl, refl, refl, refl)

pub keeps-no-other : (n : ℕ) (k : SyncKind) →
    (keeps_lines Ok ≡ false) × (keeps_lines (Stored n) ≡ false) × (keeps_lines (Queued n) ≡ false) × (keeps_lines (Sent n) ≡ false)
    × (keeps_lines (Pulse k) ≡ false) × (keeps_lines Overrun ≡ false) × (keeps_lines BadFrame ≡ false) × (keeps_lines Woke ≡ false)
unfolding keeps_lines
keeps-no-other n k = (refl, refl, refl, refl, refl, refl, refl, refl)

-- the same of a plan's reply
abbrev pub keeps_by : Reply → Bool
keeps_by (say a) = keeps_lines a
keeps_by (show n j) = true
keeps_by (send n) = false

-- ---- the plans that are answered so

-- the last identifier is in no flag, nor is SLPRQ
pub raise-kept : (c : Control) (i : ℕ) → lines_of (raise_last (cancel c) i) ≡ lines_of c
unfolding lines_of risr gisr rxif txif receive_pending transmit_pending lockif raise_last cancel
raise-kept c i = refl

-- nor are the waiting places
hold-kept : (c : Control) (p : Places) → lines_of (with_places c p) ≡ lines_of c
unfolding lines_of risr gisr rxif txif receive_pending transmit_pending lockif
hold-kept c p = refl

-- a plan that leaves the lines of c if it is answered so
pub record Kept (c : Control) (p : Plan) : Type 0 where
  pub kept : keeps_by p.reply ≡ true → lines_of p.control ≡ lines_of c

module _ (c : Control) where
  -- an answer of another kind, and a state with the same lines
  pub other : (p : Plan) → keeps_by p.reply ≡ false → Kept c p
  other p e = record { kept = λ t. absurd (false≢true (sym e ∙ t)) }

  pub same : (p : Plan) → lines_of p.control ≡ lines_of c → Kept c p
  same p e = record { kept = λ t. e }

  -- a count is in no flag
  pub counted-kept : (p : Plan) (k : ℕ) → Kept c p → Kept c (with_looked p k)
  counted-kept p k s = record { kept = s.kept }

  pub bus-kept : (x y : Plan) → Kept c x → Kept c y → Kept c (on_bus c x y)
  unfolding on_bus
  bus-kept x y p q = pick-keeps (Kept c) c.mode.init (λ t. same _ refl) (λ t. pick-keeps (Kept c) (asleep c) (λ u. p) (λ u. q))

  pub due-kept : (hs : List Head) → Kept c (due_sync c hs)
  unfolding due_sync keeps_lines
  due-kept hs = pick-keeps (Kept c) c.mode.master (λ t. other _ refl) (λ t. same _ refl)

  pub slot_kept : (hs : List Head) (i : ℕ) → Kept c (slotted c hs i)
  unfolding slotted slot_for send_from
  slot_kept hs i =
      let n = highest (offers c hs i) 16 in
      pick-keeps (Kept c) (not c.mode.synced) (λ t. same _ refl)
      (λ t. pick-keeps (Kept c) (ltb c.mode.last i && ltb n 16) (λ u. other _ refl) (λ u. same _ refl))

  pub buffer-kept : (d : Control) (n : ℕ) → lines_of d ≡ lines_of c → Kept c (to_buffer d n)
  unfolding to_buffer to_place keeps_lines
  buffer-kept d n e =
      pick-keeps (Kept c) (is_locked d n)
      (λ t. pick-keeps (Kept c) (is_free d 0) (λ u. same _ (hold-kept d _ ∙ e))
      (λ u. pick-keeps (Kept c) (is_free d 1) (λ x. same _ (hold-kept d _ ∙ e)) (λ x. same _ e)))
      (λ t. other _ refl)

  pub fifo-kept : (d : Control) (i : ℕ) → lines_of d ≡ lines_of c → Kept c (to_fifo d i)
  unfolding to_fifo keeps_lines
  fifo-kept d i e =
      pick-keeps (Kept c) (fifo_takes d i)
      (λ t. pick-keeps (Kept c) (leb d.config.fsiz d.fifo.count) (λ u. other _ refl) (λ u. other _ refl)) (λ t. same _ e)
