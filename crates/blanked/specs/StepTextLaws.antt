-- The line of a step. The grammar has one line for each step: a line that is read is the line of its step.
use Rattle.std.specs.Prelude.{ℕ, zero, suc, ◌+◌, ◌≤◌, ◌≡◌, refl, Bool, get_or, drop, length, replicate, Option, Some, None}
use Rattle.std.proofs.Common.{sym, ◌∙◌, arith, add-zero, drop_of_length-le, drop-cons}
use Rattle.std.proofs.Math.Path.{ap, ap₂}
use Rattle.std.proofs.Math.Bool.{true, false}
use mathlib.Core.List.{List, [], ◌∷◌, ◌++◌, append-nil}
use borrow.Author.Tests.{eqb-true, ltb-false}
use Rattle.std.proofs.Math.Dec.{eqb, ltb}
use Rattle.masks.specs.PickLaws.{pick-keeps}
use Rattle.contents.specs.Bytes.{bytes_from}
use Rattle.rules.specs.declared.Fault.{Fault}
use Rattle.rules.specs.declared.Fault.TheVariants.{Early, Lost, Illegal, Mismatch}
use Rattle.rules.specs.Steps.{Step, reset, read, write, sync, sync_due, slot, frame, fault, timeout}
use Rattle.lines.specs.Grammar.{no_frame, byte_of, one_of, sync_of, fault_of, three_of, four_of, seven_of, short_of}
use Rattle.report.specs.Text.{hex_of, hexes_of, kind_text}
use Rattle.replaying.specs.Replay.{step_in}
use Rattle.blanked.specs.DigitLaws.{byte-hex}
use Rattle.blanked.specs.Entries.{step_beside}
use Rattle.controller.specs.declared.Call.{Call}

-- ---- the line of a step

-- E, L, I or M
abbrev pub fault_text : Fault → List ℕ
fault_text Early = 69 ∷ []
fault_text Lost = 76 ∷ []
fault_text Illegal = 73 ∷ []
fault_text Mismatch = 77 ∷ []

-- G or B
abbrev pub verdict_byte : Bool → ℕ
verdict_byte true = 71
verdict_byte false = 66

-- "Z reset; W address value; R address; F G or B, bytes run together; S N or A; P E, L, I or M; M sync due; T slot; Q timeout"
unfoldable pub step_text : Step → List ℕ
step_text reset = 90 ∷ []
step_text (read a) = 82 ∷ 9 ∷ hex_of a
step_text (write a v) = 87 ∷ 9 ∷ (hex_of a ++ 9 ∷ hex_of v)
step_text (sync k) = 83 ∷ 9 ∷ kind_text k
step_text sync_due = 77 ∷ []
step_text (slot i room) = 84 ∷ 9 ∷ hex_of i
step_text (frame good f) = 70 ∷ 9 ∷ verdict_byte good ∷ 9 ∷ hexes_of f
step_text (fault k) = 80 ∷ 9 ∷ fault_text k
step_text timeout = 81 ∷ []

abbrev pub Bytes : List ℕ → Type 0
Bytes [] = Unit {0}
Bytes (v ∷ vs) = (v ≤ 255) × Bytes vs

-- the steps that lines are: arguments of a byte, frames of at most 30 bytes, slots that lend fourteen zeros
abbrev pub Fits : Step → Type 0
Fits reset = Unit {0}
Fits (read a) = a ≤ 255
Fits (write a v) = (a ≤ 255) × (v ≤ 255)
Fits (sync k) = Unit {0}
Fits sync_due = Unit {0}
Fits (slot i room) = (i ≤ 255) × (room ≡ replicate 14 0)
Fits (frame good f) = Bytes f × (length f ≤ 30)
Fits (fault k) = Unit {0}
Fits timeout = Unit {0}

-- what the line s says: where it is read, it is the line of its step
abbrev pub Says : List ℕ → Option Step → Type 0
Says s None = Unit {0}
Says s (Some e) = (s ≡ step_text e) × Fits e

-- ---- lists by their places

-- k bytes from place i on, and what is behind them
pub spelled : (k i : ℕ) (s : List ℕ) → i + k ≤ length s → drop i s ≡ bytes_from i k s ++ drop (i + k) s
unfolding bytes_from
spelled zero i s h = ap (λ (n : ℕ). drop n s) (sym (add-zero i))
spelled (suc k) i s h =
    let e : suc i + k ≡ i + suc k = omega arith in
    drop-cons s i 0 (omega arith) ∙ ap (λ (x : List ℕ). get_or s i 0 ∷ x) (spelled k (suc i) s (omega arith) ∙ ap (λ (n : ℕ). bytes_from (suc i) k s ++ drop n s) e)

-- a list of k bytes
all-spelled : (k : ℕ) (s : List ℕ) → length s ≡ k → s ≡ bytes_from 0 k s
all-spelled k s e =
    spelled k 0 s (omega arith)
    ∙ ap (λ (x : List ℕ). bytes_from 0 k s ++ x) (drop_of_length-le s {i = 0 + k} (omega arith))
    ∙ append-nil (bytes_from 0 k s)

-- ---- lines without a frame

module _ (s : List ℕ) where
  abbrev pub SaysReading : Option Call → Type 0
  SaysReading k = Says s (step_beside k no_frame)

  one-says : (a : ℕ) → s ≡ a ∷ [] → SaysReading (one_of a)
  unfolding one_of step_beside step_in step_text
  one-says a h =
      pick-keeps SaysReading (eqb a 90) (λ e. (is 90 e, tt))
      (λ n. pick-keeps SaysReading (eqb a 77) (λ e. (is 77 e, tt)) (λ m. pick-keeps SaysReading (eqb a 81) (λ e. (is 81 e, tt)) (λ q. tt)))
    where
      is : (x : ℕ) → eqb a x ≡ true → s ≡ x ∷ []
      is x e = h ∙ ap (λ (y : ℕ). y ∷ []) (eqb-true a x e)

  sync-says : (k : ℕ) → s ≡ 83 ∷ 9 ∷ k ∷ [] → SaysReading (sync_of k)
  unfolding sync_of step_beside step_in step_text kind_text
  sync-says k h = pick-keeps SaysReading (eqb k 78) (λ e. (is 78 e, tt)) (λ n. pick-keeps SaysReading (eqb k 65) (λ e. (is 65 e, tt)) (λ m. tt))
    where
      is : (x : ℕ) → eqb k x ≡ true → s ≡ 83 ∷ 9 ∷ x ∷ []
      is x e = h ∙ ap (λ (y : ℕ). 83 ∷ 9 ∷ y ∷ []) (eqb-true k x e)

  fault-says : (k : ℕ) → s ≡ 80 ∷ 9 ∷ k ∷ [] → SaysReading (fault_of k)
  unfolding fault_of step_beside step_in step_text
  fault-says k h =
      pick-keeps SaysReading (eqb k 69) (λ e. (is 69 e, tt))
      (λ n. pick-keeps SaysReading (eqb k 76) (λ e. (is 76 e, tt))
      (λ m. pick-keeps SaysReading (eqb k 73) (λ e. (is 73 e, tt)) (λ i. pick-keeps SaysReading (eqb k 77) (λ e. (is 77 e, tt)) (λ j. tt))))
    where
      is : (x : ℕ) → eqb k x ≡ true → s ≡ 80 ∷ 9 ∷ x ∷ []
      is x e = h ∙ ap (λ (y : ℕ). 80 ∷ 9 ∷ y ∷ []) (eqb-true k x e)

  three-says : (a t k : ℕ) → s ≡ a ∷ t ∷ k ∷ [] → SaysReading (three_of a t k)
  unfolding three_of step_beside
  three-says a t k h =
      pick-keeps SaysReading (eqb t 9)
      (λ e. pick-keeps SaysReading (eqb a 83) (λ f. sync-says k (is 83 f e))
      (λ n. pick-keeps SaysReading (eqb a 80) (λ f. fault-says k (is 80 f e)) (λ m. tt)))
      (λ n. tt)
    where
      is : (x : ℕ) → eqb a x ≡ true → eqb t 9 ≡ true → s ≡ x ∷ 9 ∷ k ∷ []
      is x e f = h ∙ ap₂ (λ (y z : ℕ). y ∷ z ∷ k ∷ []) (eqb-true a x e) (eqb-true t 9 f)

  four-says : (a t h l : ℕ) → s ≡ a ∷ t ∷ h ∷ l ∷ [] → SaysReading (four_of a t h l)
  unfolding four_of step_beside step_in step_text
  four-says a t h l p =
      pick-keeps SaysReading (eqb t 9)
      (λ e. pick-keeps SaysReading (ltb 255 (byte_of h l)) (λ n. tt)
      (λ b. pick-keeps SaysReading (eqb a 82) (λ f. (is 82 f e b, ltb-false 255 (byte_of h l) b))
      (λ n. pick-keeps SaysReading (eqb a 84) (λ f. (is 84 f e b, (ltb-false 255 (byte_of h l) b, refl))) (λ m. tt))))
      (λ n. tt)
    where
      is : (x : ℕ) → eqb a x ≡ true → eqb t 9 ≡ true → ltb 255 (byte_of h l) ≡ false → s ≡ x ∷ 9 ∷ hex_of (byte_of h l)
      is x e f b =
          p ∙ ap₂ (λ (y z : ℕ). y ∷ z ∷ h ∷ l ∷ []) (eqb-true a x e) (eqb-true t 9 f)
          ∙ ap (λ (y : List ℕ). x ∷ 9 ∷ y) (byte-hex h l (ltb-false 255 (byte_of h l) b))

  seven-says : (a t h l t₂ h₂ l₂ : ℕ) → s ≡ a ∷ t ∷ h ∷ l ∷ t₂ ∷ h₂ ∷ l₂ ∷ [] → SaysReading (seven_of a t h l t₂ h₂ l₂)
  unfolding seven_of step_beside step_in step_text
  seven-says a t h l t₂ h₂ l₂ p =
      pick-keeps SaysReading (eqb a 87)
      (λ e. pick-keeps SaysReading (eqb t 9)
      (λ f. pick-keeps SaysReading (eqb t₂ 9)
      (λ g. pick-keeps SaysReading (ltb 255 (byte_of h l)) (λ n. tt)
      (λ b. pick-keeps SaysReading (ltb 255 (byte_of h₂ l₂)) (λ n. tt)
      (λ c. (is e f g (ltb-false 255 (byte_of h l) b) (ltb-false 255 (byte_of h₂ l₂) c), (ltb-false 255 (byte_of h l) b, ltb-false 255 (byte_of h₂ l₂) c)))))
      (λ n. tt))
      (λ n. tt))
      (λ n. tt)
    where
      is : eqb a 87 ≡ true → eqb t 9 ≡ true → eqb t₂ 9 ≡ true → byte_of h l ≤ 255 → byte_of h₂ l₂ ≤ 255 →
          s ≡ 87 ∷ 9 ∷ (hex_of (byte_of h l) ++ 9 ∷ hex_of (byte_of h₂ l₂))
      is e f g b c =
          p ∙ ap₂ (λ (y z : ℕ). y ∷ z ∷ h ∷ l ∷ t₂ ∷ h₂ ∷ l₂ ∷ []) (eqb-true a 87 e) (eqb-true t 9 f)
          ∙ ap (λ (y : ℕ). 87 ∷ 9 ∷ h ∷ l ∷ y ∷ h₂ ∷ l₂ ∷ []) (eqb-true t₂ 9 g)
          ∙ ap₂ (λ (y z : List ℕ). 87 ∷ 9 ∷ (y ++ 9 ∷ z)) (byte-hex h l b) (byte-hex h₂ l₂ c)

  pub short-says : SaysReading (short_of s)
  unfolding short_of step_beside bytes_from
  short-says =
      pick-keeps SaysReading (eqb (length s) 1) (λ e. one-says _ (all-spelled 1 s (eqb-true _ 1 e)))
      (λ n. pick-keeps SaysReading (eqb (length s) 3) (λ e. three-says _ _ _ (all-spelled 3 s (eqb-true _ 3 e)))
      (λ n. pick-keeps SaysReading (eqb (length s) 4) (λ e. four-says _ _ _ _ (all-spelled 4 s (eqb-true _ 4 e)))
      (λ n. pick-keeps SaysReading (eqb (length s) 7) (λ e. seven-says _ _ _ _ _ _ _ (all-spelled 7 s (eqb-true _ 7 e))) (λ n. tt))))
