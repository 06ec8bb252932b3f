-- Under a lawful layout the dedicated receive buffers up to one of them, n, are those from FSIZ to n; and what a frame's plan reports
-- where a dedicated receive buffer carries the frame's identifier.
use Rattle.std.specs.Prelude.{◌≡◌, refl, Bool, true, false, ◌&&◌, ◌||◌, List, get_or, ltb}
use Rattle.std.proofs.Common.{sym, ◌∙◌}
use Rattle.std.proofs.Math.Path.{ap}
use Prim.Native.Nat.{ℕ, zero, suc, ◌+◌, ◌-◌, ◌<◌, ◌≤◌, min}
use Rattle.std.proofs.Math.Bool.{not, and-false}
use Rattle.std.proofs.lemmas.Bool.{false≢true, and_parts}
use native.Mathlib.Omega.{arith}
use borrow.Author.Tests.{ltb-true, lt-ltb, leb-true, leb-false, not-false}
use Rattle.std.proofs.Math.Dec.{eqb, leb}
use Rattle.masks.specs.PickLaws.{pick-keeps, by-test}
use Rattle.masks.specs.Bits.{count_of, lowest, rising}
use Rattle.masks.specs.SearchLaws.{count-ext}
use Rattle.masks.specs.LayoutLaws.{rising-lowest}
use Rattle.contents.specs.declared.Contents.{Contents}
use Rattle.contents.specs.Bytes.{Head}
use Rattle.rules.specs.declared.Control.{Control}
use Rattle.rules.specs.Answers.{given_of, number_in, is_found}
use Rattle.rules.specs.Kinds.{is_transmit, is_receive, is_locked, is_lawful}
use Rattle.rules.specs.Waiting.{asleep, is_free}
use Rattle.rules.specs.Modes.{cancel}
use Rattle.rules.specs.Bus.{lookup, to_place, to_buffer, fifo_takes, to_fifo, raise_last, examined, found, judged, received}
use Rattle.rules.specs.Refusals.{refusal}
use Rattle.rules.specs.Steps.{Step, frame}
use Rattle.rules.specs.Plan.{Reply, say, show, send, Plan, with_looked}
use Rattle.rules.specs.Rules.{on_bus, act, decide}
use Rattle.controller.specs.Carry.{answer_of}
use Rattle.invariants.specs.ViewLaws.{receive-kind}

-- how many of the first m numbers lie from a to n
interval-count : (a n m : ℕ) → count_of (λ k. leb a k && leb k n) m ≡ min m (n + 1) - a
unfolding count_of
interval-count a n zero = omega arith
interval-count a n (suc m) =
    let rest = interval-count a n m in
    pick-keeps (λ (x : ℕ). count_of (λ k. leb a k && leb k n) m + x ≡ min (suc m) (n + 1) - a) (leb a m && leb m n)
    (λ t. let both = and_parts (leb a m) (leb m n) t in let lo = leb-true a m both.0 in let hi = leb-true m n both.1 in omega arith)
    (λ t. by-test (leb a m)
    (λ u. let z : leb m n ≡ false = ap (λ (x : Bool). x && leb m n) (sym u) ∙ t in let hi = leb-false m n z in omega arith)
    (λ u. let lo = leb-false a m u in omega arith))

module _ (c : Control) (n : ℕ) (lawful : is_lawful c ≡ true) (small : n < 16) (kind : is_receive c n ≡ true) where
  edge : ℕ
  edge = lowest (is_transmit c) 0 16

  rises : rising (is_transmit c) 15 ≡ true
  unfolding is_lawful
  rises = (and_parts (rising (is_transmit c) 15) _ lawful).0

  -- no transmit buffer is below a receive buffer
  below : (k : ℕ) → k ≤ n → is_transmit c k ≡ false
  unfolding edge
  below k l =
      let low = ltb-true n edge (not-false (ltb n edge) (sym (rising-lowest (is_transmit c) n rises small) ∙ receive-kind c n kind)) in
      rising-lowest (is_transmit c) k rises (omega arith) ∙ ap not (lt-ltb k edge (omega arith))

  counted : (k : ℕ) → (is_receive c k && leb k n) ≡ (leb c.config.fsiz k && leb k n)
  counted k =
      by-test (leb k n)
      (λ t. ap (λ (x : Bool). (not x && leb c.config.fsiz k) && leb k n) (below k (leb-true k n t)))
      (λ t. ap (λ (x : Bool). is_receive c k && x) t ∙ and-false (is_receive c k)
      ∙ sym (ap (λ (x : Bool). leb c.config.fsiz k && x) t ∙ and-false (leb c.config.fsiz k)))

  pub examined-from : examined c n ≡ n + 1 - c.config.fsiz
  unfolding examined
  examined-from =
      count-ext (λ k. is_receive c k && leb k n) (λ k. leb c.config.fsiz k && leb k n) 16 (omega arith) (λ k h. counted k)
      ∙ interval-count c.config.fsiz n 16
      ∙ (let e : min 16 (n + 1) - c.config.fsiz ≡ n + 1 - c.config.fsiz = omega arith in e)

-- ---- the plan of a frame that finds its buffer

-- the answer names the buffer that was found
abbrev found_reply : Reply → Bool
found_reply (say a) = is_found a
found_reply (show n j) = false
found_reply (send n) = false

abbrev named_by : Reply → ℕ
named_by (say a) = number_in (given_of a)
named_by (show n j) = 0
named_by (send n) = 0

-- what is answered is that reply
pub reply-found : (e : Step) (rows : List Contents) (r : Reply) → is_found (answer_of e rows r) ≡ true →
    (found_reply r ≡ true) × (named_by r ≡ number_in (given_of (answer_of e rows r)))
reply-found e rows (say a) t = (t, refl)
reply-found e rows (show n j) t = absurd (false≢true t)
reply-found e rows (send n) t = absurd (false≢true t)

pub record Finds (c : Control) (n : ℕ) (p : Plan) : Type 0 where
  pub finds : found_reply p.reply ≡ true → (named_by p.reply ≡ n) × (n < 16) × (c.mode.init ≡ false) × (p.looked ≡ examined c n)

module _ (c : Control) where
  other : (n : ℕ) (p : Plan) → found_reply p.reply ≡ false → Finds c n p
  other n p e = record { finds = λ t. absurd (false≢true (sym e ∙ t)) }

  buffer-finds : (i n : ℕ) → n < 16 → c.mode.init ≡ false → Finds c n (with_looked (to_buffer (raise_last c i) n) (examined c n))
  unfolding to_buffer to_place
  buffer-finds i n h o =
      pick-keeps (λ (p : Plan). Finds c n (with_looked p (examined c n))) (is_locked (raise_last c i) n)
      (λ t. pick-keeps (λ (p : Plan). Finds c n (with_looked p (examined c n))) (is_free (raise_last c i) 0) (λ u. record { finds = λ x. (refl, h, o, refl) })
      (λ u. pick-keeps (λ (p : Plan). Finds c n (with_looked p (examined c n))) (is_free (raise_last c i) 1) (λ y. record { finds = λ x. (refl, h, o, refl) })
      (λ y. record { finds = λ x. (refl, h, o, refl) })))
      (λ t. record { finds = λ x. (refl, h, o, refl) })

  fifo-finds : (i n k : ℕ) → Finds c n (with_looked (to_fifo (raise_last c i) i) k)
  unfolding to_fifo
  fifo-finds i n k =
      pick-keeps (λ (p : Plan). Finds c n (with_looked p k)) (fifo_takes (raise_last c i) i)
      (λ t. pick-keeps (λ (p : Plan). Finds c n (with_looked p k)) (leb (raise_last c i).config.fsiz (raise_last c i).fifo.count) (λ u. other n _ refl) (λ u. other n _ refl))
      (λ t. other n _ refl)

module _ (c : Control) where
  -- cancelling SLPRQ changes nothing that is said here
  from-cancelled : (n : ℕ) (p : Plan) → Finds (cancel c) n p → Finds c n p
  unfolding cancel examined
  from-cancelled n p q = record { finds = q.finds }

  judged-finds : (good : Bool) (i n : ℕ) → c.mode.init ≡ false → Finds c n (judged c good i n)
  unfolding judged found cancel
  judged-finds good i n o =
      let d = cancel c in
      pick-keeps (Finds c n) (not c.mode.synced) (λ t. other c n _ refl)
      (λ t. pick-keeps (Finds c n) (not good || eqb i 0) (λ u. other c n _ refl)
      (λ u. from-cancelled n _ (pick-keeps (λ (p : Plan). Finds d n (with_looked p (examined d n))) (ltb n 16)
      (λ x. buffer-finds d i n (ltb-true n 16 x) o) (λ x. fifo-finds d i n _))))

  pub frame-finds : (hs : List Head) (good : Bool) (f : List ℕ) → Finds c (lookup c hs (get_or f 0 0)) (decide c hs (frame good f))
  unfolding decide act on_bus received
  frame-finds hs good f =
      let n = lookup c hs (get_or f 0 0) in
      pick-keeps (Finds c n) (eqb (refusal c (frame good f)) 0)
      (λ t. pick-keeps (Finds c n) c.mode.init (λ u. other c n _ refl)
      (λ u. pick-keeps (Finds c n) (asleep c) (λ x. other c n _ refl) (λ x. judged-finds good (get_or f 0 0) n u)))
      (λ t. other c n _ refl)
