-- Laws of the masks of kinds.
use Prim.Native.Nat.{ℕ, ◌-◌}
use mathlib.Core.Bool.{Bool, true, false, not, ◌&&◌}
use mathlib.Core.Path.{◌≡◌, ap, sym, ◌∙◌}
use native.Mathlib.Omega.{arith}
use borrow.Author.Tests.{le-leb, lt-leb, ltb-true, ltb-false}
use lib.Dec.{eqb, ltb, leb}
use Rattle.masks.specs.PickLaws.{by-test}
use Rattle.masks.specs.Bits.{mask_of}
use Rattle.masks.specs.Laws.{bit-none, mask-of, not-by-mask, same-mask}

not-less : (n k : ℕ) → not (ltb n k) ≡ leb k n
not-less n k = by-test (ltb n k)
    (λ p. ap not p ∙ sym (lt-leb k n (ltb-true n k p)))
    (λ p. ap not p ∙ sym (le-leb k n (ltb-false n k p)))

-- `!below(k)` is the mask of the buffers from k on
pub from_on : (b k : ℕ) → b ≡ mask_of (λ n. ltb n k) → 65535 - b ≡ mask_of (λ n. leb k n)
from_on b k e =
    not-by-mask b (λ n. ltb n k) e ∙ same-mask (λ n. not (ltb n k)) (λ n. leb k n) (λ n h. not-less n k)

-- the mask of one buffer while t holds, else 0
pub one-while : (t : Bool) (o e : ℕ) → t ≡ true → e ≡ mask_of (λ n. eqb n o) → e ≡ mask_of (λ n. t && eqb n o)
one-while t o e h p = p ∙ ap (λ (x : Bool). mask_of (λ n. x && eqb n o)) (sym h)

pub none-while : (t : Bool) (o e : ℕ) → t ≡ false → e ≡ 0 → e ≡ mask_of (λ n. t && eqb n o)
none-while t o e h p =
    p ∙ mask-of 0 (λ n. false) (omega arith) (λ n l. bit-none n) ∙ ap (λ (x : Bool). mask_of (λ n. x && eqb n o)) (sym h)
