-- What the code's writes leave, as the definitions say it.
use Prim.Native.Nat.{ℕ}
use mathlib.Core.List.{List, [], ◌∷◌}
use mathlib.Core.Path.{◌≡◌, refl}
use native.Mathlib.Omega.{arith}
use lib.ListN.{length, get_or, set, drop}

pub ident_set : (b : List ℕ) (v : ℕ) → length b ≡ 14 → set b 0 v ≡ v ∷ (get_or b 1 0 ∷ drop 2 b)
ident_set [] v e = absurd (omega arith)
ident_set (x ∷ []) v e = absurd (omega arith)
ident_set (x ∷ (y ∷ b)) v e = refl

pub length_byte_set : (b : List ℕ) (v : ℕ) → length b ≡ 14 → set b 1 v ≡ get_or b 0 0 ∷ (v ∷ drop 2 b)
length_byte_set [] v e = absurd (omega arith)
length_byte_set (x ∷ []) v e = absurd (omega arith)
length_byte_set (x ∷ (y ∷ b)) v e = refl
