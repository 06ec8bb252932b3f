-- Lists of bytes: numbers below 256.
use Rattle.std.specs.Prelude.{ℕ, zero, suc, ◌+◌, ◌≤◌, ◌<◌, Bool, List, [], ◌∷◌, ◌++◌, get_or, set, take, drop, length, replicate}
use Rattle.std.proofs.Common.{sym, subst, arith, get_or-drop}
use Rattle.std.specs.Int.Bits.{bit_and, bit_or}
use Rattle.std.proofs.lemmas.Nat.{and_le_l, or_lt}
use Rattle.masks.specs.PickLaws.{pick-keeps}
use Rattle.masks.specs.Bits.{lowest, highest}
use Rattle.rules.specs.Registers.{with_flag}
use Rattle.rules.specs.Refusals.{first_of}
use Rattle.encoding.specs.Bytes.{Bytes}

-- ---- elements of a list, and the one that stands for those past its end

module _ {A : Type 0} (P : A → Type 0) (d : A) where
  pub set_all : (xs : List A) (k : ℕ) (v : A) → ((i : ℕ) → P (get_or xs i d)) → P v → (i : ℕ) → P (get_or (set xs k v) i d)
  set_all [] k v p h i = p i
  set_all (x ∷ xs) zero v p h zero = h
  set_all (x ∷ xs) zero v p h (suc i) = p (suc i)
  set_all (x ∷ xs) (suc k) v p h zero = p 0
  set_all (x ∷ xs) (suc k) v p h (suc i) = set_all xs k v (λ j. p (suc j)) h i

  pub replicate-all : (k : ℕ) (v : A) → P v → P d → (i : ℕ) → P (get_or (replicate k v) i d)
  replicate-all zero v h e i = e
  replicate-all (suc k) v h e zero = h
  replicate-all (suc k) v h e (suc i) = replicate-all k v h e i

pub set-bytes : (xs : List ℕ) (k v : ℕ) → Bytes xs → v < 256 → Bytes (set xs k v)
set-bytes xs k v p h = set_all (λ (x : ℕ). x < 256) 0 xs k v p h

pub zero-bytes : (k : ℕ) → Bytes (replicate k 0)
zero-bytes k = replicate-all (λ (x : ℕ). x < 256) 0 k 0 (omega arith) (omega arith)

pub no_bytes_lem : Bytes []
no_bytes_lem i = omega arith

pub cons-bytes : (x : ℕ) (xs : List ℕ) → x < 256 → Bytes xs → Bytes (x ∷ xs)
cons-bytes x xs h p zero = h
cons-bytes x xs h p (suc i) = p i

pub drop-bytes : (k : ℕ) (xs : List ℕ) → Bytes xs → Bytes (drop k xs)
drop-bytes k xs p i = subst (λ (x : ℕ). x < 256) (sym (get_or-drop k xs i 0)) (p (k + i))

pub take-bytes : (k : ℕ) (xs : List ℕ) → Bytes xs → Bytes (take k xs)
take-bytes zero xs p i = omega arith
take-bytes (suc k) [] p i = omega arith
take-bytes (suc k) (x ∷ xs) p zero = p 0
take-bytes (suc k) (x ∷ xs) p (suc i) = take-bytes k xs (λ j. p (suc j)) i

pub append-bytes : (xs ys : List ℕ) → Bytes xs → Bytes ys → Bytes (xs ++ ys)
append-bytes [] ys p q i = q i
append-bytes (x ∷ xs) ys p q zero = p 0
append-bytes (x ∷ xs) ys p q (suc i) = append-bytes xs ys (λ j. p (suc j)) q i

-- ---- bits, searches and refusals

pub or_byte : {a b : ℕ} → a < 256 → b < 256 → bit_or a b < 256
or_byte {a} {b} h k = or_lt 8 a b h k

pub and_byte : {a : ℕ} (b : ℕ) → a < 256 → bit_and a b < 256
and_byte {a} b h = omega (arith, and_le_l a b)

pub flag-byte : (t : Bool) {b v : ℕ} → b < 256 → v < 256 → with_flag t b v < 256
unfolding with_flag
flag-byte t k h = pick-keeps (λ (x : ℕ). x < 256) t (λ e. or_byte h k) (λ e. h)

pub lowest-byte : (f : ℕ → Bool) (i k : ℕ) → i + k ≤ 16 → lowest f i k < 256
unfolding lowest
lowest-byte f i zero h = omega arith
lowest-byte f i (suc k) h = pick-keeps (λ (x : ℕ). x < 256) (f i) (λ e. omega arith) (λ e. lowest-byte f (suc i) k (omega arith))

pub highest-byte : (f : ℕ → Bool) (k : ℕ) → k ≤ 16 → highest f k < 256
unfolding highest
highest-byte f zero h = omega arith
highest-byte f (suc k) h = pick-keeps (λ (x : ℕ). x < 256) (f k) (λ e. omega arith) (λ e. highest-byte f k (omega arith))

pub first_byte : (k : ℕ) (ts : List Bool) → k + length ts < 256 → first_of k ts < 256
unfolding first_of
first_byte k [] h = omega arith
first_byte k (t ∷ ts) h = pick-keeps (λ (x : ℕ). x < 256) t (λ e. omega arith) (λ e. first_byte (suc k) ts (omega arith))
