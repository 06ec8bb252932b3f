-- Laws of numbers that are counted up: each is the number that it stands for, and a row by it is the row of document 01.
use Rattle.std.specs.Prelude.{◌≡◌, ℕ, zero, suc, ◌+◌, ◌-◌, ◌*◌, ◌/◌, ◌%◌, ◌^◌, ◌<◌, ◌≤◌, List, [], ◌∷◌, ◌++◌, length, drop, nat_lt, refl}
use Rattle.std.proofs.Common.{arith, sym, ap, ap₂, ◌∙◌, append_assoc, lt-ltb, le-ltb, ltb-true, ltb-false, length-drop, length-append}
use Rattle.std.specs.Int.{w64, byte_at, bytes_low_first, to_le_bytes}
use Rattle.std.proofs.lemmas.List.Edits.{sets}
use Rattle.std.proofs.Math.Nat.{pow-suc, div-div-eq-div-mul}
use Rattle.masks.specs.PickLaws.{pick_true, pick-false, pick-keeps, by-test}
use Rattle.rules.specs.Answers.{Detail}
use Rattle.report.specs.declared.Number.{Number}
use Rattle.report.specs.Text.{width_of, digits_of, decimal_of, word_text, unread_text, detail_text, end_text, row_text, row_of, unread_row, Put}
use Rattle.report.specs.Laws.{then, covers, width-le, length_digits, length-end}
use Rattle.report.specs.CodeNumbers.{pack_on, grown, word_bytes, number_of, counted_up, next_number, number_text, numbered_row}

-- ---- bytes higher

grown-ge : (k b : ℕ) → b ≤ grown k b
unfolding grown
grown-ge zero b = omega arith
grown-ge (suc k) b = omega (arith, grown-ge k (256 * b))

grown-le : (k m b : ℕ) → k ≤ m → grown k b ≤ grown m b
unfolding grown
grown-le zero m b h = grown-ge m b
grown-le (suc k) zero b h = absurd (omega arith)
grown-le (suc k) (suc m) b h = grown-le k m (256 * b) (omega arith)

grown-times : (k b : ℕ) → grown k (256 * b) ≡ 256 * grown k b
unfolding grown
grown-times zero b = refl
grown-times (suc k) b = grown-times k (256 * b)

-- ---- digits in a word

pack-append : (xs : List ℕ) (y d : ℕ) → pack_on (xs ++ (y ∷ [])) d ≡ pack_on xs (y + 256 * d)
unfolding pack_on
pack-append [] y d = refl
pack-append (x ∷ xs) y d = ap (λ (n : ℕ). x + 256 * n) (pack-append xs y d)

pack-ge : (xs : List ℕ) (d : ℕ) → d ≤ pack_on xs d
unfolding pack_on
pack-ge [] d = omega arith
pack-ge (x ∷ xs) d = omega (arith, pack-ge xs d)

-- one digit more
pack-digits : (k n d : ℕ) → pack_on (digits_of (suc k) n) d ≡ pack_on (digits_of k (n / 10)) (48 + n % 10 + 256 * d)
unfolding digits_of
pack-digits k n d = pack-append (digits_of k (n / 10)) (48 + n % 10) d

pack-bound : (k n d b : ℕ) → d + 1 ≤ b → pack_on (digits_of k n) d + 1 ≤ grown k b
unfolding digits_of pack_on grown
pack-bound zero n d b h = h
pack-bound (suc k) n d b h = rw (pack-append (digits_of k (n / 10)) (48 + n % 10) d) (pack-bound k (n / 10) (48 + n % 10 + 256 * d) (256 * b) (omega arith))

pack-plus : (k n d e : ℕ) → pack_on (digits_of k n) (d + e) ≡ pack_on (digits_of k n) d + grown k e
unfolding digits_of pack_on grown
pack-plus zero n d e = refl
pack-plus (suc k) n d e =
    let z : 48 + n % 10 + 256 * (d + e) ≡ 48 + n % 10 + 256 * d + 256 * e = omega arith in
    pack-append (digits_of k (n / 10)) (48 + n % 10) (d + e)
    ∙ ap (pack_on (digits_of k (n / 10))) z
    ∙ pack-plus k (n / 10) (48 + n % 10 + 256 * d) (256 * e)
    ∙ ap (λ (x : ℕ). x + grown k (256 * e)) (sym (pack-append (digits_of k (n / 10)) (48 + n % 10) d))

-- the word is far from full: seven bytes of it are used
word_bound : (n : ℕ) → pack_on (decimal_of n) 9 < 2814749767106560
unfolding decimal_of grown
word_bound n = omega (arith, pack-bound (width_of n) n 9 10 (omega arith), grown-le (width_of n) 6 10 (width-le n))

-- ---- the loop that finds the digits

-- what is made of the word so far, and the place behind it, are no larger
pub part-bound : (k n rest d : ℕ) → pack_on (digits_of k rest) d ≡ pack_on (decimal_of n) 9 → d < 2814749767106560
part-bound k n rest d e = omega (arith, pack-ge (digits_of k rest) d, word_bound n)

pub place-bound : (k n p : ℕ) → grown k p ≡ grown (width_of n) 1 → p ≤ 281474976710656
unfolding grown
place-bound k n p e = omega (arith, grown-ge k p, grown-le (width_of n) 6 1 (width-le n))

pub digits-turn : (k i rest d : ℕ) → i < k → pack_on (digits_of (k - (i + 1)) (rest / 10)) (d * 256 + 48 + rest % 10) ≡ pack_on (digits_of (k - i) rest) d
digits-turn k i rest d h =
    let z : k - i ≡ suc (k - (i + 1)) = omega arith in
    let y : d * 256 + 48 + rest % 10 ≡ 48 + rest % 10 + 256 * d = omega arith in
    ap (pack_on (digits_of (k - (i + 1)) (rest / 10))) y ∙ sym (ap (λ (j : ℕ). pack_on (digits_of j rest) d) z ∙ pack-digits (k - (i + 1)) rest d)

pub place-turn : (k i p : ℕ) → i < k → grown (k - (i + 1)) (p * 256) ≡ grown (k - i) p
unfolding grown
place-turn k i p h =
    let z : k - i ≡ suc (k - (i + 1)) = omega arith in
    let y : p * 256 ≡ 256 * p = omega arith in
    ap (grown (k - (i + 1))) y ∙ sym (ap (λ (j : ℕ). grown j p) z)

width_some : (n : ℕ) → 0 < width_of n
unfolding width_of
width_some n =
    pick-keeps (λ (x : ℕ). 0 < x) (nat_lt n 10) (λ e. omega arith) (λ e. pick-keeps (λ (x : ℕ). 0 < x) (nat_lt n 100) (λ e. omega arith) (λ e.
    pick-keeps (λ (x : ℕ). 0 < x) (nat_lt n 1000) (λ e. omega arith) (λ e. pick-keeps (λ (x : ℕ). 0 < x) (nat_lt n 10000) (λ e. omega arith) (λ e.
    pick-keeps (λ (x : ℕ). 0 < x) (nat_lt n 100000) (λ e. omega arith) (λ e. omega arith)))))

unit-place : (n : ℕ) → grown (width_of n) 1 / 256 ≡ grown (width_of n - 1) 1
unfolding grown
unit-place n =
    let z : width_of n ≡ suc (width_of n - 1) = omega (arith, width_some n) in
    let e : grown (width_of n) 1 ≡ 256 * grown (width_of n - 1) 1 = ap (λ (j : ℕ). grown j 1) z ∙ grown-times (width_of n - 1) 1 in
    omega arith

-- behind the last turn
pub number-made : (n k i rest d p : ℕ) → k ≡ width_of n → k ≤ i → pack_on (digits_of (k - i) rest) d ≡ pack_on (decimal_of n) 9 → grown (k - i) p ≡ grown (width_of n) 1
    → record { digits = d; unit = p / 256; until = 9 - n % 10; len = k } ≡ number_of n
unfolding number_of digits_of pack_on grown
number-made n k i rest d p e h f g =
    let z : k - i ≡ 0 = omega arith in
    let x : d ≡ pack_on (decimal_of n) 9 = sym (ap (λ (j : ℕ). pack_on (digits_of j rest) d) z) ∙ f in
    let y : p / 256 ≡ grown (width_of n - 1) 1 = ap (λ (j : ℕ). j / 256) (sym (ap (λ (j : ℕ). grown j p) z) ∙ g) ∙ unit-place n in
    simp (x, y, e)

-- ---- counting up

same_test : (n k : ℕ) → k % 10 ≡ 0 → n % 10 < 9 → nat_lt (n + 1) k ≡ nat_lt n k
same_test n k z h =
    by-test (nat_lt n k)
    (λ e. let l : n < k = ltb-true n k e in lt-ltb (n + 1) k (omega arith) ∙ sym e)
    (λ e. let l : k ≤ n = ltb-false n k e in le-ltb (n + 1) k (omega arith) ∙ sym e)

width_same : (n : ℕ) → n % 10 < 9 → width_of (n + 1) ≡ width_of n
unfolding width_of
width_same n h = simp (same_test n 10 refl h, same_test n 100 refl h, same_test n 1000 refl h, same_test n 10000 refl h, same_test n 100000 refl h)

digits-next : (n : ℕ) → n % 10 < 9 → pack_on (decimal_of (n + 1)) 9 ≡ pack_on (decimal_of n) 9 + grown (width_of n - 1) 1
unfolding decimal_of
digits-next n h =
    let k : ℕ = width_of n - 1 in
    let z : width_of n ≡ suc k = omega (arith, width_some n) in
    let q : (n + 1) / 10 ≡ n / 10 = omega arith in
    let r : 48 + (n + 1) % 10 + 2304 ≡ 48 + n % 10 + 2304 + 1 = omega arith in
    ap (λ (j : ℕ). pack_on (digits_of j (n + 1)) 9) (width_same n h ∙ z)
    ∙ pack-digits k (n + 1) 9
    ∙ ap (λ (j : ℕ). pack_on (digits_of k j) (48 + (n + 1) % 10 + 2304)) q
    ∙ ap (pack_on (digits_of k (n / 10))) r
    ∙ pack-plus k (n / 10) (48 + n % 10 + 2304) 1
    ∙ ap (λ (y : ℕ). y + grown k 1) (sym (pack-digits k n 9) ∙ ap (λ (j : ℕ). pack_on (digits_of j n) 9) (sym z))

counted-up : (n : ℕ) → n % 10 < 9 → counted_up (number_of n) ≡ number_of (n + 1)
unfolding counted_up number_of
counted-up n h =
    let w : width_of n ≡ width_of (n + 1) = sym (width_same n h) in
    let u : grown (width_of n - 1) 1 ≡ grown (width_of (n + 1) - 1) 1 = ap (λ (k : ℕ). grown (k - 1) 1) w in
    let d : (pack_on (decimal_of n) 9 + grown (width_of n - 1) 1) % 2 ^ 64 ≡ pack_on (decimal_of (n + 1)) 9 = omega (arith, digits-next n h, word_bound (n + 1)) in
    let t : 9 - n % 10 - 1 ≡ 9 - (n + 1) % 10 = omega arith in
    cc

-- counted up, the number n is the next one
pub number-next : (n : ℕ) → n ≤ 999999 → next_number (number_of n) (n + 1) ≡ number_of (n + 1)
unfolding next_number number_of
number-next n h =
    by-test (nat_lt 0 (9 - n % 10))
    (λ e. let l : 0 < 9 - n % 10 = ltb-true 0 (9 - n % 10) e in pick_true _ _ _ e ∙ counted-up n (omega arith))
    (λ e. pick-false _ _ _ e)

-- ---- the text of a number: the bytes of its word

length-bytes : (k d : ℕ) → length (word_bytes k d) ≡ k
unfolding word_bytes
length-bytes zero d = refl
length-bytes (suc k) d = ap suc (length-bytes k (d / 256))

whole : (d : ℕ) → d / 1 ≡ d
whole d = omega arith

-- the bytes that the library makes of a word
low-bytes : (k i d : ℕ) → bytes_low_first i k d ≡ word_bytes k (d / 256 ^ i)
unfolding word_bytes
low-bytes zero i d = refl
low-bytes (suc k) i d =
    let e : d / 256 ^ suc i ≡ d / 256 ^ i / 256 = rw (pow-suc 256 i) (sym (div-div-eq-div-mul d (256 ^ i) 256)) in
    ap₂ (λ (x : ℕ) (xs : List ℕ). x ∷ xs) (low-byte i d) (low-bytes k (suc i) d ∙ ap (word_bytes k) e)
  where
    low-byte : (i d : ℕ) → byte_at i d ≡ d / 256 ^ i % 256
    low-byte zero d = ap (λ (x : ℕ). x % 256) (sym (whole d))
    low-byte (suc i) d = refl

pub le-bytes : (d : ℕ) → to_le_bytes w64 d ≡ word_bytes 8 d
le-bytes d = low-bytes 8 0 d ∙ ap (word_bytes 8) (whole d)

pub length-number : (x : Number) → length (number_text x) ≡ x.len % 8 + 1
unfolding number_text
length-number x = length-bytes (x.len % 8 + 1) x.digits

abbrev AllBytes : List ℕ → Type 0
AllBytes [] = Unit {0}
AllBytes (x ∷ xs) = (x < 256) × AllBytes xs

all_append : (xs : List ℕ) (y : ℕ) → AllBytes xs → y < 256 → AllBytes (xs ++ (y ∷ []))
all_append [] y h k = (k, tt)
all_append (x ∷ xs) y h k = (h.0, all_append xs y h.1 k)

all_digits : (k n : ℕ) → AllBytes (digits_of k n)
unfolding digits_of
all_digits zero n = tt
all_digits (suc k) n = all_append (digits_of k (n / 10)) (48 + n % 10) (all_digits k (n / 10)) (omega arith)

bytes_of : (xs : List ℕ) (k d : ℕ) → AllBytes xs → word_bytes (length xs + k) (pack_on xs d) ≡ xs ++ word_bytes k d
unfolding word_bytes pack_on
bytes_of [] k d h = let z : 0 + k ≡ k = omega arith in ap (λ (j : ℕ). word_bytes j d) z
bytes_of (x ∷ xs) k d h =
    let l : x < 256 = h.0 in
    let p : (x + 256 * pack_on xs d) % 256 ≡ x = omega arith in
    let q : (x + 256 * pack_on xs d) / 256 ≡ pack_on xs d = omega arith in
    let z : suc (length xs) + k ≡ suc (length xs + k) = omega arith in
    ap (λ (j : ℕ). word_bytes j (x + 256 * pack_on xs d)) z
    ∙ ap (λ (y : ℕ). y ∷ word_bytes (length xs + k) ((x + 256 * pack_on xs d) / 256)) p
    ∙ ap (λ (y : ℕ). x ∷ word_bytes (length xs + k) y) q
    ∙ ap (λ (ys : List ℕ). x ∷ ys) (bytes_of xs k d h.1)

-- a number is put as its decimal digits and a tab
pub number-text : (n : ℕ) → number_text (number_of n) ≡ decimal_of n ++ (9 ∷ [])
unfolding number_text number_of decimal_of word_bytes
number-text n =
    let l : length (digits_of (width_of n) n) ≡ width_of n = length_digits (width_of n) n in
    let e : width_of n % 8 + 1 ≡ length (digits_of (width_of n) n) + 1 = omega (arith, width-le n) in
    ap (λ (k : ℕ). word_bytes k (pack_on (digits_of (width_of n) n) 9)) e ∙ bytes_of (digits_of (width_of n) n) 1 9 (all_digits (width_of n) n)

-- ---- rows

row_is : (n : ℕ) (word detail : List ℕ) (irq looked : ℕ) → numbered_row (number_of n) word detail irq looked ≡ row_text n word detail irq looked
unfolding numbered_row row_text
row_is n word detail irq looked = simp (number-text, append_assoc)

-- a row by a number that is kept is the row of document 01
pub row-numbered : (n w : ℕ) (d : Detail) (irq looked : ℕ) → numbered_row (number_of n) (word_text w) (detail_text d) irq looked ≡ row_of n w d irq looked
row-numbered n w d irq looked = row_is n (word_text w) (detail_text d) irq looked

pub unread-numbered : (n irq : ℕ) → numbered_row (number_of n) unread_text (45 ∷ []) irq 0 ≡ unread_row n irq
unread-numbered n irq = row_is n unread_text (45 ∷ []) irq 0

bytes-front : (k n d : ℕ) → k ≤ n → word_bytes n d ≡ word_bytes k d ++ drop k (word_bytes n d)
unfolding word_bytes
bytes-front zero n d h = refl
bytes-front (suc k) zero d h = absurd (omega arith)
bytes-front (suc k) (suc n) d h = ap (λ (l : List ℕ). d % 256 ∷ l) (bytes-front k n (d / 256) (omega arith))

row-parts : (x : Number) (word detail : List ℕ) (irq looked : ℕ) → numbered_row x word detail irq looked ≡ number_text x ++ (word ++ (9 ∷ []) ++ detail ++ (9 ∷ []) ++ end_text irq looked)
unfolding numbered_row
row-parts x word detail irq looked = simp append_assoc

-- eight bytes for the number, and the rest of the row over those that are too many
pub row-over : {o p q s : List ℕ} {at r t u : ℕ} (x : Number) (word detail : List ℕ) (irq looked : ℕ) → 2 ≤ length word
    → (r ≡ at + length (number_text x)) × (p ≡ sets o at (word_bytes 8 x.digits)) → Put p r (word ++ (9 ∷ []) ++ detail ++ (9 ∷ [])) q t
    → Put q t (end_text irq looked) s u → Put o at (numbered_row x word detail irq looked) s u
unfolding number_text
row-over {o} x word detail irq looked two e a b =
    let k : ℕ = x.len % 8 + 1 in
    let junk : length (drop k (word_bytes 8 x.digits)) ≤ 7 = simp (length-drop, length-bytes) (omega arith) in
    let rest : 7 ≤ length (word ++ (9 ∷ []) ++ detail ++ (9 ∷ []) ++ end_text irq looked) = simp length-append (omega (arith, (length-end irq looked).0)) in
    rw row-parts
    (covers (word_bytes k x.digits) (drop k (word_bytes 8 x.digits)) (e.1 ∙ ap (sets o _) (bytes-front k 8 x.digits (omega arith))) e.0 (omega arith) (then a b))

-- ---- a count of one, two or three digits

pub decimal-one : (k : ℕ) → k < 10 → (48 + k) ∷ [] ≡ decimal_of k
unfolding decimal_of width_of digits_of
decimal-one k h = let d : k % 10 ≡ k = omega arith in simp (pick_true, lt-ltb k 10 h, d)

pub decimal-two : (k : ℕ) → 10 ≤ k → k < 100 → (48 + k / 10) ∷ (48 + k % 10) ∷ [] ≡ decimal_of k
unfolding decimal_of width_of digits_of
decimal-two k l h = let d : k / 10 % 10 ≡ k / 10 = omega arith in simp (pick_true, pick-false, le-ltb k 10 l, lt-ltb k 100 h, d)

pub decimal-three : (k : ℕ) → 100 ≤ k → k < 1000 → (48 + k / 100) ∷ (48 + k / 10 % 10) ∷ (48 + k % 10) ∷ [] ≡ decimal_of k
unfolding decimal_of width_of digits_of
decimal-three k l h =
    let d : k / 10 / 10 % 10 ≡ k / 100 = omega arith in
    let far : 10 ≤ k = omega arith in
    simp (pick_true, pick-false, le-ltb k 10 far, le-ltb k 100 l, lt-ltb k 1000 h, d)
