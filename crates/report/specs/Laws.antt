-- Laws of the report's text: texts put one behind the other, rooms that are long enough, and how long a row can be.
use Rattle.std.specs.Prelude.{◌≡◌, ℕ, zero, suc, ◌+◌, ◌/◌, ◌%◌, ◌<◌, ◌≤◌, max, Bool, true, false, List, [], ◌∷◌, ◌++◌, length, take, drop, set, replicate, nat_le, nat_lt, slice_index, slice_index_or, slice_set, refl}
use Rattle.std.proofs.Common.{le_of_lt, zero-add, add-zero, add-suc, suc-add, add_assoc, add-one, arith, sym, ap, ◌∙◌, append_assoc, append-nil, leb-true, le-leb, length-append, take-suc, take_at, drop_at, length-take-le, set-set}
use Rattle.std.proofs.lemmas.Bool.{lt-leb}
use Rattle.std.proofs.lemmas.List.{length-replicate, set_comm}
use Rattle.std.proofs.lemmas.List.Edits.{sets, sets-eq}
use Rattle.std.proofs.Math.Seq.{length-sets}
use Rattle.masks.specs.Pick.{pick}
use Rattle.masks.specs.PickLaws.{pick_true, pick-false, pick-keeps}
use Rattle.rules.specs.declared.SyncKind.{SyncKind}
use Rattle.rules.specs.declared.SyncKind.TheVariants.{Normal, Alarm}
use Rattle.rules.specs.declared.Answer.{Answer}
use Rattle.rules.specs.declared.Answer.TheVariants.{Ok, Value, Stored, Queued, Waiting, HeldOff, Sent, Pulse, Refused, Overrun, Unmatched, BadFrame, Ignored, Woke, NotSent}
use Rattle.rules.specs.Answers.{word_of, Given, dash, value, buffer, counted, kind, number, given_of, is_sent, Detail, given, bytes, framed, detail_of}
use Rattle.report.specs.Text.{hex_of, hexes_of, digits_of, width_of, decimal_of, word_texts, word_text, unread_text, kind_text, given_text, detail_text, count_text, end_text, row_text, row_of, unread_row, heading_of, Put, Wrote, fitting}

-- ---- texts one behind the other

sets-append : (xs ys o : List ℕ) (at : ℕ) → sets (sets o at xs) (at + length xs) ys ≡ sets o at (xs ++ ys)
sets-append [] ys o at = ap (λ (n : ℕ). sets o n ys) (add-zero at)
sets-append (x ∷ xs) ys o at =
    ap (λ (n : ℕ). sets (sets (slice_set o at x) (suc at) xs) n ys) (add-suc at (length xs) ∙ sym (suc-add at (length xs)))
    ∙ sets-append xs ys (slice_set o at x) (suc at)

-- nothing put
pub none : (o : List ℕ) (at : ℕ) → Put o at [] o at
none o at = record { next = sym (add-zero at); text = refl }

-- one text behind the other
pub then : {o : List ℕ} {at : ℕ} {xs ys p q : List ℕ} {r t : ℕ} → Put o at xs p r → Put p r ys q t → Put o at (xs ++ ys) q t
then {o} {at} {xs} {ys} {p} {q} {r} {t} a b = record {
  next = b.next ∙ ap (λ (n : ℕ). n + length ys) a.next ∙ add_assoc at (length xs) (length ys) ∙ ap (λ (n : ℕ). at + n) (sym (length-append xs ys));
  text = b.text ∙ ap (λ (n : ℕ). sets p n ys) a.next ∙ ap (λ (l : List ℕ). sets l (at + length xs) ys) a.text ∙ sets-append xs ys o at;
}

-- the room keeps its length
pub kept : {o : List ℕ} {at : ℕ} {xs p : List ℕ} {r : ℕ} → Put o at xs p r → length p ≡ length o
kept {o} {at} {xs} a = ap length a.text ∙ length-sets o at xs

-- ---- a text over the end of another

sets-before : (xs o : List ℕ) (at j d : ℕ) → j < at → sets (slice_set o j d) at xs ≡ slice_set (sets o at xs) j d
sets-before [] o at j d h = refl
sets-before (x ∷ xs) o at j d h =
    let ne : (j ≡ at) → ⊥ = λ e. omega arith in
    ap (λ (l : List ℕ). sets l (suc at) xs) (set_comm o j at d x ne) ∙ sets-before xs (slice_set o at x) (suc at) j d (omega arith)

overwritten : (ys zs o : List ℕ) (k : ℕ) → length ys ≤ length zs → sets (sets o k ys) k zs ≡ sets o k zs
overwritten [] zs o k h = refl
overwritten (y ∷ ys) [] o k h = absurd (omega arith)
overwritten (y ∷ ys) (z ∷ zs) o k h =
    ap (λ (l : List ℕ). sets l (suc k) zs) (sym (sets-before ys (slice_set o k y) (suc k) k z (omega arith)) ∙ ap (λ (l : List ℕ). sets l (suc k) ys) (set-set o k y z))
    ∙ overwritten ys zs (slice_set o k z) (suc k) (omega arith)

-- of a text xs ++ ys the part ys does not count where another one is put over it
pub covers : {o : List ℕ} {at : ℕ} (xs ys : List ℕ) {zs p q : List ℕ} {r t : ℕ} → p ≡ sets o at (xs ++ ys) → r ≡ at + length xs → length ys ≤ length zs → Put p r zs q t → Put o at (xs ++ zs) q t
covers {o} {at} xs ys {zs} {p} {q} {r} {t} e f h a =
    let whole : Put o at xs (sets o at xs) (at + length xs) = record { next = refl; text = refl } in
    let same : sets p r zs ≡ sets (sets o at xs) (at + length xs) zs =
    ap (λ (n : ℕ). sets p n zs) f
    ∙ ap (λ (l : List ℕ). sets l (at + length xs) zs) (e ∙ sym (sets-append xs ys o at))
    ∙ overwritten ys zs (sets o at xs) (at + length xs) h
    in
    let over : Put (sets o at xs) (at + length xs) zs q t = record { next = a.next ∙ ap (λ (n : ℕ). n + length zs) f; text = a.text ∙ same } in
    then whole over

-- ---- a text at the start of a room

-- a text that was put within the room
pub wrote : {out xs out' : List ℕ} {r : ℕ} → Put out 0 xs out' r → r ≤ length out → Wrote out xs r out'
wrote {out} {xs} {out'} {r} p h =
    let e : length out' ≡ length out = kept p in
    let k : r ≤ length out' = omega arith in
    record { put = p; within = k; counts = sym (length-take-le r out' k) }

-- a room that is n bytes longer than a text takes it
unfoldable pub fresh_room : ℕ → List ℕ → List ℕ
fresh_room n xs = replicate (length xs + n) 0

pub fresh-length : (n : ℕ) (xs : List ℕ) → length (fresh_room n xs) ≡ length xs + n
unfolding fresh_room
fresh-length n xs = length-replicate (length xs + n) 0

pub fresh-wrote : (n : ℕ) (xs : List ℕ) → Wrote (fresh_room n xs) xs (length xs) (sets (fresh_room n xs) 0 xs)
fresh-wrote n xs = wrote (record { next = sym (zero-add (length xs)); text = refl }) (omega (arith, fresh-length n xs))

-- it can be read there, and the rest of the room is as before
module _ {out xs : List ℕ} {r : ℕ} {out' : List ℕ} (w : Wrote out xs r out') where
  size : length xs ≡ r
  size = sym (w.put.next ∙ zero-add (length xs))

  room_after_lem : out' ≡ xs ++ drop r out
  room_after_lem =
      let e : length out' ≡ length out = kept w.put in
      let k : 0 + length xs ≤ length out = omega (arith, w.within, w.put.next) in
      w.put.text ∙ sets-eq xs out 0 k ∙ ap (λ (n : ℕ). xs ++ drop n out) (sym w.put.next)

  pub text-written : take r out' ≡ xs
  text-written = ap (take r) room_after_lem ∙ take_at xs (drop r out) r size

  pub rest-kept : drop r out' ≡ drop r out
  rest-kept = ap (drop r) room_after_lem ∙ drop_at xs (drop r out) r size

-- ---- the room that is left

-- where 64 bytes are left, the text is put
pub fits : (o : List ℕ) (at : ℕ) (xs : List ℕ) → at + 64 ≤ length o → fitting o at xs ≡ xs
unfolding fitting
fits o at xs h = pick_true (nat_le (at + 64) (length o)) xs [] (le-leb _ _ h)

-- where fewer are left, nothing is
pub tight : (o : List ℕ) (at : ℕ) (xs : List ℕ) → length o < at + 64 → fitting o at xs ≡ []
unfolding fitting
tight o at xs h = pick-false (nat_le (at + 64) (length o)) xs [] (lt-leb _ _ h)

-- a text of at most 64 bytes ends inside the room
pub inside : (o : List ℕ) (at : ℕ) (xs : List ℕ) → at ≤ length o → length xs ≤ 64 → at + length (fitting o at xs) ≤ length o
unfolding fitting
inside o at xs h l =
    pick-keeps (λ (ys : List ℕ). at + length ys ≤ length o) (nat_le (at + 64) (length o))
    (λ e. let f : at + 64 ≤ length o = leb-true (at + 64) (length o) e in omega arith) (λ _. omega arith)

-- ---- a text put element by element

-- one element more
pub more : (s o : List ℕ) (at i : ℕ) → i < length s → slice_set (sets o at (take i s)) (at + i) (slice_index s i) ≡ sets o at (take (i + 1) s)
more s o at i h =
    ap (λ (n : ℕ). set (sets o at (take i s)) (at + n) (slice_index s i)) (sym (length-take-le i s (le_of_lt h)))
    ∙ sets-append (take i s) (slice_index s i ∷ []) o at
    ∙ ap (sets o at) (sym (take-suc s i 0 h) ∙ ap (λ (n : ℕ). take n s) (sym (add-one i)))

hexes-append : (xs ys : List ℕ) → hexes_of (xs ++ ys) ≡ hexes_of xs ++ hexes_of ys
unfolding hexes_of
hexes-append [] ys = refl
hexes-append (x ∷ xs) ys = ap (λ (l : List ℕ). hex_of x ++ l) (hexes-append xs ys) ∙ sym (append_assoc (hex_of x) (hexes_of xs) (hexes_of ys))

-- one byte more in hexadecimal
pub hexes-more : (s : List ℕ) (i : ℕ) → i < length s → hexes_of (take i s) ++ hex_of (slice_index s i) ≡ hexes_of (take (i + 1) s)
unfolding hexes_of
hexes-more s i h =
    ap (λ (l : List ℕ). hexes_of (take i s) ++ l) (sym (append-nil (hex_of (slice_index s i))))
    ∙ sym (hexes-append (take i s) (slice_index s i ∷ []))
    ∙ ap hexes_of (sym (take-suc s i 0 h) ∙ ap (λ (n : ℕ). take n s) (sym (add-one i)))

pub length_digits : (k n : ℕ) → length (digits_of k n) ≡ k
unfolding digits_of
length_digits zero n = refl
length_digits (suc k) n = length-append (digits_of k (n / 10)) ((48 + n % 10) ∷ []) ∙ ap (λ (m : ℕ). m + 1) (length_digits k (n / 10)) ∙ add-one k

-- ---- lengths

pick-le : (b : Bool) (x y k : ℕ) → x ≤ k → y ≤ k → pick b x y ≤ k
pick-le b x y k p q = pick-keeps (λ (n : ℕ). n ≤ k) b (λ _. p) (λ _. q)

pick-ge : (b : Bool) (x y : ℕ) → 1 ≤ x → 1 ≤ y → 1 ≤ pick b x y
pick-ge b x y p q = pick-keeps (λ (n : ℕ). 1 ≤ n) b (λ _. p) (λ _. q)

pub width-le : (n : ℕ) → width_of n ≤ 6
unfolding width_of
width-le n =
    pick-le (nat_lt n 10) 1 _ 6 (omega arith) (pick-le (nat_lt n 100) 2 _ 6 (omega arith)
    (pick-le (nat_lt n 1000) 3 _ 6 (omega arith) (pick-le (nat_lt n 10000) 4 _ 6 (omega arith) (pick-le (nat_lt n 100000) 5 6 6 (omega arith) (omega arith)))))

length-decimal : (n : ℕ) → length (decimal_of n) ≤ 6
unfolding decimal_of
length-decimal n = let e : length (digits_of (width_of n) n) ≡ width_of n = length_digits (width_of n) n in let h : width_of n ≤ 6 = width-le n in omega arith

width_some : (n : ℕ) → 1 ≤ width_of n
unfolding width_of
width_some n =
    pick-ge (nat_lt n 10) 1 _ (omega arith) (pick-ge (nat_lt n 100) 2 _ (omega arith)
    (pick-ge (nat_lt n 1000) 3 _ (omega arith) (pick-ge (nat_lt n 10000) 4 _ (omega arith) (pick-ge (nat_lt n 100000) 5 6 (omega arith) (omega arith)))))

decimal-some : (n : ℕ) → 1 ≤ length (decimal_of n)
unfolding decimal_of
decimal-some n = omega (arith, length_digits (width_of n) n, width_some n)

pub length-hex : (v : ℕ) → length (hex_of v) ≡ 2
unfolding hex_of
length-hex v = refl

pub length-hexes : (xs : List ℕ) → length (hexes_of xs) ≡ length xs + length xs
unfolding hexes_of hex_of
length-hexes [] = refl
length-hexes (x ∷ xs) = let e : length (hexes_of xs) ≡ length xs + length xs = length-hexes xs in omega arith

-- the length of a table's longest text
longest : List (List ℕ) → ℕ
longest [] = 0
longest (t ∷ ts) = max (length t) (longest ts)

entry-within : (ts : List (List ℕ)) (w : ℕ) → length (slice_index_or ts w []) ≤ longest ts
unfolding longest
entry-within [] w = omega arith
entry-within (t ∷ ts) zero = omega arith
entry-within (t ∷ ts) (suc w) = omega (arith, entry-within ts w)

length-word : (w : ℕ) → length (word_text w) ≤ 9
unfolding word_texts longest
length-word w = entry-within word_texts w

-- no answer's word is shorter than "ok"
pub word_some : (a : Answer) → 2 ≤ length (word_text (word_of a))
unfolding word_texts
word_some Ok = omega arith
word_some (Value v) = omega arith
word_some (Stored n) = omega arith
word_some (Queued n) = omega arith
word_some (Waiting n) = omega arith
word_some (HeldOff n) = omega arith
word_some (Sent k) = omega arith
word_some (Pulse k) = omega arith
word_some (Refused r) = omega arith
word_some Overrun = omega arith
word_some Unmatched = omega arith
word_some BadFrame = omega arith
word_some Ignored = omega arith
word_some Woke = omega arith
word_some NotSent = omega arith

length-kind : (k : SyncKind) → length (kind_text k) ≡ 1
unfolding kind_text
length-kind Normal = refl
length-kind Alarm = refl

-- the frame of a detail, none where it has no bytes
abbrev pub frame_in : Detail → List ℕ
frame_in (given g) = []
frame_in (bytes k f) = f

length-given : (g : Given) → length (given_text g) ≤ 2
unfolding given_text
length-given dash = omega arith
length-given (value v) = omega (arith, length-hex v)
length-given (buffer n) = omega (arith, length-hex n)
length-given (counted k) = omega (arith, length-hex k)
length-given (kind k) = omega (arith, length-kind k)
length-given (number r) = omega (arith, length-hex r)

length-detail : (d : Detail) → length (frame_in d) ≤ 14 → length (detail_text d) ≤ 28
unfolding detail_text
length-detail (given g) h = omega (arith, length-given g)
length-detail (bytes k f) h = omega (arith, length-hexes f)

-- a row's answer and detail with their tabs
pub length-answer : (w : ℕ) (d : Detail) → length (frame_in d) ≤ 14 → length (word_text w ++ (9 ∷ []) ++ detail_text d ++ (9 ∷ [])) ≤ 39
length-answer w d h = simp length-append (omega (arith, length-word w, length-detail d h))

-- an answer's detail holds no other frame than the one that was sent
frame-framed : (t : Bool) (g : Given) (f : List ℕ) → length f ≤ 14 → length (frame_in (framed t g f)) ≤ 14
frame-framed true g f h = h
frame-framed false g f h = omega arith

pub frame-sent : (a : Answer) (f : List ℕ) → length f ≤ 14 → length (frame_in (detail_of a f)) ≤ 14
frame-sent a f h = frame-framed (is_sent a) (given_of a) f h

pub length-end : (irq looked : ℕ) → (5 ≤ length (end_text irq looked)) × (length (end_text irq looked) ≤ 10)
unfolding end_text count_text
length-end irq looked = simp length-append (omega (arith, length-hex irq, decimal-some looked), omega (arith, length-hex irq, length-decimal looked))

-- a row's parts: at most 6, 9, 28 and 10 bytes, and three tabs
row-le : (n : ℕ) (word detail : List ℕ) (irq looked : ℕ) → length word ≤ 9 → length detail ≤ 28 → length (row_text n word detail irq looked) ≤ 64
unfolding row_text
row-le n word detail irq looked p q = simp length-append (omega (arith, length-decimal n, (length-end irq looked).1))

-- no row is longer than the room that is asked for it
pub length-row : (n w : ℕ) (d : Detail) (irq looked : ℕ) → length (frame_in d) ≤ 14 → length (row_of n w d irq looked) ≤ 64
length-row n w d irq looked h = row-le n (word_text w) (detail_text d) irq looked (length-word w) (length-detail d h)

pub length-unread : (n irq : ℕ) → length (unread_row n irq) ≤ 64
unfolding unread_text
length-unread n irq = row-le n unread_text (45 ∷ []) irq 0 (omega arith) (omega arith)

pub length-heading : length heading_of ≡ 30
unfolding heading_of
length-heading = refl
