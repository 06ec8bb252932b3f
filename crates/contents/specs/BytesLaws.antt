-- Laws of a buffer's bytes: zeros behind a stored frame, and each byte written leaves the others.
use Rattle.std.specs.Prelude.{◌≡◌, refl, ℕ, zero, suc, ◌+◌, ◌-◌, ◌≤◌, List, ◌++◌, get_or, take, drop, replicate, length}
use Rattle.std.proofs.Common.{ap, ◌∙◌, arith, length-take, length-drop, get_or-set_other, get_or-drop, get_or-append-add}
use Rattle.contents.specs.declared.Contents.{Contents}
use Rattle.contents.specs.Bytes.{with_ident, with_length, with_data, taken, store_frame, image_of}

-- ---- a frame stored

zeros-at : (m j : ℕ) → get_or {A = ℕ} (replicate m 0) j 0 ≡ 0
zeros-at zero j = refl
zeros-at (suc m) zero = refl
zeros-at (suc m) (suc j) = zeros-at m j

past-zeros : (xs : List ℕ) (m j : ℕ) → length xs ≤ j → get_or (xs ++ replicate m 0) j 0 ≡ 0
past-zeros xs m j h =
    let at : j ≡ length xs + (j - length xs) = omega arith in
    ap (λ (i : ℕ). get_or (xs ++ replicate m 0) i 0) at ∙ get_or-append-add xs (replicate m 0) (j - length xs) 0 ∙ zeros-at m (j - length xs)

-- the data bytes of a frame's image, sized well or not, are 0 from the frame's end on
pub image-behind : (f : List ℕ) (k : ℕ) → 2 ≤ k → length f ≤ k → get_or (image_of f).bytes k 0 ≡ 0
unfolding store_frame
image-behind f zero d h = absurd (omega arith)
image-behind f (suc zero) d h = absurd (omega arith)
image-behind f (suc (suc j)) d h =
    let t = taken (get_or f 1 0) (drop 2 f) in
    let size = length-take t (drop 2 f) in
    let rest = length-drop 2 f in
    past-zeros (take t (drop 2 f)) (12 - t) j (omega arith)

-- ---- a byte written

rest-same : (b : List ℕ) (j : ℕ) → get_or (drop 2 b) j 0 ≡ get_or b (suc (suc j)) 0
rest-same b j = let at : 2 + j ≡ suc (suc j) = omega arith in get_or-drop 2 b j 0 ∙ ap (λ (i : ℕ). get_or b i 0) at

pub ident-other : (b : Contents) (v k : ℕ) → (k ≡ 0 → ⊥) → get_or (with_ident b v).bytes k 0 ≡ get_or b.bytes k 0
unfolding with_ident
ident-other b v zero apart = absurd (apart refl)
ident-other b v (suc zero) apart = refl
ident-other b v (suc (suc j)) apart = rest-same b.bytes j

pub length-other : (b : Contents) (v k : ℕ) → (k ≡ 1 → ⊥) → get_or (with_length b v).bytes k 0 ≡ get_or b.bytes k 0
unfolding with_length
length-other b v zero apart = refl
length-other b v (suc zero) apart = absurd (apart refl)
length-other b v (suc (suc j)) apart = rest-same b.bytes j

pub data-other : (b : Contents) (j v k : ℕ) → (k ≡ suc (suc j) → ⊥) → get_or (with_data b j v).bytes k 0 ≡ get_or b.bytes k 0
unfolding with_data
data-other b j v k apart = get_or-set_other b.bytes (suc (suc j)) k v 0 apart
