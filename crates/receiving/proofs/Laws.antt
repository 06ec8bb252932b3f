-- What the code's copy leaves, as the definitions say it.
use Rattle.std.specs.Prelude.{◌≡◌, ℕ, List, ◌∷◌, ◌++◌, take, replicate}
use Rattle.std.proofs.lemmas.List.{drop-replicate}
use borrow.Rule.Slice.PartMut.{post_of}
use Rattle.contents.specs.declared.Contents.{Contents}
use Rattle.contents.specs.Bytes.{cut, taken, store_frame}

-- fourteen zeros with identifier and length set, and the n data bytes that the frame has copied after them
pub store_copied : (i l size n k : ℕ) (d copied : List ℕ) → size ≡ cut l → n ≡ taken l d → k ≡ n → copied ≡ take n d →
    ◌≡◌ {A = Contents} (record { bytes = i ∷ (size ∷ (copied ++ post_of 2 k (i ∷ (size ∷ replicate 12 0)))) }) (store_frame i l d)
unfolding store_frame
store_copied i l size n k d copied p q past r = simp (r, past, drop-replicate, p, q)
