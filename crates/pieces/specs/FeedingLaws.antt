-- A session that feeds a text byte by byte, as in Feed, promises what is asked of one that is fed piece by piece.
use Rattle.std.specs.Prelude.{ℕ, suc, ◌+◌, ◌≤◌, ◌<◌, ◌≡◌, List, [], ◌∷◌, ◌++◌, Bool, false, length, take, drop, ltb}
use Rattle.std.proofs.Common.{arith, sym, ap, ◌∙◌}
use borrow.Author.Tests.{le-ltb}
use Rattle.masks.specs.PickLaws.{pick-false}
use Rattle.pieces.specs.declared.Fed.{Fed}
use Rattle.pieces.specs.declared.Finished.{Finished}
use Rattle.pieces.specs.Feed.{Feed, feed_end, out_of, taken_of, last_of, fed_whole, byte_s, byte_o}
use Rattle.pieces.specs.FeedLaws.{end_of-append}
use Rattle.pieces.specs.Feeding.{whole_by, last_end, after_by, Eats, Ends}
use Rattle.pieces.specs.PartLaws.{rest-joined, last-whole, part-whole}
use Rattle.pieces.specs.TakenLaws.{taken-le}

module _ {S T : Type 0} (act : T → ℕ → List ℕ → T) (show : T → ℕ → Bool → List ℕ → List ℕ) (feed_of : S → Feed T) where
  -- with enough room a byte is taken
  some-taken : (need size : ℕ) (f : Feed T) (piece : List ℕ) → need ≤ size → 0 < length piece → 0 < taken_of act show need size f 0 piece
  unfolding taken_of
  some-taken need size f [] h k = absurd (omega arith)
  some-taken need size f (b ∷ bs) h k =
      let e : ltb size (0 + need) ≡ false = le-ltb size (0 + need) (omega arith) in
      rw (pick-false (ltb size (0 + need)) 0 (suc (taken_of act show need size (byte_s act show f b) (0 + length (byte_o act show f b)) bs)) e) (omega arith)

  -- session_of: the session that a feed is of
  module _ (session_of : Feed T → S) where
    pub eats : (need : ℕ) → need ≤ 128 → (s : S) {piece out : List ℕ} {r : Fed S} {out' : List ℕ} → r.taken ≡ taken_of act show need (length out) (feed_of s) 0 piece
        → feed_of r.session ≡ feed_end act show (feed_of s) (take r.taken piece) → take r.written out' ≡ out_of act show (feed_of s) (take r.taken piece)
        → r.written ≤ length out' → Eats (whole_by act show feed_of) (after_by act show feed_of session_of) s piece out r out'
    eats need h s {piece} {out} {r} {out'} t e w l = record {
      taken = rw t (taken-le act show need (length out) (feed_of s) 0 piece);
      onward = λ room some. rw t (some-taken need (length out) (feed_of s) piece (omega arith) some);
      within = l;
      shown = λ later. ap (λ (x : List ℕ). x ++ whole_by act show feed_of r.session (drop r.taken piece ++ later)) w
          ∙ ap (λ (f : Feed T). out_of act show (feed_of s) (take r.taken piece) ++ fed_whole act show f (drop r.taken piece ++ later)) e
          ∙ part-whole act show (feed_of s) r.taken piece later;
      session = λ later. ap (λ (f : Feed T). session_of (last_end act show f))
          (ap (λ (f : Feed T). feed_end act show f (drop r.taken piece ++ later)) e
          ∙ sym (end_of-append act show (feed_of s) (take r.taken piece) (drop r.taken piece ++ later))
          ∙ ap (feed_end act show (feed_of s)) (rest-joined r.taken piece later));
    }

    pub ends : ((s : S) → session_of (feed_of s) ≡ s) → (s : S) {out : List ℕ} {r : Finished S} {out' : List ℕ}
        → (128 ≤ length out → take r.written out' ≡ last_of act show (feed_of s)) → (128 ≤ length out → feed_of r.session ≡ last_end act show (feed_of s))
        → r.written ≤ length out' → Ends (whole_by act show feed_of) (after_by act show feed_of session_of) s out r out'
    unfolding feed_end
    ends back s {out} {r} {out'} w e l = record {
      within = l;
      shown = λ room. w room ∙ last-whole act show (feed_of s);
      session = λ room. sym (back r.session) ∙ ap session_of (e room);
    }
