-- The lines of frames, and with them of all steps: a line that is read is the line of its step.
use Rattle.std.specs.Prelude.{ℕ, ◌+◌, ◌≤◌, ◌≡◌, Bool, get_or, set, drop, eqb, ltb}
use Rattle.std.proofs.Math.Path.{refl, sym, ap}
use Rattle.std.proofs.Common.{ap₂, subst, ◌∙◌, add-one, length-set, take-suc-set}
use Rattle.std.proofs.Math.Bool.{true, false}
use Rattle.std.proofs.lemmas.Bool.{false≢true}
use mathlib.Core.List.{List, [], ◌∷◌, ◌++◌, append_assoc, append-nil}
use native.Mathlib.Omega.{arith}
use borrow.Author.Tests.{eqb-true, ltb-false}
use Rattle.std.proofs.Math.ListN.{take, length, length-take, length-drop}
use Rattle.masks.specs.PickLaws.{pick-keeps}
use Rattle.contents.specs.Bytes.{bytes_from}
use Rattle.lines.specs.declared.Parsed.{Parsed}
use Rattle.lines.specs.Grammar.{no_bytes, byte_of, is_frame, decode_from, frame_line, line_of}
use Rattle.report.specs.Text.{hex_of, hexes_of}
use Rattle.replaying.specs.Replay.{step_in}
use Rattle.blanked.specs.DigitLaws.{byte-hex}
use Rattle.blanked.specs.Entries.{step_beside, parsed_step, read_step}
use Rattle.blanked.specs.StepTextLaws.{verdict_byte, step_text, Bytes, Says, spelled, short-says}

-- ---- the digits of bytes

hexes-snoc : (f : List ℕ) (v : ℕ) → hexes_of (f ++ v ∷ []) ≡ hexes_of f ++ hex_of v
unfolding hexes_of
hexes-snoc [] v = append-nil (hex_of v)
hexes-snoc (x ∷ f) v = ap (λ (t : List ℕ). hex_of x ++ t) (hexes-snoc f v) ∙ sym (append_assoc (hex_of x) (hexes_of f) (hex_of v))

bytes-snoc : (f : List ℕ) (v : ℕ) → Bytes f → v ≤ 255 → Bytes (f ++ v ∷ [])
bytes-snoc [] v b h = (h, tt)
bytes-snoc (x ∷ f) v b h = (b.0, bytes-snoc f v b.1 h)

-- ---- the head of a frame's line

frame-head : (s : List ℕ) → is_frame s ≡ true → s ≡ 70 ∷ 9 ∷ get_or s 2 0 ∷ 9 ∷ drop 4 s
unfolding is_frame bytes_from
frame-head s =
    pick-keeps Is (ltb (length s) 4) (λ n. never)
    (λ l. pick-keeps Is (eqb (get_or s 0 0) 70)
    (λ a. pick-keeps Is (eqb (get_or s 1 0) 9)
    (λ b. pick-keeps Is (eqb (get_or s 3 0) 9)
    (λ c y. spelled 4 0 s (ltb-false (length s) 4 l)
    ∙ ap₂ (λ (x y : ℕ). x ∷ y ∷ get_or s 2 0 ∷ get_or s 3 0 ∷ drop 4 s) (eqb-true _ 70 a) (eqb-true _ 9 b)
    ∙ ap (λ (x : ℕ). 70 ∷ 9 ∷ get_or s 2 0 ∷ x ∷ drop 4 s) (eqb-true _ 9 c))
    (λ n. never))
    (λ n. never))
    (λ n. never))
  where
    Is : Bool → Type 0
    Is t = t ≡ true → s ≡ 70 ∷ 9 ∷ get_or s 2 0 ∷ 9 ∷ drop 4 s

    never : Is false
    never e = absurd (false≢true e)

-- ---- its bytes

module _ (s : List ℕ) where
  abbrev SaysParsed : Parsed → Type 0
  SaysParsed q = Says s (parsed_step q)

  -- i bytes are decoded, and the digits ds are left
  decode-says : (good : Bool) (bytes : List ℕ) (i : ℕ) (ds : List ℕ) → length bytes ≡ 34 → i + i + length ds ≤ 60 →
      s ≡ 70 ∷ 9 ∷ verdict_byte good ∷ 9 ∷ (hexes_of (take i bytes) ++ ds) → Bytes (take i bytes) → SaysParsed (decode_from good bytes i ds)
  unfolding decode_from step_beside step_in step_text
  decode-says good bytes i [] n h p b =
      (p ∙ ap (λ (x : List ℕ). 70 ∷ 9 ∷ verdict_byte good ∷ 9 ∷ x) (append-nil (hexes_of (take i bytes))), (b, (let l = length-take i bytes in omega arith)))
  decode-says good bytes i (x ∷ []) n h p b = tt
  decode-says good bytes i (x ∷ y ∷ ds) n h p b =
      pick-keeps SaysParsed (ltb 255 (byte_of x y)) (λ e. tt)
      (λ e. let v : byte_of x y ≤ 255 = ltb-false 255 (byte_of x y) e in
      let now : take (i + 1) (set bytes i (byte_of x y)) ≡ take i bytes ++ byte_of x y ∷ [] = rw (add-one i) (take-suc-set bytes i (byte_of x y) (omega arith)) in
      let text : hexes_of (take i bytes) ++ x ∷ y ∷ ds ≡ hexes_of (take (i + 1) (set bytes i (byte_of x y))) ++ ds =
      sym (append_assoc (hexes_of (take i bytes)) (x ∷ y ∷ []) ds)
      ∙ ap (λ (t : List ℕ). t ++ ds) (ap (λ (t : List ℕ). hexes_of (take i bytes) ++ t) (byte-hex x y v) ∙ sym (hexes-snoc (take i bytes) (byte_of x y)) ∙ ap hexes_of (sym now)) in
      decode-says good (set bytes i (byte_of x y)) (i + 1) ds (length-set bytes i (byte_of x y) ∙ n) (omega arith)
      (p ∙ ap (λ (t : List ℕ). 70 ∷ 9 ∷ verdict_byte good ∷ 9 ∷ t) text)
      (subst Bytes (sym now) (bytes-snoc (take i bytes) (byte_of x y) b v)))

  frame-says : length s ≤ 64 → is_frame s ≡ true → SaysParsed (frame_line (get_or s 2 0) (drop 4 s))
  unfolding frame_line step_beside hexes_of
  frame-says l f =
      pick-keeps SaysParsed (eqb (get_or s 2 0) 71)
      (λ e. decode-says true no_bytes 0 (drop 4 s) refl short (is 71 e) tt)
      (λ n. pick-keeps SaysParsed (eqb (get_or s 2 0) 66) (λ e. decode-says false no_bytes 0 (drop 4 s) refl short (is 66 e) tt) (λ m. tt))
    where
      short : 0 + 0 + length (drop 4 s) ≤ 60
      short = let d = length-drop 4 s in omega arith

      is : (x : ℕ) → eqb (get_or s 2 0) x ≡ true → s ≡ 70 ∷ 9 ∷ x ∷ 9 ∷ drop 4 s
      is x e = frame-head s f ∙ ap (λ (y : ℕ). 70 ∷ 9 ∷ y ∷ 9 ∷ drop 4 s) (eqb-true (get_or s 2 0) x e)

  -- where it is read, it is the line of its step
  pub line-says : Says s (read_step s)
  unfolding read_step line_of step_beside
  line-says =
      pick-keeps SaysParsed (ltb 64 (length s)) (λ e. tt)
      (λ e. pick-keeps SaysParsed (is_frame s) (λ f. frame-says (ltb-false 64 (length s) e) f) (λ f. short-says s))
