-- Laws of the grammar, for those who read lines and step their frames.
use Rattle.std.specs.Prelude.{ℕ, ◌+◌, ◌≤◌, ◌<◌, ◌≡◌, List, [], ◌∷◌, Bool, true, false, length, drop, get_or, set, ltb, eqb, None}
use Rattle.std.proofs.Common.{arith, lt-ltb, ltb-false, length-drop}
use Rattle.std.proofs.lemmas.Bool.{false≢true}
use Rattle.masks.specs.PickLaws.{pick-keeps, pick_true}
use Rattle.lines.specs.declared.Parsed.{Parsed}
use Rattle.lines.specs.Grammar.{no_bytes, line_of, frame_line, is_frame, decode_from, plain_of, byte_of}

-- "one over 64 bytes without its LF, is 'unread'"
pub over-unread : (s : List ℕ) → 64 < length s → line_of s ≡ plain_of None
unfolding line_of
over-unread s h = pick_true _ _ _ (lt-ltb 64 (length s) h)

-- a line that begins as a frame's has a verdict, and digits behind its fourth byte
pub begun-length : (s : List ℕ) → is_frame s ≡ true → 4 ≤ length s
unfolding is_frame
begun-length s =
    pick-keeps (λ (t : Bool). t ≡ true → 4 ≤ length s) (ltb (length s) 4) (λ t e. absurd (false≢true e)) (λ t e. ltb-false (length s) 4 t)

-- 64 bytes less the four before the digits, two a byte: a frame's bytes are at most 30
abbrev Fits : Parsed → Type 0
Fits p = p.frame.size ≤ 30

decoded-fits : (g : Bool) (ds bytes : List ℕ) (i : ℕ) → i + i + length ds ≤ 60 → Fits (decode_from g bytes i ds)
unfolding decode_from
decoded-fits g [] bytes i h = omega arith
decoded-fits g (x ∷ []) bytes i h = omega arith
decoded-fits g (x ∷ y ∷ ds) bytes i h =
    let k : (i + 1) + (i + 1) + length ds ≤ 60 = omega arith in
    pick-keeps Fits (ltb 255 (byte_of x y)) (λ e. omega arith) (λ e. decoded-fits g ds (set bytes i (byte_of x y)) (i + 1) k)

frame-fits : (v : ℕ) (ds : List ℕ) → length ds ≤ 60 → Fits (frame_line v ds)
unfolding frame_line
frame-fits v ds h =
    let k : 0 + 0 + length ds ≤ 60 = omega arith in
    pick-keeps Fits (eqb v 71) (λ e. decoded-fits true ds no_bytes 0 k)
    (λ e. pick-keeps Fits (eqb v 66) (λ e. decoded-fits false ds no_bytes 0 k) (λ e. omega arith))

pub frame-size : (s : List ℕ) → (line_of s).frame.size ≤ 30
unfolding line_of
frame-size s =
    pick-keeps Fits (ltb 64 (length s)) (λ e. omega arith)
    (λ e.
    let h : length s ≤ 64 = ltb-false 64 (length s) e in
    let k : length (drop 4 s) ≤ 60 = omega (arith, length-drop 4 s) in
    pick-keeps Fits (is_frame s) (λ e. frame-fits (get_or s 2 0) (drop 4 s) k) (λ e. omega arith))
