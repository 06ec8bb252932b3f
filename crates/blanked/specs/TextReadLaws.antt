-- Reading the line of a step gives the step.
use Rattle.std.specs.Prelude.{ℕ, ◌+◌, ◌/◌, ◌%◌, ◌≤◌, ◌≡◌, Bool, true, false, set, take, length, replicate, ltb, Some, None}
use Rattle.std.proofs.Math.Path.{refl, ap}
use Rattle.std.proofs.Common.{sym, ◌∙◌, arith, add-one, le-ltb, length-set, take-suc-set}
use mathlib.Core.List.{List, [], ◌∷◌, ◌++◌, append_assoc, append-nil}
use Rattle.masks.specs.Pick.{pick}
use Rattle.masks.specs.PickLaws.{pick_true, pick-false}
use Rattle.rules.specs.declared.SyncKind.{SyncKind}
use Rattle.rules.specs.declared.SyncKind.TheVariants.{Normal, Alarm}
use Rattle.rules.specs.declared.Fault.{Fault}
use Rattle.rules.specs.declared.Fault.TheVariants.{Early, Lost, Illegal, Mismatch}
use Rattle.rules.specs.Steps.{Step, reset, read, write, sync, sync_due, slot, frame, fault, timeout}
use Rattle.lines.specs.Grammar.{no_bytes, byte_of, plain_of, one_of, sync_of, fault_of, three_of, four_of, seven_of, short_of, is_frame, decode_from, frame_line, line_of}
use Rattle.report.specs.Text.{digit_of, hex_of, hexes_of, kind_text, unread_text}
use Rattle.replaying.specs.Replay.{step_in}
use Rattle.blanked.specs.DigitLaws.{hex-byte}
use Rattle.blanked.specs.Entries.{step_beside, parsed_step, read_step}
use Rattle.blanked.specs.StepTextLaws.{fault_text, verdict_byte, step_text, Bytes, Fits}

-- ---- lines without a frame

read-read : (h l a : ℕ) → byte_of h l ≡ a → a ≤ 255 → read_step (82 ∷ 9 ∷ h ∷ l ∷ []) ≡ Some (read a)
unfolding read_step step_beside step_in line_of is_frame short_of four_of pick
read-read h l a e b = rw (e, le-ltb 255 a b)

slot_read : (h l i : ℕ) → byte_of h l ≡ i → i ≤ 255 → read_step (84 ∷ 9 ∷ h ∷ l ∷ []) ≡ Some (slot i (replicate 14 0))
unfolding read_step step_beside step_in line_of is_frame short_of four_of pick
slot_read h l i e b = rw (e, le-ltb 255 i b)

write_read : (h l h₂ l₂ a v : ℕ) → byte_of h l ≡ a → a ≤ 255 → byte_of h₂ l₂ ≡ v → v ≤ 255 →
    read_step (87 ∷ 9 ∷ h ∷ l ∷ 9 ∷ h₂ ∷ l₂ ∷ []) ≡ Some (write a v)
unfolding read_step step_beside step_in line_of is_frame short_of seven_of pick
write_read h l h₂ l₂ a v e b f c = rw (e, f, le-ltb 255 a b, le-ltb 255 v c)

sync-read : (k : SyncKind) → read_step (83 ∷ 9 ∷ kind_text k) ≡ Some (sync k)
unfolding read_step step_beside step_in line_of is_frame short_of three_of sync_of kind_text pick
sync-read Normal = refl
sync-read Alarm = refl

fault-read : (k : Fault) → read_step (80 ∷ 9 ∷ fault_text k) ≡ Some (fault k)
unfolding read_step step_beside step_in line_of is_frame short_of three_of fault_of pick
fault-read Early = refl
fault-read Lost = refl
fault-read Illegal = refl
fault-read Mismatch = refl

-- ---- frames

is-frame : (v : ℕ) (ds : List ℕ) → is_frame (70 ∷ 9 ∷ v ∷ 9 ∷ ds) ≡ true
unfolding is_frame
is-frame v ds = pick-false (ltb (length (70 ∷ 9 ∷ v ∷ 9 ∷ ds)) 4) _ _ (le-ltb (length (70 ∷ 9 ∷ v ∷ 9 ∷ ds)) 4 (omega arith)) ∙ unfold pick in refl

frame-line : (v : ℕ) (ds : List ℕ) → length ds ≤ 60 → line_of (70 ∷ 9 ∷ v ∷ 9 ∷ ds) ≡ frame_line v ds
unfolding line_of
frame-line v ds h =
    pick-false (ltb 64 (length (70 ∷ 9 ∷ v ∷ 9 ∷ ds))) _ _ (le-ltb 64 (length (70 ∷ 9 ∷ v ∷ 9 ∷ ds)) (omega arith))
    ∙ pick_true (is_frame (70 ∷ 9 ∷ v ∷ 9 ∷ ds)) _ _ (is-frame v ds)

decode-next : (good : Bool) (bytes : List ℕ) (i : ℕ) (h l : ℕ) (ds : List ℕ) (v : ℕ) → byte_of h l ≡ v → v ≤ 255 →
    decode_from good bytes i (h ∷ l ∷ ds) ≡ decode_from good (set bytes i v) (i + 1) ds
unfolding decode_from
decode-next good bytes i h l ds v e b =
    ap (λ (x : ℕ). pick (ltb 255 x) (plain_of None) (decode_from good (set bytes i x) (i + 1) ds)) e ∙ pick-false (ltb 255 v) _ _ (le-ltb 255 v b)

-- i bytes are decoded, and the digits of f are left
decode-read : (good : Bool) (bytes : List ℕ) (i : ℕ) (f : List ℕ) → length bytes ≡ 34 → i + length f ≤ 30 → Bytes f →
    parsed_step (decode_from good bytes i (hexes_of f)) ≡ Some (frame good (take i bytes ++ f))
unfolding hexes_of hex_of
decode-read good bytes i [] n h b = unfold decode_from step_beside step_in in ap (λ (x : List ℕ). Some (frame good x)) (sym (append-nil (take i bytes)))
decode-read good bytes i (v ∷ f) n h b =
    let now : take (i + 1) (set bytes i v) ≡ take i bytes ++ v ∷ [] = rw (add-one i) (take-suc-set bytes i v (omega arith)) in
    ap parsed_step (decode-next good bytes i (digit_of (v / 16)) (digit_of (v % 16)) (hexes_of f) v (hex-byte v b.0) b.0)
    ∙ decode-read good (set bytes i v) (i + 1) f (length-set bytes i v ∙ n) (omega arith) b.1
    ∙ ap (λ (x : List ℕ). Some (frame good x)) (ap (λ (x : List ℕ). x ++ f) now ∙ append_assoc (take i bytes) (v ∷ []) f)

hexes-length : (f : List ℕ) → length (hexes_of f) ≡ length f + length f
unfolding hexes_of hex_of
hexes-length [] = refl
hexes-length (v ∷ f) = let e = hexes-length f in omega arith

verdict-read : (good : Bool) (ds : List ℕ) → frame_line (verdict_byte good) ds ≡ decode_from good no_bytes 0 ds
unfolding frame_line pick
verdict-read true ds = refl
verdict-read false ds = refl

frame-read : (good : Bool) (f : List ℕ) → Bytes f → length f ≤ 30 → read_step (70 ∷ 9 ∷ verdict_byte good ∷ 9 ∷ hexes_of f) ≡ Some (frame good f)
unfolding read_step
frame-read good f b h =
    ap parsed_step (frame-line (verdict_byte good) (hexes_of f) (let e = hexes-length f in omega arith) ∙ verdict-read good (hexes_of f))
    ∙ decode-read good no_bytes 0 f refl (omega arith) b

-- ---- all steps

pub text-read : (e : Step) → Fits e → read_step (step_text e) ≡ Some e
unfolding step_text read_step step_beside step_in line_of is_frame short_of one_of hex_of pick
text-read reset h = refl
text-read (read a) h = read-read _ _ a (hex-byte a h) h
text-read (write a v) h = write_read _ _ _ _ a v (hex-byte a h.0) h.0 (hex-byte v h.1) h.1
text-read (sync k) h = sync-read k
text-read sync_due h = refl
text-read (slot i room) h = slot_read _ _ i (hex-byte i h.0) h.0 ∙ ap (λ (x : List ℕ). Some (slot i x)) (sym h.1)
text-read (frame good f) h = frame-read good f h.0 h.1
text-read (fault k) h = fault-read k
text-read timeout h = refl

-- the fixed line that stands for an unread one is unread
pub unread-read : read_step unread_text ≡ None
unfolding read_step step_beside line_of is_frame short_of unread_text pick
unread-read = refl
