-- Towards proofs/HidingLaws.antt: zeros as digits, the line of a step with its payload put to 0, and how that is read.
use Rattle.std.specs.Prelude.{ℕ, ◌≤◌, ◌≡◌, Bool, List, [], ◌∷◌, ◌++◌, length, replicate, Option, Some, None}
use Rattle.std.proofs.Math.Path.{refl}
use Rattle.std.proofs.Common.{sym, ap, ◌∙◌, arith}
use Rattle.masks.specs.Pick.{pick}
use Rattle.masks.specs.PickLaws.{pick_true, pick-false, pick-keeps, by-test}
use Rattle.contents.specs.Payload.{zeros, hide_data}
use Rattle.contents.specs.PayloadLaws.{hide-size}
use Rattle.rules.specs.Steps.{Step, reset, read, write, sync, sync_due, slot, frame, fault, timeout, data_register, hide}
use Rattle.rules.specs.HiddenLaws.{hide-again}
use Rattle.controller.specs.declared.Call.{Call}
use Rattle.controller.specs.declared.Call.TheVariants.{Reset, Read, Write, Sync, SyncDue, Slot, Frame, Fault, Timeout}
use Rattle.lines.specs.declared.FrameBytes.{FrameBytes}
use Rattle.lines.specs.Grammar.{bytes_in}
use Rattle.report.specs.Text.{digit_of, hex_of, hexes_of, unread_text}
use Rattle.replaying.specs.Replay.{step_in}
use Rattle.blanked.specs.Blank.{zero_from, blank_call}
use Rattle.blanked.specs.Entries.{read_step}
use Rattle.blanked.specs.StepTextLaws.{verdict_byte, step_text, Bytes, Fits, Says}
use Rattle.blanked.specs.TextReadLaws.{text-read, unread-read}
use Rattle.blanked.specs.Alike.{hide_step}

pub hidden-again : (o : Option Step) → hide_step (hide_step o) ≡ hide_step o
hidden-again None = refl
hidden-again (Some e) = ap {B = Option Step} Some (hide-again e)

-- the line that stands for it
abbrev pub line_text : Option Step → List ℕ
line_text None = unread_text
line_text (Some e) = step_text e

-- ---- zeros as digits

write-zeroed : (a v : ℕ) → zero_from 5 (step_text (write a v)) ≡ step_text (write a 0)
unfolding zero_from step_text hex_of digit_of pick
write-zeroed a v = refl

hexes-zeroed : (d : List ℕ) → replicate (length (hexes_of d)) 48 ≡ hexes_of (zeros d)
unfolding hexes_of hex_of digit_of pick
hexes-zeroed [] = refl
hexes-zeroed (x ∷ d) = ap (λ (t : List ℕ). 48 ∷ 48 ∷ t) (hexes-zeroed d)

frame-zeroed : (good : Bool) (f : List ℕ) → zero_from 8 (step_text (frame good f)) ≡ step_text (frame good (hide_data f))
unfolding zero_from step_text hexes_of hex_of
frame-zeroed good [] = refl
frame-zeroed good (i ∷ []) = refl
frame-zeroed good (i ∷ (l ∷ d)) = ap (λ (t : List ℕ). 70 ∷ 9 ∷ verdict_byte good ∷ 9 ∷ (hex_of i ++ (hex_of l ++ t))) (hexes-zeroed d)

-- ---- a line that is read, blanked

write-blank : (a v : ℕ) → pick (data_register a) (zero_from 5 (step_text (write a v))) (step_text (write a v)) ≡ step_text (write a (pick (data_register a) 0 v))
write-blank a v =
    by-test (data_register a)
    (λ d. pick_true (data_register a) _ _ d ∙ write-zeroed a v ∙ ap (λ (x : ℕ). step_text (write a x)) (sym (pick_true (data_register a) 0 v d)))
    (λ d. pick-false (data_register a) _ _ d ∙ ap (λ (x : ℕ). step_text (write a x)) (sym (pick-false (data_register a) 0 v d)))

pub call-blank : (call : Call) (f : FrameBytes) → blank_call call (step_text (step_in call f)) ≡ step_text (hide (step_in call f))
unfolding blank_call step_in
call-blank Reset f = refl
call-blank (Read a) f = refl
call-blank (Write a v) f = write-blank a v
call-blank (Sync k) f = refl
call-blank SyncDue f = refl
call-blank (Slot i) f = unfold step_text in refl
call-blank (Frame good) f = frame-zeroed good (bytes_in f)
call-blank (Fault k) f = refl
call-blank Timeout f = refl

-- ---- a blanked line, read

bytes-zeros : (d : List ℕ) → Bytes (zeros d)
bytes-zeros [] = tt
bytes-zeros (x ∷ d) = (omega arith, bytes-zeros d)

bytes-hide : (f : List ℕ) → Bytes f → Bytes (hide_data f)
bytes-hide [] b = b
bytes-hide (i ∷ []) b = b
bytes-hide (i ∷ (l ∷ d)) b = (b.0, (b.1.0, bytes-zeros d))

fits-hide : (e : Step) → Fits e → Fits (hide e)
fits-hide reset h = h
fits-hide (read a) h = h
fits-hide (write a v) h = (h.0, pick-keeps (λ (x : ℕ). x ≤ 255) (data_register a) (λ d. omega arith) (λ d. h.1))
fits-hide (sync k) h = h
fits-hide sync_due h = h
fits-hide (slot i room) h = (h.0, ap zeros h.1)
fits-hide (frame good f) h = (bytes-hide f h.0, (let e = hide-size f in omega arith))
fits-hide (fault k) h = h
fits-hide timeout h = h

pub hidden-read : (s : List ℕ) (o : Option Step) → Says s o → read_step (line_text (hide_step o)) ≡ hide_step o
hidden-read s None h = unread-read
hidden-read s (Some e) h = text-read (hide e) (fits-hide e h.1)
