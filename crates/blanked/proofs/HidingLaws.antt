-- A blanked line is the line of its step with the payload put to 0, so that it is read as that step.
use Rattle.std.specs.Prelude.{ℕ, ◌≡◌, List, Option, Some, None}
use Rattle.std.proofs.Math.Path.{refl}
use Rattle.std.proofs.Common.{ap, ◌∙◌}
use Rattle.lines.specs.declared.FrameBytes.{FrameBytes}
use Rattle.lines.specs.Grammar.{line_of}
use Rattle.blanked.specs.Blank.{blank_call, blank_by, blank_line}
use Rattle.blanked.specs.Entries.{step_beside, read_step}
use Rattle.blanked.specs.StepTextLaws.{Says}
use Rattle.blanked.specs.FrameTextLaws.{line-says}
use Rattle.blanked.specs.Alike.{hide_step}
use Rattle.blanked.specs.HidingLaws.{line_text, call-blank, hidden-read}
use Rattle.controller.specs.declared.Call.{Call}

-- ---- a line that is read, blanked

blank-by : (k : Option Call) (f : FrameBytes) (s : List ℕ) → Says s (step_beside k f) → blank_by k s ≡ line_text (hide_step (step_beside k f))
unfolding blank_by step_beside
blank-by (Some call) f s h = ap (blank_call call) h.0 ∙ call-blank call f
blank-by None f s h = refl

-- a blanked line, from what is public of the line alone
pub blank-text : (s : List ℕ) → blank_line s ≡ line_text (hide_step (read_step s))
unfolding blank_line read_step
blank-text s = blank-by (line_of s).line (line_of s).frame s (line-says s)

-- ---- a blanked line, read

pub blank-read : (s : List ℕ) → read_step (blank_line s) ≡ hide_step (read_step s)
blank-read s = ap read_step (blank-text s) ∙ hidden-read s (read_step s) (line-says s)
