-- Sessions step by step: their length, a session with its payload put to 0, and that a caller is shown what document 01 reports.
use Rattle.std.specs.Prelude.{◌≡◌, refl, ℕ, suc, List, [], ◌∷◌, map, length, false}
use Rattle.std.proofs.Common.{ap}
use Rattle.std.proofs.Math.Seq.{take-append_seam}
use Rattle.controller.specs.declared.Controller.{Controller}
use Rattle.controller.specs.Carry.{row_at, heads, carry}
use Rattle.rules.specs.Steps.{Step, hide}
use Rattle.rules.specs.HiddenLaws.{hide-again}
use Rattle.rules.specs.Flags.{lines_of}
use Rattle.controller.specs.Session.{run_by, run_of, Alike, report_of, step_by, step_of}
use Rattle.rules.specs.Rules.{decide}
use Rattle.contents.specs.declared.Contents.{Contents}
use Rattle.contents.specs.Bytes.{frame_of, fill_room}
use Rattle.rules.specs.declared.Control.{Control}
use Rattle.rules.specs.Answers.{word_of, Detail, bytes, detail_of}
use Rattle.rules.specs.AnswerLaws.{detail-same}
use Rattle.rules.specs.Plan.{Move, Reply, say, show, send}
use Rattle.rules.specs.SendingLaws.{says_sent}
use Rattle.rules.proofs.SendingLaws.{never-says-sent}
use Rattle.controller.specs.Calls.{shown_detail, shown}

pub hidden-alike : (es : List Step) → Alike (map hide es) es
hidden-alike [] = refl
hidden-alike (e ∷ es) = simp (hide-again, hidden-alike es)

pub run-by-length : (c : Controller) (es : List Step) → length (run_by decide lines_of c es) ≡ length es
unfolding run_by
run-by-length c [] = refl
run-by-length c (e ∷ es) = ap suc (run-by-length (step_by decide c e).next es)

-- ---- what is shown is what document 01 reports

detail-carried : (e : Step) (rows held : List Contents) (c : Control) (ms : List Move) (r : Reply) (k : ℕ) → says_sent r ≡ false →
    shown_detail (carry e rows held (record { control = c; moves = ms; reply = r; looked = k })).answer (carry e rows held (record { control = c; moves = ms; reply = r; looked = k })).room
    ≡ detail_of (carry e rows held (record { control = c; moves = ms; reply = r; looked = k })).answer (carry e rows held (record { control = c; moves = ms; reply = r; looked = k })).sent
unfolding carry fill_room
detail-carried e rows held c ms (say a) k s = detail-same a _ _ s
detail-carried e rows held c ms (show n j) k s = refl
detail-carried e rows held c ms (send n) k s = ap (bytes (length (frame_of (row_at rows n)))) (take-append_seam (frame_of (row_at rows n)) _)

pub report-shown : (c : Controller) (e : Step) → shown (step_of c e).answer (step_of c e).room (lines_of (step_of c e).next.control) (step_of c e).looked ≡ report_of lines_of (step_of c e)
unfolding step_of
report-shown c e =
    let p = decide c.control (heads c.rows) (hide e) in
    let o = step_by decide c e in
    ap (λ (d : Detail). record { word = word_of o.answer; detail = d; room = o.room; lines = lines_of o.next.control; looked = o.looked })
    (detail-carried e c.rows c.held p.control p.moves p.reply p.looked (never-says-sent c.control (heads c.rows) (hide e)))

pub run-cons : (c : Controller) (e : Step) (es : List Step) → run_of c (e ∷ es) ≡ report_of lines_of (step_of c e) ∷ run_of (step_of c e).next es
unfolding run_of run_by step_of
run-cons c e es = refl

pub run_none : (c : Controller) → [] ≡ run_of c []
unfolding run_of run_by
run_none c = refl
