-- W4, no old bytes behind a short message, from any state: what a buffer holds once a frame is put in it, how long each of its bytes
-- stays, and what the registers read that show those behind the frame.
use Rattle.std.specs.Prelude.{◌≡◌, refl, ℕ, ◌+◌, ◌≤◌, Bool, true, not, List, [], ◌∷◌, get_or, set}
use Rattle.std.proofs.Common.{sym, ap, ◌∙◌, arith}
use Rattle.std.proofs.Math.Bool.{and-eq-true_iff}
use Rattle.std.proofs.lemmas.Bool.{not-true}
use Rattle.masks.specs.Pick.{pick}
use Rattle.contents.specs.declared.Contents.{Contents}
use Rattle.contents.specs.Bytes.{cut, image_of}
use Rattle.rules.specs.declared.Answer.TheVariants.{Value, Refused}
use Rattle.rules.specs.Waiting.{asleep}
use Rattle.rules.specs.Answers.{is_put_in}
use Rattle.rules.specs.Steps.{Step, read, frame}
use Rattle.rules.proofs.BusPlanLaws.{frame-plan}
use Rattle.controller.specs.declared.Controller.{Controller}
use Rattle.controller.specs.Carry.{heads, row_at, Outcome}
use Rattle.controller.specs.Session.{step_of, end_by, end_of}
use Rattle.controller.specs.BufferBytes.{byte_at, shows, may_change, spares}
use Rattle.controller.specs.CodeLaws.{step-plain}
use Rattle.controller.specs.BufferBytesLaws.{put-plan, zero-at}
use Rattle.controller.proofs.BufferBytesLaws.{step_keeps, zero-read}
use Rattle.controller.specs.NoOldBytes as the
use Rattle.controller.specs.NoOldBytes.{put-sized}

-- "stored n" or "queued n": buffer n holds the frame's image, whatever it held before, and no other buffer changes. (A record made by
-- hand may name a place past the last buffer; then none changes.)
pub put-image : (c : Controller) (good : Bool) (f : List ℕ) (n : ℕ) → is_put_in n (step_of c (frame good f)).answer ≡ true →
    (step_of c (frame good f)).next.rows ≡ set c.rows n (image_of f)
put-image c good f n put =
    let same = step-plain c (frame good f) in
    ap (λ (o : Outcome). o.next.rows) same
    ∙ put-plan c.rows c.held good f n _ (frame-plan c.control (heads c.rows) good f) (ap (λ (o : Outcome). is_put_in n o.answer) (sym same) ∙ put)

-- a byte stays as long as no step may change it
pub byte-stays : (c : Controller) (n k : ℕ) (es : List Step) → spares c n k es ≡ true → byte_at (end_of c es) n k ≡ byte_at c n k
unfolding end_of end_by spares step_of
byte-stays c n k [] s = refl
byte-stays c n k (e ∷ es) s =
    let both = (and-eq-true_iff (not (may_change c n k e)) (spares (step_of c e).next n k es)).0 s in
    byte-stays (step_of c e).next n k es both.1 ∙ step_keeps c n k e (not-true (may_change c n k e) both.0)

module _ (c : Controller) (good : Bool) (f : List ℕ) (n : ℕ) (put : is_put_in n (step_of c (frame good f)).answer ≡ true) where
  -- the record once the frame f is put in buffer n
  abbrev after : Controller
  after = the.after c good f n put

  -- byte k of the buffer, behind the L data bytes: one of 2 + L to 13 (from 14 on there is none); and any steps of which none may
  -- change it
  module _ (k : ℕ) (behind : 2 + cut (get_or f 1 0) ≤ k) (es : List Step) (spared : spares after n k es ≡ true) where
    abbrev later : Controller
    later = the.later c good f n put k behind es spared

    -- it is 0, and stays so until a write to a register that shows it, the next frame that is put in n, at once or when it has
    -- waited for n, or reset
    pub zeros-behind : byte_at later n k ≡ 0
    zeros-behind =
        let size = put-sized c good f n put in
        byte-stays after n k es spared
        ∙ ap (λ (rows : List Contents). get_or (row_at rows n).bytes k 0) (put-image c good f n put) ∙ zero-at c.rows f n k (omega arith) (omega arith)

    -- so a register that shows it reads 0, or is refused 2 asleep
    pub zeros-read : (a : ℕ) → shows later.control n k a ≡ true → (step_of later (read a)).answer ≡ pick (asleep later.control) (Refused 2) (Value 0)
    zeros-read a shown = zero-read later n k a shown zeros-behind
