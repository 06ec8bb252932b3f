-- W4, no old bytes behind a short message, from any state: the frame that is put in a buffer, the record after it and later, and the
-- registers that show a buffer's bytes. proofs/NoOldBytes.antt says what they read.
use Rattle.std.specs.Prelude.{◌≡◌, ℕ, ◌+◌, ◌≤◌, ◌<◌, Bool, true, List, eqb, get_or, length}
use Rattle.std.proofs.Common.{sym, ap, ◌∙◌, eqb-true}
use Rattle.std.proofs.lemmas.Bool.{false≢true}
use Rattle.masks.specs.PickLaws.{by-test}
use Rattle.contents.specs.Bytes.{cut}
use Rattle.rules.specs.declared.Control.{Control}
use Rattle.rules.specs.Kinds.{fifo_holder}
use Rattle.rules.specs.Answers.{is_put_in}
use Rattle.rules.specs.Steps.{Step, frame}
use Rattle.controller.specs.declared.Controller.{Controller}
use Rattle.controller.specs.Session.{step_of, end_of}
use Rattle.controller.specs.BufferBytes.{shows, spares}
use Rattle.controller.specs.BufferBytesLaws.{size-refused, transmit-shows, receive-shows, fifo-shows}

-- a frame that is put in a buffer has 2 + L bytes, L being the length that it is stored with
pub put-sized : (c : Controller) (good : Bool) (f : List ℕ) (n : ℕ) → is_put_in n (step_of c (frame good f)).answer ≡ true → length f ≡ 2 + cut (get_or f 1 0)
put-sized c good f n put =
    let size = 2 + cut (get_or f 1 0) in
    eqb-true (length f) size
    (by-test (eqb (length f) size) (λ t. t) (λ t. absurd (false≢true (ap (is_put_in n) (sym (size-refused c good f t)) ∙ put))))

-- the fourteen registers of each window show its holder's bytes
pub window-shows : (c : Control) (p : ℕ) → p < 14 →
    (shows c c.transmit.holder p (0x20 + p) ≡ true) × (shows c c.receive.holder p (0x30 + p) ≡ true) × (shows c (fifo_holder c) p (0x40 + p) ≡ true)
window-shows c p h = (transmit-shows c p h, receive-shows c p h, fifo-shows c p h)

module _ (c : Controller) (good : Bool) (f : List ℕ) (n : ℕ) (put : is_put_in n (step_of c (frame good f)).answer ≡ true) where
  -- the record once the frame f is put in buffer n
  abbrev pub after : Controller
  after = (step_of c (frame good f)).next

  -- byte k of the buffer, behind the L data bytes: one of 2 + L to 13 (from 14 on there is none); and any steps of which none may
  -- change it
  module _ (k : ℕ) (behind : 2 + cut (get_or f 1 0) ≤ k) (es : List Step) (spared : spares after n k es ≡ true) where
    abbrev pub later : Controller
    later = end_of after es
