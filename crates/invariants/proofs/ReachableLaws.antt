-- A step keeps a record sound, and so does a session.
use Rattle.std.specs.Prelude.{List, [], ◌∷◌}
use Rattle.rules.specs.Steps.{Step, hide}
use Rattle.rules.specs.Rules.{decide}
use Rattle.controller.specs.declared.Controller.{Controller}
use Rattle.controller.specs.Session.{step_by, end_by}
use Rattle.controller.specs.View.{View, view_of}
use Rattle.controller.specs.ViewLaws.{view_next}
use Rattle.controller.proofs.ViewLaws.{step-view}
use Rattle.invariants.specs.Sound.{Sound}
use Rattle.invariants.specs.StepLaws.{step_kept}
use Rattle.invariants.specs.KeptSoundLaws.{reset-sound}
use Rattle.invariants.proofs.KeptSoundLaws.{sound-kept}

pub step-sound : (w : View) → Sound w → (e : Step) → Sound (view_next decide w e)
step-sound w s e = step_kept Sound sound-kept w s reset-sound e

pub next-sound : (c : Controller) (e : Step) → Sound (view_of c) → Sound (view_of (step_by decide c e).next)
next-sound c e s = rw (step-view decide c e) (step-sound (view_of c) s (hide e))

pub session-sound : (c : Controller) (es : List Step) → Sound (view_of c) → Sound (view_of (end_by decide c es))
unfolding end_by
session-sound c [] s = s
session-sound c (e ∷ es) s = session-sound (step_by decide c e).next es (next-sound c e s)
