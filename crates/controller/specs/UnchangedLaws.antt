-- A reply that is "refused" or "ignored", carried out.
use Rattle.std.specs.Prelude.{◌≡◌, refl, ℕ, true, false, List, []}
use Rattle.std.proofs.lemmas.Bool.{false≢true}
use Rattle.contents.specs.Bytes.{fill_room}
use Rattle.rules.specs.declared.Control.{Control}
use Rattle.rules.specs.Steps.{Step, room_in}
use Rattle.rules.specs.Plan.{Move, Reply, say, show, send}
use Rattle.rules.specs.Answers.{changes_nothing}
use Rattle.rules.specs.UnchangedLaws.{still_reply}
use Rattle.controller.specs.declared.Controller.{Controller}
use Rattle.controller.specs.Carry.{move_all, hold_all, answer_of, carry}

impossible : {G : Type 0} → false ≡ true → G
impossible e = absurd (false≢true e)

pub still-carried : (c : Controller) (e : Step) (d : Control) (ms : List Move) (r : Reply) (k : ℕ) →
    (still_reply r ≡ true → d ≡ c.control) → (still_reply r ≡ true → ms ≡ []) →
    changes_nothing (answer_of e c.rows r) ≡ true →
    ((carry e c.rows c.held (record { control = d; moves = ms; reply = r; looked = k })).next ≡ c)
    × ((carry e c.rows c.held (record { control = d; moves = ms; reply = r; looked = k })).room ≡ room_in e)
unfolding carry move_all hold_all fill_room
still-carried c e d ms (say a) k p q t = (simp (p t, q t), refl)
still-carried c e d ms (show n j) k p q t = impossible t
still-carried c e d ms (send n) k p q t = impossible t
