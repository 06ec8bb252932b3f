use Rattle.std.proofs.Common.{Option, ℕ, ap, ◌∙◌}
use Rattle.bus_steps.specs.CodeMarks.{ruled_by, placed_by, place-ruled}
use Rattle.bus_steps.proofs.frames.to_place.Goals as goal

pub returns-in-Some : goal.returns-in-Some
returns-in-Some c =
    λ i. let a = c.args in
    simp (c.raising.ensures, c.taken.ensures)
    (ap (λ (k : Option ℕ). ruled_by a.c i (placed_by a.c.places a.n k)) c.in-Some.ensures ∙ place-ruled a.c i a.n)

pub returns-in-None : goal.returns-in-None
returns-in-None c =
    λ i. let a = c.args in
    simp c.raising-in-None.ensures
    (ap (λ (k : Option ℕ). ruled_by a.c i (placed_by a.c.places a.n k)) c.in-None.ensures ∙ place-ruled a.c i a.n)
