-- Towards proofs/AlikeLaws.antt: entries woven of lines and reports, and the steps of alike lines.
use Rattle.std.specs.Prelude.{ℕ, ◌≡◌, refl, List, [], ◌∷◌, map, Option, Some, None}
use Rattle.std.proofs.Common.{sym, ap, ◌∙◌}
use Rattle.rules.specs.Steps.{Step, hide}
use Rattle.controller.specs.Session.{Report, seen, seen_all, Alike}
use Rattle.pieces.specs.Lines.{Line}
use Rattle.blanked.specs.Entries.{step_at, steps_at, only_steps, Entry, stepped, unread, weave}
use Rattle.blanked.specs.Alike.{hide_step, Public, public_of, seen_beside}

pub seen-weave : (irq : ℕ) (os : List (Option Step)) (rs : List Report) → seen_beside os (weave irq os rs) ≡ weave irq os (seen_all (only_steps os) rs)
seen-weave irq [] rs = refl
seen-weave irq (None ∷ os) rs = ap (λ (xs : List Entry). unread irq ∷ xs) (seen-weave irq os rs)
seen-weave irq (Some e ∷ os) [] = refl
seen-weave irq (Some e ∷ os) (r ∷ rs) = ap (λ (xs : List Entry). stepped (seen e r) ∷ xs) (seen-weave r.lines os rs)

-- which line is a step, and not which step it is, decides where an entry stands
pub weave-hide : (irq : ℕ) (os : List (Option Step)) (rs : List Report) → weave irq os rs ≡ weave irq (map hide_step os) rs
weave-hide irq [] rs = refl
weave-hide irq (None ∷ os) rs = ap (λ (xs : List Entry). unread irq ∷ xs) (weave-hide irq os rs)
weave-hide irq (Some e ∷ os) [] = refl
weave-hide irq (Some e ∷ os) (r ∷ rs) = ap (λ (xs : List Entry). stepped r ∷ xs) (weave-hide r.lines os rs)

steps-hide : (os : List (Option Step)) → only_steps (map hide_step os) ≡ map hide (only_steps os)
steps-hide [] = refl
steps-hide (None ∷ os) = steps-hide os
steps-hide (Some e ∷ os) = ap (λ (es : List Step). hide e ∷ es) (steps-hide os)

pub alike-steps : (os us : List (Option Step)) → map hide_step os ≡ map hide_step us → Alike (only_steps os) (only_steps us)
alike-steps os us h = sym (steps-hide os) ∙ ap only_steps h ∙ steps-hide us

pub public-steps : (ls : List Line) → map hide_step (steps_at ls) ≡ map (λ (p : Public). p.step) (map public_of ls)
public-steps [] = refl
public-steps (l ∷ ls) = ap (λ (os : List (Option Step)). hide_step (step_at l) ∷ os) (public-steps ls)
