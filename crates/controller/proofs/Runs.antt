-- Demand 3 of what runs. A caller makes any list of calls from reset, each on the record that the last one returned, and
-- looks at the answer with its count, the room and the five lines. What the methods promise is all that is assumed of them.
use Rattle.std.specs.Prelude.{◌≡◌, refl, ℕ, List, [], ◌∷◌}
use Rattle.std.proofs.Common.{sym, ap, ap₂, subst, ◌∙◌}
use Rattle.rules.specs.Flags.{lines_of}
use Rattle.rules.specs.Steps.{Step}
use Rattle.controller.specs.declared.Controller.{Controller}
use Rattle.controller.specs.declared.Done.{Done}
use Rattle.controller.specs.Carry.{reset_state}
use Rattle.controller.specs.Session.{Report, step_of, run_of, seen_all, Alike}
use Rattle.controller.proofs.Demand3.{payload-never-steers}
use Rattle.controller.specs.Calls.{done_of, shown}
use Rattle.controller.specs.RunLaws.{report-shown, run-cons, run_none}
use Rattle.controller.specs.Runs.{Runs, ends, calls, Demand3}

-- "In each session they are, those values and bytes included, what this document's rules [..] give from reset for its list
-- alone."
pub runs-reports : (c : Controller) (es : List Step) (rs : List Report) → Runs c es rs → rs ≡ run_of c es
runs-reports c es rs ends = run_none c
runs-reports c es rs (calls {c = b} {e = e} {es = later} {rs = more} d room lines p q l runs) =
    ap₂ (λ (x : Report) (xs : List Report). x ∷ xs)
    (ap₂ (λ (x : List ℕ) (y : ℕ). shown d.answered.answer x y d.answered.looked) q l
    ∙ ap (λ (x : Done). shown x.answered.answer (step_of b e).room (lines_of x.next.control) x.answered.looked) p ∙ report-shown b e)
    (runs-reports d.next later more runs ∙ ap (λ (x : Done). run_of x.next later) p)
    ∙ sym (run-cons b e later)

-- every list of steps from every record has its run
pub runs-exist : (c : Controller) (es : List Step) → Runs c es (run_of c es)
runs-exist c [] = subst (Runs c []) (run_none c) ends
runs-exist c (e ∷ es) =
    let o = step_of c e in
    subst (Runs c (e ∷ es)) (ap (λ (r : Report). r ∷ run_of o.next es) (report-shown c e) ∙ sym (run-cons c e es))
    (calls (done_of o) o.room (lines_of o.next.control) refl refl refl (runs-exist o.next es))

pub runs-alike : (xs ys : List Step) (rs ss : List Report) → Alike xs ys → Runs reset_state xs rs → Runs reset_state ys ss → Demand3 xs ys rs ss
runs-alike xs ys rs ss alike x y =
    let p = runs-reports reset_state xs rs x in
    let q = runs-reports reset_state ys ss y in
    record {
      seen_alike = ap (seen_all xs) p ∙ payload-never-steers xs ys alike ∙ ap (seen_all ys) (sym q);
      first-by-rules = p;
      second-by-rules = q;
    }
