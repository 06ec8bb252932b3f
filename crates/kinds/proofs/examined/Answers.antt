use Rattle.std.proofs.Common.{ℕ, Bool, ◌&&◌, leb, Option, ap, sym, ◌∙◌, arith, le-leb}
use Rattle.std.proofs.Math.Bool.{and-true}
use Rattle.masks.specs.Bits.{bit_of, count_of, number_in}
use Rattle.masks.specs.Laws.{and-by}
use Rattle.masks.specs.SearchLaws.{count-mask, count-ext}
use Rattle.rules.specs.Kinds.{is_receive}
use Rattle.rules.specs.Bus.{examined}
use Rattle.kinds.proofs.examined.Goals as goal

pub returns-in-Some : goal.returns-in-Some
unfolding examined
returns-in-Some c =
    c.count.ensures
    ∙ ap (λ (m : ℕ). count_of (bit_of m) 16) (and-by _ _ _ _ c.receivers-all.ensures c.up_to.ensures)
    ∙ count-mask _
    ∙ ap (λ (n : Option ℕ). examined c.args.c (number_in n)) (sym c.in-Some.is)

-- each of the sixteen is up to 16
pub returns-in-None : goal.returns-in-None
unfolding examined
returns-in-None c =
    let counts = is_receive c.args.c in
    c.count-in-None.ensures
    ∙ ap (λ (m : ℕ). count_of (bit_of m) 16) c.receivers-all.ensures
    ∙ count-mask counts
    ∙ count-ext counts (λ k. counts k && leb k 16) 16 (omega arith)
    (λ k l. sym (ap (λ (t : Bool). counts k && t) (le-leb k 16 (omega arith)) ∙ and-true (counts k)))
    ∙ ap (λ (n : Option ℕ). examined c.args.c (number_in n)) (sym c.in-None.is)
