use Prim.Native.Nat.{ℕ}
use mathlib.Core.Path.{ap, ◌∙◌}
use Rattle.search.specs.IdentLaws.{named_within, named-halves}
use Rattle.search.proofs.named.Goals as goal

pub returns : goal.returns
returns c =
    let ids = c.idents-ids.result in
    c.named_within-2.ensures
    ∙ ap (λ (m : ℕ). named_within ids m 8 16) c.named_within.ensures
    ∙ named-halves c.args.rows ids c.idents-ids.ensures c.args.of
