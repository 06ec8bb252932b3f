use Prim.Native.Nat.{◌+◌}
use Rattle.pieces.specs.GatherLaws.{clear-one, clear_both}
use Rattle.pieces.proofs.lf_in_four.Goals as goal

pub returns : goal.returns
returns c =
    let s = c.args.s.now in
    let i = c.args.i in
    clear_both s i 3 1 _ _ (clear_both s i 2 1 _ _ (clear_both s i 1 1 _ _ (clear-one s i) (clear-one s (i + 1))) (clear-one s (i + 2))) (clear-one s (i + 3))
