use Rattle.pieces.specs.GatherLaws.{clear_both}
use Rattle.pieces.proofs.lf_in_sixteen.Goals as goal

pub returns : goal.returns
returns c =
    let s = c.args.s.now in
    let i = c.args.i in
    clear_both s i 12 4 _ _
    (clear_both s i 8 4 _ _ (clear_both s i 4 4 _ _ c.lf_in_four.ensures c.lf_in_four-2.ensures) c.lf_in_four-3.ensures)
    c.lf_in_four-4.ensures
