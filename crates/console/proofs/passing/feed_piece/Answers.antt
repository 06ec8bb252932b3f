use Rattle.std.proofs.Common.{arith, length-drop}
use Rattle.console.proofs.PassingLaws.{some-left, none-left, less-left, passes-none, passes-fed, passes-all}
use Rattle.console.proofs.passing.feed_piece.Goals as goal

pub loop-rest-init : goal.loop-rest-init
loop-rest-init g c = (c.requires, passes-none g.S.Feeding.whole g.S.Feeding.after _ _ _)

pub loop-rest-smaller : goal.loop-rest-smaller
loop-rest-smaller g c =
    let some = some-left c.loop-rest.rest.now c.is_empty.result c.is_empty.ensures c.loop-rest-test.true in
    less-left _ c.feed-f.result.taken c.loop-rest.rest.now (c.feed-f.ensures.onward c.loop-rest.invariant.0 some) some

pub loop-rest-preserved : goal.loop-rest-preserved
loop-rest-preserved g c = (
  omega (arith, c.loop-rest.invariant.0),
  passes-fed g.S.Feeding.whole g.S.Feeding.after c.loop-rest.invariant.1 c.feed-f.ensures c.in_ok-put.ensures
      (omega (arith, length-drop c.feed-f.result.taken c.loop-rest.rest.now)),
)

pub returns : goal.returns
returns g c = passes-all g.S.Feeding.whole g.S.Feeding.after c.loop-rest.invariant.1 (none-left c.loop-rest.rest.now c.is_empty.result c.is_empty.ensures c.loop-rest-test.false)
