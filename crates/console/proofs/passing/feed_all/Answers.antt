use Rattle.std.proofs.Common.{arith, length, ◌≤◌, ◌<◌}
use Rattle.console.proofs.PassingLaws.{through-none, through-piece, session-end, shown-end}
use Rattle.console.proofs.passing.feed_all.Goals as goal

pub loop-init : goal.loop-init
loop-init g c = through-none g.S.Feeding.whole g.S.Feeding.after _ _ _

pub returns-then-n-eq0 : goal.returns-then-n-eq0
returns-then-n-eq0 g c =
    let some : 0 < length c.read.new.buf = omega arith in
    let room : 128 ≤ length c.loop.out = omega arith in
    let bytes = c.in-Ok.ensures.bytes in
    let end = bytes.1 c.if-n-eq0.true some in
    record {
      written = shown-end g.S.Feeding.whole g.S.Feeding.after _ c.in-Ok.n c.read.new.buf c.loop.invariant c.if-n-eq0.true bytes.0 end room c.finish-f.ensures _ c.in_ok-put.ensures;
      session = session-end g.S.Feeding.whole g.S.Feeding.after _ c.in-Ok.n c.read.new.buf c.loop.invariant c.if-n-eq0.true bytes.0 end room c.finish-f.ensures;
    }

pub loop-preserved : goal.loop-preserved
loop-preserved g c = through-piece g.S.Feeding.whole g.S.Feeding.after c.loop.invariant c.in-Ok.ensures.bytes.0 c.in_ok-next.ensures
