use mathlib.Core.Path.{refl}
use Rattle.replaying.specs.SessionLaws.{finishes-tight, finishes-empty, finishes-last}
use Rattle.replaying.proofs.finish.Goals as goal

pub returns-then-out-lt64 : goal.returns-then-out-lt64
returns-then-out-lt64 c = finishes-tight c.if-out-lt64.true refl refl refl

pub returns-then-s-eq0 : goal.returns-then-s-eq0
returns-then-s-eq0 c = finishes-empty c.if-out-lt64.false c.if-s-eq0.true refl refl refl

pub returns : goal.returns
returns c = finishes-last c.if-out-lt64.false c.if-s-eq0.false c.feed-f.ensures refl refl
