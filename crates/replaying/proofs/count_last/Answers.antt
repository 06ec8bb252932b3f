use Rattle.replaying.specs.SessionLaws.{last_none, last_some}
use Rattle.replaying.proofs.count_last.Goals as goal

pub returns-then-s-eq0 : goal.returns-then-s-eq0
returns-then-s-eq0 c = last_none _ c.if-s-eq0.true

pub returns : goal.returns
returns c = last_some _ c.if-s-eq0.false c.count.ensures
