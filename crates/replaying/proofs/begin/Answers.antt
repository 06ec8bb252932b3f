use Rattle.replaying.specs.SessionLaws.{begins}
use Rattle.replaying.proofs.begin.Goals as goal

pub returns : goal.returns
returns c = begins c.heading.ensures
