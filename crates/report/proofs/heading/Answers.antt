use Rattle.std.proofs.Common.{rules}
use Rattle.report.specs.Text.{heading_of}
use Rattle.report.proofs.Room.{whole, nothing}
use Rattle.report.proofs.heading.Goals as goal

pub returns-then-not-has_room : goal.returns-then-not-has_room
returns-then-not-has_room c = nothing _ c.has_room.ensures c.if-not-has_room.true

pub returns : goal.returns
unfolding heading_of
returns c = whole c.has_room.ensures c.if-not-has_room.false c.put.ensures.put (search rules)
