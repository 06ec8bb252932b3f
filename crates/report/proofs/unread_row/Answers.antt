use Rattle.std.proofs.Common.{[], ◌∷◌, arith, rules}
use Rattle.report.specs.Text.{unread_text}
use Rattle.report.specs.NumberLaws.{length-number}
use Rattle.report.specs.CodeWriter.{row-over}
use Rattle.report.proofs.Room.{whole, nothing, enough}
use Rattle.report.proofs.unread_row.Goals as goal

pub returns-then-not-has_room : goal.returns-then-not-has_room
returns-then-not-has_room c = nothing _ c.has_room.ensures c.if-not-has_room.true

pub put-requires : goal.put-requires
put-requires c = (omega arith, omega (arith, enough c.has_room.ensures c.if-not-has_room.false, length-number c.args.x))

pub end-requires : goal.end-requires
end-requires c = omega (arith, enough c.has_room.ensures c.if-not-has_room.false, length-number c.args.x)

pub returns : goal.returns
unfolding unread_text
returns c =
    let s = c.args in
    whole
    c.has_room.ensures
    c.if-not-has_room.false
    (row-over s.x unread_text (45 ∷ []) s.irq 0 (omega arith) c.number.ensures c.put.ensures c.end.ensures)
    (search rules)
