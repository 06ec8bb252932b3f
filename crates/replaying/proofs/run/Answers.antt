use Rattle.std.proofs.Common.{ℕ, ◌<◌, length, refl, sym, ◌∙◌, arith}
use Rattle.pieces.specs.GatherLaws.{stops-within}
use Rattle.replaying.specs.SessionLaws.{fed-tight, fed-unended, lines-stand, fed-full, fed-rest}
use Rattle.replaying.proofs.run.Goals as goal

pub returns-then-not-has_room : goal.returns-then-not-has_room
returns-then-not-has_room c =
    let a = c.args in
    fed-tight a.s refl c.first-t.ensures refl (sym c.has_room.ensures ∙ c.if-not-has_room.true) c.session_at.ensures

pub returns-then-not-ended : goal.returns-then-not-ended
returns-then-not-ended c =
    let a = c.args in
    fed-unended a.rows a.s a.piece.now a.out.now (sym c.has_room.ensures ∙ c.if-not-has_room.false) c.gather-at.ensures c.first-t.ensures c.if-not-ended.true c.session_at-then-not-ended.ensures

pub overflow_add-t : goal.overflow_add-t
overflow_add-t c =
    let a = c.args in
    let end : ℕ = length a.piece.now in
    let within : c.gather-at.result.at < end = (stops-within a.s.held a.piece.now 0 end _ c.gather-at.ensures (omega arith) (omega arith)).ended c.if-not-ended.false in
    omega arith

pub returns-then-not-has_room-2 : goal.returns-then-not-has_room-2
returns-then-not-has_room-2 c =
    let a = c.args in
    let w = lines-stand a.rows a.s a.piece.now a.out.now (sym c.has_room.ensures ∙ c.if-not-has_room.false) c.gather-at.ensures c.with_lf-j.ensures
    c.first-t.ensures refl c.lines_in_place-t.ensures c.if-not-ended.false refl c.lines_in_place-t-2.ensures in
    fed-full a.s w.1 w.0 refl c.has_room-2.ensures c.if-not-has_room-2.true c.none.ensures c.session_at-then-not-has_room-2.ensures

pub returns : goal.returns
returns c =
    let a = c.args in
    let w = lines-stand a.rows a.s a.piece.now a.out.now (sym c.has_room.ensures ∙ c.if-not-has_room.false) c.gather-at.ensures c.with_lf-j.ensures
    c.first-t.ensures refl c.lines_in_place-t.ensures c.if-not-ended.false refl c.lines_in_place-t-2.ensures in
    fed-rest a.s w.1 w.2 w.0 refl c.has_room-2.ensures c.if-not-has_room-2.false c.held_from.ensures c.session_at-2.ensures
