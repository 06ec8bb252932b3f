use Rattle.std.proofs.Common.{◌≡◌, ◌≤◌, ℕ, List, length, take, ap, ◌∙◌, arith, rules}
use Rattle.std.proofs.Math.Nat.{min_comm}
use Rattle.std.proofs.lemmas.List.{take_min, length-take}
use Rattle.rules.specs.Answers.{word_of, detail_of}
use Rattle.report.specs.Text.{word_text, detail_text}
use Rattle.report.specs.Laws.{word_some, length-answer, frame-sent}
use Rattle.report.specs.NumberLaws.{length-number}
use Rattle.report.specs.CodeWriter.{row-over}
use Rattle.report.proofs.Room.{whole, nothing, enough}
use Rattle.report.proofs.row.Goals as goal

pub returns-then-not-has_room : goal.returns-then-not-has_room
returns-then-not-has_room c = nothing _ c.has_room.ensures c.if-not-has_room.true

pub answer-requires : goal.answer-requires
answer-requires c =
    (omega (arith, enough c.has_room.ensures c.if-not-has_room.false, length-number c.args.x), omega (arith, c.min.ensures, length-take c.min.result c.args.sent.now))

pub end-requires : goal.end-requires
end-requires c =
    let a = c.args.a in
    let sent : List ℕ = take c.min.result c.args.sent.now in
    let short : length sent ≤ 14 = omega (arith, c.min.ensures, length-take c.min.result c.args.sent.now) in
    omega (arith, enough c.has_room.ensures c.if-not-has_room.false, length-number c.args.x, length-answer (word_of a) (detail_of a sent) (frame-sent a sent short))

pub returns : goal.returns
returns c =
    let s = c.args in
    let sent : List ℕ = s.sent.now in
    let counted : take c.min.result sent ≡ take 14 sent = ap (λ (n : ℕ). take n sent) (c.min.ensures ∙ min_comm (length sent) 14) ∙ take_min 14 sent in
    whole
    c.has_room.ensures
    c.if-not-has_room.false
    (row-over s.x (word_text (word_of s.a)) (detail_text (detail_of s.a (take 14 sent))) s.irq s.looked (word_some s.a)
    c.number.ensures
    (rw counted at c.answer.ensures)
    c.end.ensures)
    (search rules)
