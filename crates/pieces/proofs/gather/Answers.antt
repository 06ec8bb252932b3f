use Rattle.std.proofs.Common.{◌+◌, ◌-◌, sym, ap, ◌∙◌, arith, get_or}
use Rattle.pieces.specs.declared.Held.{Held}
use Rattle.pieces.specs.declared.Gathered.{Gathered}
use Rattle.pieces.specs.CodeGather.{gather_from}
use Rattle.pieces.specs.GatherLaws.{gather-is, push-room, push-full, gathered-all, from-lf, from_byte}
use Rattle.pieces.proofs.gather.Goals as goal
use Rattle.pieces.proofs.gather.Goals.{then-len-lt64, else-len-lt64}

pub returns-then-b-eq10 : goal.returns-then-b-eq10
returns-then-b-eq10 c = sym (gather-is _ _ _ _ _ c.min-end.ensures ∙ c.loop-i.invariant ∙ from-lf _ _ c.loop-i.i _ c.loop-i-test.true c.if-b-eq10.true)

pub loop-i-preserved : goal.loop-i-preserved
loop-i-preserved c =
    let piece = c.args.piece.now in
    let bytes = c.loop-i.bytes in
    let len = c.loop-i.len in
    let i = c.loop-i.i in
    let end = c.min-end.result in
    let step = c.loop-i.invariant ∙ from_byte (record { bytes = bytes; len = len }) piece i end c.loop-i-test.true c.if-b-eq10.false in
    let next : Held → Gathered = λ h. gather_from h piece (i + 1) (end - (i + 1)) in
    elim c.if-len-lt64.branch [
      | then-len-lt64 w ↦ rw (w.bytes-is, w.len-is) (step ∙ ap next (push-room bytes len (get_or piece i 0) w.if-len-lt64.true))
      | else-len-lt64 w ↦ rw (w.bytes-is, w.len-is) (step ∙ ap next (push-full bytes len (get_or piece i 0) w.if-len-lt64.false))
    ]

pub returns : goal.returns
returns c = gathered-all _ _ _ c.loop-i.i _ c.max.result (omega arith) c.loop-i.auto.i-end c.loop-i-test.false c.loop-i.invariant ∙ sym (gather-is _ _ _ _ _ c.min-end.ensures)
