use Rattle.std.proofs.Common.{ap, not}
use native.Mathlib.Omega.{arith}
use Rattle.masks.specs.Bits.{number_in}
use Rattle.controller.specs.CodeLaws.{frame-ruling, frame_refused}
use Rattle.controller.proofs.EventLaws.{size-told, sized-long}
use Rattle.controller.proofs.events.frame_ruling.Goals as goal

pub bounds-f-0 : goal.bounds-f-0
bounds-f-0 c =
    let f = c.args.f.now in
    let h = sized-long f (size-told f _ c.well_sized.ensures (ap not c.if-not-well_sized.false)) in
    omega arith

pub returns : goal.returns
returns c =
    let a = c.args in
    let f = a.f.now in
    let known = size-told f _ c.well_sized.ensures (ap not c.if-not-well_sized.false) in
    rw c.on_frame.ensures (frame-ruling a.c a.good f (number_in c.lookup.result) known c.lookup.ensures)

pub returns-then-not-well_sized : goal.returns-then-not-well_sized
returns-then-not-well_sized c =
    let a = c.args in
    rw c.from.ensures (frame_refused a.c a.good a.f.now (size-told a.f.now _ c.well_sized.ensures (ap not c.if-not-well_sized.true)))
