-- `take_place` meets its contract: past the places, where the bit is 1, and where it is 0.
use native.Mathlib.Omega.{arith}
use Rattle.marks.specs.Marks.{mark_bytes}
use Rattle.marks.proofs.MarkLaws.{take_past, take_again, take_free}
use Rattle.marks.proofs.take_place.Goals as goal

pub returns-then-p-ge-PLACES : goal.returns-then-p-ge-PLACES
returns-then-p-ge-PLACES c =
    let all = take_past c.args.marks.now c.args.p {n = mark_bytes} (omega arith) c.if-p-ge-PLACES.true in
    record { answer = all.0; marked = all.1 }

pub returns-then-marks-row-ne0 : goal.returns-then-marks-row-ne0
returns-then-marks-row-ne0 c =
    let all = take_again c.args.marks.now c.args.p {n = mark_bytes} (omega arith) c.if-marks-row-ne0.true in
    record { answer = all.0; marked = all.1 }

pub returns : goal.returns
returns c =
    let all = take_free c.args.marks.now c.args.p {n = mark_bytes} (omega arith) (omega arith) c.if-marks-row-ne0.false in
    record { answer = all.0; marked = all.1 }
