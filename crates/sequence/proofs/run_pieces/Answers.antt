-- The bytes that are left come, with what was taken so far, to what all of them come to.
use Rattle.std.proofs.Common.{refl, arith}
use Rattle.sequence.proofs.CutLaws.{cutting_start, cutting_within, cutting_more, cutting_ends, run-refused, run-accepted, with_claim}
use Rattle.sequence.proofs.run_pieces.Goals as goal

pub returns-then-state-ne0 : goal.returns-then-state-ne0
returns-then-state-ne0 c =
    let all = with_claim _ _ _ (run-refused _ _ _ c.open-state.ensures c.if-state-ne0.true) in
    record { result_after = all.0; run_meets = all.1 }

pub loop-cut-init : goal.loop-cut-init
loop-cut-init c = (refl, refl, refl, refl, cutting_start _ _ _ c.open-state.ensures c.if-state-ne0.false)

pub overflow_add-total : goal.overflow_add-total
overflow_add-total c =
    omega (arith, cutting_within _ _ c.loop-cut.invariant.4 (omega arith) (omega arith) c.call_on-called.ensures)

pub loop-cut-preserved : goal.loop-cut-preserved
loop-cut-preserved c = (
  omega arith,
  omega arith,
  omega arith,
  omega arith,
  cutting_more _ _ c.loop-cut.invariant.4 (omega arith) (omega arith) c.call_on-called.ensures,
)

pub overflow_add-called : goal.overflow_add-called
overflow_add-called c =
    omega (arith, cutting_within _ _ c.loop-cut.invariant.4 c.loop-cut.invariant.4.within (omega arith) c.call_on-last.ensures)

pub returns : goal.returns
returns c =
    let all =
    with_claim _ _ _
    (run-accepted _ _ _ c.open-state.ensures c.if-state-ne0.false
    (cutting_ends _ _ c.loop-cut.invariant.4 c.call_on-last.ensures)) in
    record { result_after = all.0; run_meets = all.1 }
