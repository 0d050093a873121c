-- After each stop the calls that were made are those of the contract, and each stop has cost a step.
use Rattle.std.proofs.Common.{refl, arith}
use Rattle.sequence.proofs.CutLaws.{calling_start, calling_within, calling_burns, calling_more, calling_ends}
use Rattle.sequence.proofs.call_on.Goals as goal

pub loop-init : goal.loop-init
loop-init c =
    (refl, refl, refl, refl, calling_start _ _ _ c.typed.ensures)

pub overflow_add-taken : goal.overflow_add-taken
overflow_add-taken c = omega (arith, calling_within _ _ c.loop.invariant.4 c.call-called.ensures)

pub loop-smaller : goal.loop-smaller
loop-smaller c = calling_burns _ _ c.loop.invariant.4 c.call-called.ensures c.in-Stop.is

pub loop-preserved : goal.loop-preserved
loop-preserved c = (
  omega arith,
  omega arith,
  omega arith,
  omega arith,
  calling_more _ _ c.loop.invariant.4 c.call-called.ensures c.in-Stop.is,
)

pub returns-in_default : goal.returns-in_default
returns-in_default c = calling_ends _ _ c.loop.invariant.4 c.call-called.ensures c.in_default.not-Stop
