-- A call takes no more than is left of the piece.
use Rattle.std.proofs.Common.{ℕ, ◌+◌, ◌-◌, ◌≤◌, List, arith, length, take, drop, length-take, length-drop}
use Rattle.updater.proofs.CallLaws.{call-most}
use Rattle.package.proofs.call_on.Goals as goal

within : (piece : List ℕ) (at taken : ℕ) → at ≤ length piece → taken ≤ length (take (length piece - at) (drop at piece)) → at + taken ≤ length piece
within piece at taken h most = omega (arith, length-take (length piece - at) (drop at piece), length-drop at piece)

pub overflow_add-taken : goal.overflow_add-taken
overflow_add-taken c =
    let w : c.loop.taken + c.call-called.result.taken ≤ length c.args.piece.now = within _ _ _ c.loop.invariant (call-most _ _ _ c.call-called.ensures) in
    omega arith

pub returns-then-not-is_stop : goal.returns-then-not-is_stop
returns-then-not-is_stop c = within _ _ _ c.loop.invariant (call-most _ _ _ c.call-called.ensures)

pub loop-preserved : goal.loop-preserved
loop-preserved c = within _ _ _ c.loop.invariant (call-most _ _ _ c.call-called.ensures)
