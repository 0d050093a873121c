-- No more of the piece is taken than there is.
use Rattle.std.proofs.Common.{length, ◌≤◌}
use Rattle.package.proofs.call_on.Given as goal

abbrev pub invariant-loop : goal.invariant-loop
invariant-loop l = l.taken ≤ length l.piece
