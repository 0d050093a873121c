-- The piece lies in its buffer, and no turn so far took more than a piece.
use Rattle.std.proofs.Common.{length, ◌*◌, ◌≤◌}
use Rattle.decisions.specs.Program.{piece_bytes}
use Rattle.package.proofs.run.Given as goal

abbrev pub invariant-loop : goal.invariant-loop
invariant-loop g l = (l.n ≤ length l.piece) × (l.taken ≤ l.counter * piece_bytes)
