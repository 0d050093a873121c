-- The loop's invariant: the first i bytes are added, and the others are as they were.
use Rattle.std.proofs.Common.{◌≡◌, ◌++◌, take, drop}
use Rattle.patch.specs.Position.{origin}
use Rattle.patch.specs.Added.{added}
use Rattle.patch.proofs.added.add_each.Given as goal

abbrev pub invariant-loop-i : goal.invariant-loop-i
invariant-loop-i l = l.to ≡ take l.i (added l.source origin l.adds) ++ drop l.i l.initial.to
