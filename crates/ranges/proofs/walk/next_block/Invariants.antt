-- The loop's invariant: what is left gives the same step as the walk at its start, and the end of the range at hand is
-- a number of the text, so that a block below it has a next. The measure is how many pairs are left.
use mathlib.Core.Path.{◌≡◌}
use Prim.Native.Nat.{◌≤◌}
use Rattle.text.specs.Number.{largest}
use Rattle.ranges.specs.Walk.{step_of}
use Rattle.ranges.proofs.walk.next_block.Given as goal

abbrev pub invariant-loop-rest : goal.invariant-loop-rest
invariant-loop-rest l = (l.rest.end ≤ largest) × (step_of l.s l.rest ≡ step_of l.s l.initial.rest)

abbrev pub decreases-loop-rest : goal.decreases-loop-rest
decreases-loop-rest l = l.rest.left
