-- The loop's invariant: the places that are left to walk, past those taken by now, give the answer of all. The measure
-- is how many are left.
use lib.ListN.{length}
use Rattle.ranges.specs.Walk.{blocks_at, remaining}
use Rattle.rules.proofs.PlaceLaws.{Pass}
use Rattle.rules.proofs.places.take_places.Given as goal

abbrev pub invariant-loop-p : goal.invariant-loop-p
invariant-loop-p l = Pass l.n l.initial.marks (blocks_at l.l l.at) l.marks (remaining l.l l.w)

abbrev pub decreases-loop-p : goal.decreases-loop-p
decreases-loop-p l = length (remaining l.l l.w)
