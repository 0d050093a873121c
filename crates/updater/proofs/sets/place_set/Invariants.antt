-- The loop's invariant: copying the blocks that are left to the places that are left leaves what copying all of them
-- does; there are as many of the one as of the other, and each is within its area.
use Rattle.std.proofs.Common.{◌≡◌, ◌/◌, length}
use Rattle.ranges.specs.Walk.{blocks_at, remaining, AllBelow}
use Rattle.state.specs.Limits.{block_bytes}
use Rattle.updater.specs.Bytes.{written, gathered}
use Rattle.updater.proofs.sets.place_set.Given as goal

abbrev pub invariant-loop-b : goal.invariant-loop-b
invariant-loop-b l = record {
  keeps : length l.work ≡ length l.initial.work;
  below : AllBelow (length l.image / block_bytes) (remaining l.l l.from);
  places : AllBelow (length l.initial.work / block_bytes) (remaining l.l l.to);
  sides : length (remaining l.l l.from) ≡ length (remaining l.l l.to);
  same : written (remaining l.l l.to) (gathered (remaining l.l l.from) l.image) l.work
      ≡ written (blocks_at l.l l.fn.places.at) (gathered (blocks_at l.l l.fn.set.at) l.image) l.initial.work;
}

abbrev pub decreases-loop-b : goal.decreases-loop-b
decreases-loop-b l = length (remaining l.l l.from)
