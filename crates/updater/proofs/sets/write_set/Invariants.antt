-- The loop's invariant: writing the bytes that are left to the blocks that are left leaves what writing all of them
-- does; there are bytes enough, and the blocks are within the area, whose length is as it was.
use Rattle.std.proofs.Common.{◌≡◌, ◌*◌, ◌/◌, ◌≤◌, length}
use Rattle.ranges.specs.Walk.{blocks_at, remaining, AllBelow}
use Rattle.state.specs.Limits.{block_bytes}
use Rattle.updater.specs.Bytes.{written}
use Rattle.updater.proofs.sets.write_set.Given as goal

abbrev pub invariant-loop-b : goal.invariant-loop-b
invariant-loop-b l = record {
  keeps : length l.area ≡ length l.initial.area;
  below : AllBelow (length l.initial.area / block_bytes) (remaining l.l l.w);
  enough : block_bytes * length (remaining l.l l.w) ≤ length l.left;
  same : written (remaining l.l l.w) l.left l.area ≡ written (blocks_at l.l l.at) l.bytes l.initial.area;
}

abbrev pub decreases-loop-b : goal.decreases-loop-b
decreases-loop-b l = length (remaining l.l l.w)
