-- The loop's invariant: zeroing the blocks that are left leaves what zeroing all of them does; they are within the
-- image, whose length is as it was.
use Rattle.std.proofs.Common.{◌≡◌, ◌/◌, length}
use Rattle.ranges.specs.Walk.{blocks_at, remaining, AllBelow}
use Rattle.state.specs.Limits.{block_bytes}
use Rattle.updater.specs.Bytes.{zeroed}
use Rattle.updater.proofs.sets.zero_set.Given as goal

abbrev pub invariant-loop-b : goal.invariant-loop-b
invariant-loop-b l = record {
  keeps : length l.image ≡ length l.initial.image;
  below : AllBelow (length l.initial.image / block_bytes) (remaining l.l l.w);
  same : zeroed (remaining l.l l.w) l.image ≡ zeroed (blocks_at l.l l.at) l.initial.image;
}

abbrev pub decreases-loop-b : goal.decreases-loop-b
decreases-loop-b l = length (remaining l.l l.w)
