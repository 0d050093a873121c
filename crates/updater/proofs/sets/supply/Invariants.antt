-- The loop's invariant: copying the blocks that are left to the places from the next one on leaves what copying all of
-- them from place 0 on does; the blocks are within the image, and there are places for them.
use Rattle.std.proofs.Common.{◌≡◌, ◌+◌, ◌/◌, length}
use Rattle.ranges.specs.Ranges.{span}
use Rattle.ranges.specs.Walk.{blocks_at, remaining, AllBelow}
use Rattle.state.specs.Limits.{block_bytes}
use Rattle.updater.specs.Bytes.{written, gathered}
use Rattle.updater.proofs.sets.supply.Given as goal

abbrev pub invariant-loop-b : goal.invariant-loop-b
invariant-loop-b l = record {
  keeps : length l.work ≡ length l.initial.work;
  below : AllBelow (length l.image / block_bytes) (remaining l.l l.w);
  places : l.place + length (remaining l.l l.w) ≡ l.fn.set.blocks;
  same : written (span l.place (length (remaining l.l l.w))) (gathered (remaining l.l l.w) l.image) l.work
      ≡ written (span 0 l.fn.set.blocks) (gathered (blocks_at l.l l.fn.set.at) l.image) l.initial.work;
}

abbrev pub decreases-loop-b : goal.decreases-loop-b
decreases-loop-b l = length (remaining l.l l.w)
