-- The loop's invariant: copying the stash's blocks from the next one on to the places that are left leaves what copying
-- all of them does; they are within the stash area, and the places are within the work area.
use Rattle.std.proofs.Common.{◌≡◌, ◌+◌, ◌*◌, ◌/◌, ◌≤◌, length}
use Rattle.ranges.specs.Ranges.{span}
use Rattle.ranges.specs.Walk.{blocks_at, remaining, AllBelow}
use Rattle.state.specs.Limits.{block_bytes}
use Rattle.state.specs.Stashes.{held_in}
use Rattle.updater.specs.Bytes.{written, gathered}
use Rattle.updater.specs.Source.{stash_bytes}
use Rattle.updater.proofs.source.spread_one.Given as goal

abbrev pub invariant-loop-p : goal.invariant-loop-p
invariant-loop-p l = record {
  keeps : length l.work ≡ length l.initial.work;
  below : AllBelow (length l.initial.work / block_bytes) (remaining l.l l.w);
  room : block_bytes * (l.block + length (remaining l.l l.w)) ≤ length l.stash;
  same : written (remaining l.l l.w) (gathered (span l.block (length (remaining l.l l.w))) l.stash) l.work
      ≡ written (blocks_at l.l l.fn.places.at) (stash_bytes (held_in l.table) l.stash l.fn.hash) l.initial.work;
}

abbrev pub decreases-loop-p : goal.decreases-loop-p
decreases-loop-p l = length (remaining l.l l.w)
