-- The loop's invariant: taking in the blocks that are left comes to what taking in all of them from the start does;
-- they are within the image.
use Rattle.std.proofs.Common.{◌≡◌, ◌/◌, ◌^◌, ◌<◌, length}
use Rattle.sha1_digest.specs.Pieces.{started, absorbed}
use Rattle.ranges.specs.Walk.{blocks_at, remaining, AllBelow}
use Rattle.state.specs.Limits.{block_bytes}
use Rattle.updater.specs.Bytes.{gathered}
use Rattle.updater.proofs.digest.set_has_hash.Given as goal

abbrev pub invariant-loop-b : goal.invariant-loop-b
invariant-loop-b l = record {
  count : l.hasher.count < 2 ^ 64;
  below : AllBelow (length l.image / block_bytes) (remaining l.l l.w);
  same : absorbed l.hasher (gathered (remaining l.l l.w) l.image) ≡ absorbed started (gathered (blocks_at l.l l.at) l.image);
}

abbrev pub decreases-loop-b : goal.decreases-loop-b
decreases-loop-b l = length (remaining l.l l.w)
