-- The outer loop's invariant: the bytes of the piece that are passed went to the target, and the next one's place in it is
-- that of `Ahead`. The inner one's: the bytes of the range that are passed are the piece's from where the range was met.
use Rattle.std.proofs.Common.{◌≡◌, ◌+◌, ◌-◌, ◌≤◌, ◌++◌, length, take, drop}
use Rattle.ranges.specs.Walk.{blocks_at}
use Rattle.updater.proofs.NewLaws.{Ahead, Went}
use Rattle.updater.proofs.new_data.take_new.Given as goal

abbrev pub invariant-ranges-2 : goal.invariant-ranges-2
invariant-ranges-2 l = record {
  went : Went (blocks_at l.l l.at) l.piece l.from l.into l.initial.image l.image l.i;
  ahead : Ahead l.l l.at l.from l.into l.i l.skip (l.end - l.counter) l.next;
}

abbrev pub invariant-loop-byte : goal.invariant-loop-byte
invariant-loop-byte l = record {
  within : l.i ≤ length l.piece;
  passed : l.i ≡ l.initial.i + l.byte-index;
  items : l.byte-items ≡ take l.byte-index (drop l.initial.i l.piece) ++ drop l.byte-index l.initial.byte-items;
}
