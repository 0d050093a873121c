-- The loop's invariant: what is written, with what the records that are left make, is what all of them make, and there
-- is room for it.
use Rattle.std.proofs.Common.{◌≡◌, ◌-◌, length}
use Rattle.patch.proofs.PatchLaws.{Writing}
use Rattle.patch.proofs.write.write_records.Given as goal

abbrev pub invariant-loop-at : goal.invariant-loop-at
invariant-loop-at l = Writing l.patch l.source l.res l.at l.position l.out × (length l.res ≡ length l.initial.res)

abbrev pub decreases-loop-at : goal.decreases-loop-at
decreases-loop-at l = length l.patch - l.at
