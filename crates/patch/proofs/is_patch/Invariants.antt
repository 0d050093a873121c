-- The loop's invariant: the records that are left, with the bytes counted so far, are as good as all of them.
use Rattle.std.proofs.Common.{◌≡◌, ◌-◌, ◌≤◌, length}
use Rattle.patch.specs.Position.{last_position}
use Rattle.patch.specs.Patch.{records_from, is_patch}
use Rattle.patch.proofs.PatchLaws.{is_good}
use Rattle.patch.proofs.is_patch.Given as goal

abbrev pub invariant-loop-at : goal.invariant-loop-at
invariant-loop-at l = (is_good l.total (records_from l.patch l.at l.position) l.size ≡ is_patch l.patch l.size)
    × (l.at ≤ length l.patch)
    × (l.position ≤ last_position)
    × (l.total ≤ l.at)

abbrev pub decreases-loop-at : goal.decreases-loop-at
decreases-loop-at l = length l.patch - l.at
