-- The loop's invariant: the first i bytes, whole turns of sixteen, are filled, and the others are as they were.
use mathlib.Core.Path.{◌≡◌}
use Prim.Native.Nat.{◌-◌, ◌*◌, ◌%◌, ◌≤◌}
use lib.ListN.{length}
use Rattle.sparse_file.specs.Chunk.{fill_bytes}
use Rattle.sparse.proofs.LoadingLaws.{filled}
use Rattle.sparse.proofs.write.fill_in.Given as goal

abbrev pub invariant-loop-i : goal.invariant-loop-i
invariant-loop-i l = (l.i ≤ length l.initial.part)
    × (l.i % (4 * fill_bytes) ≡ 0)
    × (l.part ≡ filled l.initial.part l.bytes l.i)
    × (length l.part ≡ length l.initial.part)

abbrev pub decreases-loop-i : goal.decreases-loop-i
decreases-loop-i l = length l.initial.part - l.i
