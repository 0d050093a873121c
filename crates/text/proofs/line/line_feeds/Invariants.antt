-- The loop's invariant: `n` is the count of the bytes before the rest.
use mathlib.Core.Path.{◌≡◌}
use Prim.Native.Nat.{◌+◌}
use lib.ListN.{length}
use Rattle.text.specs.Line.{lfs_in}
use Rattle.text.proofs.line.line_feeds.Given as goal

abbrev pub invariant-loop-part : goal.invariant-loop-part
invariant-loop-part l = l.n + lfs_in l.rest ≡ lfs_in l.s

abbrev pub decreases-loop-part : goal.decreases-loop-part
decreases-loop-part l = length l.rest
