-- The loop's invariant: `n` is the count of the bytes before the one at hand.
use mathlib.Core.Path.{◌≡◌}
use lib.ListN.{take}
use Rattle.text.specs.Line.{lfs_in}
use Rattle.text.proofs.line.part_feeds.Given as goal

abbrev pub invariant-loop-b : goal.invariant-loop-b
invariant-loop-b l = l.n ≡ lfs_in (take l.b-index l.part)
