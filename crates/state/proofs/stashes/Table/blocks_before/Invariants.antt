-- The loop's invariant: the sum is that of the stashes so far, up to the bound.
use mathlib.Core.Path.{◌≡◌}
use lib.ListN.{take}
use Rattle.state.specs.Stashes.{held_in, blocks_held}
use Rattle.state.specs.Sums.{bounded}
use Rattle.state.proofs.stashes.Table.blocks_before.Given as goal

abbrev pub invariant-loop-size : goal.invariant-loop-size
invariant-loop-size l = l.sum ≡ bounded (blocks_held (take l.size-index (held_in l.self)))
