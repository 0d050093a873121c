-- The loop's invariant: i numbers are read.
use mathlib.Core.Path.{◌≡◌}
use lib.ListN.{take}
use Rattle.saved.specs.Restored.{numbers_at}
use Rattle.saved.proofs.read.read_numbers.Given as goal

abbrev pub invariant-loop-i : goal.invariant-loop-i
invariant-loop-i l = take l.i l.to ≡ numbers_at l.bytes l.at l.i
