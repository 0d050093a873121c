-- The loop's invariant: the places from p on, past those taken by now, give the answer of all.
use Prim.Native.Nat.{◌-◌}
use Rattle.ranges.specs.Ranges.{span}
use Rattle.rules.proofs.PlaceLaws.{Pass}
use Rattle.rules.proofs.places.take_range.Given as goal

abbrev pub invariant-loop-p : goal.invariant-loop-p
invariant-loop-p l = Pass l.n l.initial.marks (span l.from (l.to - l.from)) l.marks (span l.p (l.to - l.p))
