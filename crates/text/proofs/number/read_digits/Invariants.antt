-- The loop's invariant: what is left to read from i, after v, gives the whole answer.
use mathlib.Core.Path.{◌≡◌}
use Prim.Native.Nat.{◌-◌, ◌≤◌}
use lib.ListN.{length, drop}
use Rattle.text.specs.Number.{largest, digits, number_for}
use Rattle.text.proofs.number.read_digits.Given as goal

abbrev pub invariant-loop-digit : goal.invariant-loop-digit
invariant-loop-digit l = (l.i ≤ length l.s) × (l.value ≤ largest) × (digits l.need l.value l.i (drop l.i l.s) ≡ number_for l.need l.s l.at)

abbrev pub decreases-loop-digit : goal.decreases-loop-digit
decreases-loop-digit l = length l.s - l.i
