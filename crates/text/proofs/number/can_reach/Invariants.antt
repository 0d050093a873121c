-- The loop's invariant: what is left to try gives the whole answer.
use mathlib.Core.Path.{◌≡◌}
use Prim.Native.Nat.{◌-◌, ◌≤◌, ◌<◌}
use Rattle.text.specs.Number.{largest, digits_most, reaches}
use Rattle.text.proofs.number.can_reach.Given as goal

abbrev pub invariant-loop : goal.invariant-loop
invariant-loop l = (0 < l.first) × (l.first ≤ largest) × (reaches (digits_most - l.counter) l.low l.first l.last ≡ reaches digits_most l.low l.v l.v)
