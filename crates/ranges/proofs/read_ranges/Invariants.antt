-- The loop's invariant: what is left to read, after the blocks and the largest end so far, gives the whole answer; and
-- each range has at most `largest` blocks.
use mathlib.Core.Path.{◌≡◌}
use mathlib.Core.List.{List}
use Prim.Native.Nat.{ℕ, ◌+◌, ◌-◌, ◌*◌, ◌/◌, ◌≤◌, max}
use Rattle.text.specs.Number.{largest}
use Rattle.ranges.specs.Ranges.{pairs_at, size_of, end_of, ranges_at}
use Rattle.ranges.proofs.read_ranges.Given as goal
use Rattle.std.specs.Prelude.{Ok, Err}
use Rattle.text.specs.Read.{Read}
use Rattle.ranges.specs.declared.RangeSet.{RangeSet}
use Rattle.ranges.specs.Ranges.{Range}

-- the summary of what is left, after some blocks and the largest end `last`
unfoldable pub summary_from : ℕ → ℕ → ℕ → Read (List Range) → Read RangeSet
summary_from at blocks last (Ok (rs, next)) = Ok (record { at = at; blocks = blocks + size_of rs; end = max last (end_of rs) }, next)
summary_from at blocks last (Err p) = Err p

abbrev pub invariant-loop : goal.invariant-loop
invariant-loop l = (l.blocks ≤ l.counter * largest)
    × (summary_from l.at l.blocks l.last (pairs_at l.least (l.count / 2 - l.counter) l.s l.i) ≡ ranges_at l.least l.s l.at)
