-- The loop's invariant: the Ps from here on give the answer of all. The measure is what is left of the line: a P that
-- is read ends further on.
use Prim.Native.Nat.{ℕ, suc, ◌+◌, ◌-◌, ◌≤◌}
use mathlib.Core.Path.{◌≡◌}
use mathlib.Core.List.{List}
use lib.ListN.{length}
use Rattle.std.specs.Prelude.{Option, Some, None, Ok}
use Rattle.text.specs.Read.{on_option}
use Rattle.ranges.specs.Ranges.{least_blocks}
use Rattle.command.specs.Parts.{parts_in, parts_at}
use Rattle.command.proofs.parts.check_parts.Given as goal

-- the Ps from `at` on, of which at most n are left, give the answer
pub record Checking (l : List ℕ) (first at : ℕ) : Type 0 where
  pub n : ℕ
  pub enough : length l ≤ n + at
  pub same : parts_in least_blocks (suc n) l first at ≡ parts_at least_blocks l first

-- the same where none may be left
abbrev pub CheckingNext : List ℕ → ℕ → Option ℕ → Type 0
CheckingNext l first (Some at) = Checking l first at
CheckingNext l first None = parts_at least_blocks l first ≡ Ok first

abbrev pub invariant-loop-next : goal.invariant-loop-next
invariant-loop-next l = CheckingNext l.l l.first l.next

-- what is left of the line where there is another P
abbrev pub left : List ℕ → Option ℕ → ℕ
left l next = on_option next (λ at. suc (length l - at)) 0

abbrev pub decreases-loop-next : goal.decreases-loop-next
decreases-loop-next l = left l.l l.next
