-- The loop's invariant: what is left of the lines, with what is held here and what is counted so far, gives the same
-- refusal as all of them. The measure is what is left of the text.
use mathlib.Core.Path.{◌≡◌}
use mathlib.Core.List.{List, []}
use Prim.Native.Nat.{ℕ, suc, ◌+◌, ◌-◌, ◌≤◌, ◌<◌}
use lib.ListN.{length}
use Rattle.ranges.specs.Ranges.{least_blocks}
use Rattle.state.specs.declared.stashes.Table.{Table}
use Rattle.state.specs.Stashes.{Whole, held_in}
use Rattle.state.specs.Sums.{bounded}
use Rattle.state.specs.declared.Refusal.{Refusal}
use Rattle.rules.specs.declared.Terms.{Terms}
use Rattle.transfer_list.specs.Header.{first_line}
use Rattle.transfer_list.specs.Opening.{lines_refusal}
use Rattle.transfer_list.specs.declared.header.Header.{Header}
use Rattle.transfer_list.proofs.check_lines.Given as goal

-- the refusal of all the lines
abbrev pub whole : List ℕ → Terms → Header → Refusal
whole list terms h = lines_refusal least_blocks (suc (length list)) list terms h first_line h.first [] 0

-- n is more than the lines left; what line 2 counts is summed up to a bound
pub record Checking (list : List ℕ) (terms : Terms) (h : Header) (t : Table) (line at counted : ℕ) : Type 0 where
  pub n : ℕ
  pub total : ℕ
  pub enough : length list < n + at
  pub sum : counted ≡ bounded total
  pub table : Whole t
  pub lines : line ≤ at + first_line
  pub same : lines_refusal least_blocks n list terms h line at (held_in t) total ≡ whole list terms h

abbrev pub invariant-loop-at : goal.invariant-loop-at
invariant-loop-at l = Checking l.list l.terms l.h l.table l.line l.at l.counted

abbrev pub decreases-loop-at : goal.decreases-loop-at
decreases-loop-at l = length l.list - l.at
