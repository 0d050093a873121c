-- The loop's invariant: the sums, with those of the Ps from here on, are the sums of all. The measure is what is left
-- of the line.
use Prim.Native.Nat.{ℕ}
use mathlib.Core.Path.{◌≡◌}
use mathlib.Core.List.{List, [], ◌∷◌}
use Rattle.std.specs.Prelude.{Option}
use Rattle.state.specs.Stashes.{Stash, held_in}
use Rattle.command.specs.Parts.{StashUse, uses_at}
use Rattle.command.proofs.PartLaws.{NamedNext}
use Rattle.rules.specs.declared.moves.Sums.{Sums}
use Rattle.rules.specs.Sums.{sums_of, sums_with}
use Rattle.rules.proofs.UseLaws.{unread}
use Rattle.rules.proofs.moves.sum_stashes.Given as goal

-- the sums with the stashes of some Ps more
unfoldable pub sums_from : List Stash → Sums → List StashUse → Sums
sums_from held sums [] = sums
sums_from held sums (p ∷ ps) = sums_from held (sums_with sums held p.hash p.places.blocks) ps

pub record Summing (l : List ℕ) (first : ℕ) (held : List Stash) (sums : Sums) (next : Option ℕ) : Type 0 where
  pub left : List StashUse
  pub text : NamedNext l next left
  pub same : sums_from held sums left ≡ sums_of held (uses_at l first)

abbrev pub invariant-loop-next : goal.invariant-loop-next
invariant-loop-next l = Summing l.l l.first (held_in l.table) l.sums l.next

abbrev pub decreases-loop-next : goal.decreases-loop-next
decreases-loop-next l = unread l.l l.next
