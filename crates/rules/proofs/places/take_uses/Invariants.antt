-- The loop's invariant: the places of the stashes from here on, past those taken by now, give the answer of all. The
-- measure is what is left of the line.
use mathlib.Core.List.{List}
use Prim.Native.Nat.{ℕ}
use Rattle.std.specs.Prelude.{Option}
use Rattle.command.specs.Parts.{StashUse, uses_at}
use Rattle.command.proofs.PartLaws.{NamedNext}
use Rattle.rules.specs.Move.{places_of}
use Rattle.rules.proofs.PlaceLaws.{Pass}
use Rattle.rules.proofs.UseLaws.{unread}
use Rattle.rules.proofs.places.take_uses.Given as goal

-- the stashes from the next one on, and a pass that has their places left
pub record Naming (l : List ℕ) (n : ℕ) (before all marks : List ℕ) (next : Option ℕ) : Type 0 where
  pub ps : List StashUse
  pub from : NamedNext l next ps
  pub pass : Pass n before all marks (places_of l ps)

abbrev pub invariant-loop-next : goal.invariant-loop-next
invariant-loop-next l = Naming l.l l.n l.initial.marks (places_of l.l (uses_at l.l l.first)) l.marks l.next

abbrev pub decreases-loop-next : goal.decreases-loop-next
decreases-loop-next l = unread l.l l.next
