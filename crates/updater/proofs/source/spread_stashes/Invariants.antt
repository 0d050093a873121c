-- The loop's invariant: the stashes that are left, spread over the work area, leave what all of them do; each is held,
-- and its places are within the area. The measure is what is left of the line.
use Rattle.std.proofs.Common.{◌≡◌, ℕ, ◌/◌, List, length}
use Rattle.state.specs.Limits.{block_bytes}
use Rattle.state.specs.Stashes.{Stash, held_in}
use Rattle.command.specs.Parts.{StashUse, uses_at}
use Rattle.command.proofs.PartLaws.{NamedNext}
use Rattle.rules.proofs.UseLaws.{unread}
use Rattle.updater.specs.Source.{spread}
use Rattle.updater.specs.Runnable.{Spreads}
use Rattle.updater.proofs.source.spread_stashes.Given as goal
use Rattle.std.specs.Prelude.{Option}

pub record Spreading (l : List ℕ) (xs : List Stash) (stash : List ℕ) (first : ℕ) (work₀ : List ℕ) (next : Option ℕ) (work : List ℕ) : Type 0 where
  pub ps : List StashUse
  pub from : NamedNext l next ps
  pub fits : Spreads l xs (length work₀ / block_bytes) ps
  pub keeps : length work ≡ length work₀
  pub same : spread l xs stash ps work ≡ spread l xs stash (uses_at l first) work₀

abbrev pub invariant-loop-next : goal.invariant-loop-next
invariant-loop-next l = Spreading l.l (held_in l.table) l.stash l.first l.initial.work l.next l.work

abbrev pub decreases-loop-next : goal.decreases-loop-next
decreases-loop-next l = unread l.l l.next
