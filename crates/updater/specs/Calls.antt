-- Document 01, "Calls", and document 02, R-9: what one call answers and leaves, for every list, state, areas and piece.
-- Assumes nothing: these are definitions.
use Rattle.std.specs.Prelude.{ℕ, Bool, false, List, length, ◌==◌, nat_le}
use Rattle.text.specs.Choice.{pick, both}
use Rattle.state.specs.Refusals.{none, state_impossible}
use Rattle.state.specs.States.{refusing}
use Rattle.state.specs.declared.Lengths.{Lengths}
use Rattle.state.specs.declared.Refusal.{Refusal}
use Rattle.state.specs.declared.State.{State}
use Rattle.transfer_list.specs.Opening.{lengths_of}
use Rattle.possible.specs.Possible.{is_possible, terms_for}
use Rattle.updater.specs.Areas.{Areas}
use Rattle.updater.specs.Steps.{Config}
use Rattle.updater.specs.Run.{Reached, run_of}
use Rattle.updater.specs.declared.Outcome.{Outcome}
use Rattle.updater.specs.declared.Outcome.TheVariants as outcome
use Rattle.updater.specs.declared.Called.{Called}

-- done, more, or refused with number, line and byte
unfoldable pub outcome_at : ℕ → ℕ → Refusal → Outcome
outcome_at list at refused =
    pick (refused.number == none) (pick (nat_le list at) outcome.Done outcome.More) (outcome.Refused refused)

abbrev pub outcome_of : List ℕ → State → Outcome
outcome_of s state = outcome_at (length s) state.at state.refusal

abbrev pub lengths_at : List ℕ → Areas → Lengths
lengths_at s a =
    lengths_of s (length a.image) (length a.stash) (length a.work) (length a.result) (length a.patch)

-- a call is a run: no refusal is held, and the state is possible
unfoldable pub is_run : ℕ → List ℕ → Config → Bool
is_run least s p = both (p.state.refusal.number == none) (is_possible least s (lengths_at s p.areas) p.state)

-- the run of a piece, on the terms that list and areas now give
abbrev pub ran : ℕ → List ℕ → List ℕ → Config → Reached
ran least s piece p = run_of least s (terms_for s (lengths_at s p.areas)) piece p

-- what stands after a call: a held refusal and 17 change nothing
unfoldable pub leaves : ℕ → List ℕ → List ℕ → Config → Config
leaves least s piece p = pick (is_run least s p) (ran least s piece p).config p

-- bytes taken
unfoldable pub takes : ℕ → List ℕ → List ℕ → Config → ℕ
takes least s piece p = pick (is_run least s p) (ran least s piece p).taken 0

-- it stopped for saving
unfoldable pub stops : ℕ → List ℕ → List ℕ → Config → Bool
stops least s piece p = pick (is_run least s p) (ran least s piece p).stop false

-- a held refusal is repeated; then 17; then a stop; else what the run came to
unfoldable pub says : ℕ → List ℕ → List ℕ → Config → Outcome
says least s piece p =
    pick (p.state.refusal.number == none)
    (pick (is_possible least s (lengths_at s p.areas) p.state)
    (pick (stops least s piece p) outcome.Stop (outcome_of s (leaves least s piece p).state))
    (outcome.Refused (refusing state_impossible 0)))
    (outcome_of s p.state)

-- what a call left of the state, and what it gave back
pub record Left : Type 0 where
  pub state : State
  pub outcome : Outcome
  pub taken : ℕ

abbrev pub called_with : State → Called → Left
called_with state c = record { state = state; outcome = c.outcome; taken = c.taken }

-- what a caller has after a call: the areas, the state, and what the call gave back
pub record CallResult : Type 0 where
  pub areas : Areas
  pub called : Left

abbrev pub result_of : Areas → Left → CallResult
result_of areas called = record { areas = areas; called = called }

unfoldable pub call_of : ℕ → List ℕ → List ℕ → Config → CallResult
call_of least s piece p =
    result_of (leaves least s piece p).areas
    (record { state = (leaves least s piece p).state; outcome = says least s piece p; taken = takes least s piece p })
