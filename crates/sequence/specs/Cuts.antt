-- An opening, and the calls over new data that is cut into pieces in any way, each call beginning with the bytes that a stop left: what they come
-- to does not depend on the cuts.
-- Assumes nothing: these are definitions.
use Rattle.std.specs.Prelude.{◌≡◌, List, [], ◌∷◌, ℕ, eqb, replicate}
use Rattle.text.specs.Choice.{pick}
use Rattle.ranges.specs.Ranges.{least_blocks}
use Rattle.state.specs.Refusals.{none}
use Rattle.rules.specs.declared.Terms.{Terms}
use Rattle.transfer_list.specs.Opening.{open_refusal}
use Rattle.possible.specs.Possible.{terms_for}
use Rattle.machine.specs.Machine.{feeds, counts}
use Rattle.updater.specs.Areas.{Areas}
use Rattle.updater.specs.Steps.{Config}
use Rattle.updater.specs.Run.{machine}
use Rattle.updater.specs.Calls.{lengths_at, outcome_of, CallResult, result_of}
use Rattle.updater.specs.declared.Outcome.TheVariants as outcome
use Rattle.sequence.specs.Model.{Model, model, model_outcome}
use Rattle.sequence.specs.Sequence.{no_calls, all_calls, last_says}
use Rattle.sequence.specs.Claim.{opened_config, Accepted, NoStop, Holds}

-- calls, until one does not stop: the first has the piece, and each after it the bytes not taken. A result is what they come to
pub record CallsOn (s piece : List ℕ) (p : Config) (r : CallResult) : Type 0 where
  pub stops : ℕ
  pub areas : r.areas ≡ (all_calls least_blocks s (piece ∷ replicate stops []) (no_calls p)).config.areas
  pub state : r.called.state ≡ (all_calls least_blocks s (piece ∷ replicate stops []) (no_calls p)).config.state
  pub outcome : r.called.outcome ≡ last_says least_blocks s piece (replicate stops []) (no_calls p)
  pub taken : r.called.taken ≡ (all_calls least_blocks s (piece ∷ replicate stops []) (no_calls p)).taken
  pub ended : NoStop r.called.outcome

-- a run past every stop, over all the data
abbrev pub past_stops : List ℕ → Terms → List ℕ → Config → CallResult
past_stops s terms bytes p =
    result_of (feeds (machine least_blocks s terms) bytes p).areas
    (record {
      state = (feeds (machine least_blocks s terms) bytes p).state;
      outcome = outcome_of s (feeds (machine least_blocks s terms) bytes p).state;
      taken = counts (machine least_blocks s terms) bytes p;
    })

-- a refused opening changes nothing and takes nothing
abbrev pub open_refused : List ℕ → Areas → CallResult
open_refused s a =
    result_of a (record { state = (opened_config s a).state; outcome = outcome.Refused (open_refusal least_blocks s (lengths_at s a)); taken = 0 })

-- an opening, and the run of all the data
unfoldable pub run_all : List ℕ → Areas → List ℕ → CallResult
run_all s a bytes =
    pick (eqb (open_refusal least_blocks s (lengths_at s a)).number none)
    (past_stops s (terms_for s (lengths_at s a)) bytes (opened_config s a))
    (open_refused s a)

-- a result is what the model gives
pub record RunAgrees (s : List ℕ) (a : Areas) (r : CallResult) (m : Model) : Type 0 where
  pub areas : r.areas ≡ m.areas
  pub state : Holds (lengths_at s a) r.called.state m
  pub outcome : r.called.outcome ≡ model_outcome s m
  pub taken : r.called.taken ≡ m.taken

-- what a run leaves and answers, on an accepted list, is what the model gives for all the data
abbrev pub RunMeets : List ℕ → Areas → List ℕ → CallResult → Type 0
RunMeets s a bytes r = Accepted s a → RunAgrees s a r (model least_blocks s a bytes)

-- THE CLAIM, of a run of all the data
abbrev pub RunClaim : Type 0
RunClaim = (s : List ℕ) (a : Areas) (bytes : List ℕ) → RunMeets s a bytes (run_all s a bytes)
