-- The claim over every sequence of calls: however the new data is cut into pieces, one to a call, empty ones and calls after the end or
-- after a refusal included, what stands after the last call, when that did not stop for saving, is what the model gives for the pieces joined. The
-- model has no stops. The calls are lent the same list and the same patch data, and each the areas as the one before left them.
-- Assumes nothing: these are definitions.
use Rattle.std.specs.Prelude.{◌≡◌, List, [], ◌∷◌, ◌++◌, ℕ, ◌+◌, ◌*◌, ◌%◌, ◌^◌, length, replicate}
use Rattle.ranges.specs.Ranges.{least_blocks}
use Rattle.state.specs.Refusals.{none}
use Rattle.state.specs.States.{no_refusal}
use Rattle.state.specs.Stashes.{held}
use Rattle.state.specs.declared.Lengths.{Lengths}
use Rattle.state.specs.declared.Refusal.{Refusal}
use Rattle.state.specs.declared.State.{State}
use Rattle.transfer_list.specs.Opening.{open_refusal, open_state}
use Rattle.machine.specs.Pieces.{joined}
use Rattle.updater.specs.Areas.{Areas}
use Rattle.updater.specs.Effect.{InRun}
use Rattle.updater.specs.Steps.{Config, config_of}
use Rattle.updater.specs.Run.{line_steps}
use Rattle.updater.specs.Calls.{lengths_at}
use Rattle.updater.specs.declared.Outcome.{Outcome}
use Rattle.updater.specs.declared.Outcome.TheVariants as outcome
use Rattle.sequence.specs.Model.{Model, model, model_outcome}
use Rattle.sequence.specs.Sequence.{CallsMade, no_calls, all_calls, last_says, last_takes, last_piece}
use Rattle.sequence.specs.Footprint.{OnlyWritten, FinishedByTarget, FinishedLeaves, OnlyRead}

-- the areas as they stood at opening, with the state that it gave
abbrev pub opened_config : List ℕ → Areas → Config
opened_config s a = config_of a (open_state least_blocks s (lengths_at s a))

-- an opening is accepted when none of 1 to 15 and 18 applies
abbrev pub Accepted : List ℕ → Areas → Type 0
Accepted s a = open_refusal least_blocks s (lengths_at s a) ≡ no_refusal

-- the calls after an opening, told by the fresh bytes of each
abbrev pub opened : List ℕ → Areas → CallsMade
opened s a = no_calls (opened_config s a)

abbrev pub calls_made : List ℕ → Areas → List (List ℕ) → CallsMade
calls_made s a qs = all_calls least_blocks s qs (opened s a)

abbrev pub said : List ℕ → Areas → List ℕ → List (List ℕ) → Outcome
said s a q qs = last_says least_blocks s q qs (opened s a)

-- done, more or refused: not a stop
abbrev pub NoStop : Outcome → Type 0
NoStop o = o ≡ outcome.Stop → ⊥

-- a state equals what the model gives: the model's stashes, current line, bytes into a `new` and refusal, and the lengths at opening; its total
-- is the model's bytes taken (R-9), and nothing is ready or moved in part
pub record Holds (opening : Lengths) (state : State) (m : Model) : Type 0 where
  pub count : state.table.count ≡ length m.stashes
  pub stashes : held state ≡ m.stashes
  pub line : state.line ≡ m.line
  pub at : state.at ≡ m.at
  pub into : state.into ≡ m.into
  pub refusal : state.refusal ≡ m.refusal
  pub lengths : state.lengths ≡ opening
  pub total : state.total ≡ m.taken % 2 ^ 64
  pub ready : state.ready ≡ 0
  pub stretches : state.stretches ≡ 0

-- the calls over one piece or more, q first, end as the model does
pub record Agrees (s : List ℕ) (a : Areas) (q : List ℕ) (qs : List (List ℕ)) (m : Model) : Type 0 where
  pub areas : (calls_made s a (q ∷ qs)).config.areas ≡ m.areas
  pub state : Holds (lengths_at s a) (calls_made s a (q ∷ qs)).config.state m
  pub outcome : said s a q qs ≡ model_outcome s m
  pub taken : (calls_made s a (q ∷ qs)).taken ≡ m.taken

-- two sequences of calls end alike: in the areas and all that the state holds, in the last outcome and in the sum of bytes taken
pub record Alike (s : List ℕ) (a : Areas) (q r : List ℕ) (qs rs : List (List ℕ)) : Type 0 where
  pub config : (calls_made s a (q ∷ qs)).config ≡ (calls_made s a (r ∷ rs)).config
  pub outcome : said s a q qs ≡ said s a r rs
  pub taken : (calls_made s a (q ∷ qs)).taken ≡ (calls_made s a (r ∷ rs)).taken

-- THE CLAIM
pub record Claim : Type 0 where
  -- an opening whose state holds no number is accepted: there is nothing between
  pub decided : (s : List ℕ) (a : Areas) → (open_state least_blocks s (lengths_at s a)).refusal.number ≡ none → Accepted s a
  -- the calls end as the model does for the pieces joined, whenever the last one did not stop
  pub agrees : (s : List ℕ) (a : Areas) → Accepted s a →
      (q : List ℕ) (qs : List (List ℕ)) → NoStop (said s a q qs) → Agrees s a q qs (model least_blocks s a (joined (q ∷ qs)))
  -- calling on comes to an end
  pub ends : (s : List ℕ) (a : Areas) → Accepted s a →
      (q : List ℕ) (qs : List (List ℕ)) → NoStop (said s a q (qs ++ replicate (line_steps * (length s + 1)) []))
  -- sequences that join alike end alike
  pub alike : (s : List ℕ) (a : Areas) → Accepted s a →
      (q r : List ℕ) (qs rs : List (List ℕ)) → joined (q ∷ qs) ≡ joined (r ∷ rs) →
      NoStop (said s a q qs) → NoStop (said s a r rs) → Alike s a q r qs rs
  -- at a stop too the state's total is the sum of bytes taken
  pub totals : (s : List ℕ) (a : Areas) → Accepted s a →
      (qs : List (List ℕ)) → (calls_made s a qs).config.state.total ≡ (calls_made s a qs).taken % 2 ^ 64
  -- of the image only the targets of the lines up to the current one change, of the work area only the largest source, of the result area
  -- only the largest result, of the stash area only what line 4 allows, and of the patch data nothing
  pub only-written : (s : List ℕ) (a : Areas) → Accepted s a →
      (qs : List (List ℕ)) → OnlyWritten s (calls_made s a qs).config.state.at a (calls_made s a qs).config.areas
  -- whether a command is finished depends, of the image, on its target blocks alone
  pub finished_by_target : FinishedByTarget
  -- a finished command changes nothing; what an unfinished one puts together, patches and stashes depends, of the image, on its source blocks
  -- alone
  pub finished-leaves : FinishedLeaves
  pub only-read : OnlyRead
  -- a call whose outcome is more took its whole piece
  pub whole : (s : List ℕ) (a : Areas) → Accepted s a →
      (q : List ℕ) (qs : List (List ℕ)) → said s a q qs ≡ outcome.More →
      last_takes least_blocks s q qs (opened s a) ≡ length (last_piece least_blocks s q qs (opened s a))
  -- a run can only give 16 or 19
  pub only-run : (s : List ℕ) (a : Areas) → Accepted s a →
      (q : List ℕ) (qs : List (List ℕ)) {refused : Refusal} → said s a q qs ≡ outcome.Refused refused → InRun refused.number
