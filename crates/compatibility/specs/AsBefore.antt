-- Document 02, R-7: a list without an empty range answers as before, R-6's byte apart; and which lists no longer open. `least_before` in a
-- definition is the rule before R-7, `least_blocks` the rule as it is; all other rules are those of today on both sides.
-- Assumes nothing: these are definitions.
use Rattle.std.specs.Prelude.{ℕ, ◌≤◌, ◌<◌, ◌≡◌, true, false, ◌⊎◌, List, ◌∷◌, Ok}
use Rattle.text.specs.Line.{line_at}
use Rattle.ranges.specs.Ranges.{least_blocks}
use Rattle.state.specs.Refusals.{line_form}
use Rattle.state.specs.States.{no_refusal}
use Rattle.state.specs.declared.Lengths.{Lengths}
use Rattle.transfer_list.specs.Header.{first_line, header_of}
use Rattle.transfer_list.specs.Opening.{open_refusal, open_state}
use Rattle.transfer_list.specs.Faults.{line_start}
use Rattle.transfer_list.specs.declared.header.Header.{Header}
use Rattle.updater.specs.Areas.{Areas}
use Rattle.updater.specs.Steps.{Config}
use Rattle.updater.specs.Calls.{leaves, takes, stops, says}
use Rattle.sequence.specs.Model.{model}
use Rattle.sequence.specs.Sequence.{no_calls, all_calls, last_says}
use Rattle.compatibility.specs.EmptyRanges.{least_before, has_empty, WithoutEmpty}
use Rattle.compatibility.specs.Matching.{MatchingRefusals, MatchingStates, MatchingConfigs, MatchingCalls, MatchingOutcomes}

-- what an opening answers, and the state that it gives
pub record SameOpening (s : List ℕ) (lengths : Lengths) : Type 0 where
  pub refusal : MatchingRefusals (open_refusal least_before s lengths) (open_refusal least_blocks s lengths)
  pub state : MatchingStates (open_state least_before s lengths) (open_state least_blocks s lengths)

-- what one call leaves, says and takes, and whether it stops for saving
pub record SameCall (s piece : List ℕ) (p q : Config) : Type 0 where
  pub leaves : MatchingConfigs (leaves least_before s piece p) (leaves least_blocks s piece q)
  pub says : MatchingOutcomes (says least_before s piece p) (says least_blocks s piece q)
  pub takes : takes least_before s piece p ≡ takes least_blocks s piece q
  pub stops : stops least_before s piece p ≡ stops least_blocks s piece q

-- one call or more, told by the fresh bytes of each: what stands after them, with the bytes not taken and the sum of those taken, and what
-- the last of them says
pub record SameCalls (s fresh : List ℕ) (more : List (List ℕ)) (p q : Config) : Type 0 where
  pub made : MatchingCalls (all_calls least_before s (fresh ∷ more) (no_calls p)) (all_calls least_blocks s (fresh ∷ more) (no_calls q))
  pub says : MatchingOutcomes (last_says least_before s fresh more (no_calls p)) (last_says least_blocks s fresh more (no_calls q))

-- an opening over areas of any lengths; calls from any two states that match, such as the two openings give, whatever the areas hold; and
-- the model, on a list whose header is read
pub record Answers (s : List ℕ) : Type 0 where
  pub opening : (lengths : Lengths) → SameOpening s lengths
  pub call : (piece : List ℕ) (p q : Config) → MatchingConfigs p q → SameCall s piece p q
  pub calls : (fresh : List ℕ) (more : List (List ℕ)) (p q : Config) → MatchingConfigs p q → SameCalls s fresh more p q
  pub model : {h : Header} → header_of s ≡ Ok h → (a : Areas) (joined : List ℕ) → model least_before s a joined ≡ model least_blocks s a joined

-- THE THEOREM
abbrev pub AsBefore : Type 0
AsBefore = (s : List ℕ) → WithoutEmpty s → Answers s

-- a line is the first command line with an empty range
pub record FirstEmpty (s : List ℕ) (line : ℕ) : Type 0 where
  pub command : first_line ≤ line
  pub here : has_empty (line_at s (line_start s line)) ≡ true
  pub before : (k : ℕ) → first_line ≤ k → k < line → has_empty (line_at s (line_start s k)) ≡ false

-- of the lists that opened, those that no longer do are those with an empty range, and it is the first such line that is refused
pub record NoLonger : Type 0 where
  -- a list has no empty range, or there is a first line with one
  pub decided : (s : List ℕ) → WithoutEmpty s ⊎ ((line : ℕ) × FirstEmpty s line)
  pub lost : (s : List ℕ) (lengths : Lengths) → open_refusal least_before s lengths ≡ no_refusal → {line : ℕ} → FirstEmpty s line →
      ((open_refusal least_blocks s lengths).number ≡ line_form) × ((open_refusal least_blocks s lengths).line ≡ line)
  pub kept : (s : List ℕ) (lengths : Lengths) → open_refusal least_before s lengths ≡ no_refusal → WithoutEmpty s →
      open_refusal least_blocks s lengths ≡ no_refusal
  -- and no list opens that did not
  pub none_new : (s : List ℕ) (lengths : Lengths) → open_refusal least_blocks s lengths ≡ no_refusal →
      (open_refusal least_before s lengths ≡ no_refusal) × WithoutEmpty s
