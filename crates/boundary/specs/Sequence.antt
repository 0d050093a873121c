-- Sequences of calls through the exports (document 01, "The model", and document 02, R-9). Between two calls a caller keeps the areas, and the state's
-- bytes, as the last call left them. Of an export nothing but its contract is used: these calls are those of `sequence/specs/Sequence.antt`, and what is
-- claimed of those holds of them.
-- Assumes nothing: these are definitions.
use Rattle.std.specs.Prelude.{ℕ, ◌+◌, ◌*◌, ◌<◌, ◌^◌, ◌≡◌, false, List, [], ◌∷◌, ◌++◌, eqb, length, get_or, drop, take, replicate, Ok}
use Rattle.text.specs.Below.{AllBelow}
use Rattle.text.specs.Choice.{pick}
use Rattle.ranges.specs.Ranges.{least_blocks}
use Rattle.state.specs.Refusals.{none}
use Rattle.state.specs.declared.State.{State}
use Rattle.machine.specs.Pieces.{joined}
use Rattle.updater.specs.Areas.{Areas}
use Rattle.updater.specs.Run.{line_steps}
use Rattle.updater.specs.Calls.{lengths_at, is_run}
use Rattle.updater.specs.Steps.{Config, config_of}
use Rattle.updater.specs.declared.Outcome.TheVariants.{Stop}
use Rattle.saved.specs.Restored.{restored_of}
use Rattle.saved.specs.Saved.{saved_of}
use Rattle.sequence.specs.Claim.{Holds}
use Rattle.sequence.specs.Model.{Model, model, model_outcome}
use Rattle.sequence.specs.Sequence.{no_calls, all_calls, last_says, last_takes}
use Rattle.restart.specs.Writes.{AreasOutside}
use Rattle.restart.specs.Restart.{writes, Standing}
use Rattle.muongrabi.specs.Answers.{outcome_number, outcome_numbers, answer_of, Told, Opens, Calls}

-- what a caller keeps: the areas and the state's bytes; of the last piece the bytes that were not taken, if that call stopped; the sum of bytes taken
pub record Kept : Type 0 where
  pub areas : Areas
  pub state : List ℕ
  pub rest : List ℕ
  pub taken : ℕ

-- before the first call
abbrev pub keeping : Areas → List ℕ → Kept
keeping areas state = record { areas = areas; state = state; rest = []; taken = 0 }

-- of an answer the outcome with its refusal
abbrev pub outcome_in : List ℕ → List ℕ
outcome_in answer = take 4 answer

-- .. and the bytes taken
abbrev pub taken_in : List ℕ → ℕ
taken_in answer = get_or answer 4 0

-- an answer that says stop
abbrev pub IsStop : List ℕ → Type 0
IsStop answer = get_or answer 0 0 ≡ outcome_number Stop

-- after a call with that piece
abbrev pub keeping_on : Kept → List ℕ → Areas → List ℕ → List ℕ → Kept
keeping_on c piece areas state answer =
    record {
      areas = areas;
      state = state;
      rest = pick (eqb (get_or answer 0 0) (outcome_number Stop)) (drop (taken_in answer) piece) [];
      taken = c.taken + taken_in answer;
    }

-- one call or more, told by the fresh bytes of each, q first: what is kept after the last, and its answer
pub data ExportedCalls (s : List ℕ) : Kept → List ℕ → List (List ℕ) → Kept → List ℕ → Type 0 where
  last : {c : Kept} {q : List ℕ} {areas : Areas} {state answer : List ℕ} → Calls s (c.rest ++ q) c.areas c.state areas state answer →
      ExportedCalls s c q [] (keeping_on c (c.rest ++ q) areas state answer) answer
  next : {c d : Kept} {q r : List ℕ} {qs : List (List ℕ)} {areas : Areas} {state answer said : List ℕ} →
      Calls s (c.rest ++ q) c.areas c.state areas state answer →
      ExportedCalls s (keeping_on c (c.rest ++ q) areas state answer) r qs d said → ExportedCalls s c q (r ∷ qs) d said

-- an opening over these areas that is accepted: its answer has number 0
pub record AcceptedOpening (s : List ℕ) (a : Areas) (state : List ℕ) : Type 0 where
  pub answer : List ℕ
  pub opens : Opens s (lengths_at s a) state answer
  pub accepted : get_or answer 0 0 ≡ none

-- calls through the exports leave and say what the calls from p do
pub record Follows (s : List ℕ) (p : Config) (q : List ℕ) (qs : List (List ℕ)) (d : Kept) (said : List ℕ) : Type 0 where
  pub areas : d.areas ≡ (all_calls least_blocks s (q ∷ qs) (no_calls p)).config.areas
  pub state : d.state ≡ saved_of (all_calls least_blocks s (q ∷ qs) (no_calls p)).config.state
  pub read : restored_of d.state ≡ Ok (all_calls least_blocks s (q ∷ qs) (no_calls p)).config.state
  pub rest : d.rest ≡ (all_calls least_blocks s (q ∷ qs) (no_calls p)).rest
  pub taken : d.taken ≡ (all_calls least_blocks s (q ∷ qs) (no_calls p)).taken
  pub answer : said ≡ answer_of (last_says least_blocks s q qs (no_calls p)) (last_takes least_blocks s q qs (no_calls p))

-- they end as the model does
pub record EndsAs (s : List ℕ) (a : Areas) (d : Kept) (said : List ℕ) (m : Model) : Type 0 where
  pub areas : d.areas ≡ m.areas
  pub left : State
  pub read : restored_of d.state ≡ Ok left
  pub state : Holds (lengths_at s a) left m
  pub outcome : outcome_in said ≡ outcome_numbers (model_outcome s m)
  pub taken : d.taken ≡ m.taken

-- two sequences end alike: in the areas, in every byte of the state, and in the outcome with its refusal
pub record KeptAlike (d e : Kept) (said other : List ℕ) : Type 0 where
  pub areas : d.areas ≡ e.areas
  pub state : d.state ≡ e.state
  pub outcome : outcome_in said ≡ outcome_in other

-- where storage may stand, of all the new data that much being left: these areas, and these bytes as the stored state (`restart/specs/Restart.antt`)
pub record Stored (s : List ℕ) (a : Areas) (all left : List ℕ) (areas : Areas) (state : List ℕ) : Type 0 where
  pub held : State
  pub read : restored_of state ≡ Ok held
  pub stands : Standing s a all left (config_of areas held)

-- THE CLAIM, of calls through the exports
pub record ExportClaim : Type 0 where
  -- an answer tells what was said
  pub told : Told
  -- a refusal that is held, and 17, leave the state's bytes
  pub stays : (s piece bytes : List ℕ) (lent areas : Areas) (state answer : List ℕ) → AllBelow 256 bytes → (t : State) → restored_of bytes ≡ Ok t →
      is_run least_blocks s (config_of lent t) ≡ false → Calls s piece lent bytes areas state answer → state ≡ bytes
  -- from bytes that are read back as a state, calls are those of the claim
  pub follows : (s : List ℕ) (p : Config) (state : List ℕ) → restored_of state ≡ Ok p.state →
      (q : List ℕ) (qs : List (List ℕ)) {d : Kept} {said : List ℕ} → ExportedCalls s (keeping p.areas state) q qs d said → Follows s p q qs d said
  -- after an accepted opening, whenever the last call did not stop: what the model gives for the pieces joined
  pub agrees : (s : List ℕ) (a : Areas) (state : List ℕ) → AcceptedOpening s a state →
      (q : List ℕ) (qs : List (List ℕ)) {d : Kept} {said : List ℕ} → ExportedCalls s (keeping a state) q qs d said → (IsStop said → ⊥) →
      EndsAs s a d said (model least_blocks s a (joined (q ∷ qs)))
  -- ---- document 02, R-9: what is stored, after an opening

  -- the opening's own state may be stored
  pub opening : (s : List ℕ) (a : Areas) (state : List ℕ) → AcceptedOpening s a state → (all : List ℕ) → Stored s a all all a state
  -- .. and what calls leave that stop, of all data those bytes being left that were not taken
  pub stop : (s : List ℕ) (a : Areas) {all left : List ℕ} {areas : Areas} {state : List ℕ} → Stored s a all left areas state →
      (q : List ℕ) (qs : List (List ℕ)) (later : List ℕ) → joined (q ∷ qs) ++ later ≡ left →
      {d : Kept} {said : List ℕ} → ExportedCalls s (keeping areas state) q qs d said → IsStop said →
      Stored s a all (d.rest ++ later) d.areas d.state
  -- a cut leaves the stored bytes, and of the areas all that the run does not write from there to the next stop or its end
  pub cut : (s : List ℕ) (a : Areas) {all left : List ℕ} {areas : Areas} {state : List ℕ} → (z : Stored s a all left areas state) →
      (b : Areas) → AreasOutside (writes s left (config_of areas z.held)) areas b → Stored s a all left b state
  -- what is left is the new data from the stored state's total onward
  pub onward : (s : List ℕ) (a : Areas) (opened : List ℕ) → AcceptedOpening s a opened →
      {all left : List ℕ} {areas : Areas} {state : List ℕ} → (z : Stored s a all left areas state) →
      length all < 2 ^ 64 → left ≡ drop z.held.total all
  -- with it the run ends as it does with all the data from the opening
  pub restarts : (s : List ℕ) (a : Areas) (opened : List ℕ) → AcceptedOpening s a opened →
      {all left : List ℕ} {areas : Areas} {state : List ℕ} → Stored s a all left areas state →
      (q : List ℕ) (qs : List (List ℕ)) {d : Kept} {said : List ℕ} → joined (q ∷ qs) ≡ left →
      ExportedCalls s (keeping areas state) q qs d said → (IsStop said → ⊥) →
      (r : List ℕ) (rs : List (List ℕ)) {e : Kept} {other : List ℕ} → joined (r ∷ rs) ≡ all →
      ExportedCalls s (keeping a opened) r rs e other → (IsStop other → ⊥) → KeptAlike d e said other
  -- calling on comes to that end
  pub ends : (s : List ℕ) (a : Areas) (opened : List ℕ) → AcceptedOpening s a opened →
      {all left : List ℕ} {areas : Areas} {state : List ℕ} → Stored s a all left areas state →
      (q : List ℕ) (qs : List (List ℕ)) {d : Kept} {said : List ℕ} →
      ExportedCalls s (keeping areas state) q (qs ++ replicate (line_steps * (length s + 1)) []) d said → IsStop said → ⊥
