-- What crosses to C and Rust: a state as its saved form, and the outcomes of documents 01 and 02 as numbers.
-- Assumes nothing: these are definitions.
use Rattle.std.specs.Prelude.{ℕ, ◌≡◌, List, [], ◌∷◌, ◌++◌, Result, Ok}
use Rattle.text.specs.Read.{on_result}
use Rattle.ranges.specs.Ranges.{least_blocks}
use Rattle.state.specs.Refusals.{no_saved_form}
use Rattle.state.specs.States.{refusing}
use Rattle.state.specs.declared.Lengths.{Lengths}
use Rattle.state.specs.declared.State.{State}
use Rattle.state.specs.declared.refusals.Reason.{Reason}
use Rattle.transfer_list.specs.Opening.{open_state}
use Rattle.updater.specs.Areas.{Areas}
use Rattle.updater.specs.Calls.{CallResult, call_of}
use Rattle.updater.specs.Steps.{config_of}
use Rattle.updater.specs.declared.Outcome.{Outcome}
use Rattle.updater.specs.declared.Outcome.TheVariants.{Done, More, Stop, Refused}
use Rattle.sequence.specs.Cuts.{run_all}
use Rattle.saved.specs.Restored.{restored_of}
use Rattle.saved.specs.Saved.{refusal_numbers, saved_of}

-- done is 0, more is 1, refused is 2, a stop is 3
abbrev pub outcome_number : Outcome → ℕ
outcome_number Done = 0
outcome_number More = 1
outcome_number Stop = 3
outcome_number (Refused refusal) = 2

-- the refusal's number; 0 where nothing is refused
abbrev pub refusal_number : Outcome → ℕ
refusal_number Done = 0
refusal_number More = 0
refusal_number Stop = 0
refusal_number (Refused refusal) = refusal.number

-- the refusal's line; 0 where nothing is refused
abbrev pub refusal_line : Outcome → ℕ
refusal_line Done = 0
refusal_line More = 0
refusal_line Stop = 0
refusal_line (Refused refusal) = refusal.line

-- the byte that is reported of it; 0 where nothing is refused
abbrev pub refusal_byte : Outcome → ℕ
refusal_byte Done = 0
refusal_byte More = 0
refusal_byte Stop = 0
refusal_byte (Refused refusal) = refusal.byte

-- outcome; number, line and byte of the refusal
abbrev pub outcome_numbers : Outcome → List ℕ
outcome_numbers outcome = outcome_number outcome ∷ refusal_number outcome ∷ refusal_line outcome ∷ refusal_byte outcome ∷ []

-- .. and the bytes taken
abbrev pub answer_of : Outcome → ℕ → List ℕ
answer_of outcome taken = outcome_numbers outcome ++ (taken ∷ [])

-- no two outcomes, and no two numbers of bytes, have the same answer
abbrev pub Told : Type 0
Told = (o p : Outcome) (n m : ℕ) → answer_of o n ≡ answer_of p m → (o ≡ p) × (n ≡ m)

-- ---- an opening

-- what a caller has after it: the bytes of the state, what they are read back as, and the answer
pub record Opened : Type 0 where
  pub state : List ℕ
  pub read : Result State Reason
  pub answer : List ℕ

abbrev pub opened_as : List ℕ → List ℕ → Opened
opened_as state answer = record { state = state; read = restored_of state; answer = answer }

-- the state's saved form, which is read back as that state; number, line and byte of the refusal that it holds
abbrev pub opening_of : State → Opened
opening_of s = record { state = saved_of s; read = Ok s; answer = refusal_numbers s.refusal }

-- what an opening over areas and patch data of these lengths leaves and answers
abbrev pub Opens : List ℕ → Lengths → List ℕ → List ℕ → Type 0
Opens s lengths state answer = opened_as state answer ≡ opening_of (open_state least_blocks s lengths)

-- ---- a call

-- what a caller has after it: the areas, the bytes of the state, what they are read back as, and the answer
pub record Answered : Type 0 where
  pub areas : Areas
  pub state : List ℕ
  pub read : Result State Reason
  pub answer : List ℕ

abbrev pub answered_as : Areas → List ℕ → List ℕ → Answered
answered_as areas state answer = record { areas = areas; state = state; read = restored_of state; answer = answer }

-- of what a call, or an opening and its calls, came to: the saved form of the state after it, which is read back as that state
abbrev pub answer_to : CallResult → Answered
answer_to r =
    record {
      areas = r.areas;
      state = saved_of r.called.state;
      read = Ok r.called.state;
      answer = answer_of r.called.outcome r.called.taken;
    }

-- 20: nothing is changed, and nothing taken
abbrev pub not_saved : Areas → List ℕ → Answered
not_saved areas bytes = answered_as areas bytes (answer_of (Refused (refusing no_saved_form 0)) 0)

-- a call from the state whose saved form the bytes are; 20 where they are no state's
unfoldable pub called_over : List ℕ → List ℕ → Areas → List ℕ → Answered
called_over s piece areas bytes =
    on_result (restored_of bytes)
    (λ t. answer_to (call_of least_blocks s piece (config_of areas t)))
    (λ reason. not_saved areas bytes)

-- what a call with a piece, over these areas and these bytes as the state, leaves and answers
abbrev pub Calls : List ℕ → List ℕ → Areas → List ℕ → Areas → List ℕ → List ℕ → Type 0
Calls s piece lent bytes areas state answer = answered_as areas state answer ≡ called_over s piece lent bytes

-- the same of an opening and its calls over all the bytes, whatever the state held
abbrev pub Runs : List ℕ → List ℕ → Areas → Areas → List ℕ → List ℕ → Type 0
Runs s bytes lent areas state answer = answered_as areas state answer ≡ answer_to (run_all s lent bytes)
