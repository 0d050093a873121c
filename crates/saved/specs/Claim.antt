-- Document 02, R-9: what is saved is read back, and 20 is given exactly where the bytes are no state's saved form.
-- Assumes nothing: these are definitions.
use Rattle.std.specs.Prelude.{ℕ, ◌≡◌, List, length, Ok, Err}
use Rattle.text.specs.Below.{AllBelow}
use Rattle.state.specs.Limits.{most_stashes, table_bytes}
use Rattle.state.specs.Refusals.{no_saved_form, number_of}
use Rattle.state.specs.declared.State.{State}
use Rattle.state.specs.declared.refusals.Reason.{Reason}
use Rattle.saved.specs.Layout.{word_bound, saved_bytes}
use Rattle.saved.specs.Saved.{progress_numbers, refusal_numbers, length_numbers, saved_of, Typed, FormOf}
use Rattle.saved.specs.Restored.{restored_of}

pub record SavedClaim : Type 0 where
  -- no state is left out: tables of their lengths, bytes below 256 and numbers below 2^64 are all that is asked
  pub typed : (s : State) → length s.table.hashes ≡ table_bytes → length s.table.sizes ≡ most_stashes → AllBelow 256 s.table.hashes →
      AllBelow word_bound s.table.sizes → AllBelow word_bound (progress_numbers s) → AllBelow word_bound (refusal_numbers s.refusal) →
      AllBelow word_bound (length_numbers s.lengths) → Typed s
  -- every state's saved form has the one length, and is read back as that state
  pub one-length : (s : State) → Typed s → length (saved_of s) ≡ saved_bytes
  pub read_back : (s : State) → Typed s → restored_of (saved_of s) ≡ Ok s
  -- a state is given only for its own saved form
  pub own-form : (b : List ℕ) → AllBelow 256 b → (s : State) → restored_of b ≡ Ok s → FormOf b s
  -- 20 is the only other number, and is given only where the bytes are no state's saved form; an error has no state
  pub one_number : (b : List ℕ) (reason : Reason) → restored_of b ≡ Err reason → number_of reason ≡ no_saved_form
  pub no-form : (b : List ℕ) (reason : Reason) → restored_of b ≡ Err reason → (s : State) → FormOf b s → ⊥
