-- Document 02, R-9: a state read back from bytes, or 20 with no state. Only the length and the marks are tested: all other bytes may be any.
-- Assumes nothing: these are definitions.
use Rattle.std.specs.Prelude.{ℕ, zero, suc, ◌+◌, ◌*◌, Bool, List, [], ◌∷◌, length, get_or, take, drop, eqb, Result, Ok, Err, ⊤}
use Rattle.text.specs.Choice.{pick, both}
use Rattle.text.specs.Read.{on_result}
use Rattle.little_endian.specs.LittleEndian.{eight_at}
use Rattle.state.specs.Limits.{table_bytes, most_stashes}
use Rattle.state.specs.Stashes.{table_at}
use Rattle.state.specs.States.{no_refusal, state_at}
use Rattle.state.specs.declared.Lengths.{Lengths}
use Rattle.state.specs.declared.Refusal.{Refusal}
use Rattle.state.specs.declared.State.{State}
use Rattle.state.specs.declared.stashes.Table.{Table}
use Rattle.state.specs.declared.refusals.Reason.{Reason}
use Rattle.state.specs.declared.refusals.Reason.TheVariants.{NoSavedForm}
use Rattle.saved.specs.Layout.{mark_bytes, letter_s, letter_h, letter_b, letter_p, letter_r, letter_l, word_bytes}
use Rattle.saved.specs.Layout.{hashes_at, sizes_at, progress_at, refusal_at, lengths_at, saved_bytes}

-- the record at a position has the mark of this letter
unfoldable pub has_mark : List ℕ → ℕ → ℕ → Bool
has_mark b at letter = both (eqb (get_or b at 0) letter_s) (eqb (get_or b (at + 1) 0) letter)

-- bytes that are some state's saved form
unfoldable pub is_saved : List ℕ → Bool
is_saved b =
    both (eqb (length b) saved_bytes)
    (both (has_mark b hashes_at letter_h)
    (both (has_mark b sizes_at letter_b)
    (both (has_mark b progress_at letter_p)
    (both (has_mark b refusal_at letter_r)
    (has_mark b lengths_at letter_l)))))

-- n numbers from a position on
unfoldable pub numbers_at : List ℕ → ℕ → ℕ → List ℕ
numbers_at b at zero = []
numbers_at b at (suc n) = eight_at b at ∷ numbers_at b (at + word_bytes) n

-- number k of the record at a position
abbrev pub number_in : List ℕ → ℕ → ℕ → ℕ
number_in b at k = eight_at b (at + mark_bytes + word_bytes * k)

abbrev pub refusal_in : List ℕ → Refusal
refusal_in b = record { number = number_in b refusal_at 0; line = number_in b refusal_at 1; byte = number_in b refusal_at 2 }

abbrev pub lengths_in : List ℕ → Lengths
lengths_in b =
    record {
      list = number_in b lengths_at 0;
      image = number_in b lengths_at 1;
      stash = number_in b lengths_at 2;
      work = number_in b lengths_at 3;
      result = number_in b lengths_at 4;
      patch = number_in b lengths_at 5;
    }

-- the table of hashes
abbrev pub hashes_in : List ℕ → List ℕ
hashes_in b = take table_bytes (drop (hashes_at + mark_bytes) b)

-- the sizes
abbrev pub sizes_in : List ℕ → List ℕ
sizes_in b = numbers_at b (sizes_at + mark_bytes) most_stashes

-- the table of stashes
abbrev pub table_in : List ℕ → Table
table_in b = table_at (hashes_in b) (sizes_in b) (number_in b progress_at 0)

-- the state of a saved form
unfoldable pub state_in : List ℕ → State
state_in b =
    record {
      table = table_in b;
      line = number_in b progress_at 1;
      at = number_in b progress_at 2;
      into = number_in b progress_at 3;
      total = number_in b progress_at 4;
      ready = number_in b progress_at 5;
      stretches = number_in b progress_at 6;
      refusal = refusal_in b;
      lengths = lengths_in b;
    }

-- what bytes are read back as
unfoldable pub restored_of : List ℕ → Result State Reason
restored_of b = pick (is_saved b) (Ok (state_in b)) (Err NoSavedForm)

-- ---- the same over a state that is lent

-- no state: all of it zero
abbrev pub no_state : State
no_state = state_at 0 0 no_refusal (record { list = 0; image = 0; stash = 0; work = 0; result = 0; patch = 0 })

-- whether they are read back
abbrev pub restores : List ℕ → Result ⊤ Reason
restores b = on_result (restored_of b) (λ s. Ok tt) Err

-- the state after it: the one that is read back; with 20 it stays
abbrev pub state_after : State → List ℕ → State
state_after before b = on_result (restored_of b) (λ s. s) (λ reason. before)
