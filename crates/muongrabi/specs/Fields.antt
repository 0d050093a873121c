-- What a state holds, in the open, for C and Rust: its two tables, and all its other numbers in the order of its saved form.
-- Assumes nothing: these are definitions.
use Rattle.std.specs.Prelude.{ℕ, ◌+◌, ◌≡◌, List, ◌++◌, length, get_or}
use Rattle.text.specs.Below.{AllBelow}
use Rattle.text.specs.Read.{on_result}
use Rattle.state.specs.Refusals.{none, no_saved_form}
use Rattle.state.specs.Stashes.{table_at}
use Rattle.state.specs.declared.State.{State}
use Rattle.saved.specs.Layout.{progress_count, refusal_count, length_count}
use Rattle.saved.specs.Restored.{restored_of}
use Rattle.saved.specs.Saved.{progress_numbers, refusal_numbers, length_numbers, FormOf}

-- the numbers of a state
abbrev pub numbers_of : State → List ℕ
numbers_of s = progress_numbers s ++ (refusal_numbers s.refusal ++ length_numbers s.lengths)

-- the state that has these tables and numbers
abbrev pub state_from : List ℕ → List ℕ → List ℕ → State
state_from hashes sizes n =
    record {
      table = table_at hashes sizes (get_or n 0 0);
      line = get_or n 1 0;
      at = get_or n 2 0;
      into = get_or n 3 0;
      total = get_or n 4 0;
      ready = get_or n 5 0;
      stretches = get_or n 6 0;
      refusal = record { number = get_or n 7 0; line = get_or n 8 0; byte = get_or n 9 0 };
      lengths =
          record {
            list = get_or n 10 0;
            image = get_or n 11 0;
            stash = get_or n 12 0;
            work = get_or n 13 0;
            result = get_or n 14 0;
            patch = get_or n 15 0;
          };
    }

-- what a caller has after reading a saved form: a number, and the three arrays
pub record Fields : Type 0 where
  pub number : ℕ
  pub hashes : List ℕ
  pub sizes : List ℕ
  pub numbers : List ℕ

abbrev pub fields_as : ℕ → List ℕ → List ℕ → List ℕ → Fields
fields_as number hashes sizes numbers = record { number = number; hashes = hashes; sizes = sizes; numbers = numbers }

-- the fields of a state, with number 0
abbrev pub fields_of : State → Fields
fields_of s = fields_as none s.table.hashes s.table.sizes (numbers_of s)

-- the fields of the state whose saved form the bytes are; 20 where they are no state's, and the arrays stay
unfoldable pub fields_over : List ℕ → List ℕ → List ℕ → List ℕ → Fields
fields_over hashes sizes numbers bytes =
    on_result (restored_of bytes) fields_of (λ reason. fields_as no_saved_form hashes sizes numbers)

-- how many numbers a state has besides its tables
abbrev pub number_count : ℕ
number_count = progress_count + (refusal_count + length_count)

-- document 02, R-9, by fields: what is saved is read back, and gives the same bytes again
pub record FieldsClaim : Type 0 where
  pub saved_read : (hashes sizes numbers b : List ℕ) → length numbers ≡ number_count → FormOf b (state_from hashes sizes numbers) →
      (h z n : List ℕ) → fields_over h z n b ≡ fields_as none hashes sizes numbers
  pub read-saved : (b h z n : List ℕ) → AllBelow 256 b → (fields_over h z n b).number ≡ none →
      FormOf b (state_from (fields_over h z n b).hashes (fields_over h z n b).sizes (fields_over h z n b).numbers)
