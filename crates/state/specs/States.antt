-- Document 01, "Calls" and "Refusal numbers", and document 02, R-9: the state that is kept between calls, and what of it a step sets.
-- Assumes nothing: these are definitions.
use Rattle.std.specs.Prelude.{ℕ, Bool, eqb}
use Rattle.text.specs.Choice.{no}
use Rattle.state.specs.Refusals.{none}
use Rattle.state.specs.Stashes.{Table, table_of, empty_table}
use Rattle.state.specs.declared.Lengths.{Lengths}
use Rattle.state.specs.declared.Refusal.{Refusal}
use Rattle.state.specs.declared.State.{State}

-- a number, the line that is refused and the byte of the text at which it is wrong (document 02, R-6)
abbrev pub refusing_at : ℕ → ℕ → ℕ → Refusal
refusing_at number line byte = record { number = number; line = line; byte = byte }

-- refusals other than 3 and 6 report no byte: they have 0 there
abbrev pub refusing : ℕ → ℕ → Refusal
refusing number line = refusing_at number line 0

abbrev pub no_refusal : Refusal
no_refusal = refusing none 0

-- how far a run is (document 01, "Calls", and document 02, R-9): the line's number and where it starts, the bytes into a `new`, the bytes
-- taken in all, the ready mark and the stretches that a `free` has moved
pub record Cursor : Type 0 where
  pub line : ℕ
  pub at : ℕ
  pub into : ℕ
  pub total : ℕ
  pub ready : ℕ
  pub stretches : ℕ

-- at the start of a line, with that many bytes taken
abbrev pub line_start : ℕ → ℕ → ℕ → Cursor
line_start line at total = record { line = line; at = at; into = 0; total = total; ready = 0; stretches = 0 }

-- a table, a cursor, a refusal and the lengths
abbrev pub state_of : Table → Cursor → Refusal → Lengths → State
state_of t c refused lengths =
    record {
      table = t;
      line = c.line;
      at = c.at;
      into = c.into;
      total = c.total;
      ready = c.ready;
      stretches = c.stretches;
      refusal = refused;
      lengths = lengths;
    }

-- a state's own cursor
abbrev pub cursor_of : State → Cursor
cursor_of s =
    record { line = s.line; at = s.at; into = s.into; total = s.total; ready = s.ready; stretches = s.stretches }

-- at the start of a line, with no stash and no byte taken
abbrev pub state_at : ℕ → ℕ → Refusal → Lengths → State
state_at line at refused lengths = state_of empty_table (line_start line at 0) refused lengths

-- with another table of stashes
abbrev pub with_table : State → Table → State
with_table s t = state_of t (cursor_of s) s.refusal s.lengths

-- with another cursor
abbrev pub with_cursor : State → Cursor → State
with_cursor s c = state_of (table_of s) c s.refusal s.lengths

-- with another refusal
abbrev pub with_refusal : State → Refusal → State
with_refusal s refused = state_of (table_of s) (cursor_of s) refused s.lengths

-- the area that a command fills is ready to be written: every mark but 0 says so
abbrev pub is_ready : ℕ → Bool
is_ready ready = no (eqb ready 0)
