-- Document 01, "Calls", and document 02, R-9: the lent areas and the state together, and what each step of a command leaves of them. A run
-- stops, for saving, between filling an area and writing from it, after every `move`, `stash` and `bsdiff`, and after each stretch of a `free`.
-- Assumes nothing: these are definitions.
use Rattle.std.specs.Prelude.{ℕ, ◌+◌, ◌%◌, ◌^◌, Bool, true, false, List, length, ◌==◌, Option, Some, None}
use Rattle.text.specs.Choice.{pick}
use Rattle.state.specs.Refusals.{none}
use Rattle.state.specs.Stashes.{Stash, held, table_of, find_in, size_at, younger}
use Rattle.state.specs.States.{refusing_at, line_start, with_table, with_cursor, with_refusal, is_ready}
use Rattle.state.specs.Stretches.{is_stretch}
use Rattle.state.specs.declared.State.{State}
use Rattle.command.specs.declared.Command.{Command}
use Rattle.command.specs.declared.Command.TheVariants as command
use Rattle.rules.specs.Held.{table_after}
use Rattle.updater.specs.Areas.{Areas, with_stash}
use Rattle.updater.specs.Source.{stretched}
use Rattle.updater.specs.Effect.{Effect, filled, written_from, zeros_written, is_finished}
use Rattle.updater.specs.declared.commands.StepEnd.{StepEnd}
use Rattle.updater.specs.declared.commands.StepEnd.TheVariants.{Passed, Ended, Filled, Stretched, Refused}

pub record Config : Type 0 where
  pub areas : Areas
  pub state : State

abbrev pub config_of : Areas → State → Config
config_of areas state = record { areas = areas; state = state }

-- ---- the state

-- past a line of n bytes: at the next one, no bytes into a `new`, nothing ready and no stretch moved
unfoldable pub passed : State → ℕ → State
passed s n = with_cursor s (line_start (s.line + 1) (s.at + n) s.total)

-- at the same line, with a refusal of it and the byte that is reported, 0 for none
unfoldable pub refused_with : State → ℕ → ℕ → State
refused_with s number byte = with_refusal s (refusing_at number s.line byte)

-- n more bytes into a `new`, and taken in all, modulo 2^64
unfoldable pub further_into : State → ℕ → State
further_into s n =
    with_cursor s
    (record {
      line = s.line;
      at = s.at;
      into = s.into + n;
      total = (s.total + n) % 2 ^ 64;
      ready = s.ready;
      stretches = s.stretches;
    })

-- at the same line, with that ready mark and those stretches moved
unfoldable pub marked_with : State → ℕ → ℕ → State
marked_with s ready stretches =
    with_cursor s
    (record { line = s.line; at = s.at; into = s.into; total = s.total; ready = ready; stretches = stretches })

-- ---- one step of a command

-- the areas that a step leaves, and how it ends: the line is passed; it is passed and the run stops; the area is filled, or a stretch moved
-- with more to come, and the run stops; or it is refused with a number
pub record Stepped : Type 0 where
  pub areas : Areas
  pub end : StepEnd

abbrev pub stepped : Areas → StepEnd → Stepped
stepped areas end = record { areas = areas; end = end }

-- filling, which is refused or leaves the area ready
abbrev pub after_filling : Effect → Stepped
after_filling e = stepped e.areas (pick (e.refusal == none) Filled (Refused e.refusal))

-- `move`, `bsdiff`, `stash`: what is ready is written, whatever the target holds; else a target that already holds the result is left (R-8);
-- else the area is filled
unfoldable pub fill_step : List ℕ → List Stash → List ℕ → Command → ℕ → Areas → Stepped
fill_step l held hash c ready a =
    pick (is_ready ready) (stepped (written_from l held c a) Ended)
    (pick (is_finished l hash c a.image) (stepped a Ended) (after_filling (filled l held hash c a)))

-- after stretch k of the `free` of stash j: more of them come, or the stash is dropped; with no stop where no stash is younger
abbrev pub free_end : List Stash → ℕ → ℕ → StepEnd
free_end held j k =
    pick (is_stretch (size_at held j) (younger held j) (k + 1)) Stretched
    (pick (is_stretch (size_at held j) (younger held j) k) Ended Passed)

-- `free`: the next stretch, k having gone before it
unfoldable pub free_step : List Stash → ℕ → Areas → Option ℕ → Stepped
free_step held k a (Some j) = stepped (with_stash a (stretched held j k a.stash)) (free_end held j k)
free_step held k a None = stepped a Passed

-- a command's next step, on the line l
unfoldable pub step_of : List ℕ → List Stash → List ℕ → Command → ℕ → ℕ → Areas → Stepped
step_of l held hash (command.Zero set) ready k a = stepped (zeros_written l set a) Passed
step_of l held hash (command.Erase set) ready k a = stepped (zeros_written l set a) Passed
step_of l held hash (command.New set) ready k a = stepped a Passed
step_of l held hash (command.Move target n source) ready k a = fill_step l held hash (command.Move target n source) ready a
step_of l held hash (command.Bsdiff target n source) ready k a = fill_step l held hash (command.Bsdiff target n source) ready a
step_of l held hash (command.Stash set) ready k a = fill_step l held hash (command.Stash set) ready a
step_of l held hash command.Free ready k a = free_step held k a (find_in held hash)
step_of l held hash command.Unsupported ready k a = stepped a Passed
step_of l held hash (command.Bad p) ready k a = stepped a Passed

-- ---- the two together

-- a line that is passed leaves what is then held; an area that is filled is ready; a stretch that is moved counts
unfoldable pub state_after : List ℕ → List ℕ → Command → State → StepEnd → State
state_after l hash c s Passed = passed (with_table s (table_after (table_of s) hash c)) (length l)
state_after l hash c s Ended = passed (with_table s (table_after (table_of s) hash c)) (length l)
state_after l hash c s Filled = marked_with s 1 s.stretches
state_after l hash c s Stretched = marked_with s s.ready (s.stretches + 1)
state_after l hash c s (Refused number) = refused_with s number 0

-- a stop follows
unfoldable pub stops_after : StepEnd → Bool
stops_after Passed = false
stops_after Ended = true
stops_after Filled = true
stops_after Stretched = true
stops_after (Refused number) = false

-- the next step of a command that needs no byte, or no more of them, on the line l
abbrev pub step_at : List ℕ → List ℕ → Command → Config → Stepped
step_at l hash c p = step_of l (held p.state) hash c p.state.ready p.state.stretches p.areas

unfoldable pub after : List ℕ → List ℕ → Command → Config → Config
after l hash c p = config_of (step_at l hash c p).areas (state_after l hash c p.state (step_at l hash c p).end)
