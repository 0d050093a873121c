-- Document 01, "Calls", and document 02, R-9: how the lines of a list run, step by step, as a machine that takes the bytes of new data one by
-- one, and where it stops for saving.
-- Assumes nothing: these are definitions.
use Rattle.std.specs.Prelude.{ℕ, ◌+◌, ◌-◌, ◌*◌, Bool, List, [], length, set, ◌==◌, nat_le, nat_lt}
use Rattle.text.specs.Choice.{pick, both, either, no}
use Rattle.text.specs.Line.{line_at}
use Rattle.text.specs.Read.{on_option}
use Rattle.ranges.specs.Walk.{blocks_at}
use Rattle.state.specs.Limits.{block_bytes, most_area_blocks}
use Rattle.state.specs.Refusals.{none}
use Rattle.state.specs.Stashes.{held}
use Rattle.state.specs.States.{is_ready}
use Rattle.command.specs.Commands.{command_of}
use Rattle.command.specs.Faults.{fault_byte}
use Rattle.command.specs.Targets.{new_target}
use Rattle.command.specs.declared.Command.{Command}
use Rattle.rules.specs.Rules.{refusal_of}
use Rattle.rules.specs.declared.Terms.{Terms}
use Rattle.machine.specs.Machine.{Machine}
use Rattle.machine.specs.Stops.{call_ends, call_takes}
use Rattle.updater.specs.Areas.{with_image}
use Rattle.updater.specs.Bytes.{address_of}
use Rattle.updater.specs.Steps.{Config, config_of, refused_with, further_into, stops_after, step_at, after}

-- the current line, and what it is refused for
abbrev pub current_line : List ℕ → Config → List ℕ
current_line s p = line_at s p.state.at

abbrev pub current_command : ℕ → List ℕ → Config → Command
current_command least s p = (command_of least (current_line s p)).command

abbrev pub refusal_here : ℕ → List ℕ → Terms → Config → ℕ
refusal_here least s terms p = refusal_of least (current_line s p) terms (held p.state)

-- the byte that is reported of it (document 02, R-6)
abbrev pub fault_here : ℕ → List ℕ → Config → ℕ
fault_here least s p = fault_byte p.state.at (current_command least s p)

-- a line refused in a run changes nothing itself
unfoldable pub refused_at : ℕ → ℕ → Config → Config
refused_at number byte p = config_of p.areas (refused_with p.state number byte)

-- each line is decoded and checked again before a step of it
unfoldable pub quiet_step : ℕ → List ℕ → Terms → Config → Config
quiet_step least s terms p =
    pick (refusal_here least s terms p == none)
    (after (current_line s p) (command_of least (current_line s p)).hash (current_command least s p) p)
    (refused_at (refusal_here least s terms p) (fault_here least s p) p)

-- a stop for saving follows that step
unfoldable pub halts_at : ℕ → List ℕ → Terms → Config → Bool
halts_at least s terms p =
    both (refusal_here least s terms p == none)
    (stops_after (step_at (current_line s p) (command_of least (current_line s p)).hash (current_command least s p) p).end)

-- the blocks that new data goes to: those of a `new`'s target
unfoldable pub new_blocks : List ℕ → Command → List ℕ
new_blocks l c = on_option (new_target c) (λ set. blocks_at l set.at) []

-- the bytes of new data that a command takes
unfoldable pub new_bytes : Command → ℕ
new_bytes c = on_option (new_target c) (λ set. block_bytes * set.blocks) 0

-- a byte of new data goes to the byte of R that is next
unfoldable pub put_byte : ℕ → List ℕ → ℕ → Config → Config
put_byte least s x p =
    config_of
    (with_image p.areas
    (set p.areas.image (address_of (new_blocks (current_line s p) (current_command least s p)) p.state.into) x))
    (further_into p.state 1)

-- the list is finished, or something was refused
unfoldable pub is_stopped : List ℕ → Config → Bool
is_stopped s p = either (no (p.state.refusal.number == none)) (nat_le (length s) p.state.at)

-- the next byte of new data is needed
unfoldable pub needs_byte : ℕ → List ℕ → Terms → Config → Bool
needs_byte least s terms p = both (refusal_here least s terms p == none) (nat_lt p.state.into (new_bytes (current_command least s p)))

-- the steps that are left at the most: a line has one to fill and one to write, or a stretch for each block that is held
abbrev pub line_steps : ℕ
line_steps = most_area_blocks + 2

abbrev pub steps_left : List ℕ → Config → ℕ
steps_left s p =
    line_steps * (length s - p.state.at) + (pick (is_ready p.state.ready) 0 1 + (most_area_blocks - p.state.stretches))

-- the lines of a text, run on those terms
abbrev pub machine : ℕ → List ℕ → Terms → Machine
machine least s terms =
    record {
      Config = Config;
      waits = λ p. either (is_stopped s p) (needs_byte least s terms p);
      stopped = is_stopped s;
      quiet = quiet_step least s terms;
      put = put_byte least s;
      fuel = λ p. pick (p.state.refusal.number == none) (steps_left s p) 0;
    }

-- where a run of a piece ends, the bytes that it took, and whether it stopped for saving
pub record Reached : Type 0 where
  pub config : Config
  pub taken : ℕ
  pub stop : Bool

abbrev pub reached : Config → ℕ → Bool → Reached
reached config taken stop = record { config = config; taken = taken; stop = stop }

unfoldable pub run_of : ℕ → List ℕ → Terms → List ℕ → Config → Reached
run_of least s terms piece p =
    reached (call_ends (machine least s terms) (halts_at least s terms) piece p).config
    (call_takes (machine least s terms) (halts_at least s terms) piece p)
    (call_ends (machine least s terms) (halts_at least s terms) piece p).halted
