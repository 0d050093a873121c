-- Document 01, "Refusal numbers", and document 02, R-1, R-4 and R-6: an opening checks the whole text, changes nothing, and gives number and
-- line, 3 and 6 with the byte. An opening is accepted when none of 1 to 15 and 18 applies.
-- Assumes nothing: these are definitions.
use Rattle.std.specs.Prelude.{ℕ, zero, suc, ◌+◌, ◌/◌, List, [], ◌∷◌, length, leb, eqb, Result, Ok, Err}
use Rattle.text.specs.Choice.{pick, no}
use Rattle.text.specs.Rows.{◌⇒◌, first_of}
use Rattle.text.specs.Line.{line_at}
use Rattle.state.specs.Limits.{block_bytes}
use Rattle.state.specs.Refusals.{none, total_differs}
use Rattle.state.specs.Stashes.{Stash}
use Rattle.state.specs.States.{refusing, refusing_at, no_refusal, state_at}
use Rattle.state.specs.declared.Lengths.{Lengths}
use Rattle.state.specs.declared.Refusal.{Refusal}
use Rattle.state.specs.declared.State.{State}
use Rattle.command.specs.Commands.{command_of}
use Rattle.command.specs.Faults.{fault_byte}
use Rattle.command.specs.declared.Command.{Command}
use Rattle.command.specs.declared.Command.TheVariants as command
use Rattle.rules.specs.Rules.{refusal_of}
use Rattle.rules.specs.declared.Terms.{Terms}
use Rattle.rules.specs.Held.{held_after}
use Rattle.transfer_list.specs.Header.{first_line, header_of, start_refusal}
use Rattle.transfer_list.specs.declared.header.Header.{Header}
use Rattle.transfer_list.specs.declared.header.BadHeader.{BadHeader}

-- what a line is checked against: the areas' blocks, the patch data's bytes, and lines 3 and 4
abbrev pub terms_of : Lengths → Header → Terms
terms_of lengths h =
    record {
      image = lengths.image / block_bytes;
      work = lengths.work / block_bytes;
      result = lengths.result / block_bytes;
      patch = lengths.patch;
      stashes = h.stashes;
      blocks = h.blocks;
    }

-- R-1: line 2 must equal the total target size of `new`, `zero` and `move`; `erase` is not counted. R-4: the total counts the targets of
-- `bsdiff` too. What a command adds to that total: the size of R, a block named twice counted twice
unfoldable pub counted_blocks : Command → ℕ
counted_blocks (command.New target) = target.blocks
counted_blocks (command.Zero target) = target.blocks
counted_blocks (command.Move target n source) = target.blocks
counted_blocks (command.Bsdiff target n source) = target.blocks
-- the others add nothing
counted_blocks (command.Erase target) = 0
counted_blocks (command.Stash set) = 0
counted_blocks command.Free = 0
counted_blocks command.Unsupported = 0
counted_blocks (command.Bad p) = 0

-- 15 comes last: the total differs from line 2
unfoldable pub total_refusal : Header → ℕ → Refusal
total_refusal h counted = first_of (no (eqb counted h.total) ⇒ refusing total_differs 2 ∷ []) no_refusal

-- a line that is refused, which starts at `at`: its number, and where it is ill formed the byte of its fault (R-6)
abbrev pub line_refusal : ℕ → List ℕ → Terms → ℕ → ℕ → List Stash → Refusal
line_refusal least s terms line at held =
    refusing_at (refusal_of least (line_at s at) terms held) line (fault_byte at (command_of least (line_at s at)).command)

-- lines go top to bottom, n of them at most: from the line that starts at `at`, with what is held there and what line 2 counts so far
unfoldable pub lines_refusal : ℕ → ℕ → List ℕ → Terms → Header → ℕ → ℕ → List Stash → ℕ → Refusal
lines_refusal least zero s terms h line at held counted = total_refusal h counted
lines_refusal least (suc n) s terms h line at held counted =
    pick (leb (length s) at) (total_refusal h counted)
    (pick (eqb (refusal_of least (line_at s at) terms held) none)
    (lines_refusal least n s terms h (line + 1) (at + length (line_at s at))
    (held_after held (command_of least (line_at s at)).hash (command_of least (line_at s at)).command)
    (counted + counted_blocks (command_of least (line_at s at)).command))
    (line_refusal least s terms line at held))

-- the command lines; a text has fewer of them than characters
unfoldable pub commands_refusal : ℕ → List ℕ → Lengths → Result Header BadHeader → Refusal
commands_refusal least s lengths (Ok h) = lines_refusal least (suc (length s)) s (terms_of lengths h) h first_line h.first [] 0
commands_refusal least s lengths (Err bad) = no_refusal

-- 1 to 5, then the command lines
unfoldable pub open_refusal : ℕ → List ℕ → Lengths → Refusal
open_refusal least s lengths =
    pick (eqb (start_refusal s lengths).number none) (commands_refusal least s lengths (header_of s)) (start_refusal s lengths)

-- where the command lines start
unfoldable pub first_at : Result Header BadHeader → ℕ
first_at (Ok h) = h.first
first_at (Err bad) = 0

-- an accepted opening's state: at the first command line, no stash, nothing taken, no refusal
unfoldable pub accepted_state : List ℕ → Lengths → State
accepted_state s lengths = state_at first_line (first_at (header_of s)) no_refusal lengths

abbrev pub no_lengths : Lengths
no_lengths = record { list = 0; image = 0; stash = 0; work = 0; result = 0; patch = 0 }

-- a refused opening's state holds that refusal and is otherwise zero
unfoldable pub refused_state : Refusal → State
refused_state refused = state_at 0 0 refused no_lengths

-- the lengths of the text, of the areas and of the patch data
abbrev pub lengths_of : List ℕ → ℕ → ℕ → ℕ → ℕ → ℕ → Lengths
lengths_of s image stash work result patch =
    record { list = length s; image = image; stash = stash; work = work; result = result; patch = patch }

-- what an opening gives: the state, which holds its refusal, if any
unfoldable pub open_state : ℕ → List ℕ → Lengths → State
open_state least s lengths =
    pick (eqb (open_refusal least s lengths).number none) (accepted_state s lengths) (refused_state (open_refusal least s lengths))
