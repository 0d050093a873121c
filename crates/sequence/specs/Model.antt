-- Document 01, "The model", and document 02, R-4 and R-8: it is fed the list text, image, areas and patch data as they stood at opening, and
-- all pieces joined; it mentions no call and no piece.
-- Assumes nothing: these are definitions.
use Rattle.std.specs.Prelude.{ℕ, zero, suc, ◌+◌, ◌*◌, List, [], length, take, drop, leb, eqb}
use Rattle.text.specs.Choice.{pick}
use Rattle.text.specs.Line.{line_at}
use Rattle.text.specs.Read.{on_option}
use Rattle.ranges.specs.Walk.{blocks_at}
use Rattle.ranges.specs.declared.RangeSet.{RangeSet}
use Rattle.state.specs.Limits.{block_bytes}
use Rattle.state.specs.Refusals.{none}
use Rattle.state.specs.Stashes.{Stash}
use Rattle.state.specs.States.{refusing, no_refusal}
use Rattle.state.specs.declared.Refusal.{Refusal}
use Rattle.command.specs.Commands.{command_of}
use Rattle.command.specs.Targets.{new_target}
use Rattle.command.specs.declared.Line.{Line}
use Rattle.rules.specs.Held.{held_after}
use Rattle.transfer_list.specs.Header.{first_line, header_of}
use Rattle.transfer_list.specs.Opening.{first_at}
use Rattle.updater.specs.Areas.{Areas, with_image}
use Rattle.updater.specs.Bytes.{put_bytes}
use Rattle.updater.specs.Effect.{Effect, effect}
use Rattle.updater.specs.Calls.{outcome_at}
use Rattle.updater.specs.declared.Outcome.{Outcome}

-- image, areas and patch data, the stashes, the current line (its number and where it starts), the bytes into a `new`, the bytes taken, and a
-- refusal or none
pub record Model : Type 0 where
  pub areas : Areas
  pub stashes : List Stash
  pub line : ℕ
  pub at : ℕ
  pub into : ℕ
  pub taken : ℕ
  pub refusal : Refusal

-- with other areas and stashes
abbrev pub with_areas : Model → Areas → List Stash → Model
with_areas m areas stashes =
    record {
      areas = areas;
      stashes = stashes;
      line = m.line;
      at = m.at;
      into = m.into;
      taken = m.taken;
      refusal = m.refusal;
    }

-- at another line, or with other bytes into a `new`
abbrev pub with_cursor : Model → ℕ → ℕ → ℕ → Model
with_cursor m line at into =
    record {
      areas = m.areas;
      stashes = m.stashes;
      line = line;
      at = at;
      into = into;
      taken = m.taken;
      refusal = m.refusal;
    }

-- with other bytes taken and another refusal
abbrev pub with_answer : Model → ℕ → Refusal → Model
with_answer m taken refused =
    record {
      areas = m.areas;
      stashes = m.stashes;
      line = m.line;
      at = m.at;
      into = m.into;
      taken = taken;
      refusal = refused;
    }

-- the line ends: the next one is current, and the bytes into a `new` are 0 again
abbrev pub line_ends : List ℕ → Model → Model
line_ends l m = with_cursor m (m.line + 1) (m.at + length l) 0

-- `new`: bytes go one by one to R's bytes, in the written order; each counts as taken and as a byte into the `new`
abbrev pub with_bytes : List ℕ → List ℕ → Model → Model
with_bytes blocks bytes m =
    with_answer
    (with_cursor (with_areas m (with_image m.areas (put_bytes blocks 0 bytes m.areas.image)) m.stashes) m.line m.at (length bytes))
    (m.taken + length bytes)
    m.refusal

-- a `new`; `next` is what the lines after it do with the bytes not yet taken. After R's last byte the line ends; before a byte that is not
-- there the model does, staying at the line
abbrev pub do_new : (Model → List ℕ → Model) → List ℕ → RangeSet → Model → List ℕ → Model
do_new next l set m xs =
    pick (leb (block_bytes * set.blocks) (length xs))
    (next (line_ends l (with_bytes (blocks_at l set.at) (take (block_bytes * set.blocks) xs) m)) (drop (block_bytes * set.blocks) xs))
    (with_bytes (blocks_at l set.at) xs m)

-- any other command: its effect, which is nothing where it is finished, and what is held after it; a command that stops (a hash differs, a
-- patch is malformed) is refused with its number and line, and nothing more is written
abbrev pub do_effect : (Model → List ℕ → Model) → List ℕ → Line → Model → List ℕ → Effect → Model
do_effect next l line m xs e =
    pick (eqb e.refusal none)
    (next (line_ends l (with_areas m e.areas (held_after m.stashes line.hash line.command))) xs)
    (with_answer (with_areas m e.areas m.stashes) m.taken (refusing e.refusal m.line))

-- one line
abbrev pub do_line : (Model → List ℕ → Model) → List ℕ → Line → Model → List ℕ → Model
do_line next l line m xs =
    on_option (new_target line.command)
    (λ set. do_new next l set m xs)
    (do_effect next l line m xs (effect l m.stashes line.hash line.command m.areas))

-- n lines at most: it ends at the text's end, staying at the current line
unfoldable pub run_lines : ℕ → ℕ → List ℕ → Model → List ℕ → Model
run_lines least zero s m xs = m
run_lines least (suc n) s m xs =
    pick (leb (length s) m.at) m (do_line (run_lines least n s) (line_at s m.at) (command_of least (line_at s m.at)) m xs)

-- it starts at the first command line with no stash, both counts 0 and no refusal
unfoldable pub model_start : List ℕ → Areas → Model
model_start s areas =
    record {
      areas = areas;
      stashes = [];
      line = first_line;
      at = first_at (header_of s);
      into = 0;
      taken = 0;
      refusal = no_refusal;
    }

-- where it ends; each line has a byte or more, so a text has fewer lines than this
unfoldable pub model : ℕ → List ℕ → Areas → List ℕ → Model
model least s areas joined = run_lines least (suc (length s)) s (model_start s areas) joined

-- refused, at the text's end done, else more
abbrev pub model_outcome : List ℕ → Model → Outcome
model_outcome s m = outcome_at (length s) m.at m.refusal
