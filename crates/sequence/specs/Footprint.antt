-- Document 01, "The list text", "Putting a source together" and "The stash area", and document 02, R-4 and R-8: which blocks of the lent
-- areas the lines of a text may change, and which blocks of the image a command reads. Demand: of the image only a command's target blocks
-- change.
-- Assumes nothing: these are definitions.
use Rattle.std.specs.Prelude.{◌≡◌, true, false, List, ℕ, ◌-◌, ◌/◌, ◌≤◌, length, get_or, Result, Ok, Err}
use Rattle.text.specs.Line.{line_at}
use Rattle.text.specs.Expected.{lf}
use Rattle.ranges.specs.Ranges.{least_blocks}
use Rattle.state.specs.Limits.{block_bytes}
use Rattle.state.specs.Refusals.{none}
use Rattle.state.specs.Stashes.{Stash}
use Rattle.command.specs.Commands.{command_of}
use Rattle.command.specs.Targets.{target_blocks, source_blocks}
use Rattle.command.specs.declared.Command.{Command}
use Rattle.command.specs.declared.Command.TheVariants as command
use Rattle.rules.specs.Move.{is_in}
use Rattle.transfer_list.specs.Header.{header_of}
use Rattle.transfer_list.specs.Opening.{first_at}
use Rattle.updater.specs.Areas.{Areas, with_image}
use Rattle.updater.specs.Effect.{Effect, effect_of, is_finished, effect}
use Rattle.transfer_list.specs.declared.header.Header.{Header}
use Rattle.transfer_list.specs.declared.header.BadHeader.{BadHeader}

-- an area is as long as before, and its bytes in those blocks are as before
pub record SameIn (blocks : ℕ → Type 0) (before after : List ℕ) : Type 0 where
  pub size : length after ≡ length before
  pub bytes : (k : ℕ) → blocks (k / block_bytes) → get_or after k 0 ≡ get_or before k 0

-- ---- what lines write

-- the blocks of the work area that a command fills: N of a `move` or a `bsdiff`, as many as S has of a `stash`
unfoldable pub source_length : Command → ℕ
source_length (command.Zero set) = 0
source_length (command.Erase set) = 0
source_length (command.New set) = 0
source_length (command.Move target n source) = n
source_length (command.Bsdiff target n source) = n
source_length (command.Stash set) = set.blocks
source_length command.Free = 0
source_length command.Unsupported = 0
source_length (command.Bad p) = 0

-- the blocks of the result area that a command fills: as many as R has of a `bsdiff`
unfoldable pub result_length : Command → ℕ
result_length (command.Zero set) = 0
result_length (command.Erase set) = 0
result_length (command.New set) = 0
result_length (command.Move target n source) = 0
result_length (command.Bsdiff target n source) = target.blocks
result_length (command.Stash set) = 0
result_length command.Free = 0
result_length command.Unsupported = 0
result_length (command.Bad p) = 0

abbrev pub command_at : List ℕ → ℕ → Command
command_at s at = (command_of least_blocks (line_at s at)).command

-- line 4
unfoldable pub most_blocks : Result Header BadHeader → ℕ
most_blocks (Ok h) = h.blocks
most_blocks (Err bad) = 0

-- a command line starts at a position of the text, and it is the one at `last` or an earlier one
pub record UpTo (s : List ℕ) (last at : ℕ) : Type 0 where
  pub first : first_at (header_of s) ≤ at
  pub reached : at ≤ last
  pub start : get_or s (at - 1) 0 ≡ lf

-- once the lines up to the one at `last` were reached, these blocks are as before: of the image those in no target of theirs, of the work
-- area those past every source of theirs, of the result area those past every result of theirs, of the stash area those past line 4's; and
-- so is all of the patch data
pub record OnlyWritten (s : List ℕ) (last : ℕ) (before after : Areas) : Type 0 where
  pub image : SameIn (λ b. (at : ℕ) → UpTo s last at → is_in b (target_blocks (line_at s at) (command_at s at)) ≡ false)
      before.image after.image
  pub work : SameIn (λ b. (at : ℕ) → UpTo s last at → source_length (command_at s at) ≤ b) before.work after.work
  pub result : SameIn (λ b. (at : ℕ) → UpTo s last at → result_length (command_at s at) ≤ b) before.result after.result
  pub stash : SameIn (λ b. most_blocks (header_of s) ≤ b) before.stash after.stash
  pub patch : after.patch ≡ before.patch

-- ---- what a command reads

-- whether a command is finished goes by its target blocks alone
abbrev pub FinishedByTarget : Type 0
FinishedByTarget =
    (l hash : List ℕ) (c : Command) (image other : List ℕ) →
    SameIn (λ b. is_in b (target_blocks l c) ≡ true) image other → is_finished l hash c other ≡ is_finished l hash c image

-- where it is, nothing changes and nothing is refused
abbrev pub FinishedLeaves : Type 0
FinishedLeaves =
    (l : List ℕ) (held : List Stash) (hash : List ℕ) (c : Command) (a : Areas) →
    is_finished l hash c a.image ≡ true → effect l held hash c a ≡ effect_of a none

-- two effects leave the same stash, work and result area, and stop with the same number
pub record SameButImage (x y : Effect) : Type 0 where
  pub stash : y.areas.stash ≡ x.areas.stash
  pub work : y.areas.work ≡ x.areas.work
  pub result : y.areas.result ≡ x.areas.result
  pub refusal : y.refusal ≡ x.refusal

-- where it is not, it reads its source blocks alone, of the image: what it puts together, patches and stashes is the same over an image that is
-- alike there, and on which it is not finished either
abbrev pub OnlyRead : Type 0
OnlyRead =
    (l : List ℕ) (held : List Stash) (hash : List ℕ) (c : Command) (a : Areas) (image : List ℕ) →
    is_finished l hash c image ≡ is_finished l hash c a.image →
    (is_finished l hash c a.image ≡ false → SameIn (λ b. is_in b (source_blocks l c) ≡ true) a.image image) →
    SameButImage (effect l held hash c a) (effect l held hash c (with_image a image))
