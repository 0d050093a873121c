-- What holds at each configuration that a run of an opened list comes to.
-- Assumes nothing: these are definitions.
use mathlib.Core.Path.{◌≡◌}
use mathlib.Core.Bool.{true, false}
use mathlib.Core.List.{List}
use mathlib.Core.Logic.{◌⊎◌}
use Prim.Native.Nat.{ℕ, ◌+◌, ◌-◌, ◌*◌, ◌≤◌, ◌<◌}
use lib.ListN.{length, get_or}
use Rattle.text.specs.Line.{line_at, line_number}
use Rattle.text.specs.Expected.{lf}
use Rattle.ranges.specs.Ranges.{least_blocks}
use Rattle.ranges.specs.declared.RangeSet.{RangeSet}
use Rattle.state.specs.Limits.{block_bytes}
use Rattle.state.specs.Refusals.{none}
use Rattle.state.specs.Stashes.{held, held_twice, holds_empty}
use Rattle.state.specs.States.{no_refusal}
use Rattle.state.specs.declared.Lengths.{Lengths}
use Rattle.state.specs.declared.State.{State}
use Rattle.command.specs.Commands.{command_of}
use Rattle.command.specs.Filling.{fills}
use Rattle.command.specs.declared.Command.TheVariants as command
use Rattle.rules.specs.Rules.{target_refusal}
use Rattle.rules.specs.declared.Terms.{Terms}
use Rattle.transfer_list.specs.Header.{header_of, start_refusal}
use Rattle.transfer_list.specs.Opening.{terms_of, lines_refusal}
use Rattle.transfer_list.specs.declared.header.Header.{Header}
use Rattle.updater.specs.Effect.{InRun}
use Rattle.updater.specs.Fits.{Fits}
use Rattle.updater.specs.Steps.{Config}
use Rattle.std.specs.Prelude.{Ok}

-- ---- the walk of an opening that was accepted

-- what is left of the walk: n is more than the lines left
pub record WalkLeft (s : List ℕ) (terms : Terms) (h : Header) (p : Config) : Type 0 where
  pub n : ℕ
  pub counted : ℕ
  pub enough : length s < n + p.state.at
  pub accepted : lines_refusal least_blocks n s terms h p.state.line p.state.at (held p.state) counted ≡ no_refusal

-- nothing is refused and the walk goes on from here, or a command was refused
pub data OpenOrRefused (s : List ℕ) (terms : Terms) (h : Header) (p : Config) : Type 0 where
  going : p.state.refusal ≡ no_refusal → WalkLeft s terms h p → OpenOrRefused s terms h p
  refused : InRun p.state.refusal.number → OpenOrRefused s terms h p

-- the line at a position is a good `new` with that many bytes or more
pub record IntoNew (s : List ℕ) (terms : Terms) (at into : ℕ) : Type 0 where
  pub set : RangeSet
  pub is_new : (command_of least_blocks (line_at s at)).command ≡ command.New set
  pub good : target_refusal terms set ≡ none
  pub within : into ≤ block_bytes * set.blocks

-- right after the last byte of a `new` all of its bytes are in, and the line has not ended yet
abbrev pub Into : List ℕ → Terms → State → Type 0
Into s terms state = (state.into ≡ 0) ⊎ IntoNew s terms state.at state.into

-- nothing is ready, or the line is one that fills an area (R-9)
abbrev pub Ready : List ℕ → State → Type 0
Ready s state = (state.ready ≡ 0) ⊎ (fills (command_of least_blocks (line_at s state.at)).command ≡ true)

-- the lengths are those at opening
pub record Lent (s : List ℕ) (lengths : Lengths) (p : Config) : Type 0 where
  pub opened : p.state.lengths ≡ lengths
  pub list : lengths.list ≡ length s
  pub image : lengths.image ≡ length p.areas.image
  pub stash : lengths.stash ≡ length p.areas.stash
  pub work : lengths.work ≡ length p.areas.work
  pub result : lengths.result ≡ length p.areas.result
  pub patch : lengths.patch ≡ length p.areas.patch

-- the state is at the start of a command line and has its number
pub record AtLine (s : List ℕ) (h : Header) (state : State) : Type 0 where
  pub first : h.first ≤ state.at
  pub ended : get_or s (state.at - 1) 0 ≡ lf
  pub line : state.line ≡ line_number s state.at

-- a configuration of a run of a list that was opened
pub record Running (s : List ℕ) (lengths : Lengths) (h : Header) (p : Config) : Type 0 where
  pub fits : Fits s (terms_of lengths h) p
  pub lent : Lent s lengths p
  pub start : (start_refusal s lengths).number ≡ none
  pub header : header_of s ≡ Ok h
  pub at_line_lem : AtLine s h p.state
  pub once : held_twice (held p.state) ≡ false
  pub none-empty : holds_empty (held p.state) ≡ false
  pub into : Into s (terms_of lengths h) p.state
  pub ready : Ready s p.state
  pub goes : OpenOrRefused s (terms_of lengths h) h p
