-- Document 02, R-7: lists without an empty range. Said of their lines as they were read before R-7, when an empty range was good.
-- Assumes nothing: these are definitions.
use Rattle.std.specs.Prelude.{ℕ, ◌≤◌, ◌≡◌, Bool, false, List, [], ◌∷◌, eqb, Ok, Err}
use Rattle.text.specs.Choice.{either}
use Rattle.text.specs.Line.{line_at}
use Rattle.text.specs.declared.number.Need.TheVariants as need
use Rattle.ranges.specs.Ranges.{Range, item_at, pair_at}
use Rattle.ranges.specs.Walk.{ranges_of}
use Rattle.ranges.specs.declared.RangeSet.{RangeSet}
use Rattle.command.specs.Commands.{command_of}
use Rattle.command.specs.Parts.{StashUse, uses_at}
use Rattle.command.specs.declared.source.Source.{Source}
use Rattle.command.specs.declared.source.Source.TheVariants.{Blocks, Stashes, Both}
use Rattle.command.specs.declared.Command.{Command}
use Rattle.command.specs.declared.Command.TheVariants.{Zero, Erase, New, Move, Bsdiff, Stash, Free, Unsupported, Bad}
use Rattle.transfer_list.specs.Header.{first_line}
use Rattle.transfer_list.specs.Faults.{line_start}
use Rattle.text.specs.Read.{Read, on_read}

-- before R-7 a range could have no block
abbrev pub least_before : ℕ
least_before = 0

-- a pair as it was read then: a start that may be any number, and an end that is not below it
abbrev pub pair_before : List ℕ → ℕ → Read (ℕ × ℕ)
pair_before s at =
    on_read (item_at need.Any s at) (λ start i. on_read (item_at (need.AtLeast start) s i) (λ x y. Ok ((start, x), y)) Err) Err

-- .. and so it is read with that number, faults and all; the other definitions only hand it on
abbrev pub PairsAsBefore : Type 0
PairsAsBefore = (s : List ℕ) (at : ℕ) → pair_at least_before s at ≡ pair_before s at

-- some range ends at its start
unfoldable pub some_empty : List Range → Bool
some_empty [] = false
some_empty (r ∷ rs) = either (eqb r.start r.end) (some_empty rs)

-- .. of a set that stands in the line l
unfoldable pub empty_in_set : List ℕ → RangeSet → Bool
empty_in_set l set = some_empty (ranges_of l set.at)

-- .. of the places of some Ps
unfoldable pub empty_in_uses : List ℕ → List StashUse → Bool
empty_in_uses l [] = false
empty_in_uses l (p ∷ ps) = either (empty_in_set l p.places) (empty_in_uses l ps)

-- .. of a source: of S, of L, or of a P's L
unfoldable pub empty_in_source : List ℕ → Source → Bool
empty_in_source l (Blocks set) = empty_in_set l set
empty_in_source l (Stashes first) = empty_in_uses l (uses_at l first)
empty_in_source l (Both set places first) = either (empty_in_set l set) (either (empty_in_set l places) (empty_in_uses l (uses_at l first)))

-- .. of a command; an ill formed line has no range, and nobody reads those of an `imgdiff`
unfoldable pub empty_in_command : List ℕ → Command → Bool
empty_in_command l (Zero set) = empty_in_set l set
empty_in_command l (Erase set) = empty_in_set l set
empty_in_command l (New set) = empty_in_set l set
empty_in_command l (Move target n source) = either (empty_in_set l target) (empty_in_source l source)
empty_in_command l (Bsdiff target n source) = either (empty_in_set l target) (empty_in_source l source)
empty_in_command l (Stash set) = empty_in_set l set
empty_in_command l Free = false
empty_in_command l Unsupported = false
empty_in_command l (Bad p) = false

-- a line that has an empty range
unfoldable pub has_empty : List ℕ → Bool
has_empty l = empty_in_command l (command_of least_before l).command

-- a list none of whose command lines has one
abbrev pub WithoutEmpty : List ℕ → Type 0
WithoutEmpty s = (line : ℕ) → first_line ≤ line → has_empty (line_at s (line_start s line)) ≡ false
