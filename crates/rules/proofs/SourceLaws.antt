-- The tests of a source by the blocks of the image that it has, and by the sums of the stashes that it names.
-- Assumes nothing.
use mathlib.Core.Path.{◌≡◌, refl}
use mathlib.Core.Bool.{false}
use mathlib.Core.List.{List}
use Prim.Native.Nat.{ℕ}
use Rattle.text.specs.Read.{on_option}
use Rattle.state.specs.Stashes.{Stash}
use Rattle.command.specs.declared.source.Source.{Source}
use Rattle.command.specs.declared.source.Source.TheVariants.{Blocks, Stashes, Both}
use Rattle.rules.specs.Move.{ends_past, over_work, source_past, source_over, blocks_of, uses_by, source_missing}
use Rattle.rules.specs.Sums.{sums_of}
use Rattle.rules.specs.declared.Terms.{Terms}

pub past_by_blocks : (terms : Terms) (source : Source) → source_past terms source ≡ on_option (blocks_of source) (λ set. ends_past terms set) false
unfolding source_past blocks_of
past_by_blocks terms (Blocks set) = refl
past_by_blocks terms (Stashes first) = refl
past_by_blocks terms (Both set places first) = refl

pub over_by_blocks : (terms : Terms) (source : Source) → source_over terms source ≡ on_option (blocks_of source) (λ set. over_work terms set.blocks) false
unfolding source_over blocks_of
over_by_blocks terms (Blocks set) = refl
over_by_blocks terms (Stashes first) = refl
over_by_blocks terms (Both set places first) = refl

pub missing_by_sums : (l : List ℕ) (held : List Stash) (source : Source) → source_missing l held source ≡ (sums_of held (uses_by l source)).missing
unfolding sums_of
missing_by_sums l held source = refl
