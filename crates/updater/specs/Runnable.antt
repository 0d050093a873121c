-- What the code of a command rests on: its blocks lie within the areas and its sizes agree. A line that is not refused has it
-- (proofs/RunnableLaws.antt). No reader of the rules needs this page.
-- Assumes nothing: these are definitions.
use Rattle.std.specs.Prelude.{◌≡◌, ℕ, ◌+◌, ◌*◌, ◌/◌, ◌≤◌, List, [], ◌∷◌, length, Option, Some, None}
use Rattle.ranges.specs.Walk.{blocks_at, AllBelow}
use Rattle.ranges.specs.declared.RangeSet.{RangeSet}
use Rattle.state.specs.Limits.{block_bytes, most_area_blocks}
use Rattle.state.specs.Stashes.{Stash, find_in, size_at, blocks_held}
use Rattle.command.specs.Parts.{StashUse, uses_at}
use Rattle.command.specs.declared.Command.{Command}
use Rattle.command.specs.declared.Command.TheVariants as command
use Rattle.command.specs.declared.source.Source.{Source}
use Rattle.command.specs.declared.source.Source.TheVariants.{Blocks, Stashes, Both}
use Rattle.command.specs.Patching.{patching_of}
use Rattle.command.specs.declared.patching.Patching.{Patching}
use Rattle.updater.specs.Areas.{Areas}

-- the whole blocks of an area
abbrev pub blocks_in : List ℕ → ℕ
blocks_in area = length area / block_bytes

-- what is held lies within a stash area
pub record Keeps (stashes : List Stash) (stash : List ℕ) : Type 0 where
  pub blocks : blocks_held stashes ≤ most_area_blocks
  pub room : block_bytes * blocks_held stashes ≤ length stash

-- as many blocks as the found stash has
abbrev pub FoundSize : List Stash → ℕ → Option ℕ → Type 0
FoundSize stashes n (Some j) = size_at stashes j ≡ n
FoundSize stashes n None = ⊥

-- a stash that is held, of as many blocks as its places, which are all below n
pub record Spread (l : List ℕ) (stashes : List Stash) (n : ℕ) (named : StashUse) : Type 0 where
  pub size : FoundSize stashes (length (blocks_at l named.places.at)) (find_in stashes named.hash)
  pub below : AllBelow n (blocks_at l named.places.at)

abbrev pub use_of : List ℕ → RangeSet → StashUse
use_of hash places = record { hash = hash; places = places }

unfoldable pub Spreads : List ℕ → List Stash → ℕ → List StashUse → Type 0
Spreads l stashes n [] = Unit {0}
Spreads l stashes n (p ∷ ps) = Spread l stashes n p × Spreads l stashes n ps

-- a range set's blocks lie within the image, and it has as many as it says
pub record InImage (l image : List ℕ) (set : RangeSet) : Type 0 where
  pub below : AllBelow (blocks_in image) (blocks_at l set.at)
  pub size : length (blocks_at l set.at) ≡ set.blocks

-- L's places lie within the work area, as many as S has blocks
pub record InWork (l work : List ℕ) (set places : RangeSet) : Type 0 where
  pub below : AllBelow (blocks_in work) (blocks_at l places.at)
  pub size : length (blocks_at l places.at) ≡ set.blocks

-- a source can be put together from an image and a stash area in a work area
unfoldable pub Sourced : List ℕ → List Stash → List ℕ → List ℕ → Source → Type 0
Sourced l stashes image work (Blocks set) = InImage l image set × (set.blocks ≤ blocks_in work)
Sourced l stashes image work (Stashes first) = Spreads l stashes (blocks_in work) (uses_at l first)
Sourced l stashes image work (Both set places first) =
    InImage l image set × InWork l work set places × Spreads l stashes (blocks_in work) (uses_at l first)

pub record MoveRuns (l : List ℕ) (stashes : List Stash) (image work : List ℕ) (target : RangeSet) (n : ℕ) (source : Source) : Type 0 where
  pub goal : InImage l image target
  pub size : target.blocks ≡ n
  pub room : n ≤ blocks_in work
  pub from : Sourced l stashes image work source

-- a patch lies within the patch data, its source within the work area, and what it makes within the result area
pub record PatchRuns (l image work result patch : List ℕ) (patching : Patching) (target : RangeSet) (n : ℕ) : Type 0 where
  pub goal : InImage l image target
  pub room : n ≤ blocks_in work
  pub holds : target.blocks ≤ blocks_in result
  pub within : patching.start + patching.length ≤ length patch

pub record BsdiffRuns (l : List ℕ) (stashes : List Stash) (a : Areas) (target : RangeSet) (n : ℕ) (source : Source) : Type 0 where
  pub patched : PatchRuns l a.image a.work a.result a.patch (patching_of l) target n
  pub from : Sourced l stashes a.image a.work source

pub record StashRuns (l : List ℕ) (stashes : List Stash) (image stash work : List ℕ) (set : RangeSet) : Type 0 where
  pub from : InImage l image set
  pub room : set.blocks ≤ blocks_in work
  pub fits : block_bytes * (blocks_held stashes + set.blocks) ≤ length stash
  pub most : blocks_held stashes + set.blocks ≤ most_area_blocks

-- a command can run
unfoldable pub Runnable : List ℕ → List Stash → Areas → Command → Type 0
Runnable l stashes a (command.Zero set) = InImage l a.image set
Runnable l stashes a (command.Erase set) = InImage l a.image set
Runnable l stashes a (command.New set) = InImage l a.image set
Runnable l stashes a (command.Move target n source) = MoveRuns l stashes a.image a.work target n source
Runnable l stashes a (command.Bsdiff target n source) = BsdiffRuns l stashes a target n source
Runnable l stashes a (command.Stash set) = StashRuns l stashes a.image a.stash a.work set
Runnable l stashes a command.Free = Unit {0}
Runnable l stashes a command.Unsupported = Unit {0}
Runnable l stashes a (command.Bad q) = Unit {0}
