-- Document 01, "The list text": which blocks of the image a command writes and reads.
-- Assumes nothing: these are definitions.
use Rattle.std.specs.Prelude.{List, [], ℕ, Option, Some, None}
use Rattle.ranges.specs.Walk.{blocks_at}
use Rattle.ranges.specs.declared.RangeSet.{RangeSet}
use Rattle.command.specs.declared.source.Source.{Source}
use Rattle.command.specs.declared.source.Source.TheVariants.{Blocks, Stashes, Both}
use Rattle.command.specs.declared.Command.{Command}
use Rattle.command.specs.declared.Command.TheVariants.{Zero, Erase, New, Move, Bsdiff, Stash, Free, Unsupported, Bad}

-- the target that takes new data: that of a `new`
unfoldable pub new_target : Command → Option RangeSet
new_target (Zero set) = None
new_target (Erase set) = None
new_target (New set) = Some set
new_target (Move target n source) = None
new_target (Bsdiff target n source) = None
new_target (Stash set) = None
new_target Free = None
new_target Unsupported = None
new_target (Bad p) = None

-- the blocks of a command's target, on the line l: those of R; a command without a target has none
unfoldable pub target_blocks : List ℕ → Command → List ℕ
target_blocks l (Zero set) = blocks_at l set.at
target_blocks l (Erase set) = blocks_at l set.at
target_blocks l (New set) = blocks_at l set.at
target_blocks l (Move target n source) = blocks_at l target.at
target_blocks l (Bsdiff target n source) = blocks_at l target.at
target_blocks l (Stash set) = []
target_blocks l Free = []
target_blocks l Unsupported = []
target_blocks l (Bad p) = []

-- the blocks of the image that a source reads: those of S
unfoldable pub image_blocks_of : List ℕ → Source → List ℕ
image_blocks_of l (Blocks set) = blocks_at l set.at
image_blocks_of l (Stashes first) = []
image_blocks_of l (Both set places first) = blocks_at l set.at

-- the blocks of the image that the source of a command reads
unfoldable pub source_blocks : List ℕ → Command → List ℕ
source_blocks l (Zero set) = []
source_blocks l (Erase set) = []
source_blocks l (New set) = []
source_blocks l (Move target n source) = image_blocks_of l source
source_blocks l (Bsdiff target n source) = image_blocks_of l source
source_blocks l (Stash set) = blocks_at l set.at
source_blocks l Free = []
source_blocks l Unsupported = []
source_blocks l (Bad p) = []
