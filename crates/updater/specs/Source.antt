-- Document 01, "Putting a source together" and "The stash area", and document 02, R-8: what blocks hash to, and R-9: a `free` in stretches.
-- Assumes nothing: these are definitions.
use Rattle.std.specs.Prelude.{ℕ, ◌+◌, ◌*◌, Bool, List, [], ◌∷◌, take, drop, Option, Some, None}
use Rattle.sha1_digest.specs.Sha1.{sha1}
use Rattle.ranges.specs.Ranges.{span}
use Rattle.ranges.specs.Walk.{blocks_at}
use Rattle.state.specs.Limits.{block_bytes}
use Rattle.state.specs.Stashes.{Stash, same, find_in, size_at, stash_start, younger}
use Rattle.state.specs.Stretches.{stretch_blocks}
use Rattle.command.specs.Parts.{StashUse, uses_at}
use Rattle.command.specs.declared.source.Source.{Source}
use Rattle.command.specs.declared.source.Source.TheVariants.{Blocks, Stashes, Both}
use Rattle.updater.specs.Bytes.{gathered, written, moved_down}

abbrev pub found_bytes : List Stash → List ℕ → Option ℕ → List ℕ
found_bytes held stash (Some j) = take (block_bytes * size_at held j) (drop (block_bytes * stash_start held j) stash)
found_bytes held stash None = []

-- the whole stash of a hash
unfoldable pub stash_bytes : List Stash → List ℕ → List ℕ → List ℕ
stash_bytes held stash hash = found_bytes held stash (find_in held hash)

-- each P's whole stash is spread over its places, in order
unfoldable pub spread : List ℕ → List Stash → List ℕ → List StashUse → List ℕ → List ℕ
spread l held stash [] work = work
spread l held stash (p ∷ ps) work =
    spread l held stash ps (written (blocks_at l p.places.at) (stash_bytes held stash p.hash) work)

-- S of n blocks supplies blocks 0 to n-1 of the work area
unfoldable pub supplied : List ℕ → List ℕ → ℕ → ℕ → List ℕ → List ℕ
supplied l image at n work = written (span 0 n) (gathered (blocks_at l at) image) work

-- the source of a `move` or of a `bsdiff`, put together in the work area: form one; the stashes alone; the blocks of S over L's places, then
-- the stashes
unfoldable pub together : List ℕ → List ℕ → List ℕ → List Stash → Source → List ℕ → List ℕ
together l image stash held (Blocks set) work = supplied l image set.at set.blocks work
together l image stash held (Stashes first) work = spread l held stash (uses_at l first) work
together l image stash held (Both set places first) work =
    spread l held stash (uses_at l first) (written (blocks_at l places.at) (gathered (blocks_at l set.at) image) work)

-- the first n blocks of an area hash to a hash
unfoldable pub hashes_to : List ℕ → ℕ → List ℕ → Bool
hashes_to area n hash = same (sha1 (take (block_bytes * n) area)) hash

-- blocks of an area, joined in the order named, hash to a hash
unfoldable pub blocks_hash_to : List ℕ → List ℕ → List ℕ → Bool
blocks_hash_to bs area hash = same (sha1 (gathered bs area)) hash

-- the stash area without stash j: the younger ones move down over the gap
unfoldable pub closed_up : List Stash → ℕ → List ℕ → List ℕ
closed_up held j stash =
    moved_down stash (block_bytes * stash_start held j) (block_bytes * (stash_start held j + size_at held j))
    (block_bytes * younger held j)

-- the block that stretch k of them goes to, k stretches having gone before it
abbrev pub stretch_start : List Stash → ℕ → ℕ → ℕ
stretch_start held j k = stash_start held j + k * size_at held j

-- the stash area after stretch k: each stretch moves down by the gap
unfoldable pub stretched : List Stash → ℕ → ℕ → List ℕ → List ℕ
stretched held j k stash =
    moved_down stash (block_bytes * stretch_start held j k) (block_bytes * (stretch_start held j k + size_at held j))
    (block_bytes * stretch_blocks (size_at held j) (younger held j) k)
