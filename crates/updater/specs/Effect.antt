-- Document 01, "The list text", "Putting a source together" and "The stash area", and document 02, R-4, R-8 and R-9: what each command does to
-- the lent areas, given the stashes that are held. The model goes by `effect`, a whole line; a call by its parts, `filled` and `written_from`
-- (Steps.antt).
-- Assumes nothing: these are definitions.
use Rattle.std.specs.Prelude.{◌≡◌, ℕ, ◌*◌, Bool, false, ◌⊎◌, List, take, drop, ◌==◌, Option, Some, None}
use Rattle.text.specs.Choice.{pick}
use Rattle.ranges.specs.Walk.{blocks_at}
use Rattle.ranges.specs.declared.RangeSet.{RangeSet}
use Rattle.state.specs.Limits.{block_bytes}
use Rattle.state.specs.Refusals.{none, hash_differs, patch_malformed}
use Rattle.state.specs.Stashes.{Stash, find_in, blocks_held}
use Rattle.command.specs.declared.Command.{Command}
use Rattle.command.specs.declared.Command.TheVariants as command
use Rattle.command.specs.declared.source.Source.{Source}
use Rattle.command.specs.Patching.{patching_of, result_hash}
use Rattle.command.specs.declared.patching.Patching.{Patching}
use Rattle.patch.specs.Patch.{is_patch, patched_by}
use Rattle.updater.specs.Areas.{Areas, with_image, with_stash, with_work, with_result}
use Rattle.copy.specs.Over.{over}
use Rattle.updater.specs.Bytes.{zeroed, written}
use Rattle.updater.specs.Source.{supplied, together, closed_up, hashes_to, blocks_hash_to}

-- the areas that a command leaves, and the number that it is refused with, none where it is not
pub record Effect : Type 0 where
  pub areas : Areas
  pub refusal : ℕ

abbrev pub effect_of : Areas → ℕ → Effect
effect_of areas refusal = record { areas = areas; refusal = refusal }

-- the numbers that a command can stop with: a hash differs, or a patch is malformed
abbrev pub InRun : ℕ → Type 0
InRun number = (number ≡ hash_differs) ⊎ (number ≡ patch_malformed)

-- ---- filling: the work area, for a `bsdiff` the result area too, is filled with what is then written

-- none where a hash is the one that is asked for
abbrev pub hash_refusal : Bool → ℕ
hash_refusal good = pick good none hash_differs

-- `move`: the source is put together in the work area, and must hash to H; a hash that differs stops it, with image, stash and result area as
-- the line found them
unfoldable pub move_filled : List ℕ → List Stash → List ℕ → ℕ → Source → Areas → Effect
move_filled l held hash n source a =
    effect_of (with_work a (together l a.image a.stash held source a.work))
    (hash_refusal (hashes_to (together l a.image a.stash held source a.work) n hash))

-- `stash`: S is read through the work area likewise
unfoldable pub stash_filled : List ℕ → List ℕ → RangeSet → Areas → Effect
stash_filled l hash set a =
    effect_of (with_work a (supplied l a.image set.at set.blocks a.work))
    (hash_refusal (hashes_to (supplied l a.image set.at set.blocks a.work) set.blocks hash))

-- B bytes at O of the patch data
abbrev pub patch_of : Patching → Areas → List ℕ
patch_of patching a = take patching.length (drop patching.start a.patch)

-- what the patch makes of the source, n blocks of the work area, goes to the front of the result area
abbrev pub result_made : Patching → ℕ → Areas → Areas
result_made patching n a = with_result a (over a.result 0 (patched_by (patch_of patching a) (take (block_bytes * n) a.work)))

-- .. and must hash to T
unfoldable pub result_filled : List ℕ → Patching → RangeSet → Areas → Effect
result_filled l patching target a =
    effect_of a (hash_refusal (hashes_to a.result target.blocks (result_hash l patching.hashes)))

-- the patch turns the source into the target's bytes, which go to the result area; a malformed one leaves it unchanged
unfoldable pub patch_filled : List ℕ → Patching → RangeSet → ℕ → Areas → Effect
patch_filled l patching target n a =
    pick (is_patch (patch_of patching a) (block_bytes * target.blocks))
    (result_filled l patching target (result_made patching n a))
    (effect_of a patch_malformed)

-- `bsdiff`: the source is put together in the work area and, if its hash is H, patched
unfoldable pub bsdiff_filled : List ℕ → List Stash → List ℕ → RangeSet → ℕ → Source → Areas → Effect
bsdiff_filled l held hash target n source a =
    pick (hashes_to (together l a.image a.stash held source a.work) n hash)
    (patch_filled l (patching_of l) target n (with_work a (together l a.image a.stash held source a.work)))
    (effect_of (with_work a (together l a.image a.stash held source a.work)) hash_differs)

-- what filling leaves of the areas, and its refusal; commands that fill nothing leave them as they are
unfoldable pub filled : List ℕ → List Stash → List ℕ → Command → Areas → Effect
filled l held hash (command.Move target n source) a = move_filled l held hash n source a
filled l held hash (command.Bsdiff target n source) a = bsdiff_filled l held hash target n source a
filled l held hash (command.Stash set) a = stash_filled l hash set a
filled l held hash (command.Zero set) a = effect_of a none
filled l held hash (command.Erase set) a = effect_of a none
filled l held hash (command.New set) a = effect_of a none
filled l held hash command.Free a = effect_of a none
filled l held hash command.Unsupported a = effect_of a none
filled l held hash (command.Bad p) a = effect_of a none

-- ---- writing

-- `zero`, `erase`: zeros go over R
abbrev pub zeros_written : List ℕ → RangeSet → Areas → Areas
zeros_written l set a = with_image a (zeroed (blocks_at l set.at) a.image)

-- `move`: N blocks of the work area are written over R
abbrev pub target_written : List ℕ → RangeSet → ℕ → Areas → Areas
target_written l target n a = with_image a (written (blocks_at l target.at) (take (block_bytes * n) a.work) a.image)

-- `bsdiff`: as many blocks of the result area as R has are written over R
abbrev pub result_written : List ℕ → RangeSet → Areas → Areas
result_written l target a =
    with_image a (written (blocks_at l target.at) (take (block_bytes * target.blocks) a.result) a.image)

-- `stash`: n blocks of the work area go after the last stash
abbrev pub stash_written : List Stash → ℕ → Areas → Areas
stash_written held n a = with_stash a (over a.stash (block_bytes * blocks_held held) (take (block_bytes * n) a.work))

-- what a command writes from the area that it filled; commands that fill nothing write nothing from it
unfoldable pub written_from : List ℕ → List Stash → Command → Areas → Areas
written_from l held (command.Move target n source) a = target_written l target n a
written_from l held (command.Bsdiff target n source) a = result_written l target a
written_from l held (command.Stash set) a = stash_written held set.blocks a
written_from l held (command.Zero set) a = a
written_from l held (command.Erase set) a = a
written_from l held (command.New set) a = a
written_from l held command.Free a = a
written_from l held command.Unsupported a = a
written_from l held (command.Bad p) a = a

abbrev pub closed_found : List Stash → List ℕ → Option ℕ → List ℕ
closed_found held stash (Some j) = closed_up held j stash
closed_found held stash None = stash

-- `free`: the younger stashes move down over the dropped one
abbrev pub gap_closed : List Stash → List ℕ → Areas → Areas
gap_closed held hash a = with_stash a (closed_found held a.stash (find_in held hash))

-- ---- a whole line

-- document 02, R-8: the target already holds the result. The blocks of R in the written order, one that is named twice taken twice, hash to
-- H of a `move`, to T of a `bsdiff`; no other command is finished before it runs
unfoldable pub is_finished : List ℕ → List ℕ → Command → List ℕ → Bool
is_finished l hash (command.Zero set) image = false
is_finished l hash (command.Erase set) image = false
is_finished l hash (command.New set) image = false
is_finished l hash (command.Move target n source) image = blocks_hash_to (blocks_at l target.at) image hash
is_finished l hash (command.Bsdiff target n source) image = blocks_hash_to (blocks_at l target.at) image (result_hash l (patching_of l).hashes)
is_finished l hash (command.Stash set) image = false
is_finished l hash command.Free image = false
is_finished l hash command.Unsupported image = false
is_finished l hash (command.Bad p) image = false

-- filled, and where that is not refused written
unfoldable pub filled_written : List ℕ → List Stash → List ℕ → Command → Areas → Effect
filled_written l held hash c a =
    pick ((filled l held hash c a).refusal == none)
    (effect_of (written_from l held c (filled l held hash c a).areas) none)
    (filled l held hash c a)

-- a command that is not finished, with its hash, on the line l. The bytes of a `new` go to R one by one (`put_byte`), so that nothing is left to
-- do here; a line that is unsupported or bad is refused and does not run
unfoldable pub unfinished_effect : List ℕ → List Stash → List ℕ → Command → Areas → Effect
unfinished_effect l held hash (command.Zero set) a = effect_of (zeros_written l set a) none
unfinished_effect l held hash (command.Erase set) a = effect_of (zeros_written l set a) none
unfinished_effect l held hash (command.New set) a = effect_of a none
unfinished_effect l held hash (command.Move target n source) a = filled_written l held hash (command.Move target n source) a
unfinished_effect l held hash (command.Bsdiff target n source) a = filled_written l held hash (command.Bsdiff target n source) a
unfinished_effect l held hash (command.Stash set) a = filled_written l held hash (command.Stash set) a
unfinished_effect l held hash command.Free a = effect_of (gap_closed held hash a) none
unfinished_effect l held hash command.Unsupported a = effect_of a none
unfinished_effect l held hash (command.Bad p) a = effect_of a none

-- what a command does: one that is finished reads no source and writes nothing, the work area neither
unfoldable pub effect : List ℕ → List Stash → List ℕ → Command → Areas → Effect
effect l held hash c a = pick (is_finished l hash c a.image) (effect_of a none) (unfinished_effect l held hash c a)
