-- Document 02, R-9: the bytes that the rules have the run write, step by step; and two configurations that agree at all other bytes. At a cut
-- the bytes that are written from the saved stop, or the opening, to the next stop or the run's end may hold anything.
-- Assumes nothing: these are definitions.
use Rattle.std.specs.Prelude.{ℕ, ◌+◌, ◌*◌, ◌/◌, ◌≡◌, Bool, false, List, leb, ltb, eqb, length, get_or, Option, Some, None}
use Rattle.text.specs.Choice.{pick, both}
use Rattle.ranges.specs.Walk.{blocks_at}
use Rattle.ranges.specs.declared.RangeSet.{RangeSet}
use Rattle.state.specs.Limits.{block_bytes}
use Rattle.state.specs.Refusals.{none}
use Rattle.state.specs.Stashes.{Stash, held, find_in, size_at, blocks_held, younger}
use Rattle.state.specs.States.{is_ready}
use Rattle.state.specs.Stretches.{stretch_blocks}
use Rattle.command.specs.Commands.{command_of}
use Rattle.command.specs.Patching.{patching_of}
use Rattle.command.specs.declared.Command.{Command}
use Rattle.command.specs.declared.Command.TheVariants as command
use Rattle.command.specs.declared.source.Source.{Source}
use Rattle.patch.specs.Patch.{is_patch}
use Rattle.rules.specs.Move.{is_in}
use Rattle.rules.specs.declared.Terms.{Terms}
use Rattle.machine.specs.Writes.{Spots}
use Rattle.updater.specs.Areas.{Areas}
use Rattle.updater.specs.Bytes.{address_of}
use Rattle.updater.specs.Source.{together, hashes_to, stretch_start}
use Rattle.updater.specs.Effect.{patch_of, is_finished}
use Rattle.updater.specs.Steps.{Config}
use Rattle.updater.specs.Run.{current_line, current_command, refusal_here, new_blocks}

-- a byte of the image, the stash area, the work area or the result area; of the patch data none is written
pub data Spot : Type 0 where
  image_byte : ℕ → Spot
  stash_byte : ℕ → Spot
  work_byte : ℕ → Spot
  result_byte : ℕ → Spot

-- ---- sets of bytes

unfoldable pub nowhere : Spot → Bool
nowhere i = false

-- the bytes of some blocks of the image
unfoldable pub in_blocks : List ℕ → Spot → Bool
in_blocks bs (image_byte k) = is_in (k / block_bytes) bs
in_blocks bs (stash_byte k) = false
in_blocks bs (work_byte k) = false
in_blocks bs (result_byte k) = false

-- n blocks of the stash area, from block `at` on
unfoldable pub in_stash : ℕ → ℕ → Spot → Bool
in_stash at n (image_byte k) = false
in_stash at n (stash_byte k) = both (leb (block_bytes * at) k) (ltb k (block_bytes * at + block_bytes * n))
in_stash at n (work_byte k) = false
in_stash at n (result_byte k) = false

-- the first n blocks of the work area, and the first r blocks of the result area
unfoldable pub in_front : ℕ → ℕ → Spot → Bool
in_front n r (image_byte k) = false
in_front n r (stash_byte k) = false
in_front n r (work_byte k) = ltb k (block_bytes * n)
in_front n r (result_byte k) = ltb k (block_bytes * r)

-- ---- what a step writes

-- filling: the first N blocks of the work area, S's size of them for a `stash`; a `bsdiff` also as many blocks of the result area as R has,
-- unless the source's hash differs (16) or the patch is malformed (19)
unfoldable pub result_blocks : List ℕ → List Stash → List ℕ → RangeSet → ℕ → Source → Areas → ℕ
result_blocks l held hash target n source a =
    pick (both (hashes_to (together l a.image a.stash held source a.work) n hash)
    (is_patch (patch_of (patching_of l) a) (block_bytes * target.blocks)))
    target.blocks 0

unfoldable pub fill_writes : List ℕ → List Stash → List ℕ → Command → Areas → Spot → Bool
fill_writes l held hash (command.Move target n source) a = in_front n 0
fill_writes l held hash (command.Bsdiff target n source) a = in_front n (result_blocks l held hash target n source a)
fill_writes l held hash (command.Stash set) a = in_front set.blocks 0
fill_writes l held hash (command.Zero set) a = nowhere
fill_writes l held hash (command.Erase set) a = nowhere
fill_writes l held hash (command.New set) a = nowhere
fill_writes l held hash command.Free a = nowhere
fill_writes l held hash command.Unsupported a = nowhere
fill_writes l held hash (command.Bad p) a = nowhere

-- writing from what was filled: R; for a `stash` its blocks after the last stash
unfoldable pub target_writes : List ℕ → List Stash → Command → Spot → Bool
target_writes l held (command.Move target n source) = in_blocks (blocks_at l target.at)
target_writes l held (command.Bsdiff target n source) = in_blocks (blocks_at l target.at)
target_writes l held (command.Stash set) = in_stash (blocks_held held) set.blocks
target_writes l held (command.Zero set) = nowhere
target_writes l held (command.Erase set) = nowhere
target_writes l held (command.New set) = nowhere
target_writes l held command.Free = nowhere
target_writes l held command.Unsupported = nowhere
target_writes l held (command.Bad p) = nowhere

-- `move`, `bsdiff`, `stash`: a line that is skipped writes nothing
unfoldable pub fill_step_writes : List ℕ → List Stash → List ℕ → Command → ℕ → Areas → Spot → Bool
fill_step_writes l held hash c ready a =
    pick (is_ready ready) (target_writes l held c)
    (pick (is_finished l hash c a.image) nowhere (fill_writes l held hash c a))

-- stretch k of a `free`: the blocks that receive it
unfoldable pub stretch_writes : List Stash → ℕ → Option ℕ → Spot → Bool
stretch_writes held k (Some j) = in_stash (stretch_start held j k) (stretch_blocks (size_at held j) (younger held j) k)
stretch_writes held k None = nowhere

-- a command's next step; the bytes of a `new` are written one by one
unfoldable pub step_writes : List ℕ → List Stash → List ℕ → Command → ℕ → ℕ → Areas → Spot → Bool
step_writes l held hash (command.Zero set) ready k a = in_blocks (blocks_at l set.at)
step_writes l held hash (command.Erase set) ready k a = in_blocks (blocks_at l set.at)
step_writes l held hash (command.New set) ready k a = nowhere
step_writes l held hash (command.Move target n source) ready k a = fill_step_writes l held hash (command.Move target n source) ready a
step_writes l held hash (command.Bsdiff target n source) ready k a = fill_step_writes l held hash (command.Bsdiff target n source) ready a
step_writes l held hash (command.Stash set) ready k a = fill_step_writes l held hash (command.Stash set) ready a
step_writes l held hash command.Free ready k a = stretch_writes held k (find_in held hash)
step_writes l held hash command.Unsupported ready k a = nowhere
step_writes l held hash (command.Bad p) ready k a = nowhere

-- the next step of a run; a refused line writes nothing
unfoldable pub quiet_writes : ℕ → List ℕ → Terms → Config → Spot → Bool
quiet_writes least s terms p =
    pick (eqb (refusal_here least s terms p) none)
    (step_writes (current_line s p) (held p.state) (command_of least (current_line s p)).hash (current_command least s p) p.state.ready p.state.stretches p.areas)
    nowhere

-- a byte of new data goes to one byte of the image
unfoldable pub put_writes : ℕ → List ℕ → Config → Spot → Bool
put_writes least s p (image_byte k) = eqb k (address_of (new_blocks (current_line s p) (current_command least s p)) p.state.into)
put_writes least s p (stash_byte k) = false
put_writes least s p (work_byte k) = false
put_writes least s p (result_byte k) = false

-- ---- agreeing at all other bytes

-- two areas are as long, and alike at each byte outside some
pub record Outside (W : ℕ → Bool) (a b : List ℕ) : Type 0 where
  pub size : length b ≡ length a
  pub others : (k : ℕ) → W k ≡ false → get_or b k 0 ≡ get_or a k 0

-- image and areas are alike at each byte outside some, and the patch data is the same
pub record AreasOutside (W : Spot → Bool) (a b : Areas) : Type 0 where
  pub image : Outside (λ k. W (image_byte k)) a.image b.image
  pub stash : Outside (λ k. W (stash_byte k)) a.stash b.stash
  pub work : Outside (λ k. W (work_byte k)) a.work b.work
  pub result : Outside (λ k. W (result_byte k)) a.result b.result
  pub patch : b.patch ≡ a.patch

-- .. with the same state
pub record Agree (W : Spot → Bool) (p q : Config) : Type 0 where
  pub state : q.state ≡ p.state
  pub areas : AreasOutside W p.areas q.areas

-- what a run on those terms writes
abbrev pub spots : ℕ → List ℕ → Terms → Spots Config
spots least s terms =
    record { Spot = Spot; quiet_writes = quiet_writes least s terms; put_writes = put_writes least s; Agree = Agree }
