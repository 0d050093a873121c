-- `step_free` meets its contract: the stretch that is next of the stashes younger than the one that was found moves
-- down by its size.
use Rattle.std.proofs.Common.{◌≡◌, ◌+◌, ◌-◌, ◌*◌, ◌≤◌, List, sym, ◌∙◌, arith}
use Rattle.state.specs.Limits.{block_bytes, most_area_blocks}
use Rattle.state.specs.Stashes.{Stash, held_in, find_in, blocks_held, stash_start}
use Rattle.state.specs.Stretches.{stretch_blocks}
use Rattle.state.proofs.TableLaws.{blocks-all}
use Rattle.updater.specs.Bytes.{moved_down}
use Rattle.updater.proofs.SourceLaws.{start_exact}
use Rattle.updater.proofs.StepLaws.{may_stretch, stretch_bounds, frees_at}
use Rattle.updater.proofs.commands.step_free.Goals as goal
use Rattle.updater.proofs.commands.step_free.Goals.{After-blocks_before}
use Rattle.std.specs.Prelude.{Some}

-- what is held
abbrev held : After-blocks_before → List Stash
held c = held_in c.args.table.now

-- the stash that was found, where it starts, its size, and all blocks that are held
is_at : (c : After-blocks_before) → find_in (held c) c.args.hash ≡ Some c.in-Some.j
is_at c = sym c.find.ensures ∙ c.in-Some.is

first : (c : After-blocks_before) → c.blocks_before-start.result ≡ stash_start (held c) c.in-Some.j
first c = start_exact _ _ c.requires.keeps c.in-Some.j c.blocks_before-start.ensures

all : (c : After-blocks_before) → c.blocks_before.result ≡ blocks_held (held c)
all c = blocks-all c.args.table.now c.blocks_before.ensures (omega (arith, c.requires.keeps.blocks))

-- the stretch lies among what is held, which is little
bounds : (c : After-blocks_before) → let from = c.blocks_before-start.result in
    let gap = c.blocks-gap.result in
    let most = c.blocks_before.result in
    let k = c.args.k in
    (from + gap ≤ most) × (from + k * gap + gap + stretch_blocks gap (most - (from + gap)) k ≤ most) × (most ≤ most_area_blocks)
    × (k ≤ most_area_blocks)
bounds c =
    stretch_bounds (held c) c.in-Some.j c.args.k (first c) c.blocks-gap.ensures (all c) c.args.stash.now c.requires.keeps
    (may_stretch (held c) c.args.k (is_at c) c.requires.may_stretch)

pub overflow_add-younger : goal.overflow_add-younger
overflow_add-younger c = omega (arith, bounds c)

pub overflow_sub-younger : goal.overflow_sub-younger
overflow_sub-younger c = omega (arith, bounds c)

pub overflow_mul-to : goal.overflow_mul-to
overflow_mul-to c = omega (arith, bounds c)

pub overflow_add-to : goal.overflow_add-to
overflow_add-to c = omega (arith, bounds c)

pub overflow_mul-to-2 : goal.overflow_mul-to-2
overflow_mul-to-2 c = omega (arith, bounds c)

pub overflow_mul-from : goal.overflow_mul-from
overflow_mul-from c = omega (arith, bounds c)

pub overflow_add-from : goal.overflow_add-from
overflow_add-from c = omega (arith, bounds c)

pub overflow_mul-end : goal.overflow_mul-end
overflow_mul-end c = omega (arith, bounds (goal.at.overflow_mul-end c).After-blocks_before, c.stretch_blocks.ensures)

pub overflow_add-end : goal.overflow_add-end
overflow_add-end c = omega (arith, bounds (goal.at.overflow_add-end c).After-blocks_before, c.stretch_blocks.ensures)

pub copy_within-requires-clause-in_bounds : goal.copy_within-requires-clause-in_bounds
copy_within-requires-clause-in_bounds c =
    let here = (goal.at.copy_within-requires-clause-in_bounds c).After-blocks_before in
    omega (arith, bounds here, c.stretch_blocks.ensures, all here, c.requires.keeps.room)

pub copy_within-requires-clause-dest_in_bounds : goal.copy_within-requires-clause-dest_in_bounds
copy_within-requires-clause-dest_in_bounds c =
    let here = (goal.at.copy_within-requires-clause-dest_in_bounds c).After-blocks_before in
    omega (arith, bounds here, c.stretch_blocks.ensures, all here, c.requires.keeps.room)

pub stretch_end-requires : goal.stretch_end-requires
stretch_end-requires c = omega (arith, bounds (goal.at.stretch_end-requires c).After-blocks_before)

pub returns : goal.returns
unfolding moved_down
returns c image work res patch =
    let here = (goal.at.returns c).After-blocks_before in
    let to = c.blocks_before-start.result + c.args.k * c.blocks-gap.result in
    let gap = c.blocks-gap.result in
    let n = c.stretch_blocks.result in
    let f : block_bytes * to + block_bytes * gap ≡ block_bytes * (to + gap) = omega arith in
    let m : block_bytes * (to + gap) + block_bytes * n - block_bytes * (to + gap) ≡ block_bytes * n = omega arith in
    frees_at (held here) c.in-Some.j c.args.k (first here) c.blocks-gap.ensures (all here) (is_at here) _ c.stretch_blocks.ensures
    (rw (f, m) at c.copy_within.ensures.after) c.stretch_end.ensures
