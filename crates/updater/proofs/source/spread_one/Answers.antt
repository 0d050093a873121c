-- `spread_one` meets its contract: the blocks of the stash that was found, over its places.
use Rattle.std.proofs.Common.{◌≡◌, ◌+◌, ◌*◌, ◌/◌, ◌≤◌, ◌∷◌, length, sym, refl, ap, ◌∙◌, subst, arith}
use Rattle.ranges.specs.Walk.{remaining, AllBelow}
use Rattle.ranges.proofs.WalkLaws.{walk-done, walk_block}
use Rattle.state.specs.Limits.{block_bytes}
use Rattle.updater.proofs.ByteLaws.{below_next, span_next, written-done, gathered_next}
use Rattle.updater.proofs.SourceLaws.{walk-blocks, stash_row}
use Rattle.updater.proofs.source.spread_one.Goals as goal
use Rattle.updater.proofs.source.spread_one.Goals.{In-Some-next_block}

-- the place at hand is the first of those that are left
met : (c : In-Some-next_block) → remaining c.args.l.now c.loop-p.w ≡ c.in-Some-next_block.p ∷ remaining c.args.l.now c.in-Some-next_block.rest
met c = walk_block _ _ (sym c.next_block.ensures ∙ c.in-Some-next_block.is)

-- .. and within the work area
place : (c : In-Some-next_block) → block_bytes * c.in-Some-next_block.p + block_bytes ≤ length c.loop-p.work
place c =
    let i = c.loop-p.invariant in
    omega (arith, (below_next (length c.args.work.now / block_bytes) (met c) i.below).0, i.keeps)

-- .. and its block is within the stash area
within : (c : In-Some-next_block) → block_bytes * c.loop-p.block + block_bytes ≤ length c.args.stash.now
within c = omega (arith, ap length (met c), c.loop-p.invariant.room)

pub loop-p-init : goal.loop-p-init
loop-p-init c =
    let e = walk-blocks _ _ c.walk_from-w.ensures in
    let s = c.requires.spread in
    let r = stash_row _ _ c.requires.keeps _ _ (sym c.find.ensures ∙ c.in-Some.is) c.blocks_before-block.ensures s.size in
    record { keeps = refl; below = subst (AllBelow _) (sym e) s.below; room = rw e r.0; same = rw (e, r.1) }

pub place_block-requires-clause-block_within : goal.place_block-requires-clause-block_within
place_block-requires-clause-block_within c = within (goal.at.place_block-requires-clause-block_within c).In-Some-next_block

pub place_block-requires-clause-place_within : goal.place_block-requires-clause-place_within
place_block-requires-clause-place_within c = place (goal.at.place_block-requires-clause-place_within c).In-Some-next_block

pub overflow_add-block : goal.overflow_add-block
overflow_add-block c = omega (arith, within (goal.at.overflow_add-block c).In-Some-next_block)

pub loop-p-smaller : goal.loop-p-smaller
loop-p-smaller c = omega (arith, ap length (met (goal.at.loop-p-smaller c).In-Some-next_block))

pub loop-p-preserved : goal.loop-p-preserved
loop-p-preserved c =
    let here = (goal.at.loop-p-preserved c).In-Some-next_block in
    let i = c.loop-p.invariant in
    let e = met here in
    record {
      keeps = c.place_block.auto.work ∙ i.keeps;
      below = (below_next _ e i.below).1;
      room = omega (arith, ap length e, i.room);
      same = gathered_next (span_next e c.loop-p.block) e c.args.stash.now c.loop-p.work (within here) c.place_block.ensures ∙ i.same;
    }

pub returns-in_default-next_block : goal.returns-in_default-next_block
returns-in_default-next_block c =
    sym (written-done (walk-done _ _ (sym c.next_block.ensures ∙ c.in_default-next_block.is)) _ _) ∙ c.loop-p.invariant.same
