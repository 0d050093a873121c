-- `supply` meets its contract.
use Rattle.std.proofs.Common.{◌≡◌, ◌+◌, ◌*◌, ◌/◌, ◌≤◌, ◌∷◌, length, sym, refl, ap, ◌∙◌, subst, arith}
use Rattle.ranges.specs.Walk.{remaining, AllBelow}
use Rattle.ranges.proofs.WalkLaws.{walk_start, walk-done, walk_block}
use Rattle.state.specs.Limits.{block_bytes}
use Rattle.updater.specs.Source.{supplied}
use Rattle.updater.proofs.ByteLaws.{below_next, span_next, span_none, written-done, gathered_next}
use Rattle.updater.proofs.sets.supply.Goals as goal
use Rattle.updater.proofs.sets.supply.Goals.{In-Some}

-- the block at hand is the first of those that are left
met : (c : In-Some) → remaining c.args.l.now c.loop-b.w ≡ c.in-Some.b ∷ remaining c.args.l.now c.in-Some.rest
met c = walk_block _ _ (sym c.next_block.ensures ∙ c.in-Some.is)

-- .. and within the image
within : (c : In-Some) → block_bytes * c.in-Some.b + block_bytes ≤ length c.args.image.now
within c = omega (arith, (below_next (length c.args.image.now / block_bytes) (met c) c.loop-b.invariant.below).0)

-- .. and its place is within the work area
room : (c : In-Some) → block_bytes * c.loop-b.place + block_bytes ≤ length c.loop-b.work
room c =
    let i = c.loop-b.invariant in
    omega (arith, ap length (met c), i.places, i.keeps, c.requires.1)

pub loop-b-init : goal.loop-b-init
loop-b-init c =
    let e = ap (remaining _) c.walk_from-w.ensures ∙ walk_start c.args.l.now c.args.set.at in
    let n = ap length e ∙ c.requires.0.size in
    record {
      keeps = refl;
      below = subst (AllBelow _) (sym e) c.requires.0.below;
      places = omega (arith, n);
      same = rw (n, e);
    }

pub place_block-requires-clause-block_within : goal.place_block-requires-clause-block_within
place_block-requires-clause-block_within c = within (goal.at.place_block-requires-clause-block_within c).In-Some

pub place_block-requires-clause-place_within : goal.place_block-requires-clause-place_within
place_block-requires-clause-place_within c = room (goal.at.place_block-requires-clause-place_within c).In-Some

pub overflow_add-place : goal.overflow_add-place
overflow_add-place c = omega (arith, room (goal.at.overflow_add-place c).In-Some)

pub loop-b-smaller : goal.loop-b-smaller
loop-b-smaller c = omega (arith, ap length (met (goal.at.loop-b-smaller c).In-Some))

pub loop-b-preserved : goal.loop-b-preserved
loop-b-preserved c =
    let here = (goal.at.loop-b-preserved c).In-Some in
    let i = c.loop-b.invariant in
    let e = met here in
    record {
      keeps = c.place_block.auto.work ∙ i.keeps;
      below = (below_next _ e i.below).1;
      places = omega (arith, ap length e, i.places);
      same = gathered_next e (span_next e c.loop-b.place) c.args.image.now c.loop-b.work (within here) c.place_block.ensures ∙ i.same;
    }

pub returns : goal.returns
unfolding supplied
returns c =
    let d = walk-done _ _ (sym c.next_block.ensures ∙ c.in_default.is) in
    sym (written-done (span_none d c.loop-b.place) _ _) ∙ c.loop-b.invariant.same
