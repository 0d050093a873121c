-- `place_set` meets its contract.
use Rattle.std.proofs.Common.{◌≡◌, ℕ, ◌+◌, ◌*◌, ◌/◌, ◌≤◌, List, [], ◌∷◌, length, sym, refl, ap, ◌∙◌, subst, arith}
use Rattle.ranges.specs.Walk.{remaining, AllBelow}
use Rattle.ranges.proofs.WalkLaws.{walk_start, walk-done, walk_block}
use Rattle.state.specs.Limits.{block_bytes}
use Rattle.updater.proofs.ByteLaws.{below_next, written-done, gathered_next}
use Rattle.updater.proofs.sets.place_set.Goals as goal
use Rattle.updater.proofs.sets.place_set.Goals.{In-Some, In-Some-next_block}

none_left : {bs ps : List ℕ} → bs ≡ [] → length bs ≡ length ps → ps ≡ []
none_left {ps = []} e h = refl
none_left {ps = p ∷ ps} e h = absurd (omega (arith, ap length e, h))

-- the block at hand is the first of those that are left
met : (c : In-Some) → remaining c.args.l.now c.loop-b.from ≡ c.in-Some.b ∷ remaining c.args.l.now c.in-Some.more
met c = walk_block _ _ (sym c.next_block.ensures ∙ c.in-Some.is)

-- .. and within the image
within : (c : In-Some) → block_bytes * c.in-Some.b + block_bytes ≤ length c.args.image.now
within c = omega (arith, (below_next (length c.args.image.now / block_bytes) (met c) c.loop-b.invariant.below).0)

-- the place at hand is the first of those that are left
met-place : (c : In-Some-next_block) →
    remaining c.args.l.now c.loop-b.to ≡ c.in-Some-next_block.p ∷ remaining c.args.l.now c.in-Some-next_block.rest
met-place c = walk_block _ _ (sym c.next_block-in-Some.ensures ∙ c.in-Some-next_block.is)

-- .. and within the work area
room : (c : In-Some-next_block) → block_bytes * c.in-Some-next_block.p + block_bytes ≤ length c.loop-b.work
room c =
    let i = c.loop-b.invariant in
    omega (arith, (below_next (length c.args.work.now / block_bytes) (met-place c) i.places).0, i.keeps)

pub loop-b-init : goal.loop-b-init
loop-b-init c =
    let h = c.requires in
    let e = ap (remaining _) c.walk_from-from.ensures ∙ walk_start c.args.l.now c.args.set.at in
    let f = ap (remaining _) c.walk_from-to.ensures ∙ walk_start c.args.l.now c.args.places.at in
    record {
      keeps = refl;
      below = subst (AllBelow _) (sym e) h.0.below;
      places = subst (AllBelow _) (sym f) h.1.below;
      sides = ap length e ∙ h.0.size ∙ sym h.1.size ∙ sym (ap length f);
      same = rw (e, f);
    }

pub returns-in_default-next_block : goal.returns-in_default-next_block
returns-in_default-next_block c =
    let i = c.loop-b.invariant in
    sym (written-done (walk-done _ _ (sym c.next_block-in-Some.ensures ∙ c.in_default-next_block.is)) _ _) ∙ i.same

pub place_block-requires-clause-block_within : goal.place_block-requires-clause-block_within
place_block-requires-clause-block_within c = within (goal.at.place_block-requires-clause-block_within c).In-Some

pub place_block-requires-clause-place_within : goal.place_block-requires-clause-place_within
place_block-requires-clause-place_within c = room (goal.at.place_block-requires-clause-place_within c).In-Some-next_block

pub loop-b-smaller : goal.loop-b-smaller
loop-b-smaller c = omega (arith, ap length (met (goal.at.loop-b-smaller c).In-Some))

pub loop-b-preserved : goal.loop-b-preserved
loop-b-preserved c =
    let at = goal.at.loop-b-preserved c in
    let i = c.loop-b.invariant in
    let e = met at.In-Some in
    let f = met-place at.In-Some-next_block in
    record {
      keeps = c.place_block.auto.work ∙ i.keeps;
      below = (below_next _ e i.below).1;
      places = (below_next _ f i.places).1;
      sides = omega (arith, ap length e, ap length f, i.sides);
      same = gathered_next e f c.args.image.now c.loop-b.work (within at.In-Some) c.place_block.ensures ∙ i.same;
    }

pub returns : goal.returns
returns c =
    let i = c.loop-b.invariant in
    sym (written-done (none_left (walk-done _ _ (sym c.next_block.ensures ∙ c.in_default.is)) i.sides) _ _) ∙ i.same
