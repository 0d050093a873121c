-- `set_has_hash` meets its contract.
use Rattle.std.proofs.Common.{◌≡◌, ◌+◌, ◌*◌, ◌/◌, ◌≤◌, [], ◌∷◌, length, sym, ap, ◌∙◌, subst, arith}
use Rattle.sha1_digest.specs.Pieces.{started, finished}
use Rattle.sha1_digest.proofs.DigestLaws.{absorbed-count, started-empty}
use Rattle.ranges.specs.Walk.{blocks_at, remaining, AllBelow}
use Rattle.ranges.proofs.WalkLaws.{walk-done, walk_block}
use Rattle.state.specs.Limits.{block_bytes}
use Rattle.state.proofs.StashLaws.{same_pointwise}
use Rattle.updater.specs.Source.{blocks_hash_to}
use Rattle.updater.proofs.ByteLaws.{lent_block, below_next}
use Rattle.updater.proofs.DigestLaws.{absorbed-next, absorbed-done, finished-blocks}
use Rattle.updater.proofs.SourceLaws.{walk-blocks}
use Rattle.updater.proofs.digest.set_has_hash.Goals as goal
use Rattle.updater.proofs.digest.set_has_hash.Goals.{In-Some}

-- the block at hand is the first of those that are left
met : (c : In-Some) → remaining c.args.l.now c.loop-b.w ≡ c.in-Some.b ∷ remaining c.args.l.now c.in-Some.rest
met c = walk_block _ _ (sym c.next_block.ensures ∙ c.in-Some.is)

-- .. and within the image
within : (c : In-Some) → block_bytes * c.in-Some.b + block_bytes ≤ length c.args.image.now
within c = omega (arith, (below_next (length c.args.image.now / block_bytes) (met c) c.loop-b.invariant.below).0)

pub loop-b-init : goal.loop-b-init
loop-b-init c =
    let e = walk-blocks c.args.l.now c.args.at c.walk_from-w.ensures in
    let h = c.start-hasher.ensures in
    record {
      count = rw (h, ← started-empty) (absorbed-count started []);
      below = subst (AllBelow _) (sym e) c.requires;
      same = rw (h, e);
    }

pub returns : goal.returns
unfolding blocks_hash_to
returns c =
    let i = c.loop-b.invariant in
    let image = c.args.image.now in
    let d = walk-done _ _ (sym c.next_block.ensures ∙ c.in_default.is) in
    let found =
    c.finish.ensures
    ∙ ap finished (sym (absorbed-done d image _ i.count) ∙ i.same)
    ∙ finished-blocks (blocks_at c.args.l.now c.args.at) image c.requires in
    c.eq.ensures ∙ same_pointwise c.finish.result c.args.hash ∙ rw found

pub slice_bounds-absorb-end : goal.slice_bounds-absorb-end
slice_bounds-absorb-end c = omega (arith, within (goal.at.slice_bounds-absorb-end c).In-Some)

pub loop-b-smaller : goal.loop-b-smaller
loop-b-smaller c = omega (arith, ap length (met (goal.at.loop-b-smaller c).In-Some))

pub loop-b-preserved : goal.loop-b-preserved
loop-b-preserved c =
    let here = (goal.at.loop-b-preserved c).In-Some in
    let i = c.loop-b.invariant in
    let e = rw lent_block at c.absorb-hasher.ensures in
    record {
      count = rw e (absorbed-count _ _);
      below = (below_next _ (met here) i.below).1;
      same = rw e (absorbed-next (met here) _ _ (within here)) ∙ i.same;
    }
