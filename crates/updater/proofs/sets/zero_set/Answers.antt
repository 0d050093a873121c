-- `zero_set` meets its contract.
use Rattle.std.proofs.Common.{◌≡◌, ℕ, ◌+◌, ◌-◌, ◌*◌, ◌/◌, ◌≤◌, List, ◌∷◌, ◌++◌, length, take, drop, replicate, sym, refl, ap, ◌∙◌, subst, arith, length-drop, length-take}
use Rattle.ranges.specs.Walk.{remaining, AllBelow}
use Rattle.ranges.proofs.WalkLaws.{walk_start, walk-done, walk_block}
use Rattle.state.specs.Limits.{block_bytes}
use Rattle.copy.specs.Over.{over}
use Rattle.copy.proofs.OverLaws.{length_over}
use Rattle.updater.specs.Bytes.{zeroed}
use Rattle.updater.proofs.ByteLaws.{below_next, zeroed-done, zeroed-next}
use Rattle.updater.proofs.sets.zero_set.Goals as goal
use Rattle.updater.proofs.sets.zero_set.Goals.{In-Some}

-- zeros over a lent block: the image when the block is back
zeros-back : (image part : List ℕ) (b : ℕ) → block_bytes * b + block_bytes ≤ length image →
    part ≡ replicate (length (take (block_bytes * b + block_bytes - block_bytes * b) (drop (block_bytes * b) image))) 0 →
    take (block_bytes * b) image ++ (part ++ drop (block_bytes * b + block_bytes - block_bytes * b) (drop (block_bytes * b) image))
    ≡ over image (block_bytes * b) (replicate block_bytes 0)
zeros-back image part b h e =
    let n : block_bytes * b + block_bytes - block_bytes * b ≡ block_bytes = omega arith in
    let l : length (take (block_bytes * b + block_bytes - block_bytes * b) (drop (block_bytes * b) image)) ≡ block_bytes =
    simp (length-take, length-drop) (omega arith) in
    let f : part ≡ replicate block_bytes 0 = e ∙ ap (λ (k : ℕ). replicate k 0) l in
    rw (n, f)

-- the block at hand is the first of those that are left
met : (c : In-Some) → remaining c.args.l.now c.loop-b.w ≡ c.in-Some.b ∷ remaining c.args.l.now c.in-Some.rest
met c = walk_block _ _ (sym c.next_block.ensures ∙ c.in-Some.is)

-- .. and within the image
within : (c : In-Some) → block_bytes * c.in-Some.b + block_bytes ≤ length c.loop-b.image
within c =
    let i = c.loop-b.invariant in
    omega (arith, (below_next (length c.args.image.now / block_bytes) (met c) i.below).0, i.keeps)

pub loop-b-init : goal.loop-b-init
loop-b-init c =
    let e = ap (remaining _) c.walk_from-w.ensures ∙ walk_start c.args.l.now c.args.at in
    record {
      keeps = refl;
      below = subst (AllBelow _) (sym e) c.requires;
      same = ap (λ (bs : List ℕ). zeroed bs c.args.image.now) e;
    }

pub slice_bounds-fill-end : goal.slice_bounds-fill-end
slice_bounds-fill-end c = within (goal.at.slice_bounds-fill-end c).In-Some

pub loop-b-smaller : goal.loop-b-smaller
loop-b-smaller c = omega (arith, ap length (met (goal.at.loop-b-smaller c).In-Some))

pub loop-b-preserved : goal.loop-b-preserved
loop-b-preserved c =
    let here = (goal.at.loop-b-preserved c).In-Some in
    let i = c.loop-b.invariant in
    let e = zeros-back _ _ _ (within here) (c.fill.ensures.after (λ y h. h)) in
    record {
      keeps = ap length e ∙ length_over c.loop-b.image (block_bytes * c.in-Some.b) (replicate block_bytes 0) (within here) ∙ i.keeps;
      below = (below_next _ (met here) i.below).1;
      same = zeroed-next (met here) _ e ∙ i.same;
    }

pub returns : goal.returns
returns c = sym (zeroed-done (walk-done _ _ (sym c.next_block.ensures ∙ c.in_default.is)) _) ∙ c.loop-b.invariant.same
