-- `write_set` meets its contract.
use Rattle.std.proofs.Common.{◌≡◌, ℕ, ◌+◌, ◌*◌, ◌/◌, ◌≤◌, List, ◌∷◌, length, sym, refl, ap, ◌∙◌, subst, arith}
use Rattle.ranges.specs.Walk.{remaining, AllBelow}
use Rattle.ranges.proofs.WalkLaws.{walk_start, walk-done, walk_block}
use Rattle.state.specs.Limits.{block_bytes}
use Rattle.updater.specs.Bytes.{written}
use Rattle.updater.proofs.ByteLaws.{below_next, written-done, written_next}
use Rattle.updater.proofs.sets.write_set.Goals as goal
use Rattle.updater.proofs.sets.write_set.Goals.{In-Some}

-- the block at hand is the first of those that are left
met : (c : In-Some) → remaining c.args.l.now c.loop-b.w ≡ c.in-Some.b ∷ remaining c.args.l.now c.in-Some.rest
met c = walk_block _ _ (sym c.next_block.ensures ∙ c.in-Some.is)

-- .. and within the area
within : (c : In-Some) → block_bytes * c.in-Some.b + block_bytes ≤ length c.loop-b.area
within c =
    let i = c.loop-b.invariant in
    omega (arith, (below_next (length c.args.area.now / block_bytes) (met c) i.below).0, i.keeps)

pub loop-b-init : goal.loop-b-init
loop-b-init c =
    let e = ap (remaining _) c.walk_from-w.ensures ∙ walk_start c.args.l.now c.args.at in
    record {
      keeps = refl;
      below = subst (AllBelow _) (sym e) c.requires.0;
      enough = omega (arith, ap length e, c.requires.1);
      same = ap (λ (bs : List ℕ). written bs c.args.bytes.now c.args.area.now) e;
    }

pub split_at-requires : goal.split_at-requires
split_at-requires c = omega (arith, ap length (met (goal.at.split_at-requires c).In-Some), c.loop-b.invariant.enough)

pub copy_over-requires : goal.copy_over-requires
copy_over-requires c = omega (arith, within (goal.at.copy_over-requires c).In-Some, c.split_at.ensures.front_len)

pub loop-b-smaller : goal.loop-b-smaller
loop-b-smaller c = omega (arith, ap length (met (goal.at.loop-b-smaller c).In-Some))

pub loop-b-preserved : goal.loop-b-preserved
loop-b-preserved c =
    let i = c.loop-b.invariant in
    let e = met (goal.at.loop-b-preserved c).In-Some in
    let s = c.split_at.ensures in
    record {
      keeps = c.copy_over.auto.area ∙ i.keeps;
      below = (below_next _ e i.below).1;
      enough = omega (arith, ap length e, i.enough, s.back_len);
      same = written_next e c.loop-b.left.now c.loop-b.area s.front s.back c.copy_over.ensures ∙ i.same;
    }

pub returns : goal.returns
returns c = sym (written-done (walk-done _ _ (sym c.next_block.ensures ∙ c.in_default.is)) _ _) ∙ c.loop-b.invariant.same
