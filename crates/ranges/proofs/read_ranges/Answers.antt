-- `ranges::read_ranges` meets its contract.
use mathlib.Core.Path.{◌≡◌, refl, sym, ◌∙◌}
use mathlib.Core.List.{List}
use Prim.Native.Nat.{ℕ, suc, ◌+◌, ◌-◌, ◌/◌, max}
use native.Mathlib.Omega.{arith}
use Rattle.text.specs.Number.{number_for}
use Rattle.text.specs.declared.number.Need.TheVariants as variants
use Rattle.ranges.specs.Ranges.{Range, pair_at, follow, pairs_at, set_at, size_of, end_of, summary, ranges_at}
use Rattle.ranges.proofs.RangesLaws.{pair_order, pair_most}
use Rattle.ranges.proofs.read_ranges.Invariants.{summary_from}
use Rattle.ranges.proofs.read_ranges.Goals as goal
use Rattle.std.proofs.Common.{rules}
use Rattle.std.specs.Prelude.{Ok, Err}
use Rattle.text.specs.Read.{Read}
use Rattle.ranges.specs.declared.RangeSet.{RangeSet}

good : (at next : ℕ) {a b l m : ℕ} → a ≡ b → l ≡ m →
    ◌≡◌ {A = Read RangeSet} (Ok (record { at = at; blocks = a; end = l }, next)) (Ok (record { at = at; blocks = b; end = m }, next))
good at next p q = cc

from_start : (at : ℕ) (q : Read (List Range)) → summary_from at 0 0 q ≡ summary at q
unfolding summary_from summary
from_start at (Ok (rs, next)) = good at next (omega arith) (omega arith)
from_start at (Err p) = refl

from-follow : (at blocks last : ℕ) (r : Range) (q : Read (List Range)) →
    summary_from at blocks last (follow r q) ≡ summary_from at (blocks + (r.end - r.start)) (max last r.end) q
unfolding summary_from size_of end_of
from-follow at blocks last r (Ok (rs, next)) = good at next (omega arith) (omega arith)
from-follow at blocks last r (Err p) = refl

-- before the loop
module _ (least : ℕ) (s : List ℕ) (at : ℕ) where
  count-bad : {p : ℕ} → number_for variants.Count s at ≡ Err p → ranges_at least s at ≡ Err p
  unfolding ranges_at set_at summary
  count-bad e = rw e

  turn-start : {count from : ℕ} → number_for variants.Count s at ≡ Ok (count, from) →
      summary_from at 0 0 (pairs_at least (count / 2) s from) ≡ ranges_at least s at
  unfolding ranges_at set_at
  turn-start {count} {from} e = rw e (from_start at (pairs_at least (count / 2) s from))

-- one turn of the loop
module _ (least : ℕ) (s : List ℕ) (i n at blocks last : ℕ) where
  turn_end : n ≡ 0 → summary_from at blocks last (pairs_at least n s i) ≡ Ok (record { at = at; blocks = blocks; end = last }, i)
  unfolding summary_from pairs_at size_of end_of
  turn_end z = rw z (good at i (omega arith) (omega arith))

  module _ (m : ℕ) (h : n ≡ suc m) where
    turn-bad : {p : ℕ} → pair_at least s i ≡ Err p → summary_from at blocks last (pairs_at least n s i) ≡ Err p
    unfolding summary_from pairs_at
    turn-bad e = rw (h, e)

    turn_more : {start end next : ℕ} → pair_at least s i ≡ Ok ((start, end), next) →
        summary_from at blocks last (pairs_at least n s i) ≡ summary_from at (blocks + (end - start)) (max last end) (pairs_at least m s next)
    unfolding pairs_at
    turn_more {start} {end} {next} e = rw (h, e) (from-follow at blocks last (record { start = start; end = end }) (pairs_at least m s next))

pub returns-in_err-count : goal.returns-in_err-count
returns-in_err-count c = rw (count-bad _ _ _ (sym c.read_number_for.ensures ∙ c.in_err-count.was)) (search rules)

pub loop-init : goal.loop-init
loop-init c =
    let n : c.in_ok-count.count / 2 - 0 ≡ c.in_ok-count.count / 2 = omega arith in
    (omega arith, rw n (turn-start _ _ _ (sym c.read_number_for.ensures ∙ c.in_ok-count.was)))

pub returns-in_err-start : goal.returns-in_err-start
returns-in_err-start c =
    let a = c.args in
    let l = c.loop in
    let n = c.in_ok-count.count / 2 - l.counter in
    let e : ranges_at a.least a.s.now a.at ≡ Err c.in_err-start.field-0.0 =
    sym l.invariant.1 ∙ turn-bad _ _ _ n _ _ _ (n - 1) (omega arith) (sym c.read_pair.ensures ∙ c.in_err-start.was) in
    rw e (search rules)

pub overflow_sub-blocks : goal.overflow_sub-blocks
overflow_sub-blocks c = pair_order _ _ _ (sym c.read_pair.ensures ∙ c.in_ok-start.was)

pub loop-preserved : goal.loop-preserved
loop-preserved c =
    let l = c.loop in
    let e = sym c.read_pair.ensures ∙ c.in_ok-start.was in
    let m = pair_most _ _ _ e in (
      omega arith,
      rw c.max-last.ensures (sym (turn_more _ _ _ _ _ _ _ _ (omega arith) e) ∙ l.invariant.1),
    )

pub returns : goal.returns
returns c = sym (turn_end _ _ _ _ _ _ _ (omega arith)) ∙ c.loop.invariant.1
