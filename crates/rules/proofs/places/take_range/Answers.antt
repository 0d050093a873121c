-- `rules::places::take_range` meets its contract.
use mathlib.Core.Path.{◌≡◌, refl, sym, subst, ◌∙◌}
use mathlib.Core.Bool.{Bool, true, false}
use native.Mathlib.Omega.{arith}
use Prim.Native.Nat.{◌-◌}
use Rattle.ranges.specs.Ranges.{span}
use lib.Dec.{leb}
use borrow.Author.Tests.{le-leb, leb-true, leb-false}
use Rattle.rules.specs.Taken.{Takes}
use Rattle.ranges.proofs.WalkLaws.{span_none, span_more}
use Rattle.rules.proofs.PlaceLaws.{pass-left, pass-done, pass-past, pass_twice, pass-place}
use Rattle.rules.proofs.places.take_range.Goals as goal

pub returns-then-not-take_place : goal.returns-then-not-take_place
returns-then-not-take_place c =
    let k = pass-left (span_more _ _ (omega arith)) c.loop-p.invariant in
    pass_twice k (omega arith) (sym c.take_place.ensures.answer ∙ c.if-not-take_place.true)

pub loop-p-preserved : goal.loop-p-preserved
loop-p-preserved c =
    pass-place (pass-left (span_more _ _ (omega arith)) c.loop-p.invariant) (omega arith)
    (sym c.take_place.ensures.answer ∙ c.if-not-take_place.false) c.take_place.ensures.marked

pub returns-then-to-n : goal.returns-then-to-n
returns-then-to-n c =
    subst (Takes _ _ _ _) (sym (le-leb _ _ c.if-to-n.true)) (pass-done (pass-left (span_none _ _ (omega arith)) c.loop-p.invariant))

pub returns-else-to-n : goal.returns-else-to-n
returns-else-to-n c = go (leb c.args.to c.args.from) refl
  where
    go : (t : Bool) → leb c.args.to c.args.from ≡ t →
        Takes c.args.n c.args.marks.now c.loop-p.marks (span c.args.from (c.args.to - c.args.from)) (leb c.args.to c.args.from)
    go true e =
        let h = leb-true _ _ e in
        subst (Takes _ _ _ _) (sym e) (pass-done (pass-left (span_none _ _ (omega arith)) c.loop-p.invariant))
    go false e =
        let h = leb-false _ _ e in
        subst (Takes _ _ _ _) (sym e) (pass-past (pass-left (span_more _ _ (omega arith)) c.loop-p.invariant) (omega arith))
