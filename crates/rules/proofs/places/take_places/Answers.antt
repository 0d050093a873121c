-- `rules::places::take_places` meets its contract.
use mathlib.Core.Path.{◌≡◌, sym, ap, ◌∙◌}
use Prim.Native.Nat.{ℕ, ◌-◌, ◌<◌}
use mathlib.Core.List.{List, ◌++◌}
use lib.ListN.{length}
use Rattle.std.specs.Prelude.{Option, Some}
use Rattle.ranges.specs.declared.walk.Walk.{Walk}
use Rattle.ranges.specs.Ranges.{span}
use Rattle.ranges.specs.Walk.{remaining, step_of, past_range}
use Rattle.ranges.proofs.WalkLaws.{walk_start, walk-done, walk-fewer}
use Rattle.rules.proofs.RangeLaws.{range_left}
use Rattle.rules.proofs.PlaceLaws.{Pass, pass-start, pass-left, pass-done, pass_some, pass_fails}
use Rattle.rules.proofs.places.take_places.Goals as goal

-- one step of the walk: what is left begins with the rest of its range
module _ (l : List ℕ) (w : Walk) {s : Option (ℕ × Walk)} (e : s ≡ step_of l w) {p : ℕ} {rest : Walk} (f : s ≡ Some (p, rest)) where
  pass_range : {n : ℕ} {before ps marks : List ℕ} → Pass n before ps marks (remaining l w) →
      Pass n before ps marks (span p (rest.end - p) ++ remaining l (past_range rest))
  pass_range k = pass-left (range_left l w (sym e ∙ f)) k

  -- fewer places are left then
  fewer : {next : Walk} → next ≡ past_range rest → length (remaining l next) < length (remaining l w)
  fewer is = rw is (walk-fewer l w (sym e ∙ f))

pub loop-p-init : goal.loop-p-init
loop-p-init c = pass-left (sym (ap (remaining _) c.walk_from-w.ensures ∙ walk_start _ _)) (pass-start _ _ _)

pub returns-then-not-take_range : goal.returns-then-not-take_range
returns-then-not-take_range c =
    pass_fails _ _ (pass_range _ _ c.next_block.ensures c.in-Some.is c.loop-p.invariant) c.take_range.ensures c.if-not-take_range.true

pub loop-p-smaller : goal.loop-p-smaller
loop-p-smaller c = fewer _ _ c.next_block.ensures c.in-Some.is c.past_range-w.ensures

pub loop-p-preserved : goal.loop-p-preserved
loop-p-preserved c =
    pass-left (ap (remaining _) (sym c.past_range-w.ensures))
    (pass_some _ _ (pass_range _ _ c.next_block.ensures c.in-Some.is c.loop-p.invariant) c.take_range.ensures c.if-not-take_range.false)

pub returns : goal.returns
returns c = pass-done (pass-left (walk-done _ _ (sym c.next_block.ensures ∙ c.in_default.is)) c.loop-p.invariant)
