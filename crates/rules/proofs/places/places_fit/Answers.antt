-- `rules::places::places_fit` meets its contract: a pass over the places that the source names, of which none is taken
-- yet.
use mathlib.Core.Path.{◌≡◌, sym, ap, subst, ◌∙◌}
use mathlib.Core.Bool.{Bool, true}
use mathlib.Core.List.{List, [], ◌++◌}
use Prim.Native.Nat.{ℕ, ◌≤◌}
use lib.ListN.{length}
use native.Mathlib.Omega.{arith}
use Rattle.text.specs.Choice.{no}
use Rattle.ranges.specs.Walk.{blocks_at}
use Rattle.ranges.specs.declared.RangeSet.{RangeSet}
use Rattle.state.specs.Limits.{most_area_blocks}
use Rattle.command.specs.Parts.{uses_at}
use Rattle.command.specs.declared.source.Source.{Source}
use Rattle.command.specs.declared.source.Source.TheVariants.{Blocks, Stashes, Both}
use Rattle.rules.specs.Move.{places_of, places_by, some_misplaced, source_misplaced}
use Rattle.marks.specs.Marks.{mark_bytes, cleared}
use Rattle.rules.specs.Taken.{Taken, Takes}
use Rattle.rules.proofs.PlaceLaws.{taken_none, Pass, pass-start, pass-left, pass_some, pass_fails, pass-last}
use Rattle.rules.proofs.places.places_fit.Goals as goal

-- a pass over the places of a source has begun, and what is left depends on the source's form
abbrev Begun : List ℕ → ℕ → Source → List ℕ → List ℕ → Type 0
Begun l n source marks left = Pass n marks (places_by l source) marks left

module _ (l : List ℕ) (n : ℕ) (source : Source) {marks : List ℕ} where
  begin_stashes : {first : ℕ} → source ≡ Stashes first → Begun l n source marks (places_of l (uses_at l first))
  unfolding places_by
  begin_stashes e = pass-left (ap (places_by l) e) (pass-start _ _ _)

  begin_both : {set at : RangeSet} {first : ℕ} → source ≡ Both set at first →
      Begun l n source marks (blocks_at l at.at ++ places_of l (uses_at l first))
  unfolding places_by
  begin_both e = pass-left (ap (places_by l) e) (pass-start _ _ _)

  -- none is taken where the marks have been cleared
  fit : (before : List ℕ) {after : List ℕ} {yes : Bool} → n ≤ most_area_blocks → length before ≡ mark_bytes → marks ≡ cleared before n →
      Takes n marks after (places_by l source) yes → yes ≡ no (source_misplaced l n source)
  fit before h s e a = a.answer [] (subst (λ (m : List ℕ). Taken n m []) (sym e) (taken_none before n (omega arith)))

-- form one names no place
fit-blocks : (l : List ℕ) (n : ℕ) (source : Source) {set : RangeSet} → source ≡ Blocks set → true ≡ no (source_misplaced l n source)
unfolding places_by some_misplaced
fit-blocks l n source e = rw e

pub returns-in-Blocks : goal.returns-in-Blocks
returns-in-Blocks c = fit-blocks _ _ _ c.in-Blocks.is

pub returns-in-Stashes : goal.returns-in-Stashes
returns-in-Stashes c =
    let k = c.clear_marks in
    fit _ _ _ _ (omega arith) k.ensures.sized k.ensures.clear
    (pass-last (begin_stashes _ _ _ c.in-Stashes.is) c.take_uses.ensures)

pub returns-then-take_places : goal.returns-then-take_places
returns-then-take_places c =
    let k = c.clear_marks-in-Both in
    fit _ _ _ _ (omega arith) k.ensures.sized k.ensures.clear
    (pass-last
    (pass_some _ _ (begin_both _ _ _ c.in-Both.is) c.take_places.ensures c.if-take_places.true)
    c.take_uses-then-take_places.ensures)

pub returns-else-take_places : goal.returns-else-take_places
returns-else-take_places c =
    let k = c.clear_marks-in-Both in
    c.if-take_places.false
    ∙ fit _ _ _ _ (omega arith) k.ensures.sized k.ensures.clear
    (pass_fails _ _ (begin_both _ _ _ c.in-Both.is) c.take_places.ensures c.if-take_places.false)
