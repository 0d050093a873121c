-- A walk that takes the blocks of a range all at once.
-- Assumes nothing.
use mathlib.Core.Path.{◌≡◌, refl, sym, ap, subst, ◌∙◌}
use mathlib.Core.Bool.{Bool, true, false}
use mathlib.Core.List.{List, ◌∷◌, ◌++◌}
use Prim.Native.Nat.{ℕ, zero, suc, ◌+◌, ◌-◌, ◌<◌}
use lib.Dec.{ltb}
use borrow.Author.Tests.{ltb-true}
use Rattle.std.specs.Prelude.{Option, Some, None, Ok, Err}
use Rattle.text.specs.Choice.{pick}
use Rattle.text.specs.Read.{Read}
use Rattle.ranges.specs.Ranges.{least_again, pair_at, on_pair, span}
use Rattle.ranges.specs.Walk.{remaining, step_in, step_of, past_range}
use Rattle.ranges.specs.declared.walk.Walk.{Walk}
use Rattle.ranges.proofs.WalkLaws.{span_more, walk_block, walk_range}

-- a step stops in a range that has its block, just past it
abbrev Met : Option (ℕ × Walk) → Type 0
Met (Some (b, w)) = (b < w.end) × (w.block ≡ b + 1)
Met None = Unit {0}

step_met : (n : ℕ) (s : List ℕ) (at block end : ℕ) → Met (step_in n s at block end)
unfolding step_in
step_met zero s at block end = go (ltb block end) refl
  where
    go : (t : Bool) → ltb block end ≡ t → Met (pick t (Some (block, (record { at = at; left = 0; block = block + 1; end = end }))) None)
    go true e = (ltb-true block end e, refl)
    go false e = tt
step_met (suc n) s at block end = go (ltb block end) refl (next (pair_at least_again s at) (step_met n s))
  where
    next : (p : Read (ℕ × ℕ)) → ((at block end : ℕ) → Met (step_in n s at block end)) → Met (on_pair p (λ a b i. step_in n s i a b) (λ p. None))
    next (Ok ((a, b), i)) h = h i a b
    next (Err p) h = tt

    go : (t : Bool) → ltb block end ≡ t → Met (on_pair (pair_at least_again s at) (λ a b i. step_in n s i a b) (λ p. None)) →
        Met
        (pick t (Some (block, (record { at = at; left = suc n; block = block + 1; end = end })))
        (on_pair (pair_at least_again s at) (λ a b i. step_in n s i a b) (λ p. None)))
    go true e h = (ltb-true block end e, refl)
    go false e h = h

module _ (s : List ℕ) (w : Walk) {b : ℕ} {w' : Walk} (e : step_of s w ≡ Some (b, w')) where
  met : Met (Some (b, w'))
  unfolding step_of
  met = subst Met e (step_met w.left s w.at w.block w.end)

  -- the blocks that are left: those of the range from this one on, and those past it
  pub range_left : remaining s w ≡ span b (w'.end - b) ++ remaining s (past_range w')
  range_left =
      walk_block s w e
      ∙ ap (λ (r : List ℕ). b ∷ r) (walk_range s w')
      ∙ ap (λ (k : ℕ). b ∷ (span k (w'.end - k) ++ remaining s (past_range w'))) met.1
      ∙ sym (ap (λ (r : List ℕ). r ++ remaining s (past_range w')) (span_more b w'.end met.0))
