-- Places that 12 does not refuse, as many as N, are all of 0 to N-1: each is below N and none is taken twice, so that none is left out.
-- Assumes nothing.
use mathlib.Core.Path.{◌≡◌, refl, sym, ap, ◌∙◌}
use mathlib.Core.Bool.{Bool, true, false}
use mathlib.Core.List.{List, [], ◌∷◌, ◌++◌}
use mathlib.Core.Logic.{⊎_elim}
use Prim.Native.Nat.{ℕ, zero, suc, ◌≤◌, ◌<◌}
use native.Mathlib.Omega.{arith}
use borrow.Author.Tests.{eqb-true, eqb-false, eq-eqb}
use lib.Dec.{leb, eqb}
use lib.ListN.{length}
use Rattle.text.specs.Choice.{pick, either}
use Rattle.text.proofs.ChoiceLaws.{bool, either_false, either_is, either-either}
use Rattle.ranges.specs.Walk.{AllBelow}
use Rattle.rules.specs.Move.{is_in, some_misplaced}
use Rattle.rules.proofs.RuleLaws.{misplaced-below}

pub in_append : (k : ℕ) (xs ys : List ℕ) → is_in k (xs ++ ys) ≡ either (is_in k xs) (is_in k ys)
unfolding is_in
in_append k [] ys = refl
in_append k (x ∷ xs) ys = rw (in_append k xs ys) (sym (either-either (eqb k x) (is_in k xs) (is_in k ys)))

-- no number stands twice
Distinct : List ℕ → Type 0
Distinct [] = Unit {0}
Distinct (p ∷ ps) = (is_in p ps ≡ false) × Distinct ps

-- ---- numbers below n, none twice, are n at the most

-- without one number
except : ℕ → List ℕ → List ℕ
except n [] = []
except n (p ∷ ps) = pick (eqb n p) (except n ps) (p ∷ except n ps)

except-none : (n : ℕ) (ps : List ℕ) → is_in n ps ≡ false → except n ps ≡ ps
unfolding except is_in
except-none n [] e = refl
except-none n (p ∷ ps) e = let d = either_false (eqb n p) (is_in n ps) e in rw (d.0, except-none n ps d.1)

in_except : (n k : ℕ) (ps : List ℕ) → is_in k ps ≡ false → is_in k (except n ps) ≡ false
unfolding except is_in
in_except n k [] e = refl
in_except n k (p ∷ ps) e = let d = either_false (eqb k p) (is_in k ps) e in go (eqb n p) d.0 (in_except n k ps d.1)
  where
    go : (b : Bool) → eqb k p ≡ false → is_in k (except n ps) ≡ false → is_in k (pick b (except n ps) (p ∷ except n ps)) ≡ false
    go true e r = r
    go false e r = rw (e, r)

distinct_except : (n : ℕ) (ps : List ℕ) → Distinct ps → Distinct (except n ps)
unfolding except Distinct
distinct_except n [] d = tt
distinct_except n (p ∷ ps) d = go (eqb n p) (in_except n p ps d.0) (distinct_except n ps d.1)
  where
    go : (b : Bool) → is_in p (except n ps) ≡ false → Distinct (except n ps) → Distinct (pick b (except n ps) (p ∷ except n ps))
    go true e r = r
    go false e r = (e, r)

below-except : (n : ℕ) (ps : List ℕ) → AllBelow (suc n) ps → AllBelow n (except n ps)
unfolding except AllBelow
below-except n [] h = tt
below-except n (p ∷ ps) h = go (eqb n p) refl (below-except n ps h.1)
  where
    go : (b : Bool) → eqb n p ≡ b → AllBelow n (except n ps) → AllBelow n (pick b (except n ps) (p ∷ except n ps))
    go true e r = r
    go false e r = let x = h.0 in (omega (arith, eqb-false n p e), r)

-- a number that stands once is one of them
length-except : (n : ℕ) (ps : List ℕ) → Distinct ps → length ps ≤ suc (length (except n ps))
unfolding except Distinct
length-except n [] d = omega arith
length-except n (p ∷ ps) d = go (eqb n p) refl (length-except n ps d.1)
  where
    go : (b : Bool) → eqb n p ≡ b → length ps ≤ suc (length (except n ps))
        → suc (length ps) ≤ suc (length (pick b (except n ps) (p ∷ except n ps)))
    go true e r = omega (arith, ap length (except-none n ps (rw (eqb-true n p e) d.0)))
    go false e r = omega arith

few : (n : ℕ) (ps : List ℕ) → Distinct ps → AllBelow n ps → length ps ≤ n
unfolding AllBelow
few zero [] d h = omega arith
few zero (p ∷ ps) d h = absurd (omega (arith, h.0))
few (suc n) ps d h = omega (arith, few n (except n ps) (distinct_except n ps d) (below-except n ps h), length-except n ps d)

-- ---- places

-- what is taken already is not among them
not_taken : (n q : ℕ) (taken ps : List ℕ) → some_misplaced n taken ps ≡ false → is_in q taken ≡ true → is_in q ps ≡ false
unfolding some_misplaced is_in
not_taken n q taken [] e t = refl
not_taken n q taken (p ∷ ps) e t =
    let a = either_false (leb n p) (either (is_in p taken) (some_misplaced n (p ∷ taken) ps)) e in
    let b = either_false (is_in p taken) (some_misplaced n (p ∷ taken) ps) a.1 in
    rw (not_taken n q (p ∷ taken) ps b.1 (either_is (eqb q p) t)) (other (eqb q p) refl b.0)
  where
    other : (b : Bool) → eqb q p ≡ b → is_in p taken ≡ false → either b false ≡ false
    other true e f = sym t ∙ rw (eqb-true q p e) f
    other false e f = refl

distinct_places : (n : ℕ) (taken ps : List ℕ) → some_misplaced n taken ps ≡ false → Distinct ps
unfolding some_misplaced Distinct is_in
distinct_places n taken [] e = tt
distinct_places n taken (p ∷ ps) e =
    let a = either_false (leb n p) (either (is_in p taken) (some_misplaced n (p ∷ taken) ps)) e in
    let b = either_false (is_in p taken) (some_misplaced n (p ∷ taken) ps) a.1 in
    (not_taken n p (p ∷ taken) ps b.1 (rw (eq-eqb p p refl)), distinct_places n (p ∷ taken) ps b.1)

-- every place below n is among n of them
pub places_cover : (n : ℕ) (ps : List ℕ) → some_misplaced n [] ps ≡ false → length ps ≡ n → (k : ℕ) → k < n → is_in k ps ≡ true
unfolding Distinct AllBelow
places_cover n ps e l k h =
    ⊎_elim
    (λ t. t)
    (λ t.
    let most = few n (k ∷ ps) (t, distinct_places n [] ps e) (h, misplaced-below n [] ps e) in
    absurd (omega arith))
    (bool (is_in k ps))
