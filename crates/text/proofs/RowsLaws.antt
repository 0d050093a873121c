-- Laws of `specs/Rows.antt`: where a table of refusals gives none, no row of it applies; what no row gives is not given; and a proof along a
-- table, row by row.
-- Assumes nothing.
use mathlib.Core.Path.{◌≡◌, refl, ◌∙◌}
use mathlib.Core.Bool.{Bool, true, false}
use mathlib.Core.List.{List, [], ◌∷◌}
use Prim.Native.Nat.{ℕ, zero, suc, ◌<◌}
use native.Mathlib.Omega.{arith}
use borrow.Author.Tests.{ltb-true}
use lib.Dec.{ltb}
use Rattle.text.specs.Choice.{pick, both, no}
use Rattle.text.specs.Rows.{Row, first_of}
use Rattle.text.proofs.ChoiceLaws.{picks, both_true, no_true}

-- what is given past some rows is what the whole table gives: that part first, then what is given there
pub via : {A : Type 0} {a b c : A} → b ≡ c → a ≡ b → a ≡ c
via p q = q ∙ p

-- the test of row i, the first of which is row 0
abbrev pub test_of : {A : Type 0} → List (Row A) → ℕ → Bool
test_of [] i = false
test_of (r ∷ rows) zero = r.when
test_of (r ∷ rows) (suc i) = test_of rows i

module _ {A : Type 0} (number : A → ℕ) where
  -- every row gives a number, and 0 is none
  abbrev pub numbered : List (Row A) → Bool
  numbered [] = true
  numbered (r ∷ rows) = both (ltb 0 (number r.gives)) (numbered rows)

  pub none-applies : (rows : List (Row A)) (other : A) → numbered rows ≡ true → number (first_of rows other) ≡ 0 →
      (i : ℕ) → test_of rows i ≡ false
  none-applies [] other p e i = refl
  none-applies (r ∷ rows) other p e i =
      let b = both_true (ltb 0 (number r.gives)) (numbered rows) p in
      go r.when refl (ltb-true 0 (number r.gives) b.0) (none-applies rows other b.1) e i
    where
      go : (t : Bool) → r.when ≡ t → 0 < number r.gives → (number (first_of rows other) ≡ 0 → (i : ℕ) → test_of rows i ≡ false) →
          number (pick t r.gives (first_of rows other)) ≡ 0 → (i : ℕ) → test_of (r ∷ rows) i ≡ false
      go true q l k e i = absurd (omega arith)
      go false q l k e zero = q
      go false q l k e (suc i) = k e i

module _ {A : Type 0} (test : A → Bool) where
  -- no row gives what passes the test
  abbrev pub none_gives : List (Row A) → Bool
  none_gives [] = true
  none_gives (r ∷ rows) = both (no (test r.gives)) (none_gives rows)

  pub not_given : (rows : List (Row A)) (other : A) → none_gives rows ≡ true → test other ≡ false → test (first_of rows other) ≡ false
  not_given [] other p e = e
  not_given (r ∷ rows) other p e =
      let b = both_true (no (test r.gives)) (none_gives rows) p in
      picks (λ (x : A). test x ≡ false) r.when r.gives (first_of rows other)
      (λ t. no_true (test r.gives) b.0)
      (λ t. not_given rows other b.1 e)
