-- Laws of `specs/Choice.antt`: a choice by its two cases, and what a test of two parts says of each.
-- Assumes nothing.
use mathlib.Core.Path.{◌≡◌, refl, sym, ◌∙◌}
use mathlib.Core.Bool.{Bool, true, false}
use mathlib.Core.Logic.{◌⊎◌, inl, inr}
use Prim.Native.Nat.{ℕ, ◌≤◌, ◌<◌}
use native.Mathlib.Omega.{arith}
use lib.Dec.{leb, ltb}
use borrow.Author.Tests.{le-leb, lt-leb, lt-ltb, le-ltb}
use Rattle.text.specs.Choice.{pick, both, either, no}

-- a test is true or false
pub bool : (b : Bool) → (b ≡ true) ⊎ (b ≡ false)
bool true = inl refl
bool false = inr refl

-- what holds of both values holds of the chosen one
pub picks {ℓ} : {A : Type ℓ} (P : A → Type 0) (b : Bool) (x y : A) → (b ≡ true → P x) → (b ≡ false → P y) → P (pick b x y)
picks P true x y f g = f refl
picks P false x y f g = g refl

-- a choice by a test m, which is x
module _ {A : Type 0} {a : A} (x : Bool) (first second : A) {m : Bool} (is : m ≡ x) where
  pub pick_true : m ≡ true → a ≡ first → a ≡ pick x first second
  pick_true e h = rw (sym is ∙ e) h

  pub pick_false : m ≡ false → a ≡ second → a ≡ pick x first second
  pick_false e h = rw (sym is ∙ e) h

-- .. by an order, which is known
module _ {A : Type 0} {a : A} (m n : ℕ) (first second : A) where
  pub pick_le : m ≤ n → a ≡ first → a ≡ pick (leb m n) first second
  pick_le l h = rw (le-leb m n l) h

  pub pick_above : n < m → a ≡ second → a ≡ pick (leb m n) first second
  pick_above l h = rw (lt-leb m n l) h

  pub pick-below : m < n → a ≡ first → a ≡ pick (ltb m n) first second
  pick-below l h = rw (lt-ltb m n l) h

  pub pick-least : n ≤ m → a ≡ second → a ≡ pick (ltb m n) first second
  pick-least l h = rw (le-ltb m n l) h

pub both_true : (a b : Bool) → both a b ≡ true → (a ≡ true) × (b ≡ true)
both_true true b e = (refl, e)
both_true false b e = absurd (let z : ◌≡◌ {A = ℕ} 0 1 = cc in omega arith)

pub both_is : {a b : Bool} → a ≡ true → b ≡ true → both a b ≡ true
both_is e f = rw (e, f)

pub either_or_true : (a : Bool) → true ≡ either a true
either_or_true true = refl
either_or_true false = refl

pub either_or_false : (a : Bool) → a ≡ either a false
either_or_false true = refl
either_or_false false = refl

pub either-either : (a b c : Bool) → either (either a b) c ≡ either a (either b c)
either-either true b c = refl
either-either false b c = refl

pub either_is : (a : Bool) {b : Bool} → b ≡ true → either a b ≡ true
either_is true e = refl
either_is false e = e

pub either_true : (a b : Bool) → either a b ≡ true → (a ≡ true) ⊎ (b ≡ true)
either_true true b e = inl refl
either_true false b e = inr e

pub either_false : (a b : Bool) → either a b ≡ false → (a ≡ false) × (b ≡ false)
either_false true b e = absurd (let z : ◌≡◌ {A = ℕ} 0 1 = cc in omega arith)
either_false false b e = (refl, e)

pub no_true : (a : Bool) → no a ≡ true → a ≡ false
no_true true e = sym e
no_true false e = refl

pub no_false : (a : Bool) → no a ≡ false → a ≡ true
no_false true e = refl
no_false false e = sym e
