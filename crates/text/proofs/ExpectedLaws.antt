-- What `specs/Expected.antt` says, case by case.
-- Assumes nothing.
use mathlib.Core.Path.{◌≡◌, refl, subst}
use Prim.Native.Nat.{ℕ, ◌+◌, ◌≤◌, ◌<◌}
use mathlib.Core.Bool.{Bool, true, false}
use mathlib.Core.List.{List}
use lib.ListN.{length, get_or}
use lib.Dec.{ltb, eqb}
use borrow.Author.Tests.{lt-ltb, le-ltb, eq-eqb, ne_eqb, ltb-true, eqb-true}
use Rattle.text.specs.Choice.{pick, both}
use Rattle.text.specs.Expected.{expected_at}
use Rattle.std.specs.Prelude.{Result, Ok, Err}

-- what a mark that was read tells: the next position, and that the mark stands in the text
abbrev Stood : List ℕ → ℕ → ℕ → Result ℕ ℕ → Type 0
Stood s at m (Ok next) = (next ≡ at + 1) × (at < length s) × (get_or s at 0 ≡ m)
Stood s at m (Err p) = Unit {0}

module _ (s : List ℕ) (at m : ℕ) where
  pub mark-end : length s ≤ at → expected_at s at m ≡ Err at
  unfolding expected_at
  mark-end h = rw (le-ltb at (length s) h)

  pub mark-other : at < length s → (get_or s at 0 ≡ m → ⊥) → expected_at s at m ≡ Err at
  unfolding expected_at
  mark-other h n = rw (lt-ltb at (length s) h, ne_eqb (get_or s at 0) m n)

  pub mark-stands : at < length s → get_or s at 0 ≡ m → expected_at s at m ≡ Ok (at + 1)
  unfolding expected_at
  mark-stands h e = rw (lt-ltb at (length s) h, eq-eqb (get_or s at 0) m e)

  stood : Stood s at m (expected_at s at m)
  unfolding expected_at
  stood = go (ltb at (length s)) (eqb (get_or s at 0) m) refl refl
    where
      go : (p q : Bool) → ltb at (length s) ≡ p → eqb (get_or s at 0) m ≡ q → Stood s at m (pick (both p q) (Ok (at + 1)) (Err at))
      go true true e f = (refl, ltb-true at (length s) e, eqb-true (get_or s at 0) m f)
      go true false e f = tt
      go false q e f = tt

  pub expected-next : {next : ℕ} → expected_at s at m ≡ Ok next → (next ≡ at + 1) × (at < length s) × (get_or s at 0 ≡ m)
  expected-next e = subst (Stood s at m) e stood
