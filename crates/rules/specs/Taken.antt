-- Refusal 12 checked in one pass over the places: the marks of the places below N say which are taken. For the proofs of the code alone.
-- Assumes nothing: these are definitions.
use Rattle.std.specs.Prelude.{ℕ, ◌*◌, ◌≤◌, ◌<◌, ◌≡◌, Bool, true, List, [], ◌∷◌, length}
use Rattle.text.specs.Choice.{no}
use Rattle.marks.specs.Marks.{places_per_byte, is_taken}
use Rattle.rules.specs.Move.{is_in, some_misplaced}

-- there is a mark for each place below n, and it says whether the place is taken
pub record Taken (n : ℕ) (marks taken : List ℕ) : Type 0 where
  pub room : n ≤ places_per_byte * length marks
  pub each : (p : ℕ) → p < n → is_taken marks p ≡ is_in p taken

-- what is taken once these places are too
unfoldable pub taken_after : List ℕ → List ℕ → List ℕ
taken_after taken [] = taken
taken_after taken (p ∷ ps) = taken_after (p ∷ taken) ps

-- whatever was taken before: yes if no place is misplaced, and with a yes the marks say that these places are taken too
pub record Takes (n : ℕ) (before after ps : List ℕ) (yes : Bool) : Type 0 where
  pub answer : (taken : List ℕ) → Taken n before taken → yes ≡ no (some_misplaced n taken ps)
  pub along : (taken : List ℕ) → Taken n before taken → yes ≡ true → Taken n after (taken_after taken ps)
