-- A table of cases, as document 01 writes its refusals: each row has a test and what it gives; the first row whose test is true decides.
-- Assumes nothing: these are definitions.
use Rattle.std.specs.Prelude.{Bool, List, [], ◌∷◌}
use Rattle.text.specs.Choice.{pick}

pub record Row (A : Type 0) : Type 0 where
  pub when : Bool
  pub gives : A

infix 68 ◌⇒◌
abbrev pub ◌⇒◌ : {A : Type 0} → Bool → A → Row A
◌⇒◌ when gives = record { when = when; gives = gives }

-- what the first row that applies gives, or the other value where none does
abbrev pub first_of : {A : Type 0} → List (Row A) → A → A
first_of [] other = other
first_of (r ∷ rows) other = pick r.when r.gives (first_of rows other)
