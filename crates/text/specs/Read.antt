-- What a reader of the text answers, and what follows an answer.
-- Assumes nothing: these are definitions.
use Rattle.std.specs.Prelude.{ℕ, Option, Some, None, Result, Ok, Err}

-- what was read and the position past it, or the position of the first fault
abbrev pub Read : Type 0 → Type 0
Read A = Result (A × ℕ) ℕ

-- what follows it: `good` of what was read and of the position past it, or `bad` of the fault's position
abbrev pub on_read : {A B : Type 0} → Read A → (A → ℕ → B) → (ℕ → B) → B
on_read (Ok (x, next)) good bad = good x next
on_read (Err p) good bad = bad p

-- the same of any result
abbrev pub on_result : {A E B : Type 0} → Result A E → (A → B) → (E → B) → B
on_result (Ok x) good bad = good x
on_result (Err e) good bad = bad e

-- `some` of what there is, else `none`
abbrev pub on_option : {A B : Type 0} → Option A → (A → B) → B → B
on_option (Some x) some none = some x
on_option None some none = none
