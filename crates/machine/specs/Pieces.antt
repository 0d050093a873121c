-- Document 01, "Calls": each call takes one piece, and goes on where the call before it ended. For any machine.
-- Assumes nothing: these are definitions.
use Rattle.std.specs.Prelude.{ℕ, zero, ◌+◌, List, [], ◌∷◌, ◌++◌}
use Rattle.machine.specs.Machine.{Machine, feeds, counts}

-- all pieces joined
unfoldable pub joined : List (List ℕ) → List ℕ
joined [] = []
joined (p ∷ ps) = p ++ joined ps

-- where the calls end, one to a piece
unfoldable pub calls : (k : Machine) → List (List ℕ) → k.Config → k.Config
calls k [] m = m
calls k (p ∷ ps) m = calls k ps (feeds k p m)

-- how many bytes they take in all
unfoldable pub totals : (k : Machine) → List (List ℕ) → k.Config → ℕ
totals k [] m = zero
totals k (p ∷ ps) m = counts k p m + totals k ps (feeds k p m)
