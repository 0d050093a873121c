-- A machine that takes bytes one by one, for any machine: `waits` says that it can go no further without a byte, or has stopped; `quiet`
-- is a step that needs no byte; `put` is the step by a byte. `feeds` is what a call does with a piece, `counts` how many of its bytes
-- it takes.
-- Assumes nothing: these are definitions.
use Rattle.std.specs.Prelude.{Bool, List, [], ◌∷◌, ℕ, zero, suc}
use Rattle.text.specs.Choice.{pick}

pub record Machine : Type 1 where
  pub Config : Type 0
  pub waits : Config → Bool
  pub stopped : Config → Bool
  pub quiet : Config → Config
  pub put : ℕ → Config → Config
  pub fuel : Config → ℕ

unfoldable pub run : (k : Machine) → ℕ → k.Config → k.Config
run k zero m = m
run k (suc f) m = pick (k.waits m) m (run k f (k.quiet m))

-- every step that needs no byte
unfoldable pub advance : (k : Machine) → k.Config → k.Config
advance k m = run k (k.fuel m) m

-- the bytes of a piece, until it ends or the machine has stopped
unfoldable pub feeds : (k : Machine) → List ℕ → k.Config → k.Config
feeds k [] m = advance k m
feeds k (x ∷ xs) m = pick (k.stopped (advance k m)) (advance k m) (feeds k xs (k.put x (advance k m)))

-- how many of them it takes
unfoldable pub counts : (k : Machine) → List ℕ → k.Config → ℕ
counts k [] m = zero
counts k (x ∷ xs) m = pick (k.stopped (advance k m)) zero (suc (counts k xs (k.put x (advance k m))))
