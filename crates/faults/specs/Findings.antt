-- Document 02, R-6: what the readers' answers say of a whole line, and of a range set that stands alone.
-- Assumes nothing: these are definitions.
use Rattle.std.specs.Prelude.{ℕ, ◌+◌, List, [], ◌∷◌}
use Rattle.command.specs.declared.Command.{Command}
use Rattle.command.specs.declared.Command.TheVariants.{Zero, Erase, New, Move, Bsdiff, Stash, Free, Unsupported, Bad}
use Rattle.faults.specs.Language.{Finding, good, fault}

-- the finding of a line that starts at position `at` of the text. No good line begins with `imgdiff`: its fault is the first byte
unfoldable pub finding_at : ℕ → Command → Finding
finding_at at (Bad p) = fault (at + p)
finding_at at Unsupported = fault at
finding_at at (Zero set) = good
finding_at at (Erase set) = good
finding_at at (New set) = good
finding_at at (Move target n source) = good
finding_at at (Bsdiff target n source) = good
finding_at at (Stash set) = good
finding_at at Free = good

-- nothing may follow, at position `next`
unfoldable pub ended : List ℕ → ℕ → Finding
ended [] next = good
ended (b ∷ t) next = fault next
