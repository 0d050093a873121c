-- Document 02, R-4: an added byte is source byte plus patch byte modulo 256, a position outside the source counting as 0.
-- Assumes nothing: these are definitions.
use Rattle.std.specs.Prelude.{ℕ, suc, ◌+◌, ◌-◌, ◌%◌, List, [], ◌∷◌, nat_le, slice_index}
use Rattle.text.specs.Choice.{pick}
use Rattle.patch.specs.Position.{origin}

-- the source's byte at a position; 0 before its first one and past its last
unfoldable pub source_at : List ℕ → ℕ → ℕ
source_at source position = pick (nat_le origin position) (slice_index source (position - origin)) 0

-- patch bytes added to the source's from a position on
unfoldable pub added : List ℕ → ℕ → List ℕ → List ℕ
added source position [] = []
added source position (b ∷ bs) = (source_at source position + b) % 256 ∷ added source (suc position) bs
