-- Document 02, R-4: a patch is records to its end. They make the result, each its added bytes and then its extra bytes, and the result's
-- length is the target's.
-- Assumes nothing: these are definitions.
use Rattle.std.specs.Prelude.{ℕ, zero, suc, ◌+◌, ◌-◌, Bool, true, false, List, [], ◌∷◌, ◌++◌, length, take, drop, ◌==◌, nat_lt}
use Rattle.text.specs.Choice.{pick, both}
use Rattle.text.specs.Read.{on_option}
use Rattle.patch.specs.Position.{origin}
use Rattle.patch.specs.Record.{record_at}
use Rattle.patch.specs.Added.{added}
use Rattle.patch.specs.declared.records.Record.{Record}

-- ---- the records

-- those before the first malformed one, and whether there is none
pub record Records : Type 0 where
  pub list : List Record
  pub good : Bool

abbrev pub stopped : Bool → Records
stopped good = record { list = []; good = good }

abbrev pub follow : Record → Records → Records
follow r rest = record { list = r ∷ rest.list; good = rest.good }

-- the records from a byte of the patch to its end, where they are fewer than n, with the position before them
unfoldable pub records_at : ℕ → List ℕ → ℕ → ℕ → Records
records_at zero patch at position = stopped false
records_at (suc n) patch at position =
    pick (nat_lt at (length patch))
    (on_option (record_at patch at position) (λ r. follow r (records_at n patch r.end r.next)) (stopped false))
    (stopped true)

-- however many they are: each has bytes of the patch
unfoldable pub records_from : List ℕ → ℕ → ℕ → Records
records_from patch at position = records_at (suc (length patch - at)) patch at position

abbrev pub records_of : List ℕ → Records
records_of patch = records_from patch 0 origin

-- ---- the result

-- the bytes from one place to another
abbrev pub between : ℕ → ℕ → List ℕ → List ℕ
between start end bytes = take (end - start) (drop start bytes)

-- what a record makes
unfoldable pub record_result : List ℕ → List ℕ → Record → List ℕ
record_result patch source r = added source r.position (between r.adds r.extras patch) ++ between r.extras r.end patch

-- how many bytes that is
abbrev pub record_size : Record → ℕ
record_size r = r.end - r.adds

unfoldable pub result_of : List ℕ → List ℕ → List Record → List ℕ
result_of patch source [] = []
result_of patch source (r ∷ rs) = record_result patch source r ++ result_of patch source rs

unfoldable pub result_size : List Record → ℕ
result_size [] = 0
result_size (r ∷ rs) = record_size r + result_size rs

-- what a patch makes of a source
unfoldable pub patched_by : List ℕ → List ℕ → List ℕ
patched_by patch source = result_of patch source (records_of patch).list

-- a patch is well formed, and makes so many bytes
unfoldable pub is_patch : List ℕ → ℕ → Bool
is_patch patch size = both (records_of patch).good (result_size (records_of patch).list == size)
