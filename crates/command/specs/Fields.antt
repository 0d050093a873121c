-- Document 01, "The list text": fields are parted by exactly one space, and every line ends with one LF. A field is read with the space
-- before it.
-- Assumes nothing: these are definitions.
use Rattle.std.specs.Prelude.{ℕ, List, Ok, Err}
use Rattle.text.specs.Expected.{expected_at, space, lf}
use Rattle.text.specs.Number.{number_at}
use Rattle.text.specs.Hash.{hash_at}
use Rattle.ranges.specs.Ranges.{ranges_at}
use Rattle.text.specs.Read.{Read, on_read, on_result}
use Rattle.ranges.specs.declared.RangeSet.{RangeSet}

-- a number
unfoldable pub number_field : List ℕ → ℕ → Read ℕ
number_field l at = on_result (expected_at l at space) (number_at l) Err

-- a hash
unfoldable pub hash_field : List ℕ → ℕ → Read (List ℕ)
hash_field l at = on_result (expected_at l at space) (hash_at l) Err

-- a range set
unfoldable pub set_field : ℕ → List ℕ → ℕ → Read RangeSet
set_field least l at = on_result (expected_at l at space) (ranges_at least l) Err

-- a range set and the line's LF
unfoldable pub last_set : ℕ → List ℕ → ℕ → Read RangeSet
last_set least l at = on_read (set_field least l at) (λ set i. on_result (expected_at l i lf) (λ next. Ok (set, next)) Err) Err
