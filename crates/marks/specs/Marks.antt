-- Document 01, refusal 12, checked in one pass over the places of a put-together source: each place has a mark that says whether it is
-- taken, a bit of the bytes that are lent for them. It is how the code checks, and no rule: what 12 is stands in `rules`.
-- Assumes nothing: these are definitions.
use Rattle.std.specs.Prelude.{ℕ, ◌+◌, ◌*◌, ◌/◌, ◌%◌, ◌^◌, min, Bool, List, ◌++◌, length, get_or, set, drop, replicate, ltb, eqb}
use Rattle.state.specs.Limits.{most_area_blocks}
use Rattle.text.specs.Choice.{pick, both, no}

abbrev pub places_per_byte : ℕ
places_per_byte = 8

-- the bytes lent for the marks: room for as many places as an area may have blocks
abbrev pub mark_bytes : ℕ
mark_bytes = most_area_blocks / places_per_byte

-- the byte that has a place's mark, and which bit of it that is: places next to each other have bytes next to each other
abbrev pub row_of : List ℕ → ℕ → ℕ
row_of marks p = p % length marks

abbrev pub bit_of : List ℕ → ℕ → ℕ
bit_of marks p = p / length marks

-- that bit
abbrev pub mark_at : List ℕ → ℕ → ℕ
mark_at marks p = get_or marks (row_of marks p) 0 / 2 ^ bit_of marks p % 2

unfoldable pub is_taken : List ℕ → ℕ → Bool
is_taken marks p = eqb (mark_at marks p) 1

-- there is such a place, and it is not taken
unfoldable pub is_free : List ℕ → ℕ → Bool
is_free marks p = both (ltb p (places_per_byte * length marks)) (no (is_taken marks p))

-- the marks once a place that is free is taken
unfoldable pub taking : List ℕ → ℕ → List ℕ
taking marks p = pick (is_free marks p) (set marks (row_of marks p) (get_or marks (row_of marks p) 0 + 2 ^ bit_of marks p)) marks

-- the marks with their first n bytes 0, or all where there are fewer
unfoldable pub cleared : List ℕ → ℕ → List ℕ
cleared marks n = replicate (min n (length marks)) 0 ++ drop (min n (length marks)) marks
