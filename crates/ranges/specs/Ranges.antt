-- Document 01, "The list text": a range set is a count, then that many numbers, all joined by commas. The count is even and at least 2.
-- Each pair is start, end; the end is not included, and is above the start (document 02, R-7). Ranges run in the written order and may
-- overlap. R-6: a fault is at the first byte at which no range set could go on.
-- Assumes nothing: these are definitions.
use Rattle.std.specs.Prelude.{ℕ, zero, suc, ◌+◌, ◌-◌, ◌/◌, max, List, [], ◌∷◌, ◌++◌, Ok, Err}
use Rattle.text.specs.Choice.{pick}
use Rattle.text.specs.Expected.{comma, stands}
use Rattle.text.specs.Number.{largest, number_for}
use Rattle.text.specs.declared.number.Need.{Need}
use Rattle.text.specs.declared.number.Need.TheVariants as need
use Rattle.ranges.specs.declared.RangeSet.{RangeSet}
use Rattle.text.specs.Read.{Read, on_read}

-- a range: the blocks from `start` up to, not including, `end`
pub record Range : Type 0 where
  pub start : ℕ
  pub end : ℕ

-- a range has at least one block (R-7). Definitions that read a list take this number as `least`: under 0 an empty range is good, as it was in
-- document 01, and crate `compatibility` holds the two readings side by side
abbrev pub least_blocks : ℕ
least_blocks = 1

-- a set that is read again was checked with its line, so nothing more is asked of its ranges
abbrev pub least_again : ℕ
least_again = 0

-- a comma and a number
unfoldable pub item_at : Need → List ℕ → ℕ → Read ℕ
item_at n s at = pick (stands s at comma) (number_for n s (at + 1)) (Err at)

-- a pair: start and end, each after a comma; from start to end there are at least `least` blocks, so a start leaves room for its end
unfoldable pub pair_at : ℕ → List ℕ → ℕ → Read (ℕ × ℕ)
pair_at least s at =
    on_read (item_at (need.AtMost (largest - least)) s at)
    (λ start i. on_read (item_at (need.AtLeast (start + least)) s i) (λ end next. Ok ((start, end), next)) Err)
    Err

abbrev pub on_pair : {A : Type 0} → Read (ℕ × ℕ) → (ℕ → ℕ → ℕ → A) → (ℕ → A) → A
on_pair (Ok ((start, end), next)) good bad = good start end next
on_pair (Err p) good bad = bad p

abbrev pub follow : Range → Read (List Range) → Read (List Range)
follow r (Ok (rs, next)) = Ok (r ∷ rs, next)
follow r (Err p) = Err p

-- that many pairs
unfoldable pub pairs_at : ℕ → ℕ → List ℕ → ℕ → Read (List Range)
pairs_at least zero s at = Ok ([], at)
pairs_at least (suc n) s at =
    on_pair (pair_at least s at) (λ start end next. follow (record { start = start; end = end }) (pairs_at least n s next)) Err

-- the range set at a position: a count, and half as many pairs
unfoldable pub set_at : ℕ → List ℕ → ℕ → Read (List Range)
set_at least s at = on_read (number_for need.Count s at) (λ count from. pairs_at least (count / 2) s from) Err

-- how many blocks the ranges have: a block named twice counts twice
unfoldable pub size_of : List Range → ℕ
size_of [] = 0
size_of (r ∷ rs) = (r.end - r.start) + size_of rs

-- the largest end
unfoldable pub end_of : List Range → ℕ
end_of [] = 0
end_of (r ∷ rs) = max r.end (end_of rs)

-- what is kept of a range set: where it stands, its size and its largest end; with the position past it
unfoldable pub summary : ℕ → Read (List Range) → Read RangeSet
summary at (Ok (rs, next)) = Ok (record { at = at; blocks = size_of rs; end = end_of rs }, next)
summary at (Err p) = Err p

unfoldable pub ranges_at : ℕ → List ℕ → ℕ → Read RangeSet
ranges_at least s at = summary at (set_at least s at)

-- n consecutive numbers
unfoldable pub span : ℕ → ℕ → List ℕ
span start zero = []
span start (suc n) = start ∷ span (suc start) n

-- the blocks of the ranges, in the written order
unfoldable pub blocks_of : List Range → List ℕ
blocks_of [] = []
blocks_of (r ∷ rs) = span r.start (r.end - r.start) ++ blocks_of rs
