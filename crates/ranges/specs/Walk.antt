-- A range set read again from the text, block by block: it is never stored. In bytes that nobody checked an empty range is passed over.
-- Assumes nothing: these are definitions.
use Rattle.std.specs.Prelude.{ℕ, zero, suc, ◌+◌, ◌-◌, ◌/◌, List, [], ◌∷◌, ◌++◌, ltb, Option, Some, None}
unfoldable pub use Rattle.text.specs.Below.{AllBelow}
use Rattle.text.specs.Choice.{pick}
use Rattle.text.specs.Number.{number_at}
use Rattle.text.specs.Read.{on_read}
use Rattle.ranges.specs.Ranges.{least_again, Range, pair_at, on_pair, span, blocks_of}
use Rattle.ranges.specs.declared.walk.Walk.{Walk}

-- the ranges of up to n pairs, those before a fault
unfoldable pub pairs_of : ℕ → List ℕ → ℕ → List Range
pairs_of zero s at = []
pairs_of (suc n) s at = on_pair (pair_at least_again s at) (λ start end next. record { start = start; end = end } ∷ pairs_of n s next) (λ p. [])

-- the ranges of the set that stands at a position; of a good one, all of them
unfoldable pub ranges_of : List ℕ → ℕ → List Range
ranges_of s at = on_read (number_at s at) (λ count from. pairs_of (count / 2) s from) (λ p. [])

-- its blocks, in the written order
unfoldable pub blocks_at : List ℕ → ℕ → List ℕ
blocks_at s at = blocks_of (ranges_of s at)

-- the walk at the start of the set at a position: no block of a range yet, and all pairs left
unfoldable pub walk_from : List ℕ → ℕ → Walk
walk_from s at =
    on_read (number_at s at)
    (λ count from. record { at = from; left = count / 2; block = 0; end = 0 })
    (λ p. record { at = at; left = 0; block = 0; end = 0 })

-- for proofs alone: the blocks that a walk has still to go
unfoldable pub remaining : List ℕ → Walk → List ℕ
remaining s w = span w.block (w.end - w.block) ++ blocks_of (pairs_of w.left s w.at)

-- the next block, in the range at hand or in the first later one that has any
unfoldable pub step_in : ℕ → List ℕ → ℕ → ℕ → ℕ → Option (ℕ × Walk)
step_in zero s at block end =
    pick (ltb block end) (Some (block, (record { at = at; left = 0; block = block + 1; end = end }))) None
step_in (suc n) s at block end =
    pick (ltb block end) (Some (block, (record { at = at; left = suc n; block = block + 1; end = end })))
    (on_pair (pair_at least_again s at) (λ first past next. step_in n s next first past) (λ p. None))

unfoldable pub step_of : List ℕ → Walk → Option (ℕ × Walk)
step_of s w = step_in w.left s w.at w.block w.end

-- past the range at hand
abbrev pub past_range : Walk → Walk
past_range w = record { at = w.at; left = w.left; block = w.end; end = w.end }
