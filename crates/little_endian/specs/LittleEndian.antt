-- Little-endian numbers: the lowest byte comes first.
-- Assumes nothing: these are definitions.
use Rattle.std.specs.Prelude.{ℕ, ◌+◌, ◌*◌, List, length, get_or, leb}
use Rattle.text.specs.Choice.{pick}

-- a number of two bytes
abbrev pub two : ℕ → ℕ → ℕ
two low high = low + 256 * high

-- the number of two bytes at a position; 0 where they are not both there
unfoldable pub two_at : List ℕ → ℕ → ℕ
two_at s at = pick (leb (at + 2) (length s)) (two (get_or s at 0) (get_or s (at + 1) 0)) 0

-- the number of four bytes at a position; 0 where they are not all there
unfoldable pub four_at : List ℕ → ℕ → ℕ
four_at s at =
    pick (leb (at + 4) (length s)) (two (get_or s at 0) (get_or s (at + 1) 0) + 65536 * two (get_or s (at + 2) 0) (get_or s (at + 3) 0)) 0

-- the number of eight bytes at a position; 0 where they are not all there
unfoldable pub eight_at : List ℕ → ℕ → ℕ
eight_at s at = pick (leb (at + 8) (length s)) (four_at s at + 4294967296 * four_at s (at + 4)) 0
