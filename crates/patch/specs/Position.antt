-- Document 02, R-4: the position in the source starts at 0, is moved by numbers with a sign, and stays within 2,147,483,647 either way.
-- Here it is counted from the farthest one back, so that no position is negative.
-- Assumes nothing: these are definitions.
use Rattle.std.specs.Prelude.{ℕ, ◌+◌, ◌-◌, Bool, nat_le}
use Rattle.text.specs.Choice.{pick}
use Rattle.patch.specs.Signed.{is_negative, magnitude}

-- either way
abbrev pub farthest : ℕ
farthest = 2147483647

-- position 0, which is that of the source's first byte
abbrev pub origin : ℕ
origin = farthest

abbrev pub last_position : ℕ
last_position = origin + farthest

-- the position after a move by a number
unfoldable pub moved : ℕ → ℕ → ℕ
moved position n = pick (is_negative n) (position - magnitude n) (position + n)

-- it is still within the bounds
unfoldable pub can_move : ℕ → ℕ → Bool
can_move position n = pick (is_negative n) (nat_le (magnitude n) position) (nat_le (position + n) last_position)
