-- Document 02, R-4: a number of the control triple is eight bytes, sign and magnitude. The sign is the last byte's top bit; there is no
-- minus zero.
-- Assumes nothing: these are definitions.
use Rattle.std.specs.Prelude.{ℕ, ◌-◌, Bool, ◌==◌, nat_le}

-- the top bit of the last of eight bytes: 2^63
abbrev pub sign_bit : ℕ
sign_bit = 9223372036854775808

abbrev pub is_negative : ℕ → Bool
is_negative n = nat_le sign_bit n

-- of a negative number
abbrev pub magnitude : ℕ → ℕ
magnitude n = n - sign_bit

-- the sign and no magnitude
abbrev pub is_minus_zero : ℕ → Bool
is_minus_zero n = n == sign_bit
