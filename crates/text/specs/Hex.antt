-- Hexadecimal text, as it is written: two characters for a byte, the higher digit first.
-- Assumes nothing: these are definitions.
use Rattle.std.specs.Prelude.{ℕ, zero, suc, ◌+◌, ◌/◌, ◌%◌, List, [], ◌∷◌, drop, get_or, ltb}
use Rattle.text.specs.Choice.{pick}

-- the character of a digit
unfoldable pub hex_digit : ℕ → ℕ
hex_digit d = pick (ltb d 10) (48 + d) (87 + d)

-- the characters of n bytes
unfoldable pub hex_of : ℕ → List ℕ → List ℕ
hex_of zero bytes = []
hex_of (suc n) bytes = hex_digit (get_or bytes 0 0 / 16) ∷ hex_digit (get_or bytes 0 0 % 16) ∷ hex_of n (drop 1 bytes)
