-- Document 01, "The list text": fields are parted by exactly one space, every line ends with one LF.
-- Assumes nothing: these are definitions.
use Rattle.std.specs.Prelude.{ℕ, ◌+◌, Bool, List, length, get_or, ltb, eqb, Result, Ok, Err}
use Rattle.text.specs.Choice.{pick, both}

abbrev pub space : ℕ
space = 32

abbrev pub lf : ℕ
lf = 10

abbrev pub comma : ℕ
comma = 44

abbrev pub colon : ℕ
colon = 58

abbrev pub dash : ℕ
dash = 45

-- the character `mark` stands at a position
abbrev pub stands : List ℕ → ℕ → ℕ → Bool
stands s at mark = both (ltb at (length s)) (eqb (get_or s at 0) mark)

-- the position past the character `mark`, or the fault's where it does not stand there
unfoldable pub expected_at : List ℕ → ℕ → ℕ → Result ℕ ℕ
expected_at s at mark = pick (stands s at mark) (Ok (at + 1)) (Err at)
