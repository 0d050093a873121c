-- Bytes that go over those of an area.
-- Assumes nothing: these are definitions.
use Rattle.std.specs.Prelude.{ℕ, List, ◌++◌, length, take, drop}

-- bytes go over those of an area from a position on
abbrev pub over : List ℕ → ℕ → List ℕ → List ℕ
over area at bytes = take at area ++ (bytes ++ drop (length bytes) (drop at area))

-- bytes go over the front of an area, as many as there is room for
abbrev pub front : List ℕ → List ℕ → List ℕ
front area bytes = take (length area) bytes ++ drop (length bytes) area
