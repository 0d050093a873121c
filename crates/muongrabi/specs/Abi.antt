-- The number of the ABI, by which a caller and the library know that they were built for each other.
-- Assumes nothing: this is a definition.
use Rattle.std.specs.Prelude.{ℕ}

-- another one whenever the parameters of an exported function change, or what an array among them holds
abbrev pub abi : ℕ
abi = 6
