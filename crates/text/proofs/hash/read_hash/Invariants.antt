-- The loop's invariant: the bytes so far, and those that are left to read, are the hash.
use mathlib.Core.Path.{◌≡◌}
use Prim.Native.Nat.{ℕ, ◌-◌}
use mathlib.Core.List.{List, ◌++◌}
use lib.ListN.{length, take}
use Rattle.std.specs.Prelude.{Ok, Err}
use Rattle.text.specs.Hash.{octets_at, hash_bytes}
use Rattle.text.specs.Read.{Read}
use Rattle.text.proofs.hash.read_hash.Given as goal

-- bytes that were read before others
unfoldable pub joined : List ℕ → Read (List ℕ) → Read (List ℕ)
joined us (Ok (vs, next)) = Ok (us ++ vs, next)
joined us (Err p) = Err p

-- the first k bytes, and those that are left to read, are the hash
unfoldable pub Reading : List ℕ → ℕ → List ℕ → ℕ → ℕ → Type 0
Reading s at bytes i k = joined (take k bytes) (octets_at (hash_bytes - k) s i) ≡ octets_at hash_bytes s at

abbrev pub invariant-loop-byte : goal.invariant-loop-byte
invariant-loop-byte l = (length l.byte-items ≡ hash_bytes) × Reading l.s l.at l.byte-items l.i l.byte-index
