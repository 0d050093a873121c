-- The digest of an area's blocks, taken in block by block.
-- Assumes nothing.
use Rattle.std.proofs.Common.{◌≡◌, ℕ, ◌+◌, ◌*◌, ◌/◌, ◌^◌, ◌<◌, ◌≤◌, List, [], ◌∷◌, length, arith}
use Rattle.sha1_digest.specs.Sha1.{sha1}
use Rattle.sha1_digest.specs.Pieces.{started, absorbed, finished}
use Rattle.sha1_digest.specs.declared.Hasher.{Hasher}
use Rattle.sha1_digest.proofs.DigestLaws.{absorbed-empty, absorbed-join, finished-absorbed}
use Rattle.ranges.specs.Walk.{AllBelow}
use Rattle.state.specs.Limits.{block_bytes}
use Rattle.updater.specs.Bytes.{block_at, gathered}
use Rattle.updater.proofs.ByteLaws.{length_block, length-gathered}

-- a block, then those after it
pub absorbed-next : {bs rest : List ℕ} {b : ℕ} → bs ≡ b ∷ rest → (area : List ℕ) (h : Hasher) →
    block_bytes * b + block_bytes ≤ length area →
    absorbed (absorbed h (block_at area b)) (gathered rest area) ≡ absorbed h (gathered bs area)
unfolding gathered
absorbed-next {rest = rest} {b = b} e area h k =
    let w = length_block area b k in
    rw e (absorbed-join h (block_at area b) (gathered rest area) (omega arith))

-- no block
pub absorbed-done : {bs : List ℕ} → bs ≡ [] → (area : List ℕ) (h : Hasher) → h.count < 2 ^ 64 → absorbed h (gathered bs area) ≡ h
unfolding gathered
absorbed-done e area h c = rw e (absorbed-empty h c)

-- all of them
pub finished-blocks : (bs area : List ℕ) → AllBelow (length area / block_bytes) bs → finished (absorbed started (gathered bs area)) ≡ sha1 (gathered bs area)
finished-blocks bs area h =
    let n = length-gathered bs area h in
    finished-absorbed (gathered bs area) (omega arith)
