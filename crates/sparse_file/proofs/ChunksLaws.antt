-- Laws of `specs/Chunks.antt`: what is left of the chunks, by the one that is read first.
-- Assumes nothing.
use mathlib.Core.Path.{◌≡◌}
use mathlib.Core.List.{List, []}
use Prim.Native.Nat.{ℕ, zero, suc, ◌+◌, ◌-◌, ◌<◌}
use native.Mathlib.Omega.{arith}
use lib.ListN.{length}
use borrow.Author.Tests.{eq-eqb, ne_eqb}
use Rattle.std.specs.Prelude.{Ok, Err}
use Rattle.state.specs.Refusals.{none, sparse_end, number_of}
use Rattle.state.specs.declared.refusals.Reason.{Reason}
use Rattle.sparse_file.specs.Header.{header_bytes, total_blocks, total_chunks}
use Rattle.sparse_file.specs.Chunk.{chunk_at}
use Rattle.sparse_file.specs.Chunks.{stopped, follow, chunks_at, chunks_of}
use Rattle.sparse_file.specs.declared.chunk.Chunk.{Chunk}

-- all of them, where the walk starts
pub chunks_start : (file : List ℕ) (n total : ℕ) → n ≡ total_chunks file → total ≡ total_blocks file →
    chunks_at n file header_bytes 0 total ≡ chunks_of file
unfolding chunks_of
chunks_start file n total e f = rw (e, f)

module _ (file : List ℕ) (at first total : ℕ) where
  pub chunks_bad : (n : ℕ) → 0 < n → {reason : Reason} → chunk_at file at first total ≡ Err reason →
      chunks_at n file at first total ≡ stopped (number_of reason)
  unfolding chunks_at
  chunks_bad zero h e = absurd (omega arith)
  chunks_bad (suc n) h e = rw e

  pub chunks_good : (n : ℕ) → 0 < n → {c : Chunk} → chunk_at file at first total ≡ Ok c →
      chunks_at n file at first total ≡ follow c (chunks_at (n - 1) file c.next (first + c.blocks) total)
  unfolding chunks_at
  chunks_good zero h e = absurd (omega arith)
  chunks_good (suc n) h e = let m : suc n - 1 ≡ n = omega arith in rw (e, m)

  module _ (n : ℕ) (z : n ≡ 0) where
    pub none_left : (chunks_at n file at first total).list ≡ []
    unfolding chunks_at
    none_left = rw z

    pub blocks_missing : (first ≡ total → ⊥) → chunks_at n file at first total ≡ stopped sparse_end
    unfolding chunks_at
    blocks_missing b = rw (z, ne_eqb first total b)

    module _ (b : first ≡ total) where
      pub bytes_left : (at ≡ length file → ⊥) → chunks_at n file at first total ≡ stopped sparse_end
      unfolding chunks_at
      bytes_left l = rw (z, eq-eqb first total b, ne_eqb at (length file) l)

      pub all_read : at ≡ length file → chunks_at n file at first total ≡ stopped none
      unfolding chunks_at
      all_read l = rw (z, eq-eqb first total b, eq-eqb at (length file) l)
