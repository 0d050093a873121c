-- Document 02, R-2: the chunks of a sparse file, as many as its header says. The earliest one that is refused gives the number; at the end
-- 36, blocks missing or bytes left over.
-- Assumes nothing: these are definitions.
use Rattle.std.specs.Prelude.{ℕ, zero, suc, ◌+◌, List, [], ◌∷◌, length, eqb}
use Rattle.text.specs.Choice.{no}
use Rattle.text.specs.Read.{on_result}
use Rattle.text.specs.Rows.{Row, ◌⇒◌, first_of}
use Rattle.state.specs.Refusals.{none, sparse_end, number_of}
use Rattle.sparse_file.specs.Header.{header_bytes, total_blocks, total_chunks}
use Rattle.sparse_file.specs.Chunk.{chunk_at}
use Rattle.sparse_file.specs.declared.chunk.Chunk.{Chunk}

-- those before the first refusal, and its number; all of them, and none
pub record Chunks : Type 0 where
  pub list : List Chunk
  pub refusal : ℕ

abbrev pub stopped : ℕ → Chunks
stopped number = record { list = []; refusal = number }

abbrev pub follow : Chunk → Chunks → Chunks
follow chunk rest = record { list = chunk ∷ rest.list; refusal = rest.refusal }

-- behind the last chunk: the blocks of all of them and where they end, against the blocks of the image and the file's length
abbrev pub end_rows : List ℕ → ℕ → ℕ → ℕ → List (Row ℕ)
end_rows file at first total =
    no (eqb first total) ⇒ sparse_end
    ∷ no (eqb at (length file)) ⇒ sparse_end
    ∷ []

-- n chunks from a position on, with the blocks of all chunks before them and the blocks of the image
unfoldable pub chunks_at : ℕ → List ℕ → ℕ → ℕ → ℕ → Chunks
chunks_at zero file at first total = stopped (first_of (end_rows file at first total) none)
chunks_at (suc n) file at first total =
    on_result (chunk_at file at first total) (λ c. follow c (chunks_at n file c.next (first + c.blocks) total)) (λ r. stopped (number_of r))

unfoldable pub chunks_of : List ℕ → Chunks
chunks_of file = chunks_at (total_chunks file) file header_bytes 0 (total_blocks file)
