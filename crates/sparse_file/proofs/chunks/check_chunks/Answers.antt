-- A chunk that was read keeps within the image.
use Rattle.std.proofs.Common.{◌≡◌, ◌+◌, ◌-◌, sym, ap, ◌∙◌, arith}
use Rattle.sparse_file.specs.Chunks.{Chunks}
use Rattle.sparse_file.proofs.ChunkLaws.{chunk_within}
use Rattle.sparse_file.proofs.ChunksLaws.{chunks_good}
use Rattle.sparse_file.proofs.chunks.check_chunks.Goals as goal

pub overflow_add-first : goal.overflow_add-first
overflow_add-first c =
    record { fits = omega (arith, (chunk_within _ _ _ _ _ (sym c.read_chunk.ensures ∙ c.in_ok-chunk.was)).blocks) }

pub chunks-preserved : goal.chunks-preserved
chunks-preserved c =
    let next : c.total_chunks-end.result - c.chunks.counter - 1 ≡ c.total_chunks-end.result - (c.chunks.counter + 1) = omega arith in
    let good = chunks_good _ _ _ _ (c.total_chunks-end.result - c.chunks.counter) (omega arith) (sym c.read_chunk.ensures ∙ c.in_ok-chunk.was) in (
      sym (ap (λ (w : Chunks). w.refusal) (rw next at good)) ∙ c.chunks.invariant.0,
      (chunk_within _ _ _ _ _ (sym c.read_chunk.ensures ∙ c.in_ok-chunk.was)).blocks,
    )
