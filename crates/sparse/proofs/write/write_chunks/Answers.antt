-- `write_chunks` meets its contract.
use mathlib.Core.Path.{◌≡◌, refl, sym, ap, ◌∙◌}
use Prim.Native.Nat.{◌+◌, ◌-◌}
use native.Mathlib.Omega.{arith}
use Rattle.sparse_file.specs.Chunks.{Chunks}
use Rattle.sparse.specs.Loading.{chunks_over}
use Rattle.sparse_file.proofs.ChunkLaws.{chunk_within}
use Rattle.sparse_file.proofs.ChunksLaws.{chunks_start, chunks_bad, chunks_good, none_left}
use Rattle.sparse.proofs.LoadingLaws.{over-next, over_none}
use Rattle.sparse.proofs.write.write_chunks.Goals as goal

pub chunks-init : goal.chunks-init
chunks-init c =
    let all : c.total_chunks-end.result - 0 ≡ c.total_chunks-end.result = omega arith in
    let e = chunks_start _ _ _ (all ∙ c.total_chunks-end.ensures) c.total_blocks-total.ensures in
    (ap (λ (w : Chunks). chunks_over c.args.file.now w.list c.args.image.now) e, omega arith, refl)

pub returns-in_default : goal.returns-in_default
returns-in_default c =
    over_none _ _ (ap (λ (w : Chunks). w.list) (chunks_bad _ _ _ _ (c.total_chunks-end.result - c.chunks.counter) (omega arith) (sym c.read_chunk.ensures ∙ c.in_default.is)))
    ∙ c.chunks.invariant.0

pub write_chunk-requires : goal.write_chunk-requires
write_chunk-requires c =
    let w = chunk_within _ _ _ _ _ (sym c.read_chunk.ensures ∙ c.in-Ok.is) in
    record { body_in_file = (w.next, w.inside); blocks_in_image = omega (arith, w.first, w.blocks, c.chunks.invariant.2, c.requires, c.total_blocks-total.ensures) }

pub overflow_add-first : goal.overflow_add-first
overflow_add-first c = record { fits = omega (arith, (chunk_within _ _ _ _ _ (sym c.read_chunk.ensures ∙ c.in-Ok.is)).blocks) }

pub chunks-preserved : goal.chunks-preserved
chunks-preserved c =
    let next : c.total_chunks-end.result - c.chunks.counter - 1 ≡ c.total_chunks-end.result - (c.chunks.counter + 1) = omega arith in
    let good = chunks_good _ _ _ _ (c.total_chunks-end.result - c.chunks.counter) (omega arith) (sym c.read_chunk.ensures ∙ c.in-Ok.is) in (
      over-next _ _ _ (rw next at good) c.write_chunk.ensures ∙ c.chunks.invariant.0,
      (chunk_within _ _ _ _ _ (sym c.read_chunk.ensures ∙ c.in-Ok.is)).blocks,
      omega arith,
    )

pub returns : goal.returns
returns c =
    over_none _ _ (none_left c.args.file.now c.chunks.at c.chunks.first c.total_blocks-total.result (c.total_chunks-end.result - c.chunks.counter) (omega arith))
    ∙ c.chunks.invariant.0
