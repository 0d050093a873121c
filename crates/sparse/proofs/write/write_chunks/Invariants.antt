-- The loop's invariant: the chunks that are left make of the image what all of them make of it at the start.
use mathlib.Core.Path.{◌≡◌}
use Prim.Native.Nat.{◌-◌, ◌≤◌}
use lib.ListN.{length}
use Rattle.sparse_file.specs.Chunks.{chunks_at, chunks_of}
use Rattle.sparse.specs.Loading.{chunks_over}
use Rattle.sparse.proofs.write.write_chunks.Given as goal

abbrev pub invariant-chunks : goal.invariant-chunks
invariant-chunks l =
    (chunks_over l.file (chunks_at (l.end - l.counter) l.file l.at l.first l.total).list l.image
    ≡ chunks_over l.file (chunks_of l.file).list l.initial.image)
    × (l.first ≤ l.total)
    × (length l.image ≡ length l.initial.image)
