-- The loop's invariant: the chunks that are left are refused for what all of them are.
use mathlib.Core.Path.{◌≡◌}
use Prim.Native.Nat.{◌-◌, ◌≤◌}
use Rattle.sparse_file.specs.Chunks.{chunks_at, chunks_of}
use Rattle.sparse_file.proofs.chunks.check_chunks.Given as goal

abbrev pub invariant-chunks : goal.invariant-chunks
invariant-chunks l =
    ((chunks_at (l.end - l.counter) l.file l.at l.first l.total).refusal ≡ (chunks_of l.file).refusal) × (l.first ≤ l.total)
