-- What the loop of `hash` keeps: the hash value, taken on by the chunks that are left, is the whole list's.
use Rattle.std.proofs.Common.{◌≡◌}
use Rattle.std.specs.Slice.Iter.{chunks_exact_rest, chunks_exact_size}
use Rattle.sha1_digest.specs.Sha1 as S
use Rattle.sha1_digest.proofs.block.hash.Given as goal

abbrev pub invariant-loop-block : goal.invariant-loop-block
invariant-loop-block l =
    record { size : chunks_exact_size l.block-iterator ≡ 64; rest : S.hash l.v (chunks_exact_rest l.block-iterator) ≡ S.hash l.fn.h l.s }
