-- What the loop of `twenty_rounds` keeps.
use Rattle.std.proofs.Common.{◌≡◌}
use Rattle.sha1_digest.specs.Sha1 as S
use Rattle.sha1_digest.proofs.rounds.twenty_rounds.Given as goal

abbrev pub invariant-loop-word : goal.invariant-loop-word
invariant-loop-word g l = l.v ≡ S.rounds l.w l.first l.word-index l.initial.v
