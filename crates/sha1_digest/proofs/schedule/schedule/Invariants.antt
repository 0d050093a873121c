-- What the loops of `schedule` keep: the first t words of w are the schedule's.
use Rattle.std.proofs.Common.{◌≡◌, length, take}
use Rattle.sha1_digest.specs.Sha1 as S
use Rattle.sha1_digest.proofs.schedule.schedule.Given as goal

abbrev pub invariant-first : goal.invariant-first
invariant-first l = record { len : length l.w ≡ 80; words : take l.t l.w ≡ S.schedule l.block 0 l.t }

abbrev pub invariant-later : goal.invariant-later
invariant-later l = record { len : length l.w ≡ 80; words : take l.t l.w ≡ S.schedule l.block 0 l.t }
