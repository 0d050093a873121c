-- `sha1_digest::rounds::twenty_rounds` meets its contract. The loop has made as many rounds as it has read words.
use Rattle.std.proofs.Common.{◌+◌, ◌<◌, refl, arith}
use Rattle.std.proofs.lemmas.List.Edits.{length-between, get_or-between}
use Rattle.sha1_digest.specs.Sha1 as S
use Rattle.sha1_digest.proofs.RoundLaws.{rounds_more}
use Rattle.sha1_digest.proofs.rounds.twenty_rounds.Goals as goal

pub loop-word-init : goal.loop-word-init
unfolding S.rounds
loop-word-init g c = refl

pub loop-word-preserved : goal.loop-word-preserved
loop-word-preserved g c =
    let a = c.args in
    let l = c.loop-word in
    let n = l.word-index in
    let t = a.first + n in
    let b : n < 20 = omega (arith, length-between a.w.now a.first (a.first + 20)) in
    rw c.step-v.ensures
    (rounds_more a.w.now a.first n c.f.result a.k _ a.h l.v l.invariant
    (c.requires.function t l.v.b l.v.c l.v.d c.f.result (omega arith) (omega arith) c.f.ensures)
    (c.requires.constant t (omega arith) (omega arith))
    (get_or-between a.w.now a.first (a.first + 20) n 0 (omega arith)))
