-- Word, number and LF stand one after the other.
use Rattle.std.proofs.Common.{refl, [], ◌∷◌, ◌++◌, append_assoc}
use Rattle.decisions.specs.Answer.{decimal, number_line, zeros}
use Rattle.decisions.proofs.AnswerLaws.{stands_after, line_of_lem}
use Rattle.decisions.proofs.answer.number_line.Goals as goal

pub returns-clause-value : goal.returns-clause-value
returns-clause-value c =
    let w = c.args.word.now in
    let n = decimal c.args.n in
    let e = c.put-a.ensures in
    let f = c.put_decimal-b.ensures in
    let g = c.put-length.ensures in
    let s₁ = stands_after [] w {x = zeros} (record { same = refl; ends = refl }) e.value e.out_after in
    let s₂ = stands_after w n s₁ f.value.0 f.out_after in
    let s₃ = stands_after (w ++ n) (10 ∷ []) s₂ g.value g.out_after in
    line_of_lem (number_line w c.args.n) (rw append_assoc at s₃)
