-- Word, number, space, line and LF stand one after the other.
use Rattle.std.proofs.Common.{refl, [], ◌∷◌, ◌++◌, append_assoc}
use Rattle.decisions.specs.Answer.{decimal, refused_word, refused_line, zeros}
use Rattle.decisions.proofs.AnswerLaws.{stands_after, line_of_lem}
use Rattle.decisions.proofs.answer.refused_line.Goals as goal

pub returns-clause-value : goal.returns-clause-value
returns-clause-value c =
    let k = decimal c.args.number in
    let l = decimal c.args.line in
    let s₁ = stands_after [] refused_word {x = zeros} (record { same = refl; ends = refl }) c.put-a.ensures.value c.put-a.ensures.out_after in
    let s₂ = stands_after refused_word k s₁ c.put_decimal-b.ensures.value.0 c.put_decimal-b.ensures.out_after in
    let s₃ = stands_after (refused_word ++ k) (32 ∷ []) s₂ c.put-c.ensures.value c.put-c.ensures.out_after in
    let s₄ = stands_after ((refused_word ++ k) ++ (32 ∷ [])) l s₃ c.put_decimal-d.ensures.value.0 c.put_decimal-d.ensures.out_after in
    let s₅ = stands_after (((refused_word ++ k) ++ (32 ∷ [])) ++ l) (10 ∷ []) s₄ c.put-length.ensures.value c.put-length.ensures.out_after in
    line_of_lem (refused_line c.args.number c.args.line) (simp append_assoc at s₅)
