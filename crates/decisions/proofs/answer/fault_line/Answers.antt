-- Word, number, space, line, space, byte and LF stand one after the other.
use Rattle.std.proofs.Common.{refl, [], ◌∷◌, ◌++◌, append_assoc}
use Rattle.decisions.specs.Answer.{decimal, refused_word, fault_line, zeros}
use Rattle.decisions.proofs.AnswerLaws.{stands_after, line_of_lem}
use Rattle.decisions.proofs.answer.fault_line.Goals as goal

pub returns-clause-value : goal.returns-clause-value
returns-clause-value c =
    let k = decimal c.args.number in
    let l = decimal c.args.line in
    let b = decimal c.args.byte in
    let s₁ = stands_after [] refused_word {x = zeros} (record { same = refl; ends = refl }) c.put-a.ensures.value c.put-a.ensures.out_after in
    let s₂ = stands_after refused_word k s₁ c.put_decimal-b.ensures.value.0 c.put_decimal-b.ensures.out_after in
    let s₃ = stands_after (refused_word ++ k) (32 ∷ []) s₂ c.put-c.ensures.value c.put-c.ensures.out_after in
    let s₄ = stands_after ((refused_word ++ k) ++ (32 ∷ [])) l s₃ c.put_decimal-d.ensures.value.0 c.put_decimal-d.ensures.out_after in
    let s₅ = stands_after (((refused_word ++ k) ++ (32 ∷ [])) ++ l) (32 ∷ []) s₄ c.put-e.ensures.value c.put-e.ensures.out_after in
    let s₆ =
    stands_after ((((refused_word ++ k) ++ (32 ∷ [])) ++ l) ++ (32 ∷ [])) b s₅ c.put_decimal-f.ensures.value.0 c.put_decimal-f.ensures.out_after
    in
    let s₇ =
    stands_after (((((refused_word ++ k) ++ (32 ∷ [])) ++ l) ++ (32 ∷ [])) ++ b) (10 ∷ []) s₆ c.put-length.ensures.value c.put-length.ensures.out_after
    in
    line_of_lem (fault_line c.args.number c.args.line c.args.byte) (simp append_assoc at s₇)
