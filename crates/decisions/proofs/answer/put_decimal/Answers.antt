-- The digits are the number in decimal, and there are at most 20.
use Rattle.std.proofs.Common.{◌≡◌, ◌≤◌, ◌∙◌, arith, rules, take}
use Rattle.decisions.specs.Answer.{decimal, most_digits}
use Rattle.decisions.proofs.AnswerLaws.{most_digits_lem, digits_decimal}
use Rattle.decisions.proofs.answer.put_decimal.Goals as goal

pub put-requires : goal.put-requires
put-requires c =
    let m : c.decimal-k.result ≤ most_digits = most_digits_lem _ _ (search rules) c.decimal-k.ensures.len in
    omega arith

pub returns-clause-value : goal.returns-clause-value
returns-clause-value c =
    let m : c.decimal-k.result ≤ most_digits = most_digits_lem _ _ (search rules) c.decimal-k.ensures.len in
    let spelled : take c.decimal-k.result c.decimal-k.new.out ≡ decimal c.args.n = c.decimal-k.ensures.digits ∙ digits_decimal _ _ c.decimal-k.ensures.len in
    (rw spelled at c.put.ensures.value, omega arith)

pub returns-clause-out_after : goal.returns-clause-out_after
returns-clause-out_after c =
    let spelled : take c.decimal-k.result c.decimal-k.new.out ≡ decimal c.args.n = c.decimal-k.ensures.digits ∙ digits_decimal _ _ c.decimal-k.ensures.len in
    rw spelled at c.put.ensures.out_after
