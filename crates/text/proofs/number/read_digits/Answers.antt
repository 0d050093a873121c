-- `text::number::read_digits` meets its contract.
use mathlib.Core.Path.{◌≡◌, sym, ◌∙◌}
use native.Mathlib.Omega.{arith}
use Rattle.std.specs.Prelude.{Some}
use Rattle.text.specs.Number.{decimal_at}
use Rattle.text.proofs.DigitLaws.{number-none, number-never, number-digit, digits-none, digits-zero, digits-large, digits-never, digits_more, decimal_most}
use Rattle.text.proofs.number.read_digits.Goals as goal
use Rattle.text.proofs.number.read_digits.Goals.{In-Some, In-Some-digit_at, then-value-eq0-via-then-value-eq0, then-value-eq0-via-else-value-eq0+then-longer-gt-LARGEST, then-value-eq0-via-else-value-eq0+else-longer-gt-LARGEST+then-not-can_meet-2}

first_read : (c : In-Some) → decimal_at c.args.s.now c.args.at ≡ Some c.in-Some.first
first_read c = sym c.digit_at.ensures ∙ c.in-Some.is

digit_read : (c : In-Some-digit_at) → decimal_at c.args.s.now c.loop-digit.i ≡ Some c.in-Some-digit_at.digit
digit_read c = sym c.digit_at-in-loop-digit.ensures ∙ c.in-Some-digit_at.is

pub returns-in_default : goal.returns-in_default
returns-in_default c = sym (number-none _ _ _ (sym c.digit_at.ensures ∙ c.in_default.is))

pub returns-then-not-can_meet : goal.returns-then-not-can_meet
returns-then-not-can_meet c =
    sym (number-never _ _ _ (first_read (goal.at.returns-then-not-can_meet c).In-Some) (sym c.can_meet.ensures ∙ c.if-not-can_meet.true))

pub loop-digit-init : goal.loop-digit-init
loop-digit-init c =
    let e = first_read (goal.at.loop-digit-init c).In-Some in
    let m = decimal_most _ _ e in (
      omega arith,
      omega arith,
      sym (number-digit _ _ _ e (sym c.can_meet.ensures ∙ c.if-not-can_meet.false)),
    )

pub returns-then-value-eq0 : goal.returns-then-value-eq0
returns-then-value-eq0 c =
    let e = digit_read (goal.at.returns-then-value-eq0 c).In-Some-digit_at in
    elim c.then-value-eq0.branch [
      | then-value-eq0-via-then-value-eq0 w ↦ sym (digits-zero _ _ _ e _ (omega arith)) ∙ c.loop-digit.invariant.2
      | then-value-eq0-via-else-value-eq0+then-longer-gt-LARGEST w ↦
          sym (digits-large _ _ _ e _ (omega arith) (omega arith)) ∙ c.loop-digit.invariant.2
      | then-value-eq0-via-else-value-eq0+else-longer-gt-LARGEST+then-not-can_meet-2 w ↦
          sym (digits-never _ _ _ e _ (omega arith) (omega arith) (sym w.can_meet-else-longer-gt-LARGEST.ensures ∙ w.if-not-can_meet-2.true))
          ∙ c.loop-digit.invariant.2
    ]

pub loop-digit-preserved : goal.loop-digit-preserved
loop-digit-preserved c =
    let e = digit_read (goal.at.loop-digit-preserved c).In-Some-digit_at in
    let m = decimal_most _ _ e in (
      omega arith,
      omega arith,
      sym (digits_more _ _ _ e _ (omega arith) (omega arith) (sym c.can_meet-else-longer-gt-LARGEST.ensures ∙ c.if-not-can_meet-2.false))
          ∙ c.loop-digit.invariant.2,
    )

pub returns : goal.returns
returns c =
    c.number_end.ensures ∙ sym (digits-none _ _ _ (sym c.digit_at-in-loop-digit.ensures ∙ c.in_default-digit_at.is) _) ∙ c.loop-digit.invariant.2
