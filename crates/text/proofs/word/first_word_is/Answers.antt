-- `text::word::first_word_is` meets its contract: a line that starts with the word is the word and the rest.
use mathlib.Core.Path.{◌≡◌, sym}
use mathlib.Core.List.{◌++◌}
use native.Mathlib.Omega.{arith}
use Rattle.std.proofs.lemmas.Bool.Decides.{Decides-eqb, nat_tests}
use Rattle.std.proofs.lemmas.Slice.Eq.{strip_prefix_is}
use Rattle.text.proofs.WordLaws.{word_then, word_other, word-end, word-mark}
use Rattle.text.proofs.word.first_word_is.Goals as goal
use Rattle.text.proofs.word.first_word_is.Goals.{In-Some}

pub returns-in_default : goal.returns-in_default
returns-in_default c =
    let a = c.args in
    let h = strip_prefix_is Decides-eqb a.line.now a.word.now c.strip_prefix.result c.strip_prefix.ensures.cases in
    sym (word_other _ _ (rw c.in_default.is at h))

starts : (c : In-Some) → c.args.line.now ≡ c.args.word.now ++ c.in-Some.rest.now
starts c =
    let a = c.args in
    let h = strip_prefix_is Decides-eqb a.line.now a.word.now c.strip_prefix.result c.strip_prefix.ensures.cases in
    rw c.in-Some.is at h

pub returns-in-empty : goal.returns-in-empty
returns-in-empty c = rw (starts (goal.at.returns-in-empty c).In-Some, word_then) (sym (word-end c.in-Some.rest.now (omega arith)))

pub returns-in-empty-2 : goal.returns-in-empty-2
returns-in-empty-2 c = rw (starts (goal.at.returns-in-empty-2 c).In-Some, word_then, word-mark c.in-Some.rest.now (omega arith)) (grind (arith, nat_tests))

pub returns-in_default-matches : goal.returns-in_default-matches
returns-in_default-matches c = rw (starts (goal.at.returns-in_default-matches c).In-Some, word_then, word-mark c.in-Some.rest.now (omega arith)) (grind (arith, nat_tests))
