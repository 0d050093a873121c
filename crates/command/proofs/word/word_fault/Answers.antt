-- `command::word::word_fault` meets its contract: the most that a word shares with the line.
use Rattle.std.proofs.Common.{◌≡◌, ◌∙◌, ℕ, ◌+◌, ◌<◌, max, List, arith, add-one, drop-cons, get_or, drop}
use Rattle.std.proofs.lemmas.Grind.{common_steps}
use Rattle.command.specs.declared.word.RangeWord.TheVariants.{Zero}
use Rattle.command.specs.declared.word.Word.TheVariants.{Ranges}
use Rattle.command.specs.Words.{spelling, good_words, shared, shared_most, word_fault}
use Rattle.command.proofs.word.word_fault.Goals as goal

most-from : (l : List ℕ) (k : ℕ) → k < 7 →
    shared_most (drop k good_words) l ≡ max (shared (spelling (get_or good_words k (Ranges Zero))) l) (shared_most (drop (k + 1) good_words) l)
unfolding shared_most
most-from l k h = rw (add-one k, drop-cons good_words k (Ranges Zero) h)

most-none : (l : List ℕ) {k : ℕ} → k ≡ 7 → shared_most (drop k good_words) l ≡ 0
unfolding shared_most
most-none l e = rw e

pub loop-word-preserved : goal.loop-word-preserved
loop-word-preserved c =
    let f = most-from c.args.l.now c.loop-word.word-index c.loop-word-test.true in
    let s : c.shared_bytes.result ≡ shared (spelling (get_or good_words c.loop-word.word-index (Ranges Zero))) c.args.l.now = c.shared_bytes.ensures ∙ rw c.spelling.ensures in
    let m : c.max-most.result ≡ max c.loop-word.most c.shared_bytes.result = grind (arith, common_steps) in
    let i : max c.loop-word.most (shared_most (drop c.loop-word.word-index good_words) c.args.l.now) ≡ word_fault c.args.l.now = c.loop-word.invariant in
    omega arith

pub returns : goal.returns
returns c =
    let z = most-none c.args.l.now {k = c.loop-word.word-index} (omega arith) in
    let i : max c.loop-word.most (shared_most (drop c.loop-word.word-index good_words) c.args.l.now) ≡ word_fault c.args.l.now = c.loop-word.invariant in
    omega arith
