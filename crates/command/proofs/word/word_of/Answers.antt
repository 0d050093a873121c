-- `command::word::word_of` meets its contract: the words are compared in the order of `words`.
use Rattle.std.proofs.Common.{◌≡◌, sym, ◌∙◌, ℕ, ◌+◌, ◌<◌, List, [], ◌∷◌, arith, true, false, add-one, drop-cons, get_or, drop}
use Rattle.std.proofs.Math.ListN.{get_or-append}
use Rattle.text.specs.Word.{is_first_word}
use Rattle.command.specs.declared.word.RangeWord.TheVariants.{Zero}
use Rattle.command.specs.declared.word.Word.{Word}
use Rattle.command.specs.declared.word.Word.TheVariants.{Ranges, Imgdiff, Unknown}
use Rattle.command.specs.Words.{spelling, good_words, words, word_in}
use Rattle.command.proofs.word.word_of.Goals as goal

abbrev word_at : ℕ → Word
word_at k = get_or good_words k (Ranges Zero)

words-from : (k : ℕ) → k < 7 → drop k words ≡ word_at k ∷ drop (k + 1) words
words-from k h = rw (add-one k, drop-cons words k (Ranges Zero) (omega arith), get_or-append good_words (Imgdiff ∷ []) (Ranges Zero) k h)

module _ (l : List ℕ) (k : ℕ) (h : k < 7) where
  word-here : is_first_word (spelling (word_at k)) l ≡ true → word_in (drop k words) l ≡ word_at k
  unfolding word_in
  word-here e = rw (words-from k h, e)

  word-later : is_first_word (spelling (word_at k)) l ≡ false → word_in (drop k words) l ≡ word_in (drop (k + 1) words) l
  unfolding word_in
  word-later e = rw (words-from k h, e)

module _ (l : List ℕ) {k : ℕ} (e : k ≡ 7) where
  last-here : is_first_word (spelling Imgdiff) l ≡ true → word_in (drop k words) l ≡ Imgdiff
  unfolding word_in
  last-here f = rw (e, f)

  none-here : is_first_word (spelling Imgdiff) l ≡ false → word_in (drop k words) l ≡ Unknown
  unfolding word_in
  none-here f = rw (e, f)

pub returns-then-first_word_is : goal.returns-then-first_word_is
returns-then-first_word_is c =
    sym (word-here c.args.l.now c.loop-word.word-index c.loop-word-test.true (rw c.spelling.ensures at (sym c.first_word_is.ensures ∙ c.if-first_word_is.true)))
    ∙ c.loop-word.invariant

pub loop-word-preserved : goal.loop-word-preserved
loop-word-preserved c =
    sym (word-later c.args.l.now c.loop-word.word-index c.loop-word-test.true (rw c.spelling.ensures at (sym c.first_word_is.ensures ∙ c.if-first_word_is.false)))
    ∙ c.loop-word.invariant

pub returns-then-first_word_is-2 : goal.returns-then-first_word_is-2
returns-then-first_word_is-2 c =
    sym (last-here c.args.l.now (omega arith) (sym c.first_word_is-2.ensures ∙ c.if-first_word_is-2.true)) ∙ c.loop-word.invariant

pub returns-else-first_word_is-2 : goal.returns-else-first_word_is-2
returns-else-first_word_is-2 c =
    sym (none-here c.args.l.now (omega arith) (sym c.first_word_is-2.ensures ∙ c.if-first_word_is-2.false)) ∙ c.loop-word.invariant
