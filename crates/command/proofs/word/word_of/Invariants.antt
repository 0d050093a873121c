-- The loop's invariant: none of the words up to the index was the line's first word, so that the others tell.
use mathlib.Core.Path.{◌≡◌}
use lib.ListN.{drop}
use Rattle.command.specs.Words.{words, word_in, word_of}
use Rattle.command.proofs.word.word_of.Given as goal

abbrev pub invariant-loop-word : goal.invariant-loop-word
invariant-loop-word l = word_in (drop l.word-index words) l.l ≡ word_of l.l
