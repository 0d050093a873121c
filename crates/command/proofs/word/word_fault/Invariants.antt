-- The loop's invariant: the most so far, and the most that one of the words left shares.
use mathlib.Core.Path.{◌≡◌}
use lib.ListN.{drop}
use Rattle.std.specs.Prelude.{max}
use Rattle.command.specs.Words.{good_words, shared_most, word_fault}
use Rattle.command.proofs.word.word_fault.Given as goal

abbrev pub invariant-loop-word : goal.invariant-loop-word
invariant-loop-word l = max l.most (shared_most (drop l.word-index good_words) l.l) ≡ word_fault l.l
