-- What follows a line's word: sources, and the rest of each kind of line. The reader's answer is the first fault.
-- Assumes nothing.
use mathlib.Core.Path.{◌≡◌, refl}
use mathlib.Core.Logic.{⊎_elim}
use Prim.Native.Nat.{ℕ, ◌+◌}
use native.Mathlib.Omega.{arith}
use mathlib.Core.List.{List}
use lib.ListN.{length}
use Rattle.text.specs.Expected.{space, lf, dash}
use Rattle.text.specs.Read.{on_result}
use Rattle.ranges.specs.Ranges.{least_blocks}
use Rattle.ranges.specs.declared.RangeSet as sets
use Rattle.command.specs.Words.{spelling}
use Rattle.command.specs.Commands.{after_dash, with_places, after_blocks, source_from, source_field, command_for, length_from, target_from}
use Rattle.command.specs.Commands.{plain, with_set, range_line, stash_from, free_from, hashed_line, line_by}
use Rattle.command.specs.Commands.{digest_from, patched_line, length_line, bsdiff_line}
use Rattle.command.specs.declared.word.RangeWord.{RangeWord}
use Rattle.command.specs.declared.word.RangeWord.TheVariants as range
use Rattle.command.specs.declared.word.HashWord.TheVariants as hash
use Rattle.command.specs.declared.word.Word.{Word}
use Rattle.command.specs.declared.word.Word.TheVariants as word
use Rattle.command.specs.declared.source.Source as sources
use Rattle.command.specs.declared.sourced.Purpose.{Purpose}
use Rattle.command.specs.declared.sourced.Purpose.TheVariants as purpose
use Rattle.command.specs.declared.Command.{Command}
use Rattle.command.specs.declared.Command.TheVariants.{Bad}
use Rattle.command.specs.declared.Line.{Line}
use Rattle.faults.specs.Language.{Language, good, fault, Byte, Or}
use Rattle.faults.specs.Lines.{Number, Hash, RangeSet, LineEnd, Parts, Source, Sourced, Hashed, Rest}
use Rattle.faults.specs.Findings.{finding_at}
use Rattle.faults.proofs.Seen.{At}
use Rattle.faults.proofs.Marks.{byte-without}
use Rattle.faults.proofs.Sets.{Apart, byte-apart, set_begin}
use Rattle.faults.proofs.Fields.{Ending, end-apart, end-then, or_end-then, or_mark-then, space-then, set_then}
use Rattle.faults.proofs.Fields.{number_field_lem, set_field_lem, hash_field_lem, last_set_lem}
use Rattle.faults.proofs.Parts.{parts_field_lem}
use Rattle.std.specs.Prelude.{Result, Err}

-- ---- a source, in its three forms

-- what follows S
abbrev AfterBlocks : Language
AfterBlocks = Or LineEnd (Byte space (RangeSet (Byte space Parts)))

after-apart : Apart AfterBlocks
after-apart b t e = ⊎_elim (end-apart b t e) (byte-apart space (RangeSet (Byte space Parts)) refl b t e)

module _ (l : List ℕ) {A : Type 0} (e : Ending A) (g : sources.Source → A) (fine : (s : sources.Source) → e.of (g s) ≡ good) where
  abbrev after_source : Ending (Result sources.Source ℕ)
  after_source = record { of = λ r. e.of (on_result r g e.bad); bad = Err; is = e.is }

  pub source_field_lem : {at : ℕ} → At l (Byte space Source) at (e.of (on_result (source_field least_blocks l at) g e.bad))
  unfolding source_field source_from after_dash after_blocks with_places Source
  source_field_lem =
      space-then l after_source _
      (λ i. or_mark-then l after_source dash _ _ refl (λ t. set_begin AfterBlocks dash t refl)
      (parts_field_lem l after_source _ (λ first. fine _))
      (set_then l after_source _ after-apart
      (λ set j h. or_end-then l after_source _ _ (byte-without lf space (RangeSet (Byte space Parts)) refl) (λ next. fine _)
      (set_field_lem l after_source _ (byte-apart space Parts refl)
      (λ places k. parts_field_lem l after_source _ (λ first. fine _))))))

-- ---- the kinds of line

-- a word that a good line can start with
abbrev pub GoodWord : Word → Type 0
GoodWord (word.Ranges w) = Unit {0}
GoodWord (word.Hash w) = Unit {0}
GoodWord word.Bsdiff = Unit {0}
GoodWord word.Imgdiff = ⊥
GoodWord word.Unknown = ⊥

is-fault : (p : ℕ) → finding_at 0 (Bad p) ≡ fault p
unfolding finding_at
is-fault p = let e : 0 + p ≡ p = omega arith in rw e

abbrev command : Ending Command
command = record { of = finding_at 0; bad = Bad; is = is-fault }

abbrev line : Ending Line
line = record { of = λ x. finding_at 0 x.command; bad = λ p. plain (Bad p); is = is-fault }

range_good : (w : RangeWord) (set : sets.RangeSet) → finding_at 0 (with_set w set) ≡ good
unfolding finding_at
range_good range.Zero set = refl
range_good range.Erase set = refl
range_good range.New set = refl

sourced-good : (p : Purpose) (target : sets.RangeSet) (n : ℕ) (s : sources.Source) → finding_at 0 (command_for p target n s) ≡ good
unfolding finding_at
sourced-good purpose.Move target n s = refl
sourced-good purpose.Bsdiff target n s = refl

module _ (l : List ℕ) where
  sourced-found : (p : Purpose) (at : ℕ) → At l Sourced at (finding_at 0 (target_from least_blocks l p at))
  unfolding Sourced target_from length_from
  sourced-found p at =
      set_field_lem l command _ (byte-apart space (Number (Byte space Source)) refl)
      (λ target i. number_field_lem l command _ (byte-apart space Source refl)
      (λ n j. source_field_lem l command (command_for p target n) (sourced-good p target n)))

  pub rest-found : (w : Word) → GoodWord w → At l (Rest w) (length (spelling w)) (finding_at 0 (line_by least_blocks l w).command)
  unfolding Rest range_line hashed_line stash_from free_from bsdiff_line length_line patched_line digest_from finding_at
  rest-found (word.Ranges w) a = last_set_lem l command _ (λ set next. range_good w set)
  rest-found (word.Hash hash.Move) a = hash_field_lem l line _ (λ hash. sourced-found purpose.Move)
  rest-found (word.Hash hash.Stash) a = hash_field_lem l line _ (λ hash i. last_set_lem l command _ (λ set next. refl))
  rest-found (word.Hash hash.Free) a = hash_field_lem l line _ (λ hash i. end-then l command _ (λ next. refl))
  rest-found word.Bsdiff a =
      number_field_lem l line _ (byte-apart space (Number (Hashed (Hashed Sourced))) refl)
      (λ start i. number_field_lem l line _ (byte-apart space (Hash (Hashed Sourced)) refl)
      (λ size j. hash_field_lem l line _ (λ hash k. hash_field_lem l command _ (λ digest. sourced-found purpose.Bsdiff))))
  rest-found word.Imgdiff a = absurd a
  rest-found word.Unknown a = absurd a
