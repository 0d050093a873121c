-- A command line: the words of good lines, and what follows them. What the reader finds is so of the line that any bytes begin with.
-- Assumes nothing.
use mathlib.Core.Path.{◌≡◌, refl, sym, ◌∙◌, subst}
use mathlib.Core.Bool.{Bool, true, false}
use mathlib.Core.Logic.{inl, inr, ⊎_elim}
use Prim.Native.Nat.{ℕ, suc, ◌+◌, max}
use native.Mathlib.Omega.{arith}
use mathlib.Core.List.{List, [], ◌∷◌, ◌++◌}
use lib.ListN.{length, drop, get_or}
use lib.Dec.{eqb}
use borrow.Author.Tests.{eqb-true, eqb-false}
use Rattle.text.specs.Choice.{pick, both, either, no}
use Rattle.text.specs.Expected.{space, lf}
use Rattle.text.specs.Word.{is_first_word}
use Rattle.text.proofs.ChoiceLaws.{picks, both_true, either_false, no_true}
use Rattle.ranges.specs.Ranges.{least_blocks}
use Rattle.command.specs.Words.{spelling, good_words, word_in, shared, shared_most, word_fault}
use Rattle.command.specs.Commands.{line_by, command_of}
use Rattle.command.specs.declared.word.RangeWord.TheVariants as range
use Rattle.command.specs.declared.word.HashWord.TheVariants as hash
use Rattle.command.specs.declared.word.Word.{Word}
use Rattle.command.specs.declared.word.Word.TheVariants as word
use Rattle.faults.specs.Language.{Language, GoesOn, Finding, fault, Byte, Or}
use Rattle.faults.specs.Lines.{Rest, Bytes, CommandLine}
use Rattle.faults.specs.Findings.{finding_at}
use Rattle.faults.proofs.LanguageLaws.{Reads, Starting, Starts, fault_here_lem, same, same_start, or_later, byte-alive, byte-other, byte_past}
use Rattle.faults.proofs.Seen.{seen, is_lf}
use Rattle.faults.proofs.Numbers.{clash}
use Rattle.faults.proofs.Rests.{GoodWord, rest-found}
use Rattle.faults.proofs.Spaces.{byte-starts, Spaced, rest_spaced}

-- ---- a word, and what follows it

no_lf : List ℕ → Bool
no_lf [] = true
no_lf (c ∷ word) = both (no (is_lf c)) (no_lf word)

bytes-alive : (word : List ℕ) (K : Language) → GoesOn K [] → GoesOn (Bytes word K) []
unfolding Bytes
bytes-alive [] K a = a
bytes-alive (c ∷ word) K a = byte-alive c (Bytes word K) (bytes-alive word K a)

-- the word is the line's first, and what follows it is found so; or the fault is where the two part, or where the space is missing
word-found : (word : List ℕ) {K : Language} (l : List ℕ) (i : ℕ) {j p : ℕ} {r : Finding} → no_lf word ≡ true → Spaced K → j ≡ i + length word →
    p ≡ i + shared word l → Reads K j (seen is_lf (drop (length word) l)) r →
    Reads (Bytes word K) i (seen is_lf l) (pick (is_first_word word l) r (fault p))
unfolding Bytes is_first_word shared no_lf
word-found [] [] i {j} n spaced ej ep x = let e : j ≡ i = omega arith in rw e at x
word-found [] {K} (b ∷ l) i {j} {p} {r} n spaced ej ep x =
    let e : j ≡ i = omega arith in
    let f : p ≡ i = omega arith in
    picks (λ r. Reads K i (seen is_lf (b ∷ l)) r) (either (eqb b space) (eqb b lf)) r (fault p)
    (λ h. rw e at x)
    (λ h. rw f (fault_here_lem (seen is_lf (b ∷ l)) x.alive
    (λ t k. eqb-false b space (either_false (eqb b space) (eqb b lf) h).0 (spaced (b ∷ t) k))))
word-found (c ∷ word) {K} [] i {p} n spaced ej ep x =
    let f : p ≡ i = omega arith in rw f (byte-other c (Bytes word K) [] (bytes-alive word K x.alive) (λ z. z))
word-found (c ∷ word) {K} (b ∷ l) i {p} {r} n spaced ej ep x =
    let m = both_true (no (is_lf c)) (no_lf word) n in
    go (eqb b c) refl (no_true (is_lf c) m.0) (λ e. word-found word l (suc i) m.1 spaced (omega arith) e x) ep
  where
    go : (t : Bool) → eqb b c ≡ t → is_lf c ≡ false →
        (p ≡ suc i + shared word l → Reads (Bytes word K) (suc i) (seen is_lf l) (pick (is_first_word word l) r (fault p))) →
        p ≡ i + pick t (suc (shared word l)) 0 →
        Reads (Byte c (Bytes word K)) i (seen is_lf (b ∷ l)) (pick (both t (is_first_word word l)) r (fault p))
    go true h q rest ep = rw (eqb-true b c h, q) (byte_past c (Bytes word K) refl (rest (omega arith)))
    go false h q rest ep =
        let f : p ≡ i = omega arith in
        rw f (byte-other c (Bytes word K) (seen is_lf (b ∷ l)) (bytes-alive word K x.alive) (eqb-false b c h))

-- ---- the words of good lines have seven first bytes

-- a word by its first byte
start_in : List Word → ℕ → Word
start_in [] b = word.Unknown
start_in (w ∷ ws) b = pick (eqb b (get_or (spelling w) 0 0)) w (start_in ws b)

unfoldable by_start : List ℕ → Word
unfolding start_in
by_start s = start_in good_words (get_or s 0 0)

-- its first byte and the others; it is found by its first byte, and has no LF
record Spelt (w : Word) : Type 0 where
  first : ℕ
  rest : List ℕ
  is : spelling w ≡ first ∷ rest
  own : by_start (spelling w) ≡ w
  plain : no_lf (spelling w) ≡ true

spelt : (w : Word) → GoodWord w → Spelt w
unfolding start_in by_start no_lf
spelt (word.Ranges range.Zero) g = record { first = _; rest = _; is = refl; own = refl; plain = refl }
spelt (word.Ranges range.Erase) g = record { first = _; rest = _; is = refl; own = refl; plain = refl }
spelt (word.Ranges range.New) g = record { first = _; rest = _; is = refl; own = refl; plain = refl }
spelt (word.Hash hash.Move) g = record { first = _; rest = _; is = refl; own = refl; plain = refl }
spelt (word.Hash hash.Stash) g = record { first = _; rest = _; is = refl; own = refl; plain = refl }
spelt (word.Hash hash.Free) g = record { first = _; rest = _; is = refl; own = refl; plain = refl }
spelt word.Bsdiff g = record { first = _; rest = _; is = refl; own = refl; plain = refl }
spelt word.Imgdiff g = absurd g
spelt word.Unknown g = absurd g

-- ---- a word of a good line, and what follows it in one

abbrev Kind : Word → Language
Kind w = Bytes (spelling w) (Rest w)

starts-byte : (t : List ℕ) {m : ℕ} → Starts t m → get_or t 0 0 ≡ m
starts-byte [] h = absurd h
starts-byte (b ∷ t) h = h

none_after : (word : List ℕ) (t : List ℕ) → Bytes word (λ s. ⊥) t → ⊥
unfolding Bytes Byte
none_after [] t d = d
none_after (c ∷ word) [] d = d
none_after (c ∷ word) (b ∷ t) d = none_after word t d.1

kind_good : (w : Word) (t : List ℕ) → Kind w t → GoodWord w
unfolding Rest
kind_good (word.Ranges w) t x = tt
kind_good (word.Hash w) t x = tt
kind_good word.Bsdiff t x = tt
kind_good word.Imgdiff t x = none_after (spelling word.Imgdiff) t x
kind_good word.Unknown t x = none_after [] t x

-- the first byte says which word it is
by_start_lem : {w : Word} (s : Spelt w) (t : List ℕ) → Starts t s.first → by_start t ≡ w
unfolding by_start
by_start_lem s t h = rw (starts-byte t h) (rw s.is at s.own)

kind_start : (w : Word) (t : List ℕ) → Kind w t → by_start t ≡ w
unfolding Bytes
kind_start w t x =
    let s = spelt w (kind_good w t x) in by_start_lem s t (byte-starts s.first (Bytes s.rest (Rest w)) t (rw s.is at x))

-- texts that start alike are of one word
starting_by : (P : List ℕ → Type 0) (s : List ℕ) → ((t : List ℕ) → by_start t ≡ by_start s → P t) → Starting s P
unfolding by_start
starting_by P [] f = f [] refl
starting_by P (b ∷ s) f = λ t. f (b ∷ t) refl

-- ---- a line

first-starts : (c : ℕ) (word l : List ℕ) → is_first_word (c ∷ word) l ≡ true → Starts (seen is_lf l) c
unfolding is_first_word
first-starts c word [] e = absurd (clash e refl)
first-starts c word (b ∷ l) e = eqb-true b c (both_true (eqb b c) (is_first_word word l) e).0

-- one of some words, and what follows it
AnyOf : List Word → Language
AnyOf [] = λ t. ⊥
AnyOf (w ∷ ws) = Or (Kind w) (AnyOf ws)

any-line : (ws : List Word) (t : List ℕ) → AnyOf ws t → CommandLine t
unfolding AnyOf CommandLine
any-line [] t x = absurd x
any-line (w ∷ ws) t (inl x) = (w, x)
any-line (w ∷ ws) t (inr x) = any-line ws t x

line-any : (w : Word) (t : List ℕ) → Kind w t → AnyOf good_words t
unfolding AnyOf
line-any (word.Ranges range.Zero) t x = inl x
line-any (word.Ranges range.Erase) t x = inr (inl x)
line-any (word.Ranges range.New) t x = inr (inr (inl x))
line-any (word.Hash hash.Move) t x = inr (inr (inr (inl x)))
line-any (word.Hash hash.Stash) t x = inr (inr (inr (inr (inl x))))
line-any (word.Hash hash.Free) t x = inr (inr (inr (inr (inr (inl x)))))
line-any word.Bsdiff t x = inr (inr (inr (inr (inr (inr (inl x))))))
line-any word.Imgdiff t x = absurd (kind_good word.Imgdiff t x)
line-any word.Unknown t x = absurd (kind_good word.Unknown t x)

All : (Word → Type 0) → List Word → Type 0
All P [] = Unit {0}
All P (w ∷ ws) = P w × All P ws

module _ (l : List ℕ) where
  abbrev Says : Word → Type 0
  Says w = Reads CommandLine 0 (seen is_lf l) (finding_at 0 (line_by least_blocks l w).command)

  kind_found : (w : Word) → GoodWord w →
      Reads (Kind w) 0 (seen is_lf l) (pick (is_first_word (spelling w) l) (finding_at 0 (line_by least_blocks l w).command) (fault (shared (spelling w) l)))
  kind_found w g = word-found (spelling w) l 0 (spelt w g).plain (rest_spaced w) (omega arith) (omega arith) (rest-found l w g)

  -- a word of a good line: no line of another word starts as this one
  known : (w : Word) → GoodWord w → is_first_word (spelling w) l ≡ true → Says w
  unfolding CommandLine
  known w g e =
      same_start (λ t x. (w, x))
      (starting_by (λ t. CommandLine t → Kind w t) (seen is_lf l)
      (λ t h x. subst (λ u. Kind u t) (sym (kind_start x.0 t x.1) ∙ h ∙ mine) x.1))
      (rw e at (kind_found w g))
    where
      mine : by_start (seen is_lf l) ≡ w
      mine = let s = spelt w g in by_start_lem s (seen is_lf l) (first-starts s.first s.rest l (rw s.is at e))

  alive : GoesOn CommandLine []
  unfolding CommandLine
  alive = let a = (kind_found word.Bsdiff tt).alive in (a.0, (word.Bsdiff, a.1))

  -- no good line starts as `imgdiff` does
  refused : is_first_word (spelling word.Imgdiff) l ≡ true → Says word.Imgdiff
  unfolding CommandLine finding_at by_start start_in
  refused e =
      fault_here_lem (seen is_lf l) alive (starting_by (λ t. CommandLine t → ⊥) (seen is_lf l)
      (λ t h x. subst GoodWord (sym (kind_start x.0 t x.1) ∙ h ∙ other) (kind_good x.0 t x.1)))
    where
      other : by_start (seen is_lf l) ≡ word.Unknown
      other = rw (starts-byte (seen is_lf l) (first-starts _ _ l e))

  -- a word that a good line can start with, but not this one
  abbrev NotFirst : Word → Type 0
  NotFirst w = GoodWord w × (is_first_word (spelling w) l ≡ false)

  none_found : (w : Word) (ws : List Word) → NotFirst w → All NotFirst ws →
      Reads (AnyOf (w ∷ ws)) 0 (seen is_lf l) (fault (shared_most (w ∷ ws) l))
  unfolding All AnyOf shared_most
  none_found w [] n ns =
      let e : max (shared (spelling w) l) 0 ≡ shared (spelling w) l = omega arith in
      rw e (same (λ t x. inl x) (λ t. ⊎_elim (λ x. x) (λ x. absurd x)) (rw n.1 at (kind_found w n.0)))
  none_found w (v ∷ ws) n ns = or_later (rw n.1 at (kind_found w n.0)) (none_found v ws ns.0 ns.1)

  unknown : All NotFirst good_words → Says word.Unknown
  unfolding All CommandLine finding_at
  unknown ns =
      let e : 0 + word_fault l ≡ word_fault l = omega arith in
      rw e (same (any-line good_words) (λ t x. line-any x.0 t x.1) (none_found _ _ ns.0 ns.1))

  word-by_word : (ws us : List Word) → All GoodWord ws → (All NotFirst ws → Says (word_in us l)) → Says (word_in (ws ++ us) l)
  unfolding All word_in
  word-by_word [] us gs f = f tt
  word-by_word (w ∷ ws) us gs f =
      picks Says (is_first_word (spelling w) l) w (word_in (ws ++ us) l) (known w gs.0)
      (λ n. word-by_word ws us gs.1 (λ ns. f ((gs.0, n), ns)))

  -- of the line that any bytes begin with
  pub line-found : Reads CommandLine 0 (seen is_lf l) (finding_at 0 (command_of least_blocks l).command)
  unfolding command_of word_in All
  line-found =
      word-by_word good_words (word.Imgdiff ∷ []) (tt, (tt, (tt, (tt, (tt, (tt, (tt, tt)))))))
      (λ ns. picks Says (is_first_word (spelling word.Imgdiff) l) word.Imgdiff word.Unknown refused (λ i. unknown ns))
