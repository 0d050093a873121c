-- Bytes put one after the other: what stands up to a position, and what is put there, is what stands up to its end.
-- Assumes nothing.
use mathlib.Core.Path.{◌≡◌, sym, ◌∙◌}
use mathlib.Core.List.{List, [], ◌∷◌, ◌++◌, append_assoc, append-nil}
use Prim.Native.Nat.{ℕ, zero, suc, ◌+◌, ◌*◌, ◌≤◌, ◌<◌}
use native.Mathlib.Numerals.{add-one}
use native.Mathlib.Omega.{arith}
use lib.ListN.{length, get_or, take}
use Rattle.std.specs.Int.{w64, to_le_bytes}
use Rattle.std.proofs.Math.Nat.{div-div-eq-div-mul}
use Rattle.std.proofs.lemmas.List.{take_all}
use Rattle.std.proofs.lemmas.Slice.{take-put_mid}
use borrow.Rule.Slice.PartMut.{put_mid}
use Rattle.state.specs.Limits.{table_bytes, most_stashes}
use Rattle.state.specs.declared.State.{State}
use Rattle.saved.specs.Layout.{mark_bytes, word_bytes}
use Rattle.saved.specs.Layout.{hashes_at, sizes_at, progress_at, refusal_at, lengths_at, saved_bytes}
use Rattle.saved.specs.Saved.{bytes_of, words_of, record_of}
use Rattle.saved.specs.Saved.{hashes_record, sizes_record, progress_record, refusal_record, lengths_record, saved_of}
use Rattle.saved.proofs.WordLaws.{length-bytes}

-- a number
bytes-all : (x : ℕ) → to_le_bytes w64 x ≡ bytes_of word_bytes x
unfolding bytes_of
bytes-all x = simp div-div-eq-div-mul

pub word_put : (to bytes : List ℕ) (at n x : ℕ) → at + word_bytes ≤ length to → bytes ≡ to_le_bytes w64 x →
    take (at + word_bytes) (put_mid at n to bytes) ≡ take at to ++ bytes_of word_bytes x
word_put to bytes at n x h e =
    let b = e ∙ bytes-all x in
    rw b (take-put_mid at n to (bytes_of word_bytes x) (at + word_bytes) (omega (arith, length-bytes word_bytes x)) (omega arith))

-- one number more of a row
words-more : (xs : List ℕ) (i : ℕ) → i < length xs → words_of (take (i + 1) xs) ≡ words_of (take i xs) ++ bytes_of word_bytes (get_or xs i 0)
unfolding words_of
words-more [] i h = absurd (omega arith)
words-more (x ∷ xs) zero h = append-nil (bytes_of word_bytes x)
words-more (x ∷ xs) (suc i) h =
    let r : words_of (take (suc i) xs) ≡ words_of (take i xs) ++ bytes_of word_bytes (get_or xs i 0) = rw add-one at (words-more xs i (omega arith)) in
    rw (add-one, r) (sym (append_assoc (bytes_of word_bytes x) (words_of (take i xs)) (bytes_of word_bytes (get_or xs i 0))))

pub row_put : (to next marked xs : List ℕ) (body i : ℕ) → i < length xs →
    take (body + word_bytes * i + word_bytes) next ≡ take (body + word_bytes * i) to ++ bytes_of word_bytes (get_or xs i 0) →
    take (body + word_bytes * i) to ≡ marked ++ words_of (take i xs) →
    take (body + word_bytes * (i + 1)) next ≡ marked ++ words_of (take (i + 1) xs)
row_put to next marked xs body i h n e =
    let f : body + word_bytes * (i + 1) ≡ body + word_bytes * i + word_bytes = omega arith in
    rw (f, n, e, words-more xs i h) (append_assoc marked (words_of (take i xs)) (bytes_of word_bytes (get_or xs i 0)))

-- a mark, and then the record's bytes
module _ (to marked : List ℕ) (at letter : ℕ) (m : take (at + mark_bytes) marked ≡ take at to ++ record_of letter []) where
  pub record_put : (next bytes : List ℕ) (n : ℕ) → take (at + mark_bytes + n) next ≡ take (at + mark_bytes) marked ++ bytes →
      take (at + (mark_bytes + n)) next ≡ take at to ++ record_of letter bytes
  record_put next bytes n e =
      let f : at + (mark_bytes + n) ≡ at + mark_bytes + n = omega arith in
      rw (f, e, m) (append_assoc (take at to) (record_of letter []) bytes)

  pub table_put : (bytes part : List ℕ) (k : ℕ) → at + (mark_bytes + length bytes) ≤ length marked → part ≡ bytes →
      take (at + (mark_bytes + length bytes)) (put_mid (at + mark_bytes) k marked part) ≡ take at to ++ record_of letter bytes
  table_put bytes part k h e =
      rw e
      (record_put (put_mid (at + mark_bytes) k marked bytes) bytes (length bytes)
      (take-put_mid (at + mark_bytes) k marked bytes (at + mark_bytes + length bytes) (omega arith) (omega arith)))

-- five records, one after the other, up to the end
five_put : (a b c d e : List ℕ) (i j k l n : ℕ) (p q r s t : List ℕ) → take i a ≡ p → take j b ≡ take i a ++ q →
    take k c ≡ take j b ++ r → take l d ≡ take k c ++ s → take n e ≡ take l d ++ t → length e ≡ n →
    e ≡ p ++ (q ++ (r ++ (s ++ t)))
five_put a b c d e i j k l n p q r s t ep eq er es et h =
    let w : take n e ≡ e = take_all n e (omega arith) in
    sym w ∙ et ∙ rw (es, er, eq, ep) (simp append_assoc)

module _ (x : State) (zeros a b c d e : List ℕ) where
  pub saved-put : length x.table.hashes ≡ table_bytes → length x.table.sizes ≡ most_stashes → length e ≡ saved_bytes →
      take (hashes_at + (mark_bytes + length x.table.hashes)) a ≡ take hashes_at zeros ++ hashes_record x →
      take (sizes_at + (mark_bytes + word_bytes * length x.table.sizes)) b ≡ take sizes_at a ++ sizes_record x →
      take refusal_at c ≡ take progress_at b ++ progress_record x →
      take lengths_at d ≡ take refusal_at c ++ refusal_record x →
      take saved_bytes e ≡ take lengths_at d ++ lengths_record x →
      saved_of x ≡ e
  unfolding saved_of
  saved-put m n l h₁ h₂ h₃ h₄ h₅ =
      let j : take sizes_at a ≡ take hashes_at zeros ++ hashes_record x = rw m at h₁ in
      let k : take progress_at b ≡ take sizes_at a ++ sizes_record x = rw n at h₂ in
      sym (five_put a b c d e sizes_at progress_at refusal_at lengths_at saved_bytes
      (hashes_record x) (sizes_record x) (progress_record x) (refusal_record x) (lengths_record x)
      j k h₃ h₄ h₅ l)
