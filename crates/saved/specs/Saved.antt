-- Document 02, R-9: the saved form of a whole state, possible or not.
-- Assumes nothing: these are definitions.
use Rattle.std.specs.Prelude.{ℕ, zero, suc, ◌/◌, ◌%◌, ◌≡◌, List, [], ◌∷◌, ◌++◌, length}
use Rattle.text.specs.Below.{AllBelow}
use Rattle.state.specs.Limits.{table_bytes, most_stashes}
use Rattle.state.specs.declared.Lengths.{Lengths}
use Rattle.state.specs.declared.Refusal.{Refusal}
use Rattle.state.specs.declared.State.{State}
use Rattle.saved.specs.Layout.{letter_s, letter_h, letter_b, letter_p, letter_r, letter_l, word_bytes, word_bound}

-- the n lowest bytes of a number, the lowest first
unfoldable pub bytes_of : ℕ → ℕ → List ℕ
bytes_of zero x = []
bytes_of (suc n) x = x % 256 ∷ bytes_of n (x / 256)

-- numbers, one after the other
unfoldable pub words_of : List ℕ → List ℕ
words_of [] = []
words_of (x ∷ xs) = bytes_of word_bytes x ++ words_of xs

-- a record after its mark
abbrev pub record_of : ℕ → List ℕ → List ℕ
record_of letter bytes = letter_s ∷ letter ∷ bytes

-- the numbers of a state besides its tables, its refusal and its lengths
abbrev pub progress_numbers : State → List ℕ
progress_numbers s = s.table.count ∷ s.line ∷ s.at ∷ s.into ∷ s.total ∷ s.ready ∷ s.stretches ∷ []

abbrev pub refusal_numbers : Refusal → List ℕ
refusal_numbers r = r.number ∷ r.line ∷ r.byte ∷ []

abbrev pub length_numbers : Lengths → List ℕ
length_numbers l = l.list ∷ l.image ∷ l.stash ∷ l.work ∷ l.result ∷ l.patch ∷ []

-- ---- the five records; the tables are in them whole, entries past the count too

abbrev pub hashes_record : State → List ℕ
hashes_record s = record_of letter_h s.table.hashes

abbrev pub sizes_record : State → List ℕ
sizes_record s = record_of letter_b (words_of s.table.sizes)

abbrev pub progress_record : State → List ℕ
progress_record s = record_of letter_p (words_of (progress_numbers s))

abbrev pub refusal_record : State → List ℕ
refusal_record s = record_of letter_r (words_of (refusal_numbers s.refusal))

abbrev pub lengths_record : State → List ℕ
lengths_record s = record_of letter_l (words_of (length_numbers s.lengths))

unfoldable pub saved_of : State → List ℕ
saved_of s = hashes_record s ++ (sizes_record s ++ (progress_record s ++ (refusal_record s ++ lengths_record s)))

-- what every value of the state's type has: tables of their lengths, bytes that are bytes, numbers of 64 bits
pub record Typed (s : State) : Type 0 where
  pub hashes-length : length s.table.hashes ≡ table_bytes
  pub sizes-length : length s.table.sizes ≡ most_stashes
  pub hashes : AllBelow 256 s.table.hashes
  pub sizes : AllBelow word_bound s.table.sizes
  pub progress : AllBelow word_bound (progress_numbers s)
  pub refusal : AllBelow word_bound (refusal_numbers s.refusal)
  pub lengths : AllBelow word_bound (length_numbers s.lengths)

-- the bytes are the saved form of this state, and the state is one that its type can hold
pub record FormOf (b : List ℕ) (s : State) : Type 0 where
  pub typed : Typed s
  pub form : saved_of s ≡ b
