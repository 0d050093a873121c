-- Document 02, R-9: the layout of a saved form, as docs/SAVED-FORM.md has it. Five records, each after its own mark of two bytes, "S" and a
-- letter of its own. A number has eight bytes, the lowest first.
-- Assumes nothing: these are definitions.
use Rattle.std.specs.Prelude.{ℕ, ◌+◌, ◌*◌, ◌^◌}
use Rattle.state.specs.Limits.{table_bytes, most_stashes}

abbrev pub mark_bytes : ℕ
mark_bytes = 2

-- "S", which every mark begins with
abbrev pub letter_s : ℕ
letter_s = 83

-- "H": the table of hashes
abbrev pub letter_h : ℕ
letter_h = 72

-- "B": the sizes in blocks
abbrev pub letter_b : ℕ
letter_b = 66

-- "P": the progress
abbrev pub letter_p : ℕ
letter_p = 80

-- "R": the refusal
abbrev pub letter_r : ℕ
letter_r = 82

-- "L": the lengths
abbrev pub letter_l : ℕ
letter_l = 76

-- bytes of a number
abbrev pub word_bytes : ℕ
word_bytes = 8

-- numbers are below this
abbrev pub word_bound : ℕ
word_bound = 2 ^ 64

-- how many numbers the last three records have
abbrev pub progress_count : ℕ
progress_count = 7

abbrev pub refusal_count : ℕ
refusal_count = 3

abbrev pub length_count : ℕ
length_count = 6

-- where each record starts, with its mark
abbrev pub hashes_at : ℕ
hashes_at = 0

abbrev pub sizes_at : ℕ
sizes_at = hashes_at + (mark_bytes + table_bytes)

abbrev pub progress_at : ℕ
progress_at = sizes_at + (mark_bytes + word_bytes * most_stashes)

abbrev pub refusal_at : ℕ
refusal_at = progress_at + (mark_bytes + word_bytes * progress_count)

abbrev pub lengths_at : ℕ
lengths_at = refusal_at + (mark_bytes + word_bytes * refusal_count)

-- bytes of the whole form
abbrev pub saved_bytes : ℕ
saved_bytes = lengths_at + (mark_bytes + word_bytes * length_count)
