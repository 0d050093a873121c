-- Document 02, R-4: a record of a patch is a two-byte mark 43 50 (hex), bsdiff's control triple of add length, extra length and seek, the
-- add bytes, the extra bytes. Lengths are not negative; the position moves on by the add length, then by the seek.
-- Assumes nothing: these are definitions.
use Rattle.std.specs.Prelude.{ℕ, ◌+◌, Bool, true, List, [], ◌∷◌, length, ◌==◌, nat_le, Option, Some, None}
use Rattle.text.specs.Choice.{pick, both, no}
use Rattle.little_endian.specs.LittleEndian.{two_at, eight_at}
use Rattle.patch.specs.Signed.{is_negative, is_minus_zero}
use Rattle.patch.specs.Position.{moved, can_move}
use Rattle.patch.specs.declared.records.Record.{Record}

-- bytes of a mark and a control triple
abbrev pub record_header_bytes : ℕ
record_header_bytes = 26

-- 0x5043: the bytes 43 50 as a number
abbrev pub record_mark : ℕ
record_mark = 20547

-- ---- the fields of the record at a byte of the patch

abbrev pub mark_at : List ℕ → ℕ → ℕ
mark_at patch at = two_at patch at

abbrev pub add_at : List ℕ → ℕ → ℕ
add_at patch at = eight_at patch (at + 2)

abbrev pub extra_at : List ℕ → ℕ → ℕ
extra_at patch at = eight_at patch (at + 10)

abbrev pub seek_at : List ℕ → ℕ → ℕ
seek_at patch at = eight_at patch (at + 18)

-- ---- the record, with the position before it

-- where its add bytes start, where its extra bytes do and where it ends; the position of its first add byte, and the one after it
abbrev pub record_from : List ℕ → ℕ → ℕ → Record
record_from patch at position =
    record {
      adds = at + record_header_bytes;
      extras = at + record_header_bytes + add_at patch at;
      end = at + record_header_bytes + add_at patch at + extra_at patch at;
      position = position;
      next = moved (moved position (add_at patch at)) (seek_at patch at);
    }

-- mark and triple are there; the mark; lengths not negative, no minus zero (as a length it is a negative one); add and extra bytes are
-- there; the position within its bounds at each move
abbrev pub record_tests : List ℕ → ℕ → ℕ → List Bool
record_tests patch at position =
    nat_le (at + record_header_bytes) (length patch)
    ∷ (mark_at patch at == record_mark)
    ∷ no (is_negative (add_at patch at))
    ∷ no (is_negative (extra_at patch at))
    ∷ no (is_minus_zero (seek_at patch at))
    ∷ nat_le (record_from patch at position).end (length patch)
    ∷ can_move position (add_at patch at)
    ∷ can_move (moved position (add_at patch at)) (seek_at patch at)
    ∷ []

-- every test is true
abbrev pub all : List Bool → Bool
all [] = true
all (test ∷ tests) = both test (all tests)

unfoldable pub record_at : List ℕ → ℕ → ℕ → Option Record
record_at patch at position = pick (all (record_tests patch at position)) (Some (record_from patch at position)) None
