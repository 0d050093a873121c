-- `is_patch` and `patched_by` worked out for small patches, at the bounds above all: definitions that are moved together with their code do not
-- agree with this.
-- Assumes nothing.
use Rattle.std.proofs.Common.{◌≡◌, ℕ, Bool, true, false, List, [], ◌∷◌, ◌++◌, refl}
use Rattle.little_endian.specs.LittleEndian.{two_at, four_at, eight_at}
use Rattle.patch.specs.Position.{moved, can_move}
use Rattle.patch.specs.Record.{record_at}
use Rattle.patch.specs.Added.{source_at, added}
use Rattle.patch.specs.Patch.{records_at, records_from, record_result, result_of, result_size, patched_by, is_patch}

-- ---- numbers of eight bytes, and records

-- a number below 256, and the same with a sign
abbrev plus : ℕ → List ℕ
plus n = n ∷ 0 ∷ 0 ∷ 0 ∷ 0 ∷ 0 ∷ 0 ∷ 0 ∷ []

abbrev minus : ℕ → List ℕ
minus n = n ∷ 0 ∷ 0 ∷ 0 ∷ 0 ∷ 0 ∷ 0 ∷ 128 ∷ []

-- 2,147,483,647 and 2,147,483,648; the last byte has the sign
abbrev farthest : ℕ → List ℕ
farthest last = 255 ∷ 255 ∷ 255 ∷ 127 ∷ 0 ∷ 0 ∷ 0 ∷ last ∷ []

abbrev farther : ℕ → List ℕ
farther last = 0 ∷ 0 ∷ 0 ∷ 128 ∷ 0 ∷ 0 ∷ 0 ∷ last ∷ []

abbrev triple : List ℕ → List ℕ → List ℕ → List ℕ
triple add extra seek = 67 ∷ 80 ∷ (add ++ (extra ++ seek))

-- whether a record of no bytes with that seek is a patch
abbrev seeks : List ℕ → Bool
seeks seek = is_patch (triple (plus 0) (plus 0) seek) 0

-- ---- what is a patch

pub no_record : (is_patch [] 0 ≡ true) × (is_patch [] 1 ≡ false)
unfolding is_patch records_from records_at result_size
no_record = (refl, refl)

pub seek_bounds : (seeks (farthest 0) ≡ true) × (seeks (farther 0) ≡ false) × (seeks (farthest 128) ≡ true) × (seeks (farther 128) ≡ false)
unfolding is_patch records_from records_at result_size record_at can_move moved two_at four_at eight_at
seek_bounds = (refl, refl, refl, refl)

-- minus zero is no number
pub no-minus-zero : (seeks (plus 0) ≡ true) × (seeks (minus 0) ≡ false) × (seeks (minus 1) ≡ true)
unfolding is_patch records_from records_at result_size record_at can_move moved two_at four_at eight_at
no-minus-zero = (refl, refl, refl)

-- nor is it, or a negative number, a length
pub no_negative_length : (is_patch (triple (minus 0) (plus 0) (plus 0)) 0 ≡ false) × (is_patch (triple (plus 0) (minus 1) (plus 0)) 0 ≡ false)
unfolding is_patch records_from records_at result_size record_at can_move moved two_at four_at eight_at
no_negative_length = (refl, refl)

-- the position is looked at before the seek too
pub add-bound : is_patch (triple (plus 0) (plus 0) (farthest 0) ++ (triple (plus 1) (plus 0) (minus 1) ++ (5 ∷ []))) 1 ≡ false
unfolding is_patch records_from records_at result_size record_at can_move moved two_at four_at eight_at
add-bound = refl

-- the mark is 43 50 (hex), in this order
pub other-mark : is_patch (80 ∷ 67 ∷ (plus 0 ++ (plus 0 ++ plus 0))) 0 ≡ false
unfolding is_patch records_from records_at result_size record_at can_move moved two_at four_at eight_at
other-mark = refl

-- the add bytes are there, and so are the extra bytes
pub bytes-missing : (is_patch (triple (plus 1) (plus 0) (plus 0)) 1 ≡ false) × (is_patch (triple (plus 0) (plus 1) (plus 0)) 1 ≡ false)
unfolding is_patch records_from records_at result_size record_at can_move moved two_at four_at eight_at
bytes-missing = (refl, refl)

-- no byte is left over
pub left_over : is_patch (triple (plus 0) (plus 0) (plus 0) ++ (67 ∷ [])) 0 ≡ false
unfolding is_patch records_from records_at result_size record_at can_move moved two_at four_at eight_at
left_over = refl

-- ---- what a patch makes

-- two added bytes, the second modulo 256, and an extra byte
abbrev small : List ℕ
small = triple (plus 2) (plus 1) (plus 0) ++ (1 ∷ 250 ∷ 9 ∷ [])

pub small-sizes : (is_patch small 2 ≡ false) × (is_patch small 3 ≡ true) × (is_patch small 4 ≡ false)
unfolding is_patch records_from records_at result_size record_at can_move moved two_at four_at eight_at
small-sizes = (refl, refl, refl)

pub small_result : patched_by small (10 ∷ 20 ∷ []) ≡ 11 ∷ 14 ∷ 9 ∷ []
unfolding patched_by records_from records_at result_of record_result added source_at record_at can_move moved two_at four_at eight_at
small_result = refl

-- the add length moves the position, and the extra length does not
abbrev two_records : List ℕ
two_records = triple (plus 1) (plus 2) (plus 0) ++ (1 ∷ 8 ∷ 9 ∷ (triple (plus 1) (plus 0) (plus 0) ++ (1 ∷ [])))

pub position_moved : patched_by two_records (10 ∷ 20 ∷ 30 ∷ []) ≡ 11 ∷ 8 ∷ 9 ∷ 21 ∷ []
unfolding patched_by records_from records_at result_of record_result added source_at record_at can_move moved two_at four_at eight_at
position_moved = refl

-- from the position before the source to the one past it
pub around : patched_by (triple (plus 0) (plus 0) (minus 1) ++ (triple (plus 3) (plus 0) (plus 0) ++ (5 ∷ 6 ∷ 7 ∷ []))) (10 ∷ []) ≡ 5 ∷ 16 ∷ 7 ∷ []
unfolding patched_by records_from records_at result_of record_result added source_at record_at can_move moved two_at four_at eight_at
around = refl
