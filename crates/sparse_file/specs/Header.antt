-- Document 02, R-2: the header of a sparse file. It has 28 bytes, little-endian: mark, major, minor (ignored), header size, chunk header
-- size, block size, total blocks, total chunks, checksum (ignored). Document 02 calls a chunk a piece.
-- Assumes nothing: these are definitions.
use Rattle.std.specs.Prelude.{ℕ, ◌*◌, List, [], ◌∷◌, length, ltb, eqb}
use Rattle.text.specs.Choice.{no}
use Rattle.text.specs.Rows.{Row, ◌⇒◌, first_of}
use Rattle.state.specs.Limits.{block_bytes, most_image_blocks}
use Rattle.state.specs.Refusals.{none, sparse_header, sparse_sizes, sparse_image}
use Rattle.little_endian.specs.LittleEndian.{two_at, four_at}

abbrev pub header_bytes : ℕ
header_bytes = 28

abbrev pub chunk_header_bytes : ℕ
chunk_header_bytes = 12

-- 0xED26FF3A
abbrev pub sparse_mark : ℕ
sparse_mark = 3978755898

abbrev pub sparse_major : ℕ
sparse_major = 1

-- ---- its fields, each at its offset

abbrev pub mark : List ℕ → ℕ
mark file = four_at file 0

abbrev pub major : List ℕ → ℕ
major file = two_at file 4

abbrev pub header_size : List ℕ → ℕ
header_size file = two_at file 8

abbrev pub chunk_header_size : List ℕ → ℕ
chunk_header_size file = two_at file 10

abbrev pub block_size : List ℕ → ℕ
block_size file = four_at file 12

abbrev pub total_blocks : List ℕ → ℕ
total_blocks file = four_at file 16

abbrev pub total_chunks : List ℕ → ℕ
total_chunks file = four_at file 20

-- ---- what it is refused for

-- 30 short header, wrong mark or major; 31 other header sizes, or block size not 4,096
abbrev pub header_rows : List ℕ → List (Row ℕ)
header_rows file =
    ltb (length file) header_bytes ⇒ sparse_header
    ∷ no (eqb (mark file) sparse_mark) ⇒ sparse_header
    ∷ no (eqb (major file) sparse_major) ⇒ sparse_header
    ∷ no (eqb (header_size file) header_bytes) ⇒ sparse_sizes
    ∷ no (eqb (chunk_header_size file) chunk_header_bytes) ⇒ sparse_sizes
    ∷ no (eqb (block_size file) block_bytes) ⇒ sparse_sizes
    ∷ []

unfoldable pub header_refusal : List ℕ → ℕ
header_refusal file = first_of (header_rows file) none

-- 32 image not total blocks or over document 01's size; the image is known by its bytes
abbrev pub image_rows : ℕ → ℕ → List (Row ℕ)
image_rows total bytes =
    no (eqb bytes (block_bytes * total)) ⇒ sparse_image
    ∷ ltb most_image_blocks total ⇒ sparse_image
    ∷ []

unfoldable pub image_refusal : ℕ → ℕ → ℕ
image_refusal total bytes = first_of (image_rows total bytes) none
