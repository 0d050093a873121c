-- Document 02, R-2: one chunk of a sparse file, which that paper calls a piece: type, two reserved bytes (ignored), blocks, total bytes
-- with its header; then its body. Raw carries its blocks, fill four bytes, don't-care nothing.
-- Assumes nothing: these are definitions.
use Rattle.std.specs.Prelude.{ℕ, ◌+◌, ◌-◌, ◌*◌, Bool, List, [], ◌∷◌, length, leb, ltb, eqb, Result, Ok, Err}
use Rattle.text.specs.Choice.{pick, both, either, no}
use Rattle.text.specs.Rows.{Row, ◌⇒◌, first_of}
use Rattle.state.specs.Limits.{block_bytes}
use Rattle.state.specs.declared.refusals.Reason.{Reason}
use Rattle.state.specs.declared.refusals.Reason.TheVariants as reason
use Rattle.little_endian.specs.LittleEndian.{two_at, four_at}
use Rattle.sparse_file.specs.Header.{chunk_header_bytes}
use Rattle.sparse_file.specs.declared.chunk.Kind.{Kind}
use Rattle.sparse_file.specs.declared.chunk.Kind.TheVariants.{Raw, Fill, DontCare}
use Rattle.sparse_file.specs.declared.chunk.Chunk.{Chunk}

-- ---- the fields of the chunk at a position of the file

abbrev pub type_at : List ℕ → ℕ → ℕ
type_at file at = two_at file at

abbrev pub blocks_at : List ℕ → ℕ → ℕ
blocks_at file at = four_at file (at + 4)

-- header and body together
abbrev pub bytes_at : List ℕ → ℕ → ℕ
bytes_at file at = four_at file (at + 8)

-- ---- its type

-- 0xCAC1
abbrev pub raw_type : ℕ
raw_type = 51905

-- 0xCAC2
abbrev pub fill_type : ℕ
fill_type = 51906

-- 0xCAC3
abbrev pub dont_care_type : ℕ
dont_care_type = 51907

-- 0xCAC4
abbrev pub checksum_type : ℕ
checksum_type = 51908

unfoldable pub is_known : ℕ → Bool
is_known type = either (eqb type raw_type) (either (eqb type fill_type) (eqb type dont_care_type))

-- the kind of a known type
unfoldable pub kind_of : ℕ → Kind
kind_of type = pick (eqb type raw_type) Raw (pick (eqb type fill_type) Fill DontCare)

-- bytes that a fill repeats
abbrev pub fill_bytes : ℕ
fill_bytes = 4

-- bytes of a body
unfoldable pub body_bytes : Kind → ℕ → ℕ
body_bytes Raw blocks = block_bytes * blocks
body_bytes Fill blocks = fill_bytes
body_bytes DontCare blocks = 0

-- ---- the chunk at a position, with the blocks of all chunks before it and the blocks of the image

-- all its header bytes are there
abbrev pub has_header : List ℕ → ℕ → Bool
has_header file at = leb chunk_header_bytes (length file - at)

-- of a chunk with its header and so many bytes of the file from its start on: body there, type known, blocks, and the right byte total
unfoldable pub is_formed : ℕ → ℕ → ℕ → ℕ → Bool
is_formed room type blocks bytes =
    both (leb bytes room)
    (both (is_known type)
    (both (ltb 0 blocks)
    (eqb bytes (chunk_header_bytes + body_bytes (kind_of type) blocks))))

-- its blocks end past the image
abbrev pub is_past : ℕ → ℕ → ℕ → Bool
is_past first blocks total = ltb total (first + blocks)

-- 35 for a 0xCAC4 chunk with all its header bytes, always; else the lowest: 33 header or body cut short, unknown type, zero blocks or
-- wrong byte total; 34 past the image
abbrev pub chunk_rows : List ℕ → ℕ → ℕ → ℕ → List (Row (Result Chunk Reason))
chunk_rows file at first total =
    both (has_header file at) (eqb (type_at file at) checksum_type) ⇒ Err reason.SparseChecksum
    ∷ no (has_header file at) ⇒ Err reason.SparseChunk
    ∷ no (is_formed (length file - at) (type_at file at) (blocks_at file at) (bytes_at file at)) ⇒ Err reason.SparseChunk
    ∷ is_past first (blocks_at file at) total ⇒ Err reason.SparsePastImage
    ∷ []

-- what it is, which of the image's blocks it has, where its body lies in the file and where the next chunk does
abbrev pub chunk_from : List ℕ → ℕ → ℕ → Chunk
chunk_from file at first =
    record {
      kind = kind_of (type_at file at);
      first = first;
      blocks = blocks_at file at;
      body = at + chunk_header_bytes;
      next = at + bytes_at file at;
    }

unfoldable pub chunk_at : List ℕ → ℕ → ℕ → ℕ → Result Chunk Reason
chunk_at file at first total = first_of (chunk_rows file at first total) (Ok (chunk_from file at first))
