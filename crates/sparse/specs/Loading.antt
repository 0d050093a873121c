-- Document 02, R-2: a sparse file over an image. A refusal changes nothing; don't-care blocks keep the image's bytes.
-- Assumes nothing: these are definitions.
use Rattle.std.specs.Prelude.{ℕ, zero, suc, ◌*◌, ◌/◌, List, [], ◌∷◌, ◌++◌, length, take, drop, eqb}
use Rattle.text.specs.Choice.{pick}
use Rattle.copy.specs.Over.{over}
use Rattle.state.specs.Limits.{block_bytes}
use Rattle.state.specs.Refusals.{none}
use Rattle.sparse_file.specs.Header.{header_refusal, image_refusal, total_blocks}
use Rattle.sparse_file.specs.Chunk.{fill_bytes, body_bytes}
use Rattle.sparse_file.specs.Chunks.{chunks_of}
use Rattle.sparse_file.specs.declared.chunk.Kind.{Kind}
use Rattle.sparse_file.specs.declared.chunk.Kind.TheVariants.{Raw, Fill, DontCare}
use Rattle.sparse_file.specs.declared.chunk.Chunk.{Chunk}

-- the first number, or the second where the first is none
abbrev pub or_else : ℕ → ℕ → ℕ
or_else first second = pick (eqb first none) second first

-- 30 and 31 of the header, then 32, then the chunks' 33 to 36
unfoldable pub load_refusal : List ℕ → ℕ → ℕ
load_refusal file bytes =
    or_else (header_refusal file) (or_else (image_refusal (total_blocks file) bytes) (chunks_of file).refusal)

-- bytes n times
unfoldable pub repeated : ℕ → List ℕ → List ℕ
repeated zero bytes = []
repeated (suc n) bytes = bytes ++ repeated n bytes

unfoldable pub body_of : List ℕ → Chunk → List ℕ
body_of file c = take (body_bytes c.kind c.blocks) (drop c.body file)

-- a body over an image from a byte on: a raw one as it is, a fill's as often as the blocks have room for it
unfoldable pub body_over : Kind → List ℕ → ℕ → List ℕ → ℕ → List ℕ
body_over Raw body blocks image at = over image at body
body_over Fill body blocks image at = over image at (repeated (block_bytes * blocks / fill_bytes) body)
body_over DontCare body blocks image at = image

-- a chunk over the image
unfoldable pub chunk_over : List ℕ → Chunk → List ℕ → List ℕ
chunk_over file c image = body_over c.kind (body_of file c) c.blocks image (block_bytes * c.first)

-- chunks over the image, one after the other
unfoldable pub chunks_over : List ℕ → List Chunk → List ℕ → List ℕ
chunks_over file [] image = image
chunks_over file (c ∷ cs) image = chunks_over file cs (chunk_over file c image)

-- the image after a load, refused or not
unfoldable pub loaded_image : List ℕ → List ℕ → List ℕ
loaded_image file image = pick (eqb (load_refusal file (length image)) none) (chunks_over file (chunks_of file).list image) image
