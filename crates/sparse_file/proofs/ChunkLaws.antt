-- Laws of `specs/Chunk.antt`: `chunk_at` by its cases, and what a chunk that was read keeps to.
-- Assumes nothing.
use mathlib.Core.Path.{◌≡◌, refl, ap, subst}
use mathlib.Core.Bool.{Bool, true, false}
use mathlib.Core.List.{List}
use Prim.Native.Nat.{ℕ, ◌+◌, ◌-◌, ◌*◌, ◌≤◌, ◌<◌}
use native.Mathlib.Omega.{arith}
use lib.ListN.{length}
use lib.Dec.{leb, ltb, eqb}
use borrow.Author.Tests.{lt-ltb, le-leb, lt-leb, eq-eqb, ne_eqb, ltb-false, leb-true, eqb-true}
use Rattle.text.specs.Choice.{both}
use Rattle.text.proofs.ChoiceLaws.{both_true, no_false}
use Rattle.text.proofs.RowsLaws.{none-applies}
use Rattle.state.specs.Limits.{block_bytes}
use Rattle.state.specs.Refusals.{none, number_of}
use Rattle.state.specs.declared.refusals.Reason.{Reason}
use Rattle.state.specs.declared.refusals.Reason.TheVariants.{SparseChunk, SparsePastImage, SparseChecksum}
use Rattle.std.specs.Prelude.{Result, Ok, Err}
use Rattle.sparse_file.specs.Header.{chunk_header_bytes}
use Rattle.sparse_file.specs.Chunk.{type_at, blocks_at, bytes_at, checksum_type, fill_bytes, is_known, kind_of, body_bytes, is_formed, is_past, chunk_rows, chunk_from, chunk_at}
use Rattle.sparse_file.specs.declared.chunk.Kind.{Kind}
use Rattle.sparse_file.specs.declared.chunk.Kind.TheVariants.{Raw, Fill, DontCare}
use Rattle.sparse_file.specs.declared.chunk.Chunk.{Chunk}

-- ---- by cases, in the order of the rows

module _ (file : List ℕ) (at first total : ℕ) where
  pub no_header : length file - at < chunk_header_bytes → Err SparseChunk ≡ chunk_at file at first total
  unfolding chunk_at
  no_header h = rw (lt-leb chunk_header_bytes (length file - at) h)

  module _ (h : chunk_header_bytes ≤ length file - at) where
    pub checksum : type_at file at ≡ checksum_type → Err SparseChecksum ≡ chunk_at file at first total
    unfolding chunk_at
    checksum t = rw (le-leb chunk_header_bytes (length file - at) h, eq-eqb (type_at file at) checksum_type t)

    module _ (t : type_at file at ≡ checksum_type → ⊥) where
      abbrev formed : Bool
      formed = is_formed (length file - at) (type_at file at) (blocks_at file at) (bytes_at file at)

      pub malformed : formed ≡ false → Err SparseChunk ≡ chunk_at file at first total
      unfolding chunk_at
      malformed f = rw (le-leb chunk_header_bytes (length file - at) h, ne_eqb (type_at file at) checksum_type t, f)

      module _ (f : formed ≡ true) where
        pub past_image_lem : is_past first (blocks_at file at) total ≡ true → Err SparsePastImage ≡ chunk_at file at first total
        unfolding chunk_at
        past_image_lem p = rw (le-leb chunk_header_bytes (length file - at) h, ne_eqb (type_at file at) checksum_type t, f, p)

        pub good : is_past first (blocks_at file at) total ≡ false → Ok (chunk_from file at first) ≡ chunk_at file at first total
        unfolding chunk_at
        good p = rw (le-leb chunk_header_bytes (length file - at) h, ne_eqb (type_at file at) checksum_type t, f, p)

-- ---- its form, by cases

module _ (room type blocks bytes : ℕ) where
  pub cut_short : room < bytes → false ≡ is_formed room type blocks bytes
  unfolding is_formed
  cut_short h = rw (lt-leb bytes room h)

  module _ (h : bytes ≤ room) where
    pub unknown : is_known type ≡ false → false ≡ is_formed room type blocks bytes
    unfolding is_formed
    unknown k = rw (le-leb bytes room h, k)

    module _ (k : is_known type ≡ true) where
      pub no_blocks : blocks ≡ 0 → false ≡ is_formed room type blocks bytes
      unfolding is_formed
      no_blocks z = rw (le-leb bytes room h, k, z)

      pub by_total : 0 < blocks → eqb bytes (chunk_header_bytes + body_bytes (kind_of type) blocks) ≡ is_formed room type blocks bytes
      unfolding is_formed
      by_total z = rw (le-leb bytes room h, k, lt-ltb 0 blocks z)

  formed-total : is_formed room type blocks bytes ≡ true →
      (bytes ≤ room) × (bytes ≡ chunk_header_bytes + body_bytes (kind_of type) blocks)
  unfolding is_formed
  formed-total e =
      let total = eqb bytes (chunk_header_bytes + body_bytes (kind_of type) blocks) in
      let a = both_true (leb bytes room) (both (is_known type) (both (ltb 0 blocks) total)) e in
      let b = both_true (is_known type) (both (ltb 0 blocks) total) a.1 in
      let c = both_true (ltb 0 blocks) total b.1 in
      (leb-true bytes room a.0, eqb-true bytes (chunk_header_bytes + body_bytes (kind_of type) blocks) c.1)

-- ---- a chunk that was read

pub body_bytes_most : (kind : Kind) (blocks : ℕ) → body_bytes kind blocks ≤ fill_bytes + block_bytes * blocks
unfolding body_bytes
body_bytes_most Raw blocks = omega arith
body_bytes_most Fill blocks = omega arith
body_bytes_most DontCare blocks = omega arith

-- its body lies in the file, and its blocks in the image
pub record Within (file : List ℕ) (before total : ℕ) (c : Chunk) : Type 0 where
  pub next : c.body + body_bytes c.kind c.blocks ≡ c.next
  pub inside : c.next ≤ length file
  pub first : c.first ≡ before
  pub blocks : before + c.blocks ≤ total

-- 0 where a chunk was read, else the refusal's number
abbrev pub read_number : Result Chunk Reason → ℕ
read_number (Ok c) = none
read_number (Err reason) = number_of reason

pub chunk_within : (file : List ℕ) (at first total : ℕ) (c : Chunk) → chunk_at file at first total ≡ Ok c → Within file first total c
unfolding chunk_at
chunk_within file at first total c e =
    let rows = chunk_rows file at first total in
    let none = none-applies read_number rows (Ok (chunk_from file at first)) refl (ap read_number e) in
    let header : chunk_header_bytes ≤ length file - at = leb-true _ _ (no_false _ (none 1)) in
    let formed = formed-total (length file - at) (type_at file at) (blocks_at file at) (bytes_at file at) (no_false _ (none 2)) in
    let image : first + blocks_at file at ≤ total = ltb-false _ _ (none 3) in
    let read : ◌≡◌ {A = Result Chunk Reason} (Ok (chunk_from file at first)) (Ok c) = rw (none 0, none 1, none 2, none 3) at e in
    let same : chunk_from file at first ≡ c = cc in
    subst (Within file first total) same (record { next = omega arith; inside = omega arith; first = refl; blocks = image })
