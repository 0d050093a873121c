-- Laws of `specs/Loading.antt`.
-- Assumes nothing.
use mathlib.Core.Path.{◌≡◌, refl, ap, ◌∙◌}
use mathlib.Core.List.{List, [], ◌++◌}
use Prim.Native.Nat.{ℕ, zero, suc, ◌+◌, ◌-◌, ◌*◌, ◌/◌, ◌%◌, ◌≤◌, ◌<◌}
use native.Mathlib.Omega.{arith}
use lib.ListN.{length, get_or, set, take, drop, length-append, length-take, length-drop, get_or-append}
use lib.Seq.{get_or-append-add}
use borrow.Author.Tests.{eq-eqb, ne_eqb, eqb-true}
use Rattle.copy.specs.Over.{front}
use Rattle.copy.proofs.OverLaws.{front_more, part_back}
use Rattle.state.specs.Limits.{block_bytes}
use Rattle.state.specs.Refusals.{none}
use Rattle.text.proofs.ChoiceLaws.{no_false}
use Rattle.text.proofs.RowsLaws.{none-applies}
use Rattle.sparse_file.specs.Header.{total_blocks, header_refusal, image_rows, image_refusal}
use Rattle.sparse_file.specs.Chunk.{fill_bytes, body_bytes}
use Rattle.sparse_file.specs.Chunks.{Chunks, follow, chunks_of}
use Rattle.sparse.specs.Loading.{or_else, load_refusal, repeated, body_of, body_over, chunk_over, chunks_over, loaded_image}
use Rattle.sparse_file.specs.declared.chunk.Kind.TheVariants.{Raw, Fill, DontCare}
use Rattle.sparse_file.specs.declared.chunk.Chunk.{Chunk}

-- ---- a fill's bytes, again and again

module _ (bytes : List ℕ) (four : length bytes ≡ fill_bytes) where
  pub length-repeated : (n : ℕ) → length (repeated n bytes) ≡ fill_bytes * n
  unfolding repeated
  length-repeated zero = omega arith
  length-repeated (suc n) = let l = length-repeated n in simp length-append (omega arith)

  -- byte j of turn k
  pub repeated-at : (n k j : ℕ) → k < n → j < fill_bytes → get_or (repeated n bytes) (fill_bytes * k + j) 0 ≡ get_or bytes j 0
  unfolding repeated
  repeated-at zero k j h l = absurd (omega arith)
  repeated-at (suc n) zero j h l = let e : fill_bytes * 0 + j ≡ j = omega arith in rw e (get_or-append bytes (repeated n bytes) 0 j (omega arith))
  repeated-at (suc n) (suc k) j h l =
      let e : fill_bytes * suc k + j ≡ length bytes + (fill_bytes * k + j) = omega arith in
      rw e (get_or-append-add bytes (repeated n bytes) (fill_bytes * k + j) 0 ∙ repeated-at n k j (omega arith) l)

-- an area with its first k bytes filled
abbrev pub filled : List ℕ → List ℕ → ℕ → List ℕ
filled area bytes k = take k (repeated (length area / fill_bytes) bytes) ++ drop k area

-- four stores fill four bytes more
module _ (area bytes : List ℕ) (four : length bytes ≡ fill_bytes) (whole : length area % fill_bytes ≡ 0) where
  fill_one : (i j k m : ℕ) → i % fill_bytes ≡ 0 → i < length area → j < fill_bytes → k ≡ i + j → m ≡ k + 1 →
      set (filled area bytes k) k (get_or bytes j 0) ≡ filled area bytes m
  fill_one i j k m t h l e f =
      let n = length-repeated bytes four (length area / fill_bytes) in
      let g : fill_bytes * (i / fill_bytes) + j ≡ k = omega arith in
      let v = rw g at (repeated-at bytes four (length area / fill_bytes) (i / fill_bytes) j (omega arith) l) in
      rw f (rw v at (front_more (repeated (length area / fill_bytes) bytes) area k (omega arith) (omega arith)))

  fill_more : (i : ℕ) → i % fill_bytes ≡ 0 → i < length area →
      set (set (set (set (filled area bytes i) i (get_or bytes 0 0)) (i + 1) (get_or bytes 1 0)) (i + 2) (get_or bytes 2 0)) (i + 3) (get_or bytes 3 0)
      ≡ filled area bytes (i + 4)
  fill_more i t h =
      ap (λ (x : List ℕ). set (set (set x (i + 1) (get_or bytes 1 0)) (i + 2) (get_or bytes 2 0)) (i + 3) (get_or bytes 3 0))
      (fill_one i 0 i (i + 1) t h (omega arith) (omega arith) (omega arith))
      ∙ ap (λ (x : List ℕ). set (set x (i + 2) (get_or bytes 2 0)) (i + 3) (get_or bytes 3 0))
      (fill_one i 1 (i + 1) (i + 2) t h (omega arith) (omega arith) (omega arith))
      ∙ ap (λ (x : List ℕ). set x (i + 3) (get_or bytes 3 0)) (fill_one i 2 (i + 2) (i + 3) t h (omega arith) (omega arith) (omega arith))
      ∙ fill_one i 3 (i + 3) (i + 4) t h (omega arith) (omega arith) (omega arith)

  pub fill_next : (k m : ℕ) {x y : List ℕ} → k % fill_bytes ≡ 0 → k < length area → m ≡ k + 4 → x ≡ filled area bytes k →
      y ≡ set (set (set (set x k (get_or bytes 0 0)) (k + 1) (get_or bytes 1 0)) (k + 2) (get_or bytes 2 0)) (k + 3) (get_or bytes 3 0) →
      y ≡ filled area bytes m
  fill_next k m t h n e f = rw n (f ∙ rw e (fill_more k t h))

-- ---- a chunk over the image, by its kind

-- where the blocks of a chunk lie in the image
module _ (file : List ℕ) (c : Chunk) (next : c.body + body_bytes c.kind c.blocks ≡ c.next) (inside : c.next ≤ length file)
    (image : List ℕ) (within : block_bytes * (c.first + c.blocks) ≤ length image) where
  abbrev at : ℕ
  at = block_bytes * c.first

  -- the code's own way to say how many bytes they are
  abbrev size : ℕ
  size = at + block_bytes * c.blocks - at

  module _ (raw : c.kind ≡ Raw) where
    -- a raw body over the lent part: the image when the part is back
    pub raw_back : (part : List ℕ) → part ≡ front (take size (drop at image)) (take (c.next - c.body) (drop c.body file)) →
        take at image ++ (part ++ drop size (drop at image)) ≡ chunk_over file c image
    unfolding chunk_over body_over body_of body_bytes
    raw_back part e =
        let n : c.next - c.body ≡ block_bytes * c.blocks = omega (arith, rw raw at next) in
        let l : length (take (c.next - c.body) (drop c.body file)) ≤ length (take size (drop at image)) =
        simp (length-take, length-drop) (omega arith) in
        part_back image (take (c.next - c.body) (drop c.body file)) part at size l e ∙ rw (raw, n)

  module _ (fill : c.kind ≡ Fill) where
    pub fill_sizes : (length (take size (drop at image)) % (4 * fill_bytes) ≡ 0) × (length (take (c.next - c.body) (drop c.body file)) ≡ fill_bytes)
    unfolding body_bytes
    fill_sizes = let n = rw fill at next in (simp (length-take, length-drop) (omega arith), simp (length-take, length-drop) (omega arith))

    -- a fill over the lent part: the image when the part is back
    pub fill_back : (part : List ℕ) →
        part ≡ repeated (length (take size (drop at image)) / fill_bytes) (take (c.next - c.body) (drop c.body file)) →
        take at image ++ (part ++ drop size (drop at image)) ≡ chunk_over file c image
    unfolding chunk_over body_over body_of body_bytes
    fill_back part e =
        let n : c.next - c.body ≡ fill_bytes = omega (arith, rw fill at next) in
        let m : size ≡ block_bytes * c.blocks = omega arith in
        let l : length (take size (drop at image)) ≡ block_bytes * c.blocks = simp (length-take, length-drop) (omega arith) in
        let four : length (take fill_bytes (drop c.body file)) ≡ fill_bytes = simp (length-take, length-drop) (omega arith) in
        let f : part ≡ repeated (block_bytes * c.blocks / fill_bytes) (take fill_bytes (drop c.body file)) = e ∙ rw (l, n) in
        let g : length (repeated (block_bytes * c.blocks / fill_bytes) (take fill_bytes (drop c.body file))) ≡ block_bytes * c.blocks =
        length-repeated (take fill_bytes (drop c.body file)) four (block_bytes * c.blocks / fill_bytes) ∙ omega arith in
        rw (fill, f, m, g)

  pub kept : c.kind ≡ DontCare → image ≡ chunk_over file c image
  unfolding chunk_over body_over
  kept e = rw e

-- ---- chunks over the image, one after the other

pub over-next : (file : List ℕ) (c : Chunk) (image : List ℕ) {v w : Chunks} {after : List ℕ} → v ≡ follow c w → after ≡ chunk_over file c image →
    chunks_over file w.list after ≡ chunks_over file v.list image
unfolding chunks_over
over-next file c image e f = rw (e, f)

pub over_none : (file : List ℕ) {chunks : List Chunk} (image : List ℕ) → chunks ≡ [] → image ≡ chunks_over file chunks image
unfolding chunks_over
over_none file image e = rw e

-- ---- a load that is not refused, and one that is

or_else_none : (first second : ℕ) → or_else first second ≡ none → (first ≡ none) × (second ≡ none)
or_else_none zero second e = (refl, e)
or_else_none (suc n) second e = absurd (let z = rw (ne_eqb (suc n) none (omega arith)) at e in omega arith)

-- the image has the header's blocks
pub load_size : (file : List ℕ) (bytes : ℕ) → load_refusal file bytes ≡ none → bytes ≡ block_bytes * total_blocks file
unfolding load_refusal image_refusal
load_size file bytes e =
    let size = (or_else_none _ _ (or_else_none (header_refusal file) _ e).1).0 in
    eqb-true _ _ (no_false _ (none-applies (λ (n : ℕ). n) (image_rows (total_blocks file) bytes) none refl size 0))

module _ (file image : List ℕ) where
  pub image_loaded : load_refusal file (length image) ≡ none → chunks_over file (chunks_of file).list image ≡ loaded_image file image
  unfolding loaded_image
  image_loaded e = rw (eq-eqb (load_refusal file (length image)) none e)

  pub image_kept : (load_refusal file (length image) ≡ none → ⊥) → image ≡ loaded_image file image
  unfolding loaded_image
  image_kept n = rw (ne_eqb (load_refusal file (length image)) none n)
