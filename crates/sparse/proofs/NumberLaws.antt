-- What a load answers is 0, or one of 30 to 36.
-- Assumes nothing.
use mathlib.Core.Path.{refl}
use mathlib.Core.List.{List}
use mathlib.Core.Logic.{⊎_elim}
use Prim.Native.Nat.{ℕ, ◌≤◌}
use native.Mathlib.Omega.{arith}
use lib.Dec.{eqb}
use Rattle.text.proofs.ChoiceLaws.{picks}
use Rattle.state.specs.Refusals.{none, sparse_end}
use Rattle.sparse_file.specs.Header.{header_rows, header_refusal, image_rows, image_refusal, total_blocks}
use Rattle.sparse_file.specs.Chunks.{chunks_of}
use Rattle.sparse_file.proofs.NumberLaws.{Numbered, first-numbered, chunks_numbered}
use Rattle.sparse.specs.Loading.{load_refusal}

pub load_numbered : (file : List ℕ) (bytes : ℕ) → Numbered (load_refusal file bytes)
unfolding load_refusal header_refusal image_refusal chunks_of
load_numbered file bytes =
    picks Numbered (eqb (header_refusal file) none) _ _
    (λ t. picks Numbered (eqb (image_refusal (total_blocks file) bytes) none) _ _ (λ u. chunks_numbered _ file _ 0 _) (λ u. first-numbered (image_rows (total_blocks file) bytes) refl))
    (λ t. first-numbered (header_rows file) refl)

pub load_most : (file : List ℕ) (bytes : ℕ) → load_refusal file bytes ≤ sparse_end
load_most file bytes = ⊎_elim (λ z. omega arith) (λ h. h.1) (load_numbered file bytes)
