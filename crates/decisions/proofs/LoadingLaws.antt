-- Laws of `specs/Loading.antt`.
-- Assumes nothing.
use Rattle.std.proofs.Common.{ℕ, ◌*◌, ◌≤◌, List, arith, length, ltb, ltb-false, Some, None}
use Rattle.text.proofs.ChoiceLaws.{picks}
use Rattle.state.specs.Limits.{block_bytes}
use Rattle.sparse_file.specs.Header.{total_blocks}
use Rattle.decisions.specs.Program.{most_blocks}
use Rattle.decisions.specs.Loading.{most_sparse, too_large, image_bytes}

-- an image of that length lies in a buffer for one that is too large
pub image_found_most : (file : List ℕ) (image : ℕ) → image ≤ too_large → image_bytes file (Some image) ≤ too_large
unfolding image_bytes
image_found_most file image h =
    picks (λ (n : ℕ). n ≤ too_large) (ltb most_sparse (length file)) too_large _ (λ t. omega arith) (λ t. h)

pub image_new_most : (file : List ℕ) → image_bytes file None ≤ too_large
unfolding image_bytes
image_new_most file =
    picks (λ (n : ℕ). n ≤ too_large) (ltb most_sparse (length file)) too_large _ (λ t. omega arith)
    (λ t. picks (λ (n : ℕ). n ≤ too_large) (ltb most_blocks (total_blocks file)) too_large (block_bytes * total_blocks file) (λ b. omega arith)
    (λ b. omega (arith, ltb-false most_blocks (total_blocks file) b)))
