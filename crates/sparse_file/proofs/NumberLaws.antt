-- What a header, an image and the chunks are refused for is one of 30 to 36, and 0 is none.
-- Assumes nothing.
use mathlib.Core.Path.{◌≡◌, refl, subst}
use mathlib.Core.Bool.{Bool, true}
use mathlib.Core.List.{List, [], ◌∷◌}
use mathlib.Core.Logic.{◌⊎◌, inl, inr}
use Prim.Native.Nat.{ℕ, zero, suc, ◌+◌, ◌≤◌}
use lib.Dec.{leb}
use borrow.Author.Tests.{leb-true}
use Rattle.text.specs.Choice.{both}
use Rattle.text.specs.Rows.{Row, first_of}
use Rattle.text.proofs.ChoiceLaws.{picks, both_true}
use Rattle.std.specs.Prelude.{Result, Ok, Err}
use Rattle.text.specs.Read.{on_result}
use Rattle.state.specs.Refusals.{none, sparse_header, sparse_end, number_of}
use Rattle.state.specs.declared.refusals.Reason.{Reason}
use Rattle.sparse_file.specs.Chunk.{chunk_rows, chunk_from, chunk_at}
use Rattle.sparse_file.specs.Chunks.{stopped, follow, end_rows, chunks_at}
use Rattle.sparse_file.specs.declared.chunk.Chunk.{Chunk}
use Rattle.sparse_file.proofs.ChunkLaws.{read_number}

-- 0, or one of 30 to 36
abbrev pub Numbered : ℕ → Type 0
Numbered n = (n ≡ none) ⊎ ((sparse_header ≤ n) × (n ≤ sparse_end))

module _ {A : Type 0} (number : A → ℕ) where
  abbrev pub in_range : List (Row A) → Bool
  in_range [] = true
  in_range (r ∷ rows) = both (both (leb sparse_header (number r.gives)) (leb (number r.gives) sparse_end)) (in_range rows)

  pub numbered_first : (rows : List (Row A)) (other : A) → in_range rows ≡ true → Numbered (number other) → Numbered (number (first_of rows other))
  numbered_first [] other e n = n
  numbered_first (r ∷ rows) other e n =
      let b = both_true _ _ e in
      let k = both_true _ _ b.0 in
      picks (λ (x : A). Numbered (number x)) r.when r.gives (first_of rows other)
      (λ t. inr (leb-true _ _ k.0, leb-true _ _ k.1))
      (λ f. numbered_first rows other b.1 n)

pub first-numbered : (rows : List (Row ℕ)) → in_range (λ n. n) rows ≡ true → Numbered (first_of rows none)
first-numbered rows e = numbered_first (λ n. n) rows none e (inl refl)

pub chunks_numbered : (n : ℕ) (file : List ℕ) (at first total : ℕ) → Numbered (chunks_at n file at first total).refusal
unfolding chunks_at chunk_at
chunks_numbered zero file at first total = first-numbered (end_rows file at first total) refl
chunks_numbered (suc n) file at first total =
    go (chunk_at file at first total) refl (λ c. chunks_numbered n file c.next (first + c.blocks) total)
  where
    go : (r : Result Chunk Reason) → chunk_at file at first total ≡ r →
        ((c : Chunk) → Numbered (chunks_at n file c.next (first + c.blocks) total).refusal) →
        Numbered (on_result r (λ c. follow c (chunks_at n file c.next (first + c.blocks) total)) (λ q. stopped (number_of q))).refusal
    go (Ok c) e rest = rest c
    go (Err reason) e rest =
        let n = numbered_first read_number (chunk_rows file at first total) (Ok (chunk_from file at first)) refl (inl refl) in
        subst (λ (r : Result Chunk Reason). Numbered (read_number r)) e n
