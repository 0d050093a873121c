-- Laws of the rounds. Assumes nothing.
use Rattle.std.proofs.Common.{◌≡◌, ℕ, zero, suc, ◌+◌, List, get_or, refl, sym, ap, ◌∙◌, add-zero, add-one, add-suc, zero-add}
use Rattle.sha1_digest.specs.declared.HashValue.{HashValue}
use Rattle.sha1_digest.specs.Sha1 as S

-- the rounds from 0 on are the first of them, and then the others
pub rounds-join : (W : List ℕ) (n k : ℕ) (v : HashValue) → S.rounds W 0 (n + k) v ≡ S.rounds W n k (S.rounds W 0 n v)
unfolding S.rounds
rounds-join W n zero v = ap (λ (j : ℕ). S.rounds W 0 j v) (add-zero n)
rounds-join W n (suc k) v =
    ap (λ (j : ℕ). S.rounds W 0 j v) (add-suc n k)
    ∙ ap (λ (j : ℕ). S.round W j (S.rounds W 0 (n + k) v)) (zero-add (n + k))
    ∙ ap (S.round W (n + k)) (rounds-join W n k v)

-- the four groups of rounds are all the rounds
pub rounds_all : (W : List ℕ) (v : HashValue)
    → S.rounds W 60 20 (S.rounds W 40 20 (S.rounds W 20 20 (S.rounds W 0 20 v))) ≡ S.rounds W 0 80 v
rounds_all W v =
    ap (λ (u : HashValue). S.rounds W 60 20 (S.rounds W 40 20 u)) (sym (rounds-join W 20 20 v))
    ∙ ap (S.rounds W 60 20) (sym (rounds-join W 40 20 v))
    ∙ sym (rounds-join W 60 20 v)

-- one round more of the n from s on
pub rounds_more : (W : List ℕ) (s n f k w : ℕ) (h u : HashValue) → u ≡ S.rounds W s n h
    → f ≡ S.f (s + n) u.b u.c u.d → k ≡ S.K (s + n) → w ≡ get_or W (s + n) 0 → S.round_with f k w u ≡ S.rounds W s (n + 1) h
unfolding S.rounds S.round
rounds_more W s n f k w h u e ef ek ew = rw (add-one, ef, ek, ew, e) refl
