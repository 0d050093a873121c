-- What other crates may know of the digest and of a message taken in pieces. Assumes nothing.
use Rattle.std.proofs.Common.{◌≡◌, ℕ, zero, suc, ◌+◌, ◌*◌, ◌/◌, ◌%◌, ◌^◌, ◌<◌, List, [], ◌∷◌, ◌++◌, length, get_or, take, sym, refl, ap, ◌∙◌, append_assoc, append-nil, arith, length-append, length-take-le}
use mathlib.Core.List.{foldl}
use native.Mathlib.Nat.{mod-add-mod, mod-mod}
use Rattle.sha1_digest.specs.declared.HashValue.{HashValue}
use Rattle.sha1_digest.specs.declared.Hasher.{Hasher}
use Rattle.sha1_digest.specs.Sha1.{bytes, initial, hash, output, padded, sha1, sha1-is}
use Rattle.sha1_digest.specs.Sha1.Padding.{length-bytes}
use Rattle.sha1_digest.specs.Pieces.{started, absorbed, finished, Whole, Wholes, joined, started-is, absorbed-is, finished-is}
use Rattle.sha1_digest.proofs.WordLaws.{bytes_below}
use Rattle.sha1_digest.proofs.BlockLaws.{hash-join, hash_short, hash-whole}
use Rattle.sha1_digest.proofs.PaddingLaws.{padded-join, padded_wrap}

-- ---- the digest

length-output : (h : HashValue) → length (output h) ≡ 20
unfolding output
length-output h = simp (length-append, length-bytes)

below-append : (a b : List ℕ) → ((k : ℕ) → get_or a k 0 < 256) → ((k : ℕ) → get_or b k 0 < 256) → (k : ℕ) → get_or (a ++ b) k 0 < 256
below-append [] b ha hb k = hb k
below-append (x ∷ a) b ha hb zero = ha zero
below-append (x ∷ a) b ha hb (suc k) = below-append a b (λ j. ha (suc j)) hb k

output-below : (h : HashValue) (k : ℕ) → get_or (output h) k 0 < 256
unfolding output
output-below h =
    let below : (x k : ℕ) → get_or (bytes 4 x) k 0 < 256 = bytes_below 4 in
    let ab : List ℕ = bytes 4 h.a ++ bytes 4 h.b in
    let abc : List ℕ = ab ++ bytes 4 h.c in
    let abcd : List ℕ = abc ++ bytes 4 h.d in
    below-append abcd (bytes 4 h.e)
    (below-append abc (bytes 4 h.d)
    (below-append ab (bytes 4 h.c) (below-append (bytes 4 h.a) (bytes 4 h.b) (below h.a) (below h.b)) (below h.c))
    (below h.d))
    (below h.e)

-- a digest is 20 bytes long
pub sha1-length : (m : List ℕ) → length (sha1 m) ≡ 20
sha1-length m = ap length (sha1-is m) ∙ length-output (hash initial (padded m (length m)))

-- and each is a byte
pub sha1-byte : (m : List ℕ) (k : ℕ) → get_or (sha1 m) k 0 < 256
sha1-byte m k = rw sha1-is (output-below (hash initial (padded m (length m))) k)

-- ---- a message taken in pieces

same_hasher : (g h : HashValue) (n k : ℕ) → g ≡ h → n ≡ k → ◌≡◌ {A = Hasher} (record { value = g; count = n }) (record { value = h; count = k })
same_hasher g h n k e d = rw (e, d)

-- a piece of less than a block changes nothing
pub absorbed_short : (h : Hasher) (s : List ℕ) → h.count < 2 ^ 64 → length s < 64 → absorbed h s ≡ h
absorbed_short h s c l =
    absorbed-is h s
    ∙ same_hasher _ h.value _ h.count (hash_short h.value s l)
    (omega arith)

-- the empty piece changes nothing
pub absorbed-empty : (h : Hasher) → h.count < 2 ^ 64 → absorbed h [] ≡ h
absorbed-empty h c = absorbed_short h [] c (omega arith)

-- the bytes past the last whole block are left out
pub absorbed-whole : (h : Hasher) (s : List ℕ) (n : ℕ) → n ≡ length s / 64 * 64 → absorbed h (take n s) ≡ absorbed h s
absorbed-whole h s n e =
    let l : length (take n s) ≡ n = length-take-le n s (omega arith) in
    let k : length (take n s) / 64 ≡ length s / 64 = omega arith in
    absorbed-is h (take n s)
    ∙ same_hasher _ _ _ _ (hash-whole h.value s n e) (ap (λ (j : ℕ). (h.count + j * 64) % 2 ^ 64) k)
    ∙ sym (absorbed-is h s)

-- the count stays below 2 ^ 64
pub absorbed-count : (h : Hasher) (s : List ℕ) → (absorbed h s).count < 2 ^ 64
absorbed-count h s = rw absorbed-is (omega arith)

-- two pieces are one
pub absorbed-join : (h : Hasher) (a b : List ℕ) → Whole a → absorbed (absorbed h a) b ≡ absorbed h (a ++ b)
absorbed-join h a b w =
    let k : length (a ++ b) / 64 ≡ length a / 64 + length b / 64 = rw length-append (omega arith) in
    let c : ((h.count + length a / 64 * 64) % 2 ^ 64 + length b / 64 * 64) % 2 ^ 64 ≡ (h.count + length (a ++ b) / 64 * 64) % 2 ^ 64
    = mod-add-mod (h.count + length a / 64 * 64) (2 ^ 64) (length b / 64 * 64) ∙ ap (λ (n : ℕ). n % 2 ^ 64) (omega arith) in
    ap (λ (g : Hasher). absorbed g b) (absorbed-is h a)
    ∙ absorbed-is (record { value = hash h.value a; count = (h.count + length a / 64 * 64) % 2 ^ 64 }) b
    ∙ same_hasher _ _ _ _ (sym (hash-join h.value a b w)) c
    ∙ sym (absorbed-is h (a ++ b))

-- a hasher that has taken in nothing has taken in the empty message
pub started-empty : absorbed started [] ≡ started
started-empty = absorbed-empty started (rw started-is (omega arith))

-- a message taken in at once
pub finished-absorbed : (m : List ℕ) → Whole m → finished (absorbed started m) ≡ sha1 m
finished-absorbed m w =
    let c : ℕ = (0 + length m / 64 * 64) % 2 ^ 64 in
    let k : c % 2 ^ 64 ≡ length m % 2 ^ 64 = ap (λ (n : ℕ). n % 2 ^ 64 % 2 ^ 64) (omega arith) ∙ mod-mod (length m) (2 ^ 64) in
    ap (λ (h : Hasher). finished (absorbed h m)) started-is
    ∙ ap finished (absorbed-is (record { value = initial; count = 0 }) m)
    ∙ finished-is (record { value = hash initial m; count = c })
    ∙ ap (λ (p : List ℕ). output (hash (hash initial m) p)) (padded_wrap [] c (length m) k)
    ∙ ap output (sym (hash-join initial m (padded [] (length m)) w))
    ∙ ap (λ (p : List ℕ). output (hash initial p)) (sym (padded-join m [] (length m) w))
    ∙ ap (λ (p : List ℕ). output (hash initial (padded p (length m)))) (append-nil m)
    ∙ sym (sha1-is m)

-- pieces taken in after m are one piece
pub absorbed_pieces : (h : Hasher) (m : List ℕ) (ps : List (List ℕ)) → Whole m → Wholes ps
    → foldl absorbed (absorbed h m) ps ≡ absorbed h (m ++ joined ps)
absorbed_pieces h m [] w ws = ap (absorbed h) (sym (append-nil m))
absorbed_pieces h m (p ∷ ps) w ws =
    ap (λ (g : Hasher). foldl absorbed g ps) (absorbed-join h m p w)
    ∙ absorbed_pieces h (m ++ p) ps (rw length-append (omega arith)) ws.1
    ∙ ap (absorbed h) (append_assoc m p (joined ps))

joined-whole : (ps : List (List ℕ)) → Wholes ps → Whole (joined ps)
joined-whole [] ws = refl
joined-whole (p ∷ ps) ws =
    let i : Whole (joined ps) = joined-whole ps ws.1 in
    rw length-append (omega arith)

-- a message taken in pieces of whole blocks
pub finished_pieces : (ps : List (List ℕ)) → Wholes ps → finished (foldl absorbed started ps) ≡ sha1 (joined ps)
finished_pieces ps ws =
    ap (λ (h : Hasher). finished (foldl absorbed h ps)) (sym started-empty)
    ∙ ap finished (absorbed_pieces started [] ps refl ws)
    ∙ finished-absorbed (joined ps) (joined-whole ps ws)
