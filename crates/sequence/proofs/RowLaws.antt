-- An area as a row of blocks: what the effects on its bytes do to whole blocks.
-- Assumes nothing.
use mathlib.Core.Path.{◌≡◌, refl, sym, ap, ◌∙◌}
use mathlib.Core.List.{List, [], ◌∷◌, ◌++◌, append_assoc}
use Prim.Native.Nat.{ℕ, zero, suc, ◌+◌, ◌*◌, ◌≤◌, ◌<◌}
use native.Mathlib.Nat.{add-zero}
use native.Mathlib.Omega.{arith}
use lib.ListN.{length, get_or, set, take, drop, replicate, length-append, length-set, drop_of_length-le}
use lib.Seq.{take-nil, drop-nil, take_at, drop_at, drop-cons, set_split, drop-append-le, drop-drop, take-add, append_snoc, sets, sets-eq}
use lib.Seq.{paste}
use Rattle.ranges.specs.Ranges.{span}
use Rattle.ranges.specs.Walk.{AllBelow}
use Rattle.ranges.proofs.WalkLaws.{below_head, below_tail}
use Rattle.state.specs.Limits.{block_bytes}
use Rattle.copy.specs.Over.{over}
use Rattle.updater.specs.Bytes.{block_at, zeroed, gathered, written, address_of, put_bytes, moved_down}
use Rattle.sequence.specs.Samples.{Block, zeros, bytes_of}
use Rattle.updater.proofs.NewLaws.{put_bytes-append, address_in}

-- ---- parts of a row

pub length-row : (bs : List Block) → length (bytes_of bs) ≡ block_bytes * length bs
unfolding bytes_of
length-row [] = refl
length-row (b ∷ bs) = let l = length-row bs in let w = b.whole in simp length-append (omega arith)

drop_block : (n : ℕ) (x rest : List ℕ) → length x ≡ block_bytes → drop (block_bytes * suc n) (x ++ rest) ≡ drop (block_bytes * n) rest
drop_block n x rest h =
    let e : block_bytes * suc n ≡ block_bytes + block_bytes * n = omega arith in
    rw (e, ← drop-drop (block_bytes * n) block_bytes (x ++ rest), drop_at x rest block_bytes h)

take_block : (n : ℕ) (x rest : List ℕ) → length x ≡ block_bytes → take (block_bytes * suc n) (x ++ rest) ≡ x ++ take (block_bytes * n) rest
take_block n x rest h =
    let e : block_bytes * suc n ≡ block_bytes + block_bytes * n = omega arith in
    rw (e, take-add block_bytes (block_bytes * n) (x ++ rest), take_at x rest block_bytes h, drop_at x rest block_bytes h)

pub drop-row : (n : ℕ) (bs : List Block) → drop (block_bytes * n) (bytes_of bs) ≡ bytes_of (drop n bs)
unfolding bytes_of
drop-row zero bs = refl
drop-row (suc n) [] = drop-nil (block_bytes * suc n)
drop-row (suc n) (b ∷ bs) = drop_block n b.bytes (bytes_of bs) b.whole ∙ drop-row n bs

pub take_row : (n : ℕ) (bs : List Block) → take (block_bytes * n) (bytes_of bs) ≡ bytes_of (take n bs)
unfolding bytes_of
take_row zero bs = refl
take_row (suc n) [] = take-nil (block_bytes * suc n)
take_row (suc n) (b ∷ bs) = take_block n b.bytes (bytes_of bs) b.whole ∙ ap (λ (l : List ℕ). b.bytes ++ l) (take_row n bs)

pub row-append : (xs ys : List Block) → bytes_of (xs ++ ys) ≡ bytes_of xs ++ bytes_of ys
unfolding bytes_of
row-append [] ys = refl
row-append (x ∷ xs) ys = rw (row-append xs ys, append_assoc x.bytes (bytes_of xs) (bytes_of ys))

module _ (bs : List Block) (k : ℕ) (h : k < length bs) where
  -- a row from its block k on
  row_from : drop (block_bytes * k) (bytes_of bs) ≡ (get_or bs k zeros).bytes ++ bytes_of (drop (suc k) bs)
  unfolding bytes_of
  row_from = drop-row k bs ∙ ap bytes_of (drop-cons bs k zeros h)

  pub block_of-row : block_at (bytes_of bs) k ≡ (get_or bs k zeros).bytes
  block_of-row = rw row_from (take_at (get_or bs k zeros).bytes (bytes_of (drop (suc k) bs)) block_bytes (get_or bs k zeros).whole)

  -- bytes over the front of block k
  pub over-front : (x : List ℕ) → length x ≤ block_bytes →
      over (bytes_of bs) (block_bytes * k) x
      ≡ bytes_of (take k bs) ++ (x ++ (drop (length x) (get_or bs k zeros).bytes ++ bytes_of (drop (suc k) bs)))
  over-front x m =
      let w = (get_or bs k zeros).whole in
      rw (row_from, take_row k bs, drop-append-le (length x) (get_or bs k zeros).bytes (bytes_of (drop (suc k) bs)) (omega arith))

  pub over_block : (x : Block) → over (bytes_of bs) (block_bytes * k) x.bytes ≡ bytes_of (set bs k x)
  unfolding bytes_of
  over_block x =
      let w = (get_or bs k zeros).whole in
      let v = x.whole in
      over-front x.bytes (omega arith)
      ∙ rw (drop_of_length-le (get_or bs k zeros).bytes {i = length x.bytes} (omega arith), set_split bs k x h)
      (sym (row-append (take k bs) (x ∷ drop (suc k) bs)))

-- ---- effects over the blocks of a set

-- the blocks k of a row
unfoldable pub picked_of : List ℕ → List Block → List Block
picked_of [] bs = []
picked_of (k ∷ ks) bs = get_or bs k zeros ∷ picked_of ks bs

-- a row with the blocks xs put at its places ks, one after the other
unfoldable pub put_at : List ℕ → List Block → List Block → List Block
put_at [] xs bs = bs
put_at (k ∷ ks) [] bs = bs
put_at (k ∷ ks) (x ∷ xs) bs = put_at ks xs (set bs k x)

below_set : (bs : List Block) (k : ℕ) (x : Block) (ks : List ℕ) → AllBelow (length bs) (k ∷ ks) → AllBelow (length (set bs k x)) ks
below_set bs k x ks h = rw (length-set bs k x) (below_tail (length bs) k ks h)

pub gathered-row : (ks : List ℕ) (bs : List Block) → AllBelow (length bs) ks → gathered ks (bytes_of bs) ≡ bytes_of (picked_of ks bs)
unfolding gathered bytes_of picked_of
gathered-row [] bs h = refl
gathered-row (k ∷ ks) bs h =
    rw (block_of-row bs k (below_head (length bs) k ks h), gathered-row ks bs (below_tail (length bs) k ks h))

pub zeroed-row : (ks : List ℕ) (bs : List Block) → AllBelow (length bs) ks →
    zeroed ks (bytes_of bs) ≡ bytes_of (put_at ks (replicate (length ks) zeros) bs)
unfolding zeroed put_at
zeroed-row [] bs h = refl
zeroed-row (k ∷ ks) bs h =
    ap (zeroed ks) (over_block bs k (below_head (length bs) k ks h) zeros) ∙ zeroed-row ks (set bs k zeros) (below_set bs k zeros ks h)

pub written_row : (ks : List ℕ) (xs bs : List Block) → AllBelow (length bs) ks → length ks ≡ length xs →
    written ks (bytes_of xs) (bytes_of bs) ≡ bytes_of (put_at ks xs bs)
unfolding written put_at bytes_of
written_row [] xs bs h n = refl
written_row (k ∷ ks) [] bs h n = absurd (omega arith)
written_row (k ∷ ks) (x ∷ xs) bs h n =
    rw (
      take_at x.bytes (bytes_of xs) block_bytes x.whole,
      drop_at x.bytes (bytes_of xs) block_bytes x.whole,
      over_block bs k (below_head (length bs) k ks h) x,
    )
    (written_row ks xs (set bs k x) (below_set bs k x ks h) (omega arith))

-- ---- new data

-- bytes whose addresses run on are stored one after the other
put-sets : (ks xs : List ℕ) (k at : ℕ) (area : List ℕ) → ((i : ℕ) → i < length xs → address_of ks (k + i) ≡ at + i) →
    put_bytes ks k xs area ≡ sets area at xs
unfolding put_bytes
put-sets ks [] k at area e = refl
put-sets ks (x ∷ xs) k at area e =
    rw ((rw (add-zero k, add-zero at) at (e 0 (omega arith))))
    (put-sets ks xs (k + 1) (suc at) (set area at x)
    (λ i h. let f : k + 1 + i ≡ k + suc i = omega arith in rw f (e (suc i) (omega arith) ∙ omega arith)))

-- bytes within block j of a target, from its byte 0 on
pub put_front : (before after : List ℕ) (j : ℕ) (xs area : List ℕ) → length xs ≤ block_bytes → block_bytes * j + length xs ≤ length area →
    put_bytes (before ++ (j ∷ after)) (block_bytes * length before) xs area ≡ over area (block_bytes * j) xs
unfolding span
put_front before after j xs area s h =
    put-sets (before ++ (j ∷ after)) xs (block_bytes * length before) (block_bytes * j) area
    (λ i m. address_in {bs = before ++ (j ∷ after)} before after j 1 i refl (omega arith))
    ∙ sets-eq xs area (block_bytes * j) h
    ∙ rw (append_assoc (take (block_bytes * j) area) xs (drop (block_bytes * j + length xs) area), drop-drop (length xs) (block_bytes * j) area)

-- whole blocks of new data
pub put-row : (before ks : List ℕ) (xs bs : List Block) → AllBelow (length bs) ks → length ks ≡ length xs →
    put_bytes (before ++ ks) (block_bytes * length before) (bytes_of xs) (bytes_of bs) ≡ bytes_of (put_at ks xs bs)
unfolding put_bytes put_at bytes_of
put-row before [] [] bs h n = refl
put-row before [] (x ∷ xs) bs h n = absurd (omega arith)
put-row before (k ∷ ks) [] bs h n = absurd (omega arith)
put-row before (k ∷ ks) (x ∷ xs) bs h n =
    let b = below_head (length bs) k ks h in
    let w = x.whole in
    let l = length-row bs in
    let f : put_bytes (before ++ (k ∷ ks)) (block_bytes * length before) x.bytes (bytes_of bs) ≡ bytes_of (set bs k x) =
    put_front before ks k x.bytes (bytes_of bs) (omega arith) (omega arith) ∙ over_block bs k b x in
    let e : block_bytes * length before + length x.bytes ≡ block_bytes * length (before ++ (k ∷ [])) = simp length-append (omega arith) in
    put_bytes-append (before ++ (k ∷ ks)) (block_bytes * length before) x.bytes (bytes_of xs) (bytes_of bs)
    ∙ rw (f, e, ← append_snoc before k ks) (put-row (before ++ (k ∷ [])) ks xs (set bs k x) (below_set bs k x ks h) (omega arith))

-- ---- blocks that move down

pub moved_row : (bs : List Block) (to from n : ℕ) →
    moved_down (bytes_of bs) (block_bytes * to) (block_bytes * from) (block_bytes * n) ≡ bytes_of (paste bs to (drop from bs) n)
unfolding moved_down
moved_row bs to from n =
    let e : block_bytes * to + block_bytes * n ≡ block_bytes * (to + n) = omega arith in
    rw (e, take_row to bs, drop-row from bs, take_row n (drop from bs), drop-row (to + n) bs)
    (sym (row-append (take to bs ++ take n (drop from bs)) (drop (to + n) bs)
    ∙ ap (λ (l : List ℕ). l ++ bytes_of (drop (to + n) bs)) (row-append (take to bs) (take n (drop from bs)))))
