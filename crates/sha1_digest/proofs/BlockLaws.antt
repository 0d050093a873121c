-- Laws of blocks. Assumes nothing.
use Rattle.std.proofs.Common.{◌≡◌, ℕ, zero, suc, ◌+◌, ◌*◌, ◌/◌, ◌%◌, ◌<◌, ◌≤◌, Bool, true, false, ltb, List, ◌++◌, length, get_or, take, drop, sym, refl, ap, ◌∙◌, add-zero, add-suc, arith, length-append, length-drop, take-append-drop, length-take-le, get_or-append-add, ltb-true}
use lib.ListN.{get_or-append}
use Rattle.sha1_digest.specs.declared.HashValue.{HashValue}
use Rattle.sha1_digest.specs.Sha1 as S

-- ---- a block is its bytes, wherever they stand

module _ (p q : List ℕ) (i j : ℕ) (same : (k : ℕ) → k < 64 → get_or p (i + k) 0 ≡ get_or q (j + k) 0) where
  at : (k a b : ℕ) → k < 64 → a ≡ i + k → b ≡ j + k → get_or p a 0 ≡ get_or q b 0
  at k a b h ea eb = rw (ea, eb) (same k h)

  same_word : (t : ℕ) → t < 16 → S.word p (i + 4 * t) ≡ S.word q (j + 4 * t)
  same_word t h =
      let e0 : get_or p (i + 4 * t) 0 ≡ get_or q (j + 4 * t) 0 = at (4 * t) _ _ (omega arith) refl refl in
      let e1 : get_or p (i + 4 * t + 1) 0 ≡ get_or q (j + 4 * t + 1) 0 = at (4 * t + 1) _ _ (omega arith) (omega arith) (omega arith) in
      let e2 : get_or p (i + 4 * t + 2) 0 ≡ get_or q (j + 4 * t + 2) 0 = at (4 * t + 2) _ _ (omega arith) (omega arith) (omega arith) in
      let e3 : get_or p (i + 4 * t + 3) 0 ≡ get_or q (j + 4 * t + 3) 0 = at (4 * t + 3) _ _ (omega arith) (omega arith) (omega arith) in
      cc

  same_next : (W : List ℕ) (t : ℕ) (b : Bool) → ltb t 16 ≡ b → S.next p i W t ≡ S.next q j W t
  unfolding S.next
  same_next W t true e = simp e (same_word t (ltb-true t 16 e))
  same_next W t false e = simp e

  same-schedule : (n : ℕ) → S.schedule p i n ≡ S.schedule q j n
  unfolding S.schedule
  same-schedule zero = refl
  same-schedule (suc n) = rw (same-schedule n, same_next (S.schedule q j n) n (ltb n 16) refl)

  pub same_block : (h : HashValue) → S.compress h p i ≡ S.compress h q j
  unfolding S.compress
  same_block h = rw (same-schedule 80)

-- ---- the blocks of two lists, the first of which has i whole blocks

blocks-first : (h : HashValue) (a b : List ℕ) (n : ℕ) → 64 * n ≤ length a → S.blocks h (a ++ b) n ≡ S.blocks h a n
unfolding S.blocks
blocks-first h a b zero l = refl
blocks-first h a b (suc n) l =
    ap (λ (g : HashValue). S.compress g (a ++ b) (64 * n)) (blocks-first h a b n (omega arith))
    ∙ same_block (a ++ b) a (64 * n) (64 * n) (λ k lt. get_or-append a b 0 (64 * n + k) (omega arith)) (S.blocks h a n)

module _ (h : HashValue) (a b : List ℕ) (i : ℕ) (e : length a ≡ 64 * i) where
  second : (j k : ℕ) → get_or (a ++ b) (64 * (i + j) + k) 0 ≡ get_or b (64 * j + k) 0
  second j k =
      let n : 64 * (i + j) + k ≡ length a + (64 * j + k) = omega arith in
      ap (λ (n : ℕ). get_or (a ++ b) n 0) n ∙ get_or-append-add a b (64 * j + k) 0

  blocks-join : (j : ℕ) → S.blocks h (a ++ b) (i + j) ≡ S.blocks (S.blocks h a i) b j
  unfolding S.blocks
  blocks-join zero = ap (S.blocks h (a ++ b)) (add-zero i) ∙ blocks-first h a b i (omega arith)
  blocks-join (suc j) =
      ap (S.blocks h (a ++ b)) (add-suc i j)
      ∙ ap (λ (g : HashValue). S.compress g (a ++ b) (64 * (i + j))) (blocks-join j)
      ∙ same_block (a ++ b) b (64 * (i + j)) (64 * j) (λ k lt. second j k) (S.blocks (S.blocks h a i) b j)

-- ---- every whole block of a list

pub hash-join : (h : HashValue) (a b : List ℕ) → length a % 64 ≡ 0 → S.hash h (a ++ b) ≡ S.hash (S.hash h a) b
unfolding S.hash
hash-join h a b w =
    let e : length a ≡ 64 * (length a / 64) = omega arith in
    let n : length (a ++ b) / 64 ≡ length a / 64 + length b / 64 = rw length-append (omega arith) in
    ap (S.blocks h (a ++ b)) n ∙ blocks-join h a b (length a / 64) e (length b / 64)

pub hash_short : (h : HashValue) (s : List ℕ) → length s < 64 → S.hash h s ≡ h
unfolding S.hash S.blocks
hash_short h s l =
    let n : length s / 64 ≡ 0 = omega arith in
    rw n

pub hash_one : (h : HashValue) (s : List ℕ) → length s ≡ 64 → S.hash h s ≡ S.compress h s 0
unfolding S.hash S.blocks
hash_one h s l =
    let n : length s / 64 ≡ 1 = omega arith in
    rw n refl

-- the first block of a list, and then the others
pub hash_cons : (h : HashValue) (s b r : List ℕ) → s ≡ b ++ r → length b ≡ 64 → S.hash (S.compress h b 0) r ≡ S.hash h s
hash_cons h s b r e l = rw (e, hash-join h b r (omega arith), hash_one h b l) refl

-- the bytes past the last whole block make no difference
pub hash-whole : (h : HashValue) (s : List ℕ) (n : ℕ) → n ≡ length s / 64 * 64 → S.hash h (take n s) ≡ S.hash h s
hash-whole h s n e =
    let l : length (take n s) ≡ n = length-take-le n s (omega arith) in
    let r : length (drop n s) < 64 = rw length-drop (omega arith) in
    sym (hash_short (S.hash h (take n s)) (drop n s) r)
    ∙ sym (hash-join h (take n s) (drop n s) (omega arith))
    ∙ ap (S.hash h) (take-append-drop n s)
