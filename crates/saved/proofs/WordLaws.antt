-- Numbers in eight bytes: what is written is read back, and what is read is written as the same bytes again.
-- Assumes nothing.
use mathlib.Core.Path.{◌≡◌, refl, ap, ◌∙◌}
use mathlib.Core.List.{List, [], ◌∷◌, ◌++◌, append_assoc}
use Prim.Native.Nat.{ℕ, zero, suc, ◌+◌, ◌*◌, ◌/◌, ◌%◌, ◌≤◌, ◌<◌}
use native.Mathlib.Nat.{add-zero}
use native.Mathlib.Omega.{arith}
use borrow.Author.Tests.{le-leb}
use lib.ListN.{length, get_or, take, drop, length-append, length-take, length-drop, take-append-drop}
use lib.Seq.{drop-cons, take_at, drop_at, take-add, drop-drop}
use Rattle.text.specs.Below.{AllBelow}
use Rattle.text.proofs.BelowLaws.{below_left, below_right}
use Rattle.little_endian.specs.LittleEndian.{four_at, eight_at}
use Rattle.saved.specs.Layout.{word_bytes, word_bound}
use Rattle.saved.specs.Saved.{bytes_of, words_of}
use Rattle.saved.specs.Restored.{numbers_at}

-- numbers that are below a bound wherever one looks
pub below_each : (n : ℕ) (xs : List ℕ) → ((i : ℕ) → get_or xs i 0 < n) → AllBelow n xs
unfolding AllBelow
below_each n [] h = tt
below_each n (x ∷ xs) h = (h 0, below_each n xs (λ i. h (suc i)))

-- ---- a number and its bytes

-- the number of some bytes, the lowest first
unfoldable number_of : List ℕ → ℕ
number_of [] = 0
number_of (b ∷ bs) = b + 256 * number_of bs

-- what n bytes reach
abbrev reach : ℕ → ℕ
reach zero = 1
reach (suc n) = 256 * reach n

pub length-bytes : (n x : ℕ) → length (bytes_of n x) ≡ n
unfolding bytes_of
length-bytes zero x = refl
length-bytes (suc n) x = ap suc (length-bytes n (x / 256))

number-bytes : (n x : ℕ) → x < reach n → number_of (bytes_of n x) ≡ x
unfolding bytes_of number_of
number-bytes zero x h = omega arith
number-bytes (suc n) x h = let r = number-bytes n (x / 256) (omega arith) in omega arith

bytes-number : (bs : List ℕ) (n : ℕ) → length bs ≡ n → AllBelow 256 bs → bytes_of n (number_of bs) ≡ bs
unfolding bytes_of number_of AllBelow
bytes-number [] zero l h = refl
bytes-number [] (suc n) l h = absurd (omega arith)
bytes-number (b ∷ bs) zero l h = absurd (omega arith)
bytes-number (b ∷ bs) (suc n) l h =
    let r = bytes-number bs n (omega arith) h.1 in
    let s = h.0 in
    let x : (b + 256 * number_of bs) % 256 ≡ b = omega arith in
    let y : (b + 256 * number_of bs) / 256 ≡ number_of bs = omega arith in
    rw (x, y, r)

number-below : (bs : List ℕ) (n : ℕ) → length bs ≡ n → AllBelow 256 bs → number_of bs < reach n
unfolding number_of AllBelow
number-below [] zero l h = omega arith
number-below [] (suc n) l h = absurd (omega arith)
number-below (b ∷ bs) zero l h = absurd (omega arith)
number-below (b ∷ bs) (suc n) l h = let r = number-below bs n (omega arith) h.1 in let s = h.0 in omega arith

-- ---- the number at a position

module _ (b : List ℕ) (at : ℕ) where
  -- its first byte, and the others
  digit : (k n : ℕ) → at + k < length b →
      number_of (take (suc n) (drop (at + k) b)) ≡ get_or b (at + k) 0 + 256 * number_of (take n (drop (at + (k + 1)) b))
  unfolding number_of
  digit k n h = let e : suc (at + k) ≡ at + (k + 1) = omega arith in rw (drop-cons b (at + k) 0 h, e)

  none_left : number_of (take 0 (drop (at + 8) b)) ≡ 0
  unfolding number_of
  none_left = refl

  eight_number : at + word_bytes ≤ length b → eight_at b at ≡ number_of (take word_bytes (drop at b))
  unfolding eight_at four_at
  eight_number h =
      let z = add-zero at in
      let d0 : number_of (take 8 (drop at b)) ≡ get_or b at 0 + 256 * number_of (take 7 (drop (at + 1) b)) = rw z at (digit 0 7 (omega arith)) in
      let d1 = digit 1 6 (omega arith) in
      let d2 = digit 2 5 (omega arith) in
      let d3 = digit 3 4 (omega arith) in
      let d4 = digit 4 3 (omega arith) in
      let d5 = digit 5 2 (omega arith) in
      let d6 = digit 6 1 (omega arith) in
      let d7 = digit 7 0 (omega arith) in
      let e : (at + 4) + 1 ≡ at + 5 = omega arith in
      let f : (at + 4) + 2 ≡ at + 6 = omega arith in
      let g : (at + 4) + 3 ≡ at + 7 = omega arith in
      let n = none_left in
      rw (
        le-leb (at + 8) (length b) h,
        le-leb (at + 4) (length b) (omega arith),
        le-leb ((at + 4) + 4) (length b) (omega arith),
        e,
        f,
        g,
      ) (omega arith)

-- what is written is read
eight_word : (pre rest : List ℕ) (x at : ℕ) → length pre ≡ at → x < word_bound → eight_at (pre ++ (bytes_of word_bytes x ++ rest)) at ≡ x
eight_word pre rest x at l h =
    let n = length-bytes word_bytes x in
    let m : at + word_bytes ≤ length (pre ++ (bytes_of word_bytes x ++ rest)) = simp length-append (omega arith) in
    eight_number (pre ++ (bytes_of word_bytes x ++ rest)) at m
    ∙ rw (drop_at pre (bytes_of word_bytes x ++ rest) at l, take_at (bytes_of word_bytes x) rest word_bytes n) (number-bytes word_bytes x h)

pub length-words : (xs : List ℕ) → length (words_of xs) ≡ word_bytes * length xs
unfolding words_of
length-words [] = refl
length-words (x ∷ xs) = let r = length-words xs in let b = length-bytes word_bytes x in simp length-append (omega arith)

pub numbers-words : (pre xs rest : List ℕ) (at n : ℕ) → length pre ≡ at → length xs ≡ n → AllBelow word_bound xs →
    numbers_at (pre ++ (words_of xs ++ rest)) at n ≡ xs
unfolding words_of numbers_at AllBelow
numbers-words pre [] rest at zero l m h = refl
numbers-words pre [] rest at (suc n) l m h = absurd (omega arith)
numbers-words pre (x ∷ xs) rest at zero l m h = absurd (omega arith)
numbers-words pre (x ∷ xs) rest at (suc n) l m h =
    let b = length-bytes word_bytes x in
    let all = pre ++ (words_of (x ∷ xs) ++ rest) in
    let e : all ≡ pre ++ (bytes_of word_bytes x ++ (words_of xs ++ rest)) = simp append_assoc in
    let f : all ≡ (pre ++ bytes_of word_bytes x) ++ (words_of xs ++ rest) = simp append_assoc in
    let t = numbers-words (pre ++ bytes_of word_bytes x) xs rest (at + word_bytes) n (simp length-append (omega arith)) (omega arith) h.1 in
    ap (λ (y : ℕ). y ∷ numbers_at all (at + word_bytes) n)
    (ap (λ (l : List ℕ). eight_at l at) e ∙ eight_word pre (words_of xs ++ rest) x at l h.0)
    ∙ ap (λ (ys : List ℕ). x ∷ ys) (ap (λ (l : List ℕ). numbers_at l (at + word_bytes) n) f ∙ t)

-- what is read was written
pub record Read (b : List ℕ) (at n : ℕ) : Type 0 where
  pub again : words_of (numbers_at b at n) ≡ take (word_bytes * n) (drop at b)
  pub count : length (numbers_at b at n) ≡ n
  pub below : AllBelow word_bound (numbers_at b at n)

pub below_part : (m at n : ℕ) (b : List ℕ) → AllBelow m b → AllBelow m (take n (drop at b))
below_part m at n b h =
    let r : AllBelow m (drop at b) = below_right m (take at b) (drop at b) (rw take-append-drop h) in
    below_left m (take n (drop at b)) (drop n (drop at b)) (rw take-append-drop r)

pub words-numbers : (b : List ℕ) (at n : ℕ) → at + word_bytes * n ≤ length b → AllBelow 256 b → Read b at n
unfolding words_of numbers_at AllBelow
words-numbers b at zero l h = record { again = refl; count = refl; below = tt }
words-numbers b at (suc n) l h =
    let m : length (take word_bytes (drop at b)) ≡ word_bytes = simp (length-take, length-drop) (omega arith) in
    let under = below_part 256 at word_bytes b h in
    let e : eight_at b at ≡ number_of (take word_bytes (drop at b)) = eight_number b at (omega arith) in
    let r = words-numbers b (at + word_bytes) n (omega arith) h in
    let c = r.count in
    let k : word_bytes * suc n ≡ word_bytes + word_bytes * n = omega arith in
    record {
      again = rw (e, bytes-number (take word_bytes (drop at b)) word_bytes m under, r.again, k, take-add word_bytes (word_bytes * n) (drop at b), drop-drop word_bytes at b);
      count = omega arith;
      below = (rw e (number-below (take word_bytes (drop at b)) word_bytes m under), r.below);
    }
