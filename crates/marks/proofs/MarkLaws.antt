-- Laws of `specs/Marks.antt`, whatever the number of bytes.
-- Assumes nothing.
use mathlib.Core.Path.{◌≡◌, refl, sym, ap, ap₂, ◌∙◌}
use mathlib.Core.Bool.{Bool, true, false}
use mathlib.Core.List.{List, ◌++◌}
use Prim.Native.Nat.{ℕ, suc, ◌+◌, ◌-◌, ◌*◌, ◌/◌, ◌%◌, ◌^◌, ◌≤◌, ◌<◌, min}
use native.Mathlib.Nat.{mod-lt, mod-le, zero-div, add-div_right, add-mul-div_right, div-add-mod', div-lt_iff_lt-mul, pow-suc}
use native.Mathlib.Numerals.{add-one}
use native.Mathlib.Omega.{arith}
use lib.Pow.{pow_pos, pow-add, shr-shr, split, shl_exact}
use lib.Bits.{bit_and, bit_or, and_block, and_mask, and_zero_r, or_disjoint}
use lib.ListN.{length, get_or, set, drop, replicate, length-append, length-drop, length-set, length-replicate, get_or-replicate}
use lib.ListN.{take, length-take, get_or-append, get_or-eq_default, replicate-append-replicate}
use lib.Seq.{drop-cons, append_snoc, set_at, get_or-set_same, get_or-set_other}
use lib.Dec.{ltb, eqb}
use borrow.Author.Tests.{ltb-true, ltb-false, lt-ltb, le-ltb, eqb-true, eqb-false, eq-eqb, ne_eqb}
use Rattle.text.specs.Choice.{both, no}
use Rattle.text.proofs.ChoiceLaws.{both_true, no_true, no_false}
use Rattle.marks.specs.Marks.{places_per_byte, row_of, bit_of, mark_at, is_taken, is_free, taking, cleared}

-- ---- bits of a number b to which 2 ^ k is added where its bit k is 0: there is no carry
module _ (b k : ℕ) (e : b / 2 ^ k % 2 ≡ 0) where
  bit_same : (b + 2 ^ k) / 2 ^ k % 2 ≡ 1
  bit_same = omega (arith, add-div_right b {k = 2 ^ k} (pow_pos k))

  -- a bit below it, and one above it
  bit_below : (j d : ℕ) → k ≡ suc d + j → (b + 2 ^ k) / 2 ^ j % 2 ≡ b / 2 ^ j % 2
  bit_below j d f =
      let two : 2 ^ k ≡ 2 ^ d * 2 * 2 ^ j = ap (λ (i : ℕ). 2 ^ i) f ∙ pow-add 2 (suc d) j ∙ ap (λ (x : ℕ). x * 2 ^ j) (pow-suc 2 d) in
      let more : (b + 2 ^ d * 2 * 2 ^ j) / 2 ^ j ≡ b / 2 ^ j + 2 ^ d * 2 = add-mul-div_right b (2 ^ d * 2) {z = 2 ^ j} (pow_pos j) in
      rw (two, more) (omega arith)

  bit_above : (j d : ℕ) → j ≡ k + (1 + d) → (b + 2 ^ k) / 2 ^ j % 2 ≡ b / 2 ^ j % 2
  bit_above j d f =
      let up : (x : ℕ) → x / 2 ^ j ≡ x / 2 ^ k / 2 ^ 1 / 2 ^ d
      = λ x. ap (λ (i : ℕ). x / 2 ^ i) f ∙ sym (shr-shr x k (1 + d)) ∙ sym (shr-shr (x / 2 ^ k) 1 d) in
      let half : (b + 2 ^ k) / 2 ^ k / 2 ^ 1 ≡ b / 2 ^ k / 2 ^ 1 = omega (arith, add-div_right b {k = 2 ^ k} (pow_pos k)) in
      ap (λ (x : ℕ). x % 2) (up (b + 2 ^ k) ∙ ap (λ (x : ℕ). x / 2 ^ d) half ∙ sym (up b))

  bit_other : (j : ℕ) → (j ≡ k → ⊥) → (b + 2 ^ k) / 2 ^ j % 2 ≡ b / 2 ^ j % 2
  bit_other j f = go (ltb j k) refl
    where
      go : (t : Bool) → ltb j k ≡ t → (b + 2 ^ k) / 2 ^ j % 2 ≡ b / 2 ^ j % 2
      go true t = let l = ltb-true j k t in bit_below j (k - suc j) (omega arith)
      go false t = bit_above j (j - suc k) (omega (arith, f, ltb-false j k t))

  no_bit : bit_and b (2 ^ k) ≡ 0
  no_bit =
      ap₂ bit_and (sym (split b k)) (omega arith) ∙ and_block k (b / 2 ^ k) 1 (b % 2 ^ k) 0 (mod-lt b (pow_pos k)) (pow_pos k)
      ∙ ap₂ (λ (x y : ℕ). x * 2 ^ k + y) (and_mask (b / 2 ^ k) 1 ∙ e) (and_zero_r (b % 2 ^ k)) ∙ omega arith

  -- the same bit set by an `or`, within a byte
  bit_or_lem : k < places_per_byte → bit_or b (1 * 2 ^ k % 2 ^ 8) ≡ b + 2 ^ k
  bit_or_lem l =
      let one : 1 * 2 ^ k % 2 ^ 8 ≡ 2 ^ k = shl_exact {a = 1} 1 k 8 (omega arith) (omega arith) ∙ omega arith in
      rw one (or_disjoint b (2 ^ k) no_bit)

-- ---- a place by its two numbers
same_place : (n p q : ℕ) → q % n ≡ p % n → q / n ≡ p / n → q ≡ p
same_place n p q e f = sym (div-add-mod' q n) ∙ ap₂ (λ (x y : ℕ). x * n + y) f e ∙ div-add-mod' p n

module _ (marks : List ℕ) (p : ℕ) where
  -- a place of the marks is free or taken, and one past them is not free
  pub free_is : p < places_per_byte * length marks → is_free marks p ≡ no (is_taken marks p)
  unfolding is_free
  free_is h = rw (lt-ltb p (places_per_byte * length marks) h)

  pub past-not_free : places_per_byte * length marks ≤ p → is_free marks p ≡ false
  unfolding is_free
  past-not_free h = rw (le-ltb p (places_per_byte * length marks) h)

  pub free_within : is_free marks p ≡ true → p < places_per_byte * length marks
  unfolding is_free
  free_within e = ltb-true _ _ (both_true (ltb p (places_per_byte * length marks)) (no (is_taken marks p)) e).0

  pub free_not_taken : is_free marks p ≡ true → is_taken marks p ≡ false
  unfolding is_free
  free_not_taken e = no_true (is_taken marks p) (both_true (ltb p (places_per_byte * length marks)) (no (is_taken marks p)) e).1

  pub not_free_taken : p < places_per_byte * length marks → is_free marks p ≡ false → is_taken marks p ≡ true
  not_free_taken h e = no_false (is_taken marks p) (sym (free_is h) ∙ e)

  -- the bit of a place that is not taken, and what the bit says of the place
  bit_clear : is_taken marks p ≡ false → mark_at marks p ≡ 0
  unfolding is_taken
  bit_clear e = omega (arith, eqb-false (mark_at marks p) 1 e)

  clear_free : p < places_per_byte * length marks → mark_at marks p ≡ 0 → is_free marks p ≡ true
  unfolding is_taken
  clear_free h e = free_is h ∙ ap no (ne_eqb (mark_at marks p) 1 (λ f. omega arith))

  set-not_free : mark_at marks p ≡ 1 → is_free marks p ≡ false
  unfolding is_taken is_free
  set-not_free e = rw (eq-eqb (mark_at marks p) 1 e) (go (ltb p (places_per_byte * length marks)))
    where
      go : (t : Bool) → both t false ≡ false
      go true = refl
      go false = refl

  -- ---- a place is taken
  taking_free : is_free marks p ≡ true →
      taking marks p ≡ set marks (row_of marks p) (get_or marks (row_of marks p) 0 + 2 ^ bit_of marks p)
  unfolding taking
  taking_free e = rw e

  pub taking-none : is_free marks p ≡ false → taking marks p ≡ marks
  unfolding taking
  taking-none e = rw e

  pub length-taking : length (taking marks p) ≡ length marks
  length-taking = go (is_free marks p) refl
    where
      go : (t : Bool) → is_free marks p ≡ t → length (taking marks p) ≡ length marks
      go true e = rw (taking_free e) (length-set marks _ _)
      go false e = rw (taking-none e)

  -- the place is taken then
  pub taking-same : p < places_per_byte * length marks → is_taken (taking marks p) p ≡ true
  unfolding is_taken
  taking-same h = go (is_free marks p) refl
    where
      go : (t : Bool) → is_free marks p ≡ t → is_taken (taking marks p) p ≡ true
      go true e =
          let row : p % length marks < length marks = mod-lt p (omega arith) in
          rw (taking_free e, length-set, get_or-set_same marks (row_of marks p) (get_or marks (row_of marks p) 0 + 2 ^ bit_of marks p) 0 row)
          (eq-eqb _ 1 (bit_same (get_or marks (row_of marks p) 0) (bit_of marks p) (bit_clear (free_not_taken e))))
      go false e = rw (taking-none e) (not_free_taken h e)

  -- and any other place is as it was
  pub taking-other : (q : ℕ) → (q ≡ p → ⊥) → is_taken (taking marks p) q ≡ is_taken marks q
  unfolding is_taken
  taking-other q f = go (is_free marks p) refl
    where
      bits : is_free marks p ≡ true → (t : Bool) → eqb (row_of marks q) (row_of marks p) ≡ t →
          get_or (taking marks p) (row_of marks q) 0 / 2 ^ bit_of marks q % 2 ≡ mark_at marks q
      bits e true g =
          let within = free_within e in
          let row : p % length marks < length marks = mod-lt p (omega arith) in
          rw (
            eqb-true (row_of marks q) (row_of marks p) g,
            taking_free e,
            get_or-set_same marks (row_of marks p) (get_or marks (row_of marks p) 0 + 2 ^ bit_of marks p) 0 row,
          )
          (bit_other (get_or marks (row_of marks p) 0) (bit_of marks p) (bit_clear (free_not_taken e)) (bit_of marks q)
          (λ b. f (same_place (length marks) p q (eqb-true (row_of marks q) (row_of marks p) g) b)))
      bits e false g =
          rw (taking_free e)
          (ap (λ (b : ℕ). b / 2 ^ bit_of marks q % 2) (get_or-set_other marks (row_of marks p) (row_of marks q) _ 0 (eqb-false _ _ g)))

      go : (t : Bool) → is_free marks p ≡ t → is_taken (taking marks p) q ≡ is_taken marks q
      go true e = rw length-taking (ap (λ (b : ℕ). eqb b 1) (bits e (eqb (row_of marks q) (row_of marks p)) refl))
      go false e = rw (taking-none e)

-- ---- marks are cleared
module _ (marks : List ℕ) where
  pub length-cleared : (n : ℕ) → length (cleared marks n) ≡ length marks
  unfolding cleared
  length-cleared n = simp (length-append, length-replicate, length-drop) (omega arith)

  byte-cleared : (n i : ℕ) → i < n → get_or (cleared marks n) i 0 ≡ 0
  unfolding cleared
  byte-cleared n i h = go (ltb i (length marks)) refl
    where
      go : (t : Bool) → ltb i (length marks) ≡ t → get_or (cleared marks n) i 0 ≡ 0
      go true t =
          let l = ltb-true i (length marks) t in
          let m : i < min n (length marks) = omega arith in
          get_or-append (replicate (min n (length marks)) 0) (drop (min n (length marks)) marks) 0 i (rw length-replicate m)
          ∙ get_or-replicate {A = ℕ} (min n (length marks)) i 0 0 m
      go false t = get_or-eq_default (cleared marks n) 0 (omega (arith, ltb-false i (length marks) t, length-cleared n))

  -- no place below n is taken then
  pub cleared_free : (n p : ℕ) → p < n → is_taken (cleared marks n) p ≡ false
  unfolding is_taken
  cleared_free n p h =
      let row = row_of (cleared marks n) p in
      let z : get_or (cleared marks n) row 0 ≡ 0 = byte-cleared n row (omega (arith, mod-le p (length (cleared marks n)))) in
      rw (z, zero-div (2 ^ bit_of (cleared marks n) p))

  -- a store clears one byte more
  pub clear_more : (i : ℕ) → i < length marks →
      set (replicate i 0 ++ drop i marks) i 0 ≡ replicate (i + 1) 0 ++ drop (i + 1) marks
  clear_more i h =
      ap (λ (r : List ℕ). set (replicate i 0 ++ r) i 0) (drop-cons marks i 0 h)
      ∙ set_at (replicate i 0) (get_or marks i 0) (drop (suc i) marks) 0 i (length-replicate {A = ℕ} i 0)
      ∙ sym (append_snoc (replicate i 0) 0 (drop (suc i) marks))
      ∙ rw (← replicate-append-replicate {A = ℕ} i 1 0, add-one)

  pub clear_whole : (n i : ℕ) → i ≡ min n (length marks) → replicate i 0 ++ drop i marks ≡ cleared marks n
  unfolding cleared
  clear_whole n i e = rw e

  -- its first bytes 0 and the others as they are
  pub clear_part : (n i : ℕ) → i ≡ min n (length marks) → replicate (length (take i marks)) 0 ++ drop i marks ≡ cleared marks n
  unfolding cleared
  clear_part n i e =
      let l : length (take i marks) ≡ i = omega (arith, length-take i marks) in
      rw (l, e)

-- ---- the three ways of taking a place, where there are n bytes
-- the bit as the code reads it
abbrev mark : List ℕ → ℕ → ℕ → ℕ
mark marks p n = bit_and (get_or marks (p % n) 0 / 2 ^ (p / n)) 1

module _ (marks : List ℕ) (p : ℕ) {n : ℕ} (s : length marks ≡ n) where
  mark-is : mark marks p n ≡ mark_at marks p
  mark-is = rw s (and_mask (get_or marks (p % n) 0 / 2 ^ (p / n)) 1)

  not_taken : is_free marks p ≡ false → (false ≡ is_free marks p) × (marks ≡ taking marks p)
  not_taken e = (sym e, sym (taking-none marks p e))

  pub take_past : places_per_byte * n ≤ p → (false ≡ is_free marks p) × (marks ≡ taking marks p)
  take_past h = not_taken (past-not_free marks p (omega arith))

  pub take_again : (mark marks p n ≡ 0 → ⊥) → (false ≡ is_free marks p) × (marks ≡ taking marks p)
  take_again f = not_taken (set-not_free marks p (omega (arith, f, mark-is)))

  pub take_free : p < places_per_byte * n → mark marks p n ≡ 0 →
      (true ≡ is_free marks p) × (set marks (p % n) (bit_or (get_or marks (p % n) 0) (1 * 2 ^ (p / n) % 2 ^ 8)) ≡ taking marks p)
  take_free h e =
      let z : mark_at marks p ≡ 0 = sym mark-is ∙ e in
      let free = clear_free marks p (omega arith) z in
      let k : p / n < places_per_byte = (div-lt_iff_lt-mul {k = n} {x = p} {y = places_per_byte} (omega arith)).1 h in
      (sym free, rw (bit_or_lem (get_or marks (p % n) 0) (p / n) (rw s at z) k) (rw (taking_free marks p free, s)))
