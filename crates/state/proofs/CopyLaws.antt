-- Laws of copies into a list: what a copy leaves, and what it brings.
-- Assumes nothing.
use mathlib.Core.Path.{◌≡◌, sym, ap, ◌∙◌}
use mathlib.Core.List.{List, ◌++◌}
use Prim.Native.Nat.{ℕ, ◌+◌, ◌≤◌, ◌<◌}
use native.Mathlib.Omega.{arith}
use lib.ListN.{length, take, drop, get_or, length-append, length-drop, take-append-drop, get_or-append}
use lib.Seq.{paste, take-append-le, drop-append-le, drop-append-add}
use lib.Seq.{get_or-append-add, get_or-take, length-take-le}

module _ (xs ys : List ℕ) (a k : ℕ) where
  part_left : a + k ≤ length xs → take k (drop a (xs ++ ys)) ≡ take k (drop a xs)
  part_left h =
      let p : a ≤ length xs = omega arith in
      let q : k ≤ length (drop a xs) = simp length-drop (omega arith) in
      rw (drop-append-le a xs ys p, take-append-le k (drop a xs) ys q)

module _ (d s : List ℕ) (at n : ℕ) (room : at + n ≤ length d) (enough : n ≤ length s) where
  -- what a copy leaves before it
  pub part_before : (a k : ℕ) → a + k ≤ at → take k (drop a (paste d at s n)) ≡ take k (drop a d)
  part_before a k h =
      let l : at ≤ length (take at d) = omega (arith, length-take-le at d (omega arith)) in
      part_left (take at d ++ take n s) (drop (at + n) d) a k (simp length-append (omega arith))
      ∙ part_left (take at d) (take n s) a k (omega arith)
      ∙ sym (part_left (take at d) (drop at d) a k (omega arith))
      ∙ ap (λ (l : List ℕ). take k (drop a l)) (take-append-drop at d)

  -- what a copy brings
  pub part_within : (a k : ℕ) → a + k ≤ n → take k (drop (at + a) (paste d at s n)) ≡ take k (drop a s)
  part_within a k h =
      let l : length (take at d) ≡ at = length-take-le at d (omega arith) in
      let m : length (take n s) ≡ n = length-take-le n s enough in
      part_left (take at d ++ take n s) (drop (at + n) d) (at + a) k (simp length-append (omega arith))
      ∙ ap (λ (i : ℕ). take k (drop (i + a) (take at d ++ take n s))) (sym l)
      ∙ ap (λ (l : List ℕ). take k l) (drop-append-add (take at d) (take n s) a)
      ∙ sym (part_left (take n s) (drop n s) a k (omega arith))
      ∙ ap (λ (l : List ℕ). take k (drop a l)) (take-append-drop n s)

  pub read-before : (i : ℕ) → i < at → get_or (paste d at s n) i 0 ≡ get_or d i 0
  read-before i h =
      let l : length (take at d) ≡ at = length-take-le at d (omega arith) in
      get_or-append (take at d ++ take n s) (drop (at + n) d) 0 i (simp length-append (omega arith))
      ∙ get_or-append (take at d) (take n s) 0 i (omega arith)
      ∙ get_or-take at d i 0 h

  pub read-within : (i : ℕ) → i < n → get_or (paste d at s n) (at + i) 0 ≡ get_or s i 0
  read-within i h =
      let l : length (take at d) ≡ at = length-take-le at d (omega arith) in
      let m : length (take n s) ≡ n = length-take-le n s enough in
      get_or-append (take at d ++ take n s) (drop (at + n) d) 0 (at + i) (simp length-append (omega arith))
      ∙ ap (λ (k : ℕ). get_or (take at d ++ take n s) (k + i) 0) (sym l)
      ∙ get_or-append-add (take at d) (take n s) i 0
      ∙ get_or-take n s i 0 h
