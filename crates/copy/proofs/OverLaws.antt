-- Laws of `specs/Over.antt`.
-- Assumes nothing.
use mathlib.Core.Path.{◌≡◌, refl, ◌∙◌}
use mathlib.Core.List.{List, ◌++◌, append_assoc}
use mathlib.Core.Bool.{Bool, true, false}
use Prim.Native.Nat.{ℕ, ◌+◌, ◌≤◌, ◌<◌, min}
use native.Mathlib.Nat.{zero-add}
use native.Mathlib.Numerals.{add-one}
use native.Mathlib.Omega.{arith}
use lib.ListN.{length, get_or, set, take, drop, length-append, length-take, length-drop, take-append-drop, drop_of_length-le}
use lib.Dec.{leb}
use borrow.Author.Tests.{leb-true, leb-false}
use lib.Seq.{paste-suc, drop-append-le, take_all, take-length, drop-length}
use Rattle.copy.specs.Over.{over, front}

-- a store takes the copy of the first i bytes to the copy of one more
pub front_more : (from to : List ℕ) (i : ℕ) → i < length from → i < length to →
    set (take i from ++ drop i to) i (get_or from i 0) ≡ take (i + 1) from ++ drop (i + 1) to
front_more from to i h k = rw add-one (simp zero-add at (paste-suc to 0 from i 0 (omega arith) h))

-- bytes for which there is room all go over the front
pub front_fits : (area bytes : List ℕ) → length bytes ≤ length area → front area bytes ≡ bytes ++ drop (length bytes) area
front_fits area bytes h = rw (take_all {A = ℕ} (length area) bytes h)

-- the copy of as many bytes as both have is the copy of all of them
pub front_whole : (area bytes : List ℕ) (i : ℕ) → i ≡ min (length area) (length bytes) → take i bytes ++ drop i area ≡ front area bytes
front_whole area bytes i e = go (leb (length bytes) (length area)) refl
  where
    go : (b : Bool) → leb (length bytes) (length area) ≡ b → take i bytes ++ drop i area ≡ front area bytes
    go true t =
        let h : length bytes ≤ length area = leb-true _ _ t in
        let f : i ≡ length bytes = omega arith in
        rw (f, take-length bytes, take_all {A = ℕ} (length area) bytes h)
    go false t =
        let h : length area < length bytes = leb-false _ _ t in
        let f : i ≡ length area = omega arith in
        rw (f, drop-length area, drop_of_length-le area {i = length bytes} (omega arith))

-- bytes that went over the front of a lent part: the area when the part is back
pub part_back : (area bytes part : List ℕ) (at n : ℕ) → length bytes ≤ length (take n (drop at area)) →
    part ≡ front (take n (drop at area)) bytes →
    take at area ++ (part ++ drop n (drop at area)) ≡ over area at bytes
part_back area bytes part at n h e =
    rw (
      e ∙ front_fits (take n (drop at area)) bytes h,
      append_assoc bytes (drop (length bytes) (take n (drop at area))) (drop n (drop at area)),
      ← drop-append-le (length bytes) (take n (drop at area)) (drop n (drop at area)) h,
      take-append-drop,
    )

pub length_over : (area : List ℕ) (at : ℕ) (bytes : List ℕ) → at + length bytes ≤ length area →
    length (over area at bytes) ≡ length area
length_over area at bytes h = simp (length-append, length-take, length-drop) (omega arith)
