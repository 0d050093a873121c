-- What overwrites bytes of an area, whatever they were: areas that agreed elsewhere agree there too, and no other byte is changed.
-- Assumes nothing.
use mathlib.Core.Path.{◌≡◌, refl, sym, ap, ◌∙◌}
use mathlib.Core.Bool.{Bool, true, false}
use mathlib.Core.List.{List, [], ◌∷◌, ◌++◌, append_assoc}
use mathlib.Core.Logic.{◌⊎◌, inl, inr, ⊎_elim}
use Prim.Native.Nat.{ℕ, ◌+◌, ◌-◌, ◌*◌, ◌/◌, ◌≤◌, ◌<◌}
use native.Mathlib.Omega.{arith}
use borrow.Author.Tests.{ltb-true, ltb-false, leb-true, leb-false, eqb-true, eqb-false, lt-ltb, le-ltb, le-leb}
use lib.Dec.{leb, ltb, eqb}
use lib.ListN.{length, take, drop, get_or, set, replicate, length-drop, length-set, length-replicate, get_or-append}
use lib.Seq.{drop-drop, length-take-le, get_or-take, get_or-drop, get_or-append-add, get_or-set_same, get_or-set_other}
use Rattle.text.specs.Choice.{both, either}
use Rattle.text.proofs.ChoiceLaws.{bool, both_true, either_false, either_or_false}
use Rattle.ranges.specs.Walk.{AllBelow}
use Rattle.ranges.proofs.WalkLaws.{below_head, below_tail}
use Rattle.state.specs.Limits.{block_bytes}
use Rattle.copy.specs.Over.{over}
use Rattle.copy.proofs.OverLaws.{length_over}
use Rattle.rules.specs.Move.{is_in}
use Rattle.updater.specs.Bytes.{zeroed, written, moved_down}
use Rattle.restart.specs.Writes.{Outside}
use Rattle.restart.proofs.OutsideLaws.{outside-none}

-- f, on areas of n bytes, sets the bytes W whatever they were, and leaves the others
pub record Overwrites (W : ℕ → Bool) (n : ℕ) (f : List ℕ → List ℕ) : Type 0 where
  pub size : (a : List ℕ) → length a ≡ n → length (f a) ≡ n
  pub sets : (a b : List ℕ) → length a ≡ n → length b ≡ n → (k : ℕ) → W k ≡ true → get_or (f b) k 0 ≡ get_or (f a) k 0
  pub leaves : (a : List ℕ) → length a ≡ n → (k : ℕ) → W k ≡ false → get_or (f a) k 0 ≡ get_or a k 0

module _ {W : ℕ → Bool} {n : ℕ} {f : List ℕ → List ℕ} (o : Overwrites W n f) where
  -- areas agree outside L, where they agreed outside L and the bytes that are set
  pub overwritten_outside : (L : ℕ → Bool) (a b : List ℕ) → length a ≡ n → Outside (λ k. either (W k) (L k)) a b → Outside L (f a) (f b)
  overwritten_outside L a b h d =
      let g = d.size ∙ h in
      record {
        size = o.size b g ∙ sym (o.size a h);
        others = λ k e.
            ⊎_elim
            (λ (t : W k ≡ true). o.sets a b h g k t)
            (λ (t : W k ≡ false). o.leaves b g k t ∙ d.others k (rw (t, e)) ∙ sym (o.leaves a h k t))
            (bool (W k));
      }

  pub overwritten_same : (a b : List ℕ) → length a ≡ n → Outside W a b → f b ≡ f a
  overwritten_same a b h d =
      outside-none (λ k. refl)
      (overwritten_outside (λ k. false) a b h
      (record { size = d.size; others = λ k e. d.others k (either_false (W k) false e).0 }))

  pub overwritten_only : (a : List ℕ) → length a ≡ n → Outside W a (f a)
  overwritten_only a h = record { size = o.size a h ∙ sym h; others = λ k e. o.leaves a h k e }

  -- the same bytes, said in another way
  pub overwrites_as : (L : ℕ → Bool) → ((k : ℕ) → L k ≡ W k) → Overwrites L n f
  overwrites_as L e =
      record { size = o.size; sets = λ a b h g k t. o.sets a b h g k (sym (e k) ∙ t); leaves = λ a h k t. o.leaves a h k (sym (e k) ∙ t) }

pub overwrites_nothing : (n : ℕ) → Overwrites (λ k. false) n (λ a. a)
overwrites_nothing n =
    record { size = λ a h. h; sets = λ a b h g k t. let z : ◌≡◌ {A = ℕ} 0 1 = cc in absurd (omega arith); leaves = λ a h k t. refl }

-- .. and then others
pub overwrites_then : {L W : ℕ → Bool} {n : ℕ} {f g : List ℕ → List ℕ} → Overwrites L n f → Overwrites W n g →
    Overwrites (λ k. either (L k) (W k)) n (λ a. g (f a))
overwrites_then {L} {W} {n} {f} {g} o p =
    record {
      size = λ a h. p.size (f a) (o.size a h);
      sets = λ a b h i k t.
          let x = o.size a h in
          let y = o.size b i in
          ⊎_elim
          (λ (u : W k ≡ true). p.sets (f a) (f b) x y k u)
          (λ (u : W k ≡ false).
          p.leaves (f b) y k u ∙ o.sets a b h i k (either_or_false (L k) ∙ rw u at t) ∙ sym (p.leaves (f a) x k u))
          (bool (W k));
      leaves = λ a h k t.
          let e = either_false (L k) (W k) t in
          p.leaves (f a) (o.size a h) k e.1 ∙ o.leaves a h k e.0;
    }

-- ---- bytes over an area

-- n bytes from a position on
abbrev pub within : ℕ → ℕ → ℕ → Bool
within at n k = both (leb at k) (ltb k (at + n))

pub not_within : (at n k : ℕ) → within at n k ≡ false → (k < at) ⊎ (at + n ≤ k)
not_within at n k h =
    ⊎_elim
    (λ (t : leb at k ≡ true). inr (ltb-false k (at + n) (rw t at h)))
    (λ (t : leb at k ≡ false). inl (leb-false at k t))
    (bool (leb at k))

pub past-within : (at n k : ℕ) → at + n ≤ k → within at n k ≡ false
past-within at n k h = rw (le-leb at k (omega arith), le-ltb k (at + n) h)

pub none_within : (at n k : ℕ) → n ≡ 0 → within at n k ≡ false
none_within at n k e =
    ⊎_elim
    (λ (t : leb at k ≡ true). let l = leb-true at k t in past-within at n k (omega arith))
    (λ (t : leb at k ≡ false). rw t)
    (bool (leb at k))

module _ (area : List ℕ) (at : ℕ) (bytes : List ℕ) (h : at ≤ length area) where
  over-before : (k : ℕ) → k < at → get_or (over area at bytes) k 0 ≡ get_or area k 0
  over-before k l =
      get_or-append (take at area) (bytes ++ drop (length bytes) (drop at area)) 0 k (omega (arith, length-take-le at area h))
      ∙ get_or-take at area k 0 l

  over-past : (k : ℕ) → at + length bytes ≤ k → get_or (over area at bytes) k 0 ≡ get_or area k 0
  over-past k l =
      let n = length bytes in
      let j = k - (at + n) in
      let rest = drop n (drop at area) in
      let e : k ≡ length (take at area) + (n + j) = omega (arith, length-take-le at area h) in
      let f : at + (n + j) ≡ k = omega arith in
      ap (λ (i : ℕ). get_or (over area at bytes) i 0) e
      ∙ get_or-append-add (take at area) (bytes ++ rest) (n + j) 0
      ∙ get_or-append-add bytes rest j 0
      ∙ get_or-drop n (drop at area) j 0
      ∙ get_or-drop at area (n + j) 0
      ∙ ap (λ (i : ℕ). get_or area i 0) f

  over_in : (k : ℕ) → at ≤ k → k < at + length bytes → get_or (over area at bytes) k 0 ≡ get_or bytes (k - at) 0
  over_in k l m =
      let e : k ≡ length (take at area) + (k - at) = omega (arith, length-take-le at area h) in
      ap (λ (j : ℕ). get_or (over area at bytes) j 0) e
      ∙ get_or-append-add (take at area) (bytes ++ drop (length bytes) (drop at area)) (k - at) 0
      ∙ get_or-append bytes (drop (length bytes) (drop at area)) 0 (k - at) (omega arith)

pub overwrites_over : (n at size : ℕ) (bytes : List ℕ) → length bytes ≡ size → at + size ≤ n → Overwrites (within at size) n (λ a. over a at bytes)
overwrites_over n at size bytes e room =
    record {
      size = λ a h. length_over a at bytes (omega arith) ∙ h;
      sets = λ a b h i k t.
          let w = both_true (leb at k) (ltb k (at + size)) t in
          let l = leb-true at k w.0 in
          let m = ltb-true k (at + size) w.1 in
          over_in b at bytes (omega arith) k l (omega arith) ∙ sym (over_in a at bytes (omega arith) k l (omega arith));
      leaves = λ a h k t.
          ⊎_elim (λ l. over-before a at bytes (omega arith) k l) (λ l. over-past a at bytes (omega arith) k (omega arith)) (not_within at size k t);
    }

-- ---- over the blocks of a set

block_within : (b k : ℕ) → eqb (k / block_bytes) b ≡ within (block_bytes * b) block_bytes k
block_within b k = go (eqb (k / block_bytes) b) refl
  where
    go : (t : Bool) → eqb (k / block_bytes) b ≡ t → t ≡ within (block_bytes * b) block_bytes k
    go true e =
        let q = eqb-true (k / block_bytes) b e in
        rw (le-leb (block_bytes * b) k (omega arith), lt-ltb k (block_bytes * b + block_bytes) (omega arith))
    go false e =
        let q = eqb-false (k / block_bytes) b e in
        ⊎_elim
        (λ (t : within (block_bytes * b) block_bytes k ≡ true).
        let w = both_true (leb (block_bytes * b) k) (ltb k (block_bytes * b + block_bytes)) t in
        let l = leb-true (block_bytes * b) k w.0 in
        let m = ltb-true k (block_bytes * b + block_bytes) w.1 in
        absurd (q (omega arith)))
        (λ t. sym t)
        (bool (within (block_bytes * b) block_bytes k))

-- one block
overwrites_block : (n b : ℕ) (bytes : List ℕ) → b < n / block_bytes → length bytes ≡ block_bytes →
    Overwrites (λ k. eqb (k / block_bytes) b) n (λ a. over a (block_bytes * b) bytes)
overwrites_block n b bytes h e =
    overwrites_as (overwrites_over n (block_bytes * b) block_bytes bytes e (omega arith)) (λ k. eqb (k / block_bytes) b) (block_within b)

pub overwrites_written : (n : ℕ) (bs bytes : List ℕ) → AllBelow (n / block_bytes) bs → block_bytes * length bs ≤ length bytes →
    Overwrites (λ k. is_in (k / block_bytes) bs) n (written bs bytes)
unfolding written is_in
overwrites_written n [] bytes h l = overwrites_nothing n
overwrites_written n (b ∷ bs) bytes h l =
    overwrites_then
    (overwrites_block n b (take block_bytes bytes) (below_head _ _ _ h) (length-take-le block_bytes bytes (omega arith)))
    (overwrites_written n bs (drop block_bytes bytes) (below_tail _ _ _ h) (simp length-drop (omega arith)))

pub overwrites_zeroed : (n : ℕ) (bs : List ℕ) → AllBelow (n / block_bytes) bs → Overwrites (λ k. is_in (k / block_bytes) bs) n (zeroed bs)
unfolding zeroed is_in
overwrites_zeroed n [] h = overwrites_nothing n
overwrites_zeroed n (b ∷ bs) h =
    overwrites_then
    (overwrites_block n b (replicate block_bytes 0) (below_head _ _ _ h) (length-replicate {A = ℕ} block_bytes 0))
    (overwrites_zeroed n bs (below_tail _ _ _ h))

-- ---- one byte

pub overwrites_set : (n i x : ℕ) → i < n → Overwrites (λ k. eqb k i) n (λ a. set a i x)
overwrites_set n i x l =
    record {
      size = λ a h. length-set a i x ∙ h;
      sets = λ a b h j k t. rw (eqb-true k i t) (get_or-set_same b i x 0 (omega arith) ∙ sym (get_or-set_same a i x 0 (omega arith)));
      leaves = λ a h k t. get_or-set_other a i k x 0 (eqb-false k i t);
    }

-- ---- bytes moved down are bytes written over

pub moved-is-over : (area : List ℕ) (to from n : ℕ) → from + n ≤ length area → moved_down area to from n ≡ over area to (take n (drop from area))
unfolding moved_down
moved-is-over area to from n h =
    let l : length (take n (drop from area)) ≡ n = length-take-le n (drop from area) (simp length-drop (omega arith)) in
    rw (l, drop-drop n to area) (append_assoc (take to area) (take n (drop from area)) (drop (to + n) area))
