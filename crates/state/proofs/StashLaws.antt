-- Laws of lists of stashes: hashes that are the same, a hash among the stashes, no hash twice, none of no blocks, their blocks, and one taken out.
-- Assumes nothing.
use mathlib.Core.Path.{◌≡◌, refl, sym, ap, ap₂, ◌∙◌}
use mathlib.Core.Bool.{Bool, true, false, ◌&&◌}
use mathlib.Core.List.{List, [], ◌∷◌, ◌++◌}
use Prim.Native.Nat.{ℕ, zero, suc, ◌+◌, ◌≤◌, ◌<◌}
use native.Mathlib.Numerals.{add-one}
use native.Mathlib.Omega.{arith}
use borrow.Author.Tests.{eqb-true, eqb-false, eq-eqb, ne_eqb}
use lib.Dec.{eqb, eqb-zero-suc, eqb-suc-zero, eqb-suc-suc}
use lib.ListN.{length, take, drop, take-append-drop}
use lib.Pointwise.{pointwise}
use Rattle.text.specs.Choice.{pick, both, either}
use Rattle.text.proofs.ChoiceLaws.{both_true, either_false}
use Rattle.state.specs.Stashes.{Stash, same, shift, find_in, is_held, held_twice, holds_empty, size_at, blocks_held, without}
use Rattle.std.specs.Prelude.{Option, Some, None}

-- ---- hashes that are the same

eqb_sym : (a b : ℕ) → eqb a b ≡ eqb b a
eqb_sym zero zero = refl
eqb_sym zero (suc b) = eqb-zero-suc b ∙ sym (eqb-suc-zero b)
eqb_sym (suc a) zero = eqb-suc-zero a ∙ sym (eqb-zero-suc a)
eqb_sym (suc a) (suc b) = eqb-suc-suc a b ∙ eqb_sym a b ∙ sym (eqb-suc-suc b a)

pub same_refl : (a : List ℕ) → same a a ≡ true
unfolding same
same_refl [] = refl
same_refl (x ∷ xs) = rw (eq-eqb x x refl) (same_refl xs)

pub same-sym : (a b : List ℕ) → same a b ≡ same b a
unfolding same
same-sym [] [] = refl
same-sym [] (y ∷ ys) = refl
same-sym (x ∷ xs) [] = refl
same-sym (x ∷ xs) (y ∷ ys) = rw (eqb_sym x y, same-sym xs ys)

pub same_eq : (a b : List ℕ) → same a b ≡ true → a ≡ b
unfolding same
same_eq [] [] e = refl
same_eq [] (y ∷ ys) e = absurd (let z : ◌≡◌ {A = ℕ} 0 1 = cc in omega arith)
same_eq (x ∷ xs) [] e = absurd (let z : ◌≡◌ {A = ℕ} 0 1 = cc in omega arith)
same_eq (x ∷ xs) (y ∷ ys) e =
    let b = both_true (eqb x y) (same xs ys) e in
    ap₂ (λ (n : ℕ) (l : List ℕ). n ∷ l) (eqb-true x y b.0) (same_eq xs ys b.1)

-- what `==` says of two slices of bytes
pub same_pointwise : (a b : List ℕ) → pointwise eqb a b ≡ same a b
unfolding same
same_pointwise [] [] = refl
same_pointwise [] (y ∷ ys) = refl
same_pointwise (x ∷ xs) [] = refl
same_pointwise (x ∷ xs) (y ∷ ys) = go (eqb x y) (same_pointwise xs ys)
  where
    go : (b : Bool) → pointwise eqb xs ys ≡ same xs ys → (b && pointwise eqb xs ys) ≡ both b (same xs ys)
    go true e = e
    go false e = refl

-- ---- a hash among the stashes

pub find_held : (xs : List Stash) (hash : List ℕ) {j : ℕ} → find_in xs hash ≡ Some j → (j < length xs) × (is_held xs hash ≡ true)
unfolding find_in is_held
find_held [] hash e = absurd (let z : ◌≡◌ {A = ℕ} 0 1 = cc in omega arith)
find_held (x ∷ xs) hash {j} e = go (same x.hash hash) (find_in xs hash) (λ i. find_held xs hash {j = i}) e
  where
    go : (b : Bool) (f : Option ℕ) → ((i : ℕ) → f ≡ Some i → (i < length xs) × (is_held xs hash ≡ true))
        → pick b (Some 0) (shift f) ≡ Some j → (j < suc (length xs)) × (either b (is_held xs hash) ≡ true)
    go true f h p = (let q : j ≡ 0 = cc in omega arith, refl)
    go false (Some i) h p = (let q : j ≡ i + 1 = cc in omega (arith, (h i refl).0), (h i refl).1)
    go false None h p = absurd (let z : ◌≡◌ {A = ℕ} 0 1 = cc in omega arith)

pub find_nothing : (xs : List Stash) (hash : List ℕ) → find_in xs hash ≡ None → is_held xs hash ≡ false
unfolding find_in is_held
find_nothing [] hash e = refl
find_nothing (x ∷ xs) hash e = go (same x.hash hash) (find_in xs hash) (find_nothing xs hash) e
  where
    go : (b : Bool) (f : Option ℕ) → (f ≡ None → is_held xs hash ≡ false) → pick b (Some 0) (shift f) ≡ None
        → either b (is_held xs hash) ≡ false
    go true f h p = absurd (let z : ◌≡◌ {A = ℕ} 0 1 = cc in omega arith)
    go false (Some i) h p = absurd (let z : ◌≡◌ {A = ℕ} 0 1 = cc in omega arith)
    go false None h p = h refl

pub not_held-nothing : (xs : List Stash) (hash : List ℕ) → is_held xs hash ≡ false → find_in xs hash ≡ None
unfolding find_in is_held
not_held-nothing [] hash e = refl
not_held-nothing (x ∷ xs) hash e =
    let p = either_false (same x.hash hash) (is_held xs hash) e in
    rw (p.0, not_held-nothing xs hash p.1)

pub is_held-append : (xs ys : List Stash) (hash : List ℕ) → is_held (xs ++ ys) hash ≡ either (is_held xs hash) (is_held ys hash)
unfolding is_held
is_held-append [] ys hash = refl
is_held-append (x ∷ xs) ys hash = go (same x.hash hash) (is_held-append xs ys hash)
  where
    go : (b : Bool) → is_held (xs ++ ys) hash ≡ either (is_held xs hash) (is_held ys hash)
        → either b (is_held (xs ++ ys) hash) ≡ either (either b (is_held xs hash)) (is_held ys hash)
    go true e = refl
    go false e = e

pub not_held-without : (xs : List Stash) (j : ℕ) (hash : List ℕ) → is_held xs hash ≡ false → is_held (without xs j) hash ≡ false
unfolding is_held without
not_held-without [] j hash e = refl
not_held-without (x ∷ xs) zero hash e = (either_false (same x.hash hash) (is_held xs hash) e).1
not_held-without (x ∷ xs) (suc j) hash e =
    let p = either_false (same x.hash hash) (is_held xs hash) e in
    rw p.0 (not_held-without xs j hash p.1)

-- ---- no hash twice

pub twice_append : (xs : List Stash) (x : Stash) → held_twice xs ≡ false → is_held xs x.hash ≡ false → held_twice (xs ++ (x ∷ [])) ≡ false
unfolding held_twice is_held
twice_append [] x e h = refl
twice_append (y ∷ ys) x e h =
    let p = either_false (is_held ys y.hash) (held_twice ys) e in
    let q = either_false (same y.hash x.hash) (is_held ys x.hash) h in
    rw (is_held-append ys (x ∷ []) y.hash, p.0, same-sym x.hash y.hash, q.0) (twice_append ys x p.1 q.1)

pub twice_without : (xs : List Stash) (j : ℕ) → held_twice xs ≡ false → held_twice (without xs j) ≡ false
unfolding held_twice without
twice_without [] j e = refl
twice_without (x ∷ xs) zero e = (either_false (is_held xs x.hash) (held_twice xs) e).1
twice_without (x ∷ xs) (suc j) e =
    let p = either_false (is_held xs x.hash) (held_twice xs) e in
    rw (not_held-without xs j x.hash p.0) (twice_without xs j p.1)

-- ---- no stash of no blocks

pub holds_empty-at : (xs : List Stash) → holds_empty xs ≡ false → (j : ℕ) → j < length xs → 0 < size_at xs j
unfolding holds_empty size_at
holds_empty-at [] e j l = absurd (omega arith)
holds_empty-at (x ∷ xs) e zero l =
    let n = eqb-false x.blocks 0 (either_false (eqb x.blocks 0) (holds_empty xs) e).0 in
    omega arith
holds_empty-at (x ∷ xs) e (suc j) l = holds_empty-at xs (either_false (eqb x.blocks 0) (holds_empty xs) e).1 j (omega arith)

pub holds_empty-more : (xs : List Stash) (hash : List ℕ) (blocks : ℕ) → holds_empty xs ≡ false → 0 < blocks
    → holds_empty (xs ++ (record { hash = hash; blocks = blocks } ∷ [])) ≡ false
unfolding holds_empty
holds_empty-more [] hash blocks e l = rw (ne_eqb blocks 0 (λ n. omega arith))
holds_empty-more (x ∷ xs) hash blocks e l =
    let p = either_false (eqb x.blocks 0) (holds_empty xs) e in
    rw p.0 (holds_empty-more xs hash blocks p.1 l)

pub holds_empty-without : (xs : List Stash) (j : ℕ) → holds_empty xs ≡ false → holds_empty (without xs j) ≡ false
unfolding holds_empty without
holds_empty-without [] j e = refl
holds_empty-without (x ∷ xs) zero e = (either_false (eqb x.blocks 0) (holds_empty xs) e).1
holds_empty-without (x ∷ xs) (suc j) e =
    let p = either_false (eqb x.blocks 0) (holds_empty xs) e in
    rw p.0 (holds_empty-without xs j p.1)

-- ---- blocks

pub size_past : (xs : List Stash) (j : ℕ) → length xs ≤ j → size_at xs j ≡ 0
unfolding size_at
size_past [] j h = refl
size_past (x ∷ xs) zero h = absurd (omega arith)
size_past (x ∷ xs) (suc j) h = size_past xs j (omega arith)

pub blocks_held-append : (xs ys : List Stash) → blocks_held (xs ++ ys) ≡ blocks_held xs + blocks_held ys
unfolding blocks_held
blocks_held-append [] ys = omega arith
blocks_held-append (x ∷ xs) ys = omega (arith, blocks_held-append xs ys)

pub blocks_held-next : (xs : List Stash) (j : ℕ) → blocks_held (take (j + 1) xs) ≡ blocks_held (take j xs) + size_at xs j
unfolding blocks_held size_at
blocks_held-next xs j = rw add-one (go xs j)
  where
    go : (xs : List Stash) (j : ℕ) → blocks_held (take (suc j) xs) ≡ blocks_held (take j xs) + size_at xs j
    go [] zero = refl
    go [] (suc j) = refl
    go (x ∷ xs) zero = omega arith
    go (x ∷ xs) (suc j) = omega (arith, go xs j)

pub blocks_held-before : (xs : List Stash) (j : ℕ) → blocks_held (take j xs) + size_at xs j ≤ blocks_held xs
blocks_held-before xs j =
    let e = ap blocks_held (take-append-drop (j + 1) xs) in
    omega (arith, e, blocks_held-append (take (j + 1) xs) (drop (j + 1) xs), blocks_held-next xs j)

pub blocks_held-without : (xs : List Stash) (j : ℕ) → blocks_held (without xs j) + size_at xs j ≡ blocks_held xs
unfolding blocks_held without size_at
blocks_held-without [] j = omega arith
blocks_held-without (x ∷ xs) zero = omega arith
blocks_held-without (x ∷ xs) (suc j) = omega (arith, blocks_held-without xs j)

-- ---- one taken out

pub without_at : (xs : List Stash) (x : Stash) (ys : List Stash) (n : ℕ) → length xs ≡ n → without (xs ++ (x ∷ ys)) n ≡ xs ++ ys
unfolding without
without_at [] x ys zero e = refl
without_at [] x ys (suc n) e = absurd (omega arith)
without_at (y ∷ xs) x ys zero e = absurd (omega arith)
without_at (y ∷ xs) x ys (suc n) e = ap (λ (l : List Stash). y ∷ l) (without_at xs x ys n (omega arith))

pub without-past : (xs : List Stash) (j : ℕ) → length xs ≤ j → without xs j ≡ xs
unfolding without
without-past [] j h = refl
without-past (x ∷ xs) zero h = absurd (omega arith)
without-past (x ∷ xs) (suc j) h = ap (λ (l : List Stash). x ∷ l) (without-past xs j (omega arith))

pub length_without : (xs : List Stash) (j : ℕ) → j < length xs → length (without xs j) + 1 ≡ length xs
unfolding without
length_without [] j h = absurd (omega arith)
length_without (x ∷ xs) zero h = omega arith
length_without (x ∷ xs) (suc j) h = omega (arith, length_without xs j (omega arith))
