-- Laws of the entries in the table's two arrays: one by one, with one more written, and with one closed up.
-- Assumes nothing.
use mathlib.Core.Path.{◌≡◌, refl, sym, ap, ap₂, ◌∙◌}
use mathlib.Core.Bool.{Bool, true, false, ◌||◌}
use mathlib.Core.List.{List, [], ◌∷◌, ◌++◌}
use Prim.Native.Nat.{ℕ, zero, suc, ◌+◌, ◌-◌, ◌*◌, ◌≤◌, ◌<◌}
use native.Mathlib.Nat.{add-zero}
use native.Mathlib.Numerals.{add-one}
use native.Mathlib.Omega.{arith}
use lib.Dec.{eqb}
use lib.ListN.{length, take, drop, get_or, set, length-drop}
use lib.Seq.{paste, drop-cons, take_all, drop-drop, get_or-drop, get_or-set_same, get_or-set_other}
use Rattle.std.specs.List.{list_any}
use Rattle.text.specs.Choice.{either}
use Rattle.text.specs.Hash.{hash_bytes}
use Rattle.std.specs.Prelude.{Option, Some, None}
use Rattle.state.specs.Stashes.{Stash, entry_hash, entry_at, entries, same, shift, find_in, is_held, held_twice, holds_empty, size_at, without}
use Rattle.state.proofs.CopyLaws.{part_before, part_within, read-before, read-within}
use Rattle.state.proofs.StashLaws.{without_at}

module _ (h z : List ℕ) where
  pub length-entries : (k n : ℕ) → length (entries h z k n) ≡ n
  unfolding entries
  length-entries k zero = refl
  length-entries k (suc n) = ap suc (length-entries (k + 1) n)

  -- entry j, and those after it
  pub entries_next : (j n : ℕ) → j < n → entries h z j (n - j) ≡ entry_at h z j ∷ entries h z (j + 1) (n - (j + 1))
  unfolding entries
  entries_next j n l =
      let e : n - j ≡ suc (n - (j + 1)) = omega arith in
      rw e

  entries-append : (k n m : ℕ) → entries h z k (n + m) ≡ entries h z k n ++ entries h z (k + n) m
  unfolding entries
  entries-append k zero m =
      let e : 0 + m ≡ m = omega arith in
      let f : k + 0 ≡ k = omega arith in
      rw (e, f)
  entries-append k (suc n) m =
      let e : suc n + m ≡ suc (n + m) = omega arith in
      let f : k + suc n ≡ k + 1 + n = omega arith in
      rw (e, f) (ap (λ (l : List Stash). entry_at h z k ∷ l) (entries-append (k + 1) n m))

  pub size-entries : (k n j : ℕ) → j < n → size_at (entries h z k n) j ≡ get_or z (k + j) 0
  unfolding entries size_at
  size-entries k zero j l = absurd (omega arith)
  size-entries k (suc n) zero l = rw add-zero
  size-entries k (suc n) (suc j) l =
      let e : k + suc j ≡ k + 1 + j = omega arith in
      rw e (size-entries (k + 1) n j (omega arith))

-- ---- looking on from entry j

-- what is found k entries on
abbrev pub later : ℕ → Option ℕ → Option ℕ
later k (Some j) = Some (k + j)
later k None = None

later-shift : (k : ℕ) (f : Option ℕ) → later k (shift f) ≡ later (k + 1) f
later-shift k (Some j) =
    let e : k + (j + 1) ≡ k + 1 + j = omega arith in
    rw e
later-shift k None = refl

module _ (h z hash : List ℕ) (j n : ℕ) where
  pub find_here : j < n → same (entry_hash h j) hash ≡ true → later j (find_in (entries h z j (n - j)) hash) ≡ Some j
  unfolding find_in
  find_here l e = rw (entries_next h z j n l, e, add-zero)

  pub find_on : j < n → same (entry_hash h j) hash ≡ false
      → later j (find_in (entries h z j (n - j)) hash) ≡ later (j + 1) (find_in (entries h z (j + 1) (n - (j + 1))) hash)
  unfolding find_in
  find_on l e = rw (entries_next h z j n l, e) (later-shift j _)

  pub find_end : n ≤ j → later j (find_in (entries h z j (n - j)) hash) ≡ None
  unfolding find_in entries
  find_end l =
      let e : n - j ≡ 0 = omega arith in
      rw e

  pub again_here : j < n → same (entry_hash h j) hash ≡ true → is_held (entries h z j (n - j)) hash ≡ true
  unfolding is_held
  again_here l e = rw (entries_next h z j n l, e)

  pub again_on : j < n → same (entry_hash h j) hash ≡ false
      → is_held (entries h z j (n - j)) hash ≡ is_held (entries h z (j + 1) (n - (j + 1))) hash
  unfolding is_held
  again_on l e = rw (entries_next h z j n l, e)

  pub again_end : n ≤ j → is_held (entries h z j (n - j)) hash ≡ false
  unfolding is_held entries
  again_end l =
      let e : n - j ≡ 0 = omega arith in
      rw e

module _ (h z : List ℕ) (j n : ℕ) where
  pub twice_here : j < n → is_held (entries h z (j + 1) (n - (j + 1))) (entry_hash h j) ≡ true → held_twice (entries h z j (n - j)) ≡ true
  unfolding held_twice
  twice_here l e = rw (entries_next h z j n l, e)

  pub twice_on : j < n → is_held (entries h z (j + 1) (n - (j + 1))) (entry_hash h j) ≡ false
      → held_twice (entries h z j (n - j)) ≡ held_twice (entries h z (j + 1) (n - (j + 1)))
  unfolding held_twice
  twice_on l e = rw (entries_next h z j n l, e)

  pub twice_end : n ≤ j → held_twice (entries h z j (n - j)) ≡ false
  unfolding held_twice entries
  twice_end l =
      let e : n - j ≡ 0 = omega arith in
      rw e

-- some stash has no blocks where one of the sizes is 0
pub empty_entries : (h z : List ℕ) (k n : ℕ) → k + n ≤ length z
    → list_any (λ y. eqb y 0) (take n (drop k z)) ≡ holds_empty (entries h z k n)
unfolding holds_empty entries
empty_entries h z k zero l = refl
empty_entries h z k (suc n) l =
    rw (drop-cons z k 0 (omega arith), ← add-one k) (one (eqb (get_or z k 0) 0) (empty_entries h z (k + 1) n (omega arith)))
  where
    one : (b : Bool) → list_any (λ y. eqb y 0) (take n (drop (k + 1) z)) ≡ holds_empty (entries h z (k + 1) n)
        → (b || list_any (λ y. eqb y 0) (take n (drop (k + 1) z))) ≡ either b (holds_empty (entries h z (k + 1) n))
    one true e = refl
    one false e = e

-- ---- one written, one closed up

entry_eq : {h h' : List ℕ} {b b' : ℕ} → h ≡ h' → b ≡ b' → ◌≡◌ {A = Stash} (record { hash = h; blocks = b }) (record { hash = h'; blocks = b' })
entry_eq p q = rw (p, q)

-- entries that agree one by one
entries-agree : (h z h' z' : List ℕ) (k k' n : ℕ) → ((i : ℕ) → i < n → entry_at h z (k + i) ≡ entry_at h' z' (k' + i))
    → entries h z k n ≡ entries h' z' k' n
unfolding entries
entries-agree h z h' z' k k' zero f = refl
entries-agree h z h' z' k k' (suc n) f =
    let p : entry_at h z k ≡ entry_at h' z' k' = rw (add-zero k, add-zero k') at (f 0 (omega arith)) in
    ap₂ (λ (x : Stash) (l : List Stash). x ∷ l) p (entries-agree h z h' z' (k + 1) (k' + 1) n rest)
  where
    rest : (i : ℕ) → i < n → entry_at h z (k + 1 + i) ≡ entry_at h' z' (k' + 1 + i)
    rest i l =
        let e : k + 1 + i ≡ k + suc i = omega arith in
        let e' : k' + 1 + i ≡ k' + suc i = omega arith in
        ap (λ (m : ℕ). entry_at h z m) e ∙ f (suc i) (omega arith) ∙ ap (λ (m : ℕ). entry_at h' z' m) (sym e')

-- the arrays' entries after a new one is written at n
pub entries-more : (h z hash : List ℕ) (n blocks : ℕ) → hash_bytes * n + hash_bytes ≤ length h → n < length z → length hash ≡ hash_bytes
    → entries (paste h (hash_bytes * n) hash hash_bytes) (set z n blocks) 0 (n + 1) ≡ entries h z 0 n ++ (record { hash = hash; blocks = blocks } ∷ [])
unfolding entries
entries-more h z hash n blocks p q w =
    entries-append (paste h (hash_bytes * n) hash hash_bytes) (set z n blocks) 0 n 1
    ∙ ap₂ (λ (l r : List Stash). l ++ r) (entries-agree _ _ h z 0 0 n older) (ap (λ (x : Stash). x ∷ []) newest)
  where
    older : (i : ℕ) → i < n → entry_at (paste h (hash_bytes * n) hash hash_bytes) (set z n blocks) (0 + i) ≡ entry_at h z (0 + i)
    older i l =
        entry_eq
        (part_before h hash (hash_bytes * n) hash_bytes p (omega arith) (hash_bytes * (0 + i)) hash_bytes (omega arith))
        (get_or-set_other z n (0 + i) blocks 0 (λ e. omega arith))

    newest : entry_at (paste h (hash_bytes * n) hash hash_bytes) (set z n blocks) (0 + n) ≡ record { hash = hash; blocks = blocks }
    newest =
        let e : hash_bytes * (0 + n) ≡ hash_bytes * n + 0 = omega arith in
        let f : 0 + n ≡ n = omega arith in
        entry_eq
        (rw (e, part_within h hash (hash_bytes * n) hash_bytes p (omega arith) 0 hash_bytes (omega arith)) (take_all hash_bytes hash (omega arith)))
        (rw f (get_or-set_same z n blocks 0 q))

-- the arrays' entries after those behind entry j have moved down
pub entries-less : (h z : List ℕ) (j left : ℕ) → hash_bytes * (j + 1 + left) ≤ length h → j + 1 + left ≤ length z
    → entries (paste h (hash_bytes * j) (drop (hash_bytes * (j + 1)) h) (hash_bytes * left)) (paste z j (drop (j + 1) z) left) 0 (j + left)
    ≡ without (entries h z 0 (j + 1 + left)) j
unfolding entries
entries-less h z j left p q =
    entries-append hashes sizes 0 j left
    ∙ ap₂ (λ (l r : List Stash). l ++ r) (entries-agree hashes sizes h z 0 0 j older) (entries-agree hashes sizes h z (0 + j) (j + 1) left younger)
    ∙ sym (without_at (entries h z 0 j) (entry_at h z j) (entries h z (j + 1) left) j (length-entries h z 0 j))
    ∙ ap (λ (l : List Stash). without l j) (sym all)
  where
    hashes : List ℕ
    hashes = paste h (hash_bytes * j) (drop (hash_bytes * (j + 1)) h) (hash_bytes * left)

    sizes : List ℕ
    sizes = paste z j (drop (j + 1) z) left

    all : entries h z 0 (j + 1 + left) ≡ entries h z 0 j ++ (entry_at h z j ∷ entries h z (j + 1) left)
    all =
        let e : j + 1 + left ≡ j + suc left = omega arith in
        let f : 0 + j ≡ j = omega arith in
        rw (e, entries-append h z 0 j (suc left), f)

    room : hash_bytes * left ≤ length (drop (hash_bytes * (j + 1)) h)
    room = simp length-drop (omega arith)

    room' : left ≤ length (drop (j + 1) z)
    room' = simp length-drop (omega arith)

    older : (i : ℕ) → i < j → entry_at hashes sizes (0 + i) ≡ entry_at h z (0 + i)
    older i l =
        entry_eq
        (part_before h _ (hash_bytes * j) (hash_bytes * left) (omega arith) room (hash_bytes * (0 + i)) hash_bytes (omega arith))
        (read-before z _ j left (omega arith) room' (0 + i) (omega arith))

    younger : (i : ℕ) → i < left → entry_at hashes sizes (0 + j + i) ≡ entry_at h z (j + 1 + i)
    younger i l =
        let e : hash_bytes * (0 + j + i) ≡ hash_bytes * j + hash_bytes * i = omega arith in
        let f : 0 + j + i ≡ j + i = omega arith in
        let g : hash_bytes * (j + 1 + i) ≡ hash_bytes * (j + 1) + hash_bytes * i = omega arith in
        entry_eq
        (rw (e, g) (part_within h _ (hash_bytes * j) (hash_bytes * left) (omega arith) room (hash_bytes * i) hash_bytes (omega arith)
        ∙ ap (λ (l : List ℕ). take hash_bytes l) (drop-drop (hash_bytes * i) (hash_bytes * (j + 1)) h)))
        (rw f (read-within z _ j left (omega arith) room' i l ∙ get_or-drop (j + 1) z i 0))
