-- Laws of `specs/Added.antt`: added bytes one by one, in two stretches, and where the source counts as 0.
-- Assumes nothing.
use Rattle.std.proofs.Common.{◌≡◌, ℕ, zero, suc, ◌+◌, ◌-◌, ◌%◌, ◌<◌, ◌≤◌, min, Bool, true, false, leb, List, [], ◌∷◌, ◌++◌, length, get_or, take, drop, set, sym, refl, ap, ◌∙◌, ap₂, append-nil, arith, length-drop, take-append-drop, drop_of_length-le, length-take, length-take-le, get_or-drop, take_all, ext_get_or, le-leb, leb-false, leb-true}
use lib.ListN.{get_or-eq_default}
use borrow.Author.Tests.{lt-leb}
use Rattle.copy.proofs.OverLaws.{front_more}
use Rattle.patch.specs.Position.{origin}
use Rattle.patch.specs.Added.{source_at, added}

-- ---- the source at a position

module _ (source : List ℕ) (position : ℕ) where
  before_source : position < origin → source_at source position ≡ 0
  unfolding source_at
  before_source h = rw (lt-leb origin position h)

  from-origin : origin ≤ position → source_at source position ≡ get_or source (position - origin) 0
  unfolding source_at
  from-origin h = rw (le-leb origin position h)

  past_source : origin + length source ≤ position → source_at source position ≡ 0
  past_source h = from-origin (omega arith) ∙ get_or-eq_default source 0 (omega arith)

-- ---- the added bytes

module _ (source : List ℕ) where
  pub length-added : (position : ℕ) (bs : List ℕ) → length (added source position bs) ≡ length bs
  unfolding added
  length-added position [] = refl
  length-added position (b ∷ bs) = ap suc (length-added (suc position) bs)

  added-append : (position : ℕ) (xs ys : List ℕ) →
      added source position (xs ++ ys) ≡ added source position xs ++ added source (position + length xs) ys
  unfolding added
  added-append position [] ys = let e : position + 0 ≡ position = omega arith in rw e
  added-append position (x ∷ xs) ys =
      let e : position + suc (length xs) ≡ suc position + length xs = omega arith in
      rw e (ap (λ (l : List ℕ). (source_at source position + x) % 256 ∷ l) (added-append (suc position) xs ys))

  added-at : (position : ℕ) (bs : List ℕ) (i : ℕ) → i < length bs →
      get_or (added source position bs) i 0 ≡ (source_at source (position + i) + get_or bs i 0) % 256
  unfolding added
  added-at position [] i h = absurd (omega arith)
  added-at position (b ∷ bs) zero h = let e : position + 0 ≡ position = omega arith in rw e
  added-at position (b ∷ bs) (suc i) h =
      let e : position + suc i ≡ suc position + i = omega arith in rw e (added-at (suc position) bs i (omega arith))

-- every one is a byte
abbrev pub Bytes : List ℕ → Type 0
Bytes bs = (i : ℕ) → get_or bs i 0 < 256

module _ (source : List ℕ) (position : ℕ) (bs : List ℕ) where
  -- where the source counts as 0 the patch bytes stay as they are
  outside : Bytes bs → ((i : ℕ) → i < length bs → source_at source (position + i) ≡ 0) → added source position bs ≡ bs
  outside bytes zeros =
      ext_get_or 0 (added source position bs) bs (length-added source position bs)
      (λ i h.
      let l : i < length bs = omega (arith, length-added source position bs) in
      rw (added-at source position bs i l, zeros i l) (omega (arith, bytes i)))

  -- only the source's bytes at the positions count
  same_source : (other : List ℕ) (from : ℕ) →
      ((i : ℕ) → i < length bs → source_at source (position + i) ≡ source_at other (from + i)) → added source position bs ≡ added other from bs
  same_source other from same =
      let e = length-added source position bs in
      ext_get_or 0 (added source position bs) (added other from bs) (e ∙ sym (length-added other from bs))
      (λ i h.
      let l : i < length bs = omega arith in
      rw (added-at source position bs i l, added-at other from bs i l, same i l))

  -- in two stretches
  in_two : (n : ℕ) → n ≤ length bs → added source position bs ≡ added source position (take n bs) ++ added source (position + n) (drop n bs)
  in_two n h =
      let l : length (take n bs) ≡ n = length-take-le n bs h in
      ap (added source position) (sym (take-append-drop n bs)) ∙ added-append source position (take n bs) (drop n bs)
      ∙ ap (λ (k : ℕ). added source position (take n bs) ++ added source (position + k) (drop n bs)) l

bytes_take : (bs : List ℕ) (n : ℕ) → Bytes bs → Bytes (take n bs)
bytes_take bs zero bytes i = omega arith
bytes_take [] (suc n) bytes i = bytes i
bytes_take (b ∷ bs) (suc n) bytes zero = bytes zero
bytes_take (b ∷ bs) (suc n) bytes (suc i) = bytes_take bs n (λ k. bytes (suc k)) i

bytes_drop : (bs : List ℕ) (n : ℕ) → Bytes bs → Bytes (drop n bs)
bytes_drop bs n bytes i = rw (get_or-drop n bs i 0) (bytes (n + i))

-- ---- by where the source starts and ends

module _ (source adds : List ℕ) where
  -- from the source's first byte on: inside it, and past it
  pub from_first : (inside : ℕ) → inside ≡ min (length source) (length adds) → Bytes adds →
      added source origin (take inside adds) ++ drop inside adds ≡ added source origin adds
  from_first inside e bytes =
      let rest = drop inside adds in
      let l = length-drop inside adds in
      let past = outside source (origin + inside) rest (bytes_drop adds inside bytes)
      (λ i h. past_source source (origin + inside + i) (omega arith)) in
      ap (λ (x : List ℕ). added source origin (take inside adds) ++ x) (sym past) ∙ sym (in_two source origin adds inside (omega arith))

  -- from a position before the source on
  pub from-before : (position before : ℕ) → position < origin → before ≡ min (origin - position) (length adds) → Bytes adds →
      take before adds ++ added source origin (drop before adds) ≡ added source position adds
  from-before position before p e bytes =
      let head = take before adds in
      let l = length-take before adds in
      let k = length-drop before adds in
      let first = outside source position head (bytes_take adds before bytes) (λ i h. before_source source (position + i) (omega arith)) in
      let second = same_source source (position + before) (drop before adds) source origin
      (λ i h. let q : position + before + i ≡ origin + i = omega arith in ap (source_at source) q) in
      ap₂ (λ (x y : List ℕ). x ++ y) (sym first) (sym second) ∙ sym (in_two source position adds before (omega arith))

  -- from a position in the source or past it on
  pub from-inside : (position start : ℕ) → origin ≤ position → start ≡ min (position - origin) (length source) →
      added (drop start source) origin adds ≡ added source position adds
  from-inside position start p e =
      same_source (drop start source) origin adds source position
      (λ i h.
      let n : origin + i - origin ≡ i = omega arith in
      from-origin (drop start source) (origin + i) (omega arith) ∙ rw (n, get_or-drop start source i 0) (byte i (leb (position - origin) (length source)) refl)
      ∙ sym (from-origin source (position + i) (omega arith)))
    where
      byte : (i : ℕ) (t : Bool) → leb (position - origin) (length source) ≡ t → get_or source (start + i) 0 ≡ get_or source (position + i - origin) 0
      byte i true t =
          let h : position - origin ≤ length source = leb-true _ _ t in
          let n : start + i ≡ position + i - origin = omega arith in
          ap (λ (k : ℕ). get_or source k 0) n
      byte i false t =
          let h : length source < position - origin = leb-false _ _ t in
          get_or-eq_default source 0 {n = start + i} (omega arith) ∙ sym (get_or-eq_default source 0 {n = position + i - origin} (omega arith))

-- ---- byte by byte, over an area

module _ (source adds to : List ℕ) where
  -- a store takes the first i added bytes to one more
  pub add_more : (i : ℕ) → i < length source → i < length adds → i < length to →
      set (take i (added source origin adds) ++ drop i to) i ((get_or source i 0 + get_or adds i 0) % 256)
      ≡ take (i + 1) (added source origin adds) ++ drop (i + 1) to
  add_more i h k l =
      let n : origin + i - origin ≡ i = omega arith in
      let byte : source_at source (origin + i) ≡ get_or source i 0 = from-origin source (origin + i) (omega arith) ∙ rw n in
      rw (← byte, ← added-at source origin adds i k) (front_more (added source origin adds) to i (omega (arith, length-added source origin adds)) l)

  pub add_all : (i : ℕ) → i ≡ length adds → length to ≡ length adds →
      take i (added source origin adds) ++ drop i to ≡ added source origin adds
  add_all i e f =
      let l = length-added source origin adds in
      rw (take_all {A = ℕ} i (added source origin adds) (omega arith), drop_of_length-le to {i = i} (omega arith)) (append-nil (added source origin adds))
