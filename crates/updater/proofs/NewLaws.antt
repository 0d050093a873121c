-- New data: bytes put one by one to a target's bytes, where a byte of the target lies, and how far the bytes of a piece went.
-- Assumes nothing.
use Rattle.std.proofs.Common.{◌≡◌, ℕ, zero, suc, ◌+◌, ◌-◌, ◌*◌, ◌/◌, ◌<◌, ◌≤◌, min, List, [], ◌∷◌, ◌++◌, length, get_or, take, drop, set, sym, refl, ap, ◌∙◌, append_assoc, append-nil, add-zero, sub-one, arith, length-append, length-drop, length-set, length-take, length-take-le, get_or-drop, drop-drop, get_or-append-add, take-add, take-append-drop, drop-set-lt}
use Rattle.std.proofs.lemmas.List.{take_more_set}
use lib.ListN.{get_or-append}
use Rattle.text.specs.Number.{number_at}
use Rattle.ranges.specs.Ranges.{least_again, pair_at, span, blocks_of}
use Rattle.ranges.specs.Walk.{pairs_of, ranges_of, blocks_at, AllBelow}
use Rattle.ranges.proofs.WalkLaws.{length-span, below_head, below_tail}
use Rattle.state.specs.Limits.{block_bytes}
use Rattle.copy.specs.Over.{over}
use Rattle.copy.proofs.OverLaws.{front_more, front_fits, part_back}
use Rattle.updater.specs.Bytes.{address_of, put_bytes}
use Rattle.std.specs.Prelude.{Ok, Err}

-- ---- bytes one after the other
module _ (bs : List ℕ) where
  pub length-put_bytes : (k : ℕ) (xs area : List ℕ) → length (put_bytes bs k xs area) ≡ length area
  unfolding put_bytes
  length-put_bytes k [] area = refl
  length-put_bytes k (x ∷ xs) area = length-put_bytes (k + 1) xs (set area (address_of bs k) x) ∙ length-set area (address_of bs k) x

  pub put_bytes-append : (k : ℕ) (xs ys area : List ℕ) →
      put_bytes bs k (xs ++ ys) area ≡ put_bytes bs (k + length xs) ys (put_bytes bs k xs area)
  unfolding put_bytes
  put_bytes-append k [] ys area = rw add-zero
  put_bytes-append k (x ∷ xs) ys area =
      let e : k + 1 + length xs ≡ k + suc (length xs) = omega arith in
      rw (← e) (put_bytes-append (k + 1) xs ys (set area (address_of bs k) x))

-- a byte, then those behind it
over-more : (a x : ℕ) (xs area : List ℕ) → a < length area → over (set area a x) (a + 1) xs ≡ over area a (x ∷ xs)
over-more a x xs area h =
    let n : a + 1 + length xs ≡ a + suc (length xs) = omega arith in
    rw (
      take_more_set area a x h,
      drop-set-lt (a + 1) area a x (omega arith),
      append_assoc (take a area) (x ∷ []) (xs ++ drop (length xs) (drop (a + 1) area)),
      drop-drop (length xs) (a + 1) area,
      drop-drop (suc (length xs)) a area,
      n,
    )

-- bytes whose places lie side by side go all at once
pub put_bytes-over : (bs : List ℕ) (k a : ℕ) (xs area : List ℕ) → ((j : ℕ) → j < length xs → address_of bs (k + j) ≡ a + j) →
    a + length xs ≤ length area → put_bytes bs k xs area ≡ over area a xs
unfolding put_bytes
put_bytes-over bs k a [] area near h = sym (take-append-drop a area)
put_bytes-over bs k a (x ∷ xs) area near h =
    let z : k + 0 ≡ k = omega arith in
    let first : address_of bs k ≡ a + 0 = rw z at (near 0 (omega arith)) in
    let e : address_of bs k ≡ a = omega arith in
    let next : (j : ℕ) → j < length xs → address_of bs (k + 1 + j) ≡ a + 1 + j =
    λ j m. (let n : k + 1 + j ≡ k + (j + 1) = omega arith in rw n (omega (arith, near (j + 1) (omega arith)))) in
    rw e (put_bytes-over bs (k + 1) (a + 1) xs (set area a x) next (simp length-set (omega arith)) ∙ over-more a x xs area (omega arith))

-- ---- the bytes of a part, written one by one

-- one more of them
pub filled_more : (items₀ piece : List ℕ) (i₀ : ℕ) {items : List ℕ} {i k : ℕ} → items ≡ take k (drop i₀ piece) ++ drop k items₀ → i ≡ i₀ + k → i < length piece →
    k < length items₀ → set items k (get_or piece i 0) ≡ take (k + 1) (drop i₀ piece) ++ drop (k + 1) items₀
filled_more items₀ piece i₀ {k = k} e p h m =
    rw (e, p, ← get_or-drop i₀ piece k 0) (front_more (drop i₀ piece) items₀ k (simp length-drop (omega arith)) m)

-- n of them written, the part is back
part_filled : (area bytes part : List ℕ) (at size n : ℕ) → at + size ≤ length area → n ≤ size → n ≤ length bytes →
    part ≡ take n bytes ++ drop n (take size (drop at area)) → take at area ++ (part ++ drop size (drop at area)) ≡ over area at (take n bytes)
part_filled area bytes part at size n h m k e =
    let xs = take size (drop at area) in
    let l : length (take n bytes) ≡ n = length-take-le n bytes k in
    let s : length (take size (drop at area)) ≡ size = simp (length-take, length-drop) (omega arith) in
    let f = front_fits xs (take n bytes) (omega arith) in
    part_back area (take n bytes) part at size (omega arith) (e ∙ ap (λ (c : ℕ). take n bytes ++ drop c xs) (sym l) ∙ sym f)

-- ---- where a byte lies
get_or-span : (start n i : ℕ) → i < n → get_or (span start n) i 0 ≡ start + i
unfolding span
get_or-span start zero i h = absurd (omega arith)
get_or-span start (suc n) zero h = omega arith
get_or-span start (suc n) (suc i) h = let e = get_or-span (suc start) n i (omega arith) in omega arith

pub below_at : (n : ℕ) (bs : List ℕ) (i : ℕ) → AllBelow n bs → i < length bs → get_or bs i 0 < n
below_at n [] i b h = absurd (omega arith)
below_at n (x ∷ bs) zero b h = below_head n x bs b
below_at n (x ∷ bs) (suc i) b h = below_at n bs i (below_tail n x bs b) (omega arith)

-- in the image
pub address_below : (n : ℕ) (bs : List ℕ) (k : ℕ) → AllBelow (n / block_bytes) bs → k < block_bytes * length bs → address_of bs k < n
unfolding address_of
address_below n bs k b h = let l = below_at (n / block_bytes) bs (k / block_bytes) b (omega arith) in omega arith

-- byte k of a range, whose blocks stand past others
pub address_in : {bs : List ℕ} (before after : List ℕ) (start n k : ℕ) → bs ≡ before ++ (span start n ++ after) → k < block_bytes * n →
    address_of bs (block_bytes * length before + k) ≡ block_bytes * start + k
unfolding address_of
address_in {bs} before after start n k e h =
    let d : (block_bytes * length before + k) / block_bytes ≡ length before + k / block_bytes = omega arith in
    let s = length-span start n in
    let g : get_or bs (length before + k / block_bytes) 0 ≡ start + k / block_bytes =
    rw (e, get_or-append-add before (span start n ++ after) (k / block_bytes) 0, get_or-append (span start n) after 0 (k / block_bytes) (omega arith))
    (get_or-span start n (k / block_bytes) (omega arith)) in
    rw (d, g) (omega arith)

-- ---- the blocks of the ranges that are left
blocks_start : (l : List ℕ) (at : ℕ) {count first : ℕ} → number_at l at ≡ Ok (count, first) → blocks_at l at ≡ blocks_of (pairs_of (count / 2) l first)
unfolding blocks_at ranges_of
blocks_start l at e = rw e

pub blocks-none : (l : List ℕ) (at : ℕ) {p : ℕ} → number_at l at ≡ Err p → blocks_at l at ≡ []
unfolding blocks_at ranges_of blocks_of
blocks-none l at e = rw e

blocks_more : (l : List ℕ) (next left : ℕ) {start end past : ℕ} → 0 < left → pair_at least_again l next ≡ Ok ((start, end), past) →
    blocks_of (pairs_of left l next) ≡ span start (end - start) ++ blocks_of (pairs_of (left - 1) l past)
unfolding pairs_of blocks_of
blocks_more l next zero h e = absurd (omega arith)
blocks_more l next (suc n) h e = rw (e, sub-one (suc n))

pub blocks-bad : (l : List ℕ) (next left : ℕ) {p : ℕ} → 0 < left → pair_at least_again l next ≡ Err p → blocks_of (pairs_of left l next) ≡ []
unfolding pairs_of blocks_of
blocks-bad l next zero h e = absurd (omega arith)
blocks-bad l next (suc n) h e = rw e

pub blocks_end : (l : List ℕ) (next left : ℕ) → left ≤ 0 → blocks_of (pairs_of left l next) ≡ []
unfolding pairs_of blocks_of
blocks_end l next zero h = refl
blocks_end l next (suc n) h = absurd (omega arith)

-- ---- the piece's bytes from `from` up to `i` went to the target's bytes from `into` on
pub record Went (bs piece : List ℕ) (from into : ℕ) (image₀ image : List ℕ) (i : ℕ) : Type 0 where
  pub past : from ≤ i
  pub within : i ≤ length piece
  pub image-is : image ≡ put_bytes bs into (take (i - from) (drop from piece)) image₀

pub went_none : (bs piece image : List ℕ) (from into : ℕ) → from ≤ length piece → Went bs piece from into image image from
unfolding put_bytes
went_none bs piece image from into h = let e : from - from ≡ 0 = omega arith in record { past = omega arith; within = h; image-is = rw e }

pub went_on : {bs piece a b c : List ℕ} {from into i j : ℕ} → Went bs piece from into a b i → Went bs piece i (into + (i - from)) b c j →
    Went bs piece from into a c j
went_on {bs} {piece} {a} {b} {c} {from} {into} {i} {j} w v =
    let p = w.past in
    let q = v.past in
    let d = drop from piece in
    let s : j - from ≡ (i - from) + (j - i) = omega arith in
    let t : from + (i - from) ≡ i = omega arith in
    let n : length (take (i - from) d) ≡ i - from = length-take-le (i - from) d (simp length-drop (omega arith)) in
    let e : take (j - from) d ≡ take (i - from) d ++ take (j - i) (drop i piece) = rw (s, take-add (i - from) (j - i) d, drop-drop (i - from) from piece, t) in
    record {
      past = omega arith;
      within = v.within;
      image-is = v.image-is ∙ rw (e, put_bytes-append bs into (take (i - from) d) (take (j - i) (drop i piece)) a, n, w.image-is);
    }

-- n bytes more, whose places lie side by side
pub went_over : {bs piece image₀ image image' : List ℕ} {from into i n : ℕ} (a : ℕ) → Went bs piece from into image₀ image i → i + n ≤ length piece →
    ((j : ℕ) → j < n → address_of bs (into + (i - from) + j) ≡ a + j) → a + n ≤ length image → image' ≡ over image a (take n (drop i piece)) →
    Went bs piece from into image₀ image' (i + n)
went_over {bs} {piece} {image = image} {from} {into} {i} {n} a w h near room e =
    let m : length (take n (drop i piece)) ≡ n = length-take-le n (drop i piece) (simp length-drop (omega arith)) in
    let s : i + n - i ≡ n = omega arith in
    went_on w
    (record {
      past = omega arith;
      within = h;
      image-is = e ∙ rw s (sym (put_bytes-over bs (into + (i - from)) a (take n (drop i piece)) image (λ j k. near j (omega arith)) (omega arith)));
    })

pub went_length : {bs piece image₀ image : List ℕ} {from into i : ℕ} → Went bs piece from into image₀ image i → length image ≡ length image₀
went_length {bs} {piece} {image₀} {image} {from} {into} {i} w = rw w.image-is (length-put_bytes bs into (take (i - from) (drop from piece)) image₀)

-- ---- the target's byte that comes next lies `skip` bytes past the blocks `before`, and they are followed by those of the pairs left;
-- bytes are skipped only before the first one goes
pub record Ahead (l : List ℕ) (at from into i skip left next : ℕ) : Type 0 where
  pub before : List ℕ
  pub text : blocks_at l at ≡ before ++ blocks_of (pairs_of left l next)
  pub place : into + (i - from) ≡ block_bytes * length before + skip
  pub unmoved : min skip (i - from) ≡ 0

-- ---- it is byte k of a range, and past the range come the blocks of the pairs left
pub record Inside (l : List ℕ) (at from into start end left past i k : ℕ) : Type 0 where
  pub before : List ℕ
  pub text : blocks_at l at ≡ before ++ (span start (end - start) ++ blocks_of (pairs_of left l past))
  pub place : into + (i - from) ≡ block_bytes * length before + k
  pub most : k ≤ block_bytes * (end - start)

pub ahead-start : (l : List ℕ) (at from into : ℕ) {count first : ℕ} → number_at l at ≡ Ok (count, first) → Ahead l at from into from into (count / 2) first
ahead-start l at from into e = record { before = []; text = blocks_start l at e; place = omega arith; unmoved = omega arith }

pub inside-start : {l : List ℕ} {at from into i skip left next start end past : ℕ} → Ahead l at from into i skip left next → 0 < left →
    pair_at least_again l next ≡ Ok ((start, end), past) → skip < block_bytes * (end - start) → Inside l at from into start end (left - 1) past i skip
inside-start {l} {left = left} {next = next} a h e m =
    record { before = a.before; text = a.text ∙ ap (λ (bs : List ℕ). a.before ++ bs) (blocks_more l next left h e); place = a.place; most = omega arith }

pub inside-more : {l : List ℕ} {at from into start end left past i k : ℕ} → Inside l at from into start end left past i k → (n : ℕ) → from ≤ i →
    k + n ≤ block_bytes * (end - start) → Inside l at from into start end left past (i + n) (k + n)
inside-more s n h m = let p = s.place in record { before = s.before; text = s.text; place = omega arith; most = m }

-- the blocks of a range are passed
range_passed : {l : List ℕ} {at from into i skip left past : ℕ} (before : List ℕ) (start n : ℕ) →
    blocks_at l at ≡ before ++ (span start n ++ blocks_of (pairs_of left l past)) → into + (i - from) ≡ block_bytes * length before + (block_bytes * n + skip) →
    min skip (i - from) ≡ 0 → Ahead l at from into i skip left past
range_passed {l} {left = left} {past = past} before start n text place unmoved =
    let j : length (before ++ span start n) ≡ length before + n = rw (length-append, length-span start n) in
    record {
      before = before ++ span start n;
      text = text ∙ sym (append_assoc before (span start n) (blocks_of (pairs_of left l past)));
      place = omega arith;
      unmoved = unmoved;
    }

pub ahead_past : {l : List ℕ} {at from into start end left past i k : ℕ} → Inside l at from into start end left past i k → block_bytes * (end - start) ≤ k →
    Ahead l at from into i 0 left past
ahead_past {start = start} {end = end} n h = let p = n.place in let m = n.most in range_passed n.before start (end - start) n.text (omega arith) (omega arith)

pub ahead_skip : {l : List ℕ} {at from into i skip left next start end past : ℕ} → Ahead l at from into i skip left next → 0 < left →
    pair_at least_again l next ≡ Ok ((start, end), past) → block_bytes * (end - start) ≤ skip → Ahead l at from into i (skip - block_bytes * (end - start)) (left - 1) past
ahead_skip {l} {left = left} {next = next} {start = start} {end = end} a h e m =
    let p = a.place in
    let u = a.unmoved in
    range_passed a.before start (end - start) (a.text ∙ ap (λ (bs : List ℕ). a.before ++ bs) (blocks_more l next left h e)) (omega arith) (omega arith)

-- the bytes of the range at hand from its byte k on, in the target and in the image
module _ {l : List ℕ} {at from into start end left past i k : ℕ} (n : Inside l at from into start end left past i k) where
  pub inside_addresses : (j : ℕ) → k + j < block_bytes * (end - start) → address_of (blocks_at l at) (into + (i - from) + j) ≡ block_bytes * start + k + j
  inside_addresses j h =
      let p = n.place in
      let e : into + (i - from) + j ≡ block_bytes * length n.before + (k + j) = omega arith in
      rw e (address_in n.before (blocks_of (pairs_of left l past)) start (end - start) (k + j) n.text h ∙ omega arith)

  inside-target : into + (i - from) + (block_bytes * (end - start) - k) ≤ block_bytes * length (blocks_at l at)
  inside-target =
      let p = n.place in
      let m = n.most in
      let s = length-span start (end - start) in
      let t = simp length-append at (ap length n.text) in
      omega arith

  pub inside-image : (room : ℕ) → AllBelow (room / block_bytes) (blocks_at l at) → k < block_bytes * (end - start) →
      block_bytes * start + block_bytes * (end - start) ≤ room
  inside-image room b h =
      let j = block_bytes * (end - start) - suc k in
      let e = inside_addresses j (omega arith) in
      let t = inside-target in
      let m = address_below room (blocks_at l at) (into + (i - from) + j) b (omega arith) in
      omega arith

  -- the piece has ended
  pub inside-end : (all : ℕ) → from ≤ i → i ≡ all → i ≡ from + min (all - from) (block_bytes * length (blocks_at l at) - into)
  inside-end all m e = let t = inside-target in omega arith

-- the range at hand from its byte `skip` on is lent, and its first n bytes become those of the piece
module _ {l piece image₀ image : List ℕ} {at from into i skip left next start end past : ℕ} (w : Went (blocks_at l at) piece from into image₀ image i)
    (a : Ahead l at from into i skip left next) (some : 0 < left) (e : pair_at least_again l next ≡ Ok ((start, end), past))
    (h : skip < block_bytes * (end - start)) where
  module _ (b : AllBelow (length image₀ / block_bytes) (blocks_at l at)) where
    pub range_room : block_bytes * start + block_bytes * (end - start) ≤ length image
    range_room = let r = inside-image (inside-start a some e h) (length image₀) b h in omega (arith, went_length w)

    pub length-lent : length (take (block_bytes * start + block_bytes * (end - start) - (block_bytes * start + skip)) (drop (block_bytes * start + skip) image)) ≡ block_bytes * (end - start) - skip
    length-lent = let r = range_room in simp (length-take, length-drop) (omega arith)

  module _ {n j : ℕ} (g : j ≡ i + n) (m : n ≤ block_bytes * (end - start) - skip) where
    pub part-inside : Inside l at from into start end (left - 1) past j (skip + n)
    part-inside = rw g (inside-more (inside-start a some e h) n w.past (omega arith))

    pub part_went : {items : List ℕ} → AllBelow (length image₀ / block_bytes) (blocks_at l at) → j ≤ length piece →
        items ≡ take n (drop i piece) ++ drop n (take (block_bytes * start + block_bytes * (end - start) - (block_bytes * start + skip)) (drop (block_bytes * start + skip) image)) →
        Went (blocks_at l at) piece from into image₀
        (take (block_bytes * start + skip) image ++ (items ++ drop (block_bytes * start + block_bytes * (end - start) - (block_bytes * start + skip)) (drop (block_bytes * start + skip) image))) j
    part_went {items} b k f =
        let r = range_room b in
        rw g
        (went_over (block_bytes * start + skip) w (omega arith) (λ x y. inside_addresses (inside-start a some e h) x (omega arith)) (omega arith)
        (part_filled image (drop i piece) items (block_bytes * start + skip) (block_bytes * start + block_bytes * (end - start) - (block_bytes * start + skip)) n (omega arith) (omega arith) (simp length-drop (omega arith)) f))

-- no block is left
pub ahead-end : {l : List ℕ} {at from into i skip left next : ℕ} → Ahead l at from into i skip left next → blocks_of (pairs_of left l next) ≡ [] →
    (n : ℕ) → from ≤ i → i ≤ n → i ≡ from + min (n - from) (block_bytes * length (blocks_at l at) - into)
ahead-end {l} {at} a e n h m =
    let p = a.place in
    let u = a.unmoved in
    let t : length (blocks_at l at) ≡ length a.before = rw (a.text, e, append-nil) in
    omega arith
