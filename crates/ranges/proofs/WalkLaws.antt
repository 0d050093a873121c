-- The blocks of a range set: how many there are, that each is below the set's end, and that a walk meets them in their order.
-- Assumes nothing.
use mathlib.Core.Path.{◌≡◌, refl, sym, ap, subst, ◌∙◌}
use mathlib.Core.Bool.{Bool, true, false}
use Prim.Native.Nat.{ℕ, zero, suc, ◌+◌, ◌-◌, ◌*◌, ◌/◌, ◌≤◌, ◌<◌}
use native.Mathlib.Nat.{suc-mul, mul-le-mul_right}
use native.Mathlib.Numerals.{add-one}
use native.Mathlib.Omega.{arith}
use mathlib.Core.List.{List, [], ◌∷◌, ◌++◌}
use lib.ListN.{length, length-append}
use lib.Dec.{ltb}
use borrow.Author.Tests.{ltb-true, ltb-false}
use Rattle.text.specs.Below.{AllBelow}
use Rattle.text.specs.Choice.{pick}
use Rattle.text.specs.Number.{number_at}
use Rattle.ranges.specs.declared.RangeSet.{RangeSet}
use Rattle.ranges.specs.declared.walk.Walk.{Walk}
use Rattle.ranges.specs.Ranges.{least_again, Range, pair_at, on_pair, pairs_at, set_at, size_of, end_of, ranges_at, span, blocks_of}
use Rattle.ranges.specs.Walk.{pairs_of, ranges_of, blocks_at, walk_from, remaining, step_in, step_of, past_range}
pub use Rattle.text.proofs.BelowLaws.{below_head, below_tail, below_weaken, below_left, below_right}
use Rattle.text.proofs.BelowLaws.{below-append}
use Rattle.ranges.proofs.RangesLaws.{pair_order, pair_next, pair_met, pairs-good, set-good, ranges-good, ranges-next}
use Rattle.std.specs.Prelude.{Ok, Err, Option, Some, None}
use Rattle.text.specs.Read.{Read, on_read}
use Rattle.text.proofs.ReadLaws.{read-same}

-- ---- the ranges of a good set, read again, are its ranges
pairs-again : (least n : ℕ) (s : List ℕ) (at : ℕ) {rs : List Range} {next : ℕ} → pairs_at least n s at ≡ Ok (rs, next) → pairs_of n s at ≡ rs
unfolding pairs_at pairs_of
pairs-again least zero s at e = (read-same e).0
pairs-again least (suc n) s at e =
    let p = pairs-good least n s at e in
    let l = pair_order least s at p.first in
    rw (pair_met least s at p.first least_again (omega arith), pairs-again least n s p.middle p.then) (sym p.whole)

pub ranges-again : (least : ℕ) (s : List ℕ) (at : ℕ) {rs : List Range} {next : ℕ} → set_at least s at ≡ Ok (rs, next) → ranges_of s at ≡ rs
unfolding ranges_of
ranges-again least s at e =
    let c = set-good least s at e in rw c.number (pairs-again least (c.count / 2) s c.from c.pairs)

-- ---- how many blocks ranges have
pub length-span : (start n : ℕ) → length (span start n) ≡ n
unfolding span
length-span start zero = refl
length-span start (suc n) = ap suc (length-span (suc start) n)

length-blocks : (rs : List Range) → length (blocks_of rs) ≡ size_of rs
unfolding blocks_of size_of
length-blocks [] = refl
length-blocks (r ∷ rs) = rw (length-append, length-span, length-blocks rs)

-- ranges have at most m blocks each, where none ends past m
size-most : (rs : List Range) (m : ℕ) → end_of rs ≤ m → size_of rs ≤ length rs * m
unfolding size_of end_of
size-most [] m h = omega arith
size-most (r ∷ rs) m h = rw suc-mul (omega (arith, size-most rs m (omega arith)))

-- a pair takes at least one byte of the text
pairs-most : (least n : ℕ) (s : List ℕ) (at : ℕ) {rs : List Range} {next : ℕ} → pairs_at least n s at ≡ Ok (rs, next) → at + length rs ≤ next
unfolding pairs_at
pairs-most least zero s at {rs} {next} e =
    let p = read-same e in
    let q : at ≡ next = p.1 in
    rw (sym p.0) (omega arith)
pairs-most least (suc n) s at e =
    let p = pairs-good least n s at e in
    let h = pair_next least s at p.first in
    let k = pairs-most least n s p.middle p.then in
    rw p.whole (omega arith)

-- ---- all blocks are below n
below_span : (n start k : ℕ) → k ≤ n - start → AllBelow n (span start k)
unfolding AllBelow span
below_span n start zero h = tt
below_span n start (suc k) h = (omega arith, below_span n (suc start) k (omega arith))

below_end : (rs : List Range) → AllBelow (end_of rs) (blocks_of rs)
unfolding AllBelow blocks_of end_of
below_end [] = tt
below_end (r ∷ rs) =
    below-append _ (span r.start (r.end - r.start)) (blocks_of rs)
    (below_span _ r.start (r.end - r.start) (omega arith))
    (below_weaken (end_of rs) _ (blocks_of rs) (omega arith) (below_end rs))

below-same : {n m : ℕ} {xs ys : List ℕ} → n ≡ m → xs ≡ ys → AllBelow m ys → AllBelow n xs
below-same p q h = rw (p, q) h

-- ---- of a good set
module _ (least : ℕ) (s : List ℕ) (at : ℕ) {set : RangeSet} {next : ℕ} (e : ranges_at least s at ≡ Ok (set, next)) where
  set-ranges : ranges_of s at ≡ (ranges-good least s at e).ranges
  set-ranges = ranges-again least s at (ranges-good least s at e).text

  pub set-blocks : length (blocks_at s at) ≡ set.blocks
  unfolding blocks_at
  set-blocks = rw set-ranges (length-blocks (ranges-good least s at e).ranges ∙ sym (ranges-good least s at e).blocks)

  pub set_below : AllBelow set.end (blocks_at s at)
  unfolding blocks_at
  set_below = below-same (ranges-good least s at e).end (ap blocks_of set-ranges) (below_end (ranges-good least s at e).ranges)

  -- a range takes at least one byte of the text, and has at most `end` blocks
  pub set-most : set.blocks ≤ length s * set.end
  set-most =
      let k = ranges-good least s at e in
      let c = set-good least s at k.text in
      let h = pairs-most least (c.count / 2) s c.from c.pairs in
      let n = ranges-next least s at e in
      let a = size-most k.ranges set.end (omega arith) in
      let few : length k.ranges ≤ length s = omega arith in
      let b = mul-le-mul_right set.end few in
      omega arith

-- ---- a walk meets the blocks in their order
pub span_none : (a b : ℕ) → b ≤ a → span a (b - a) ≡ []
unfolding span
span_none a b h = let z : b - a ≡ 0 = omega arith in rw z

pub span_more : (a b : ℕ) → a < b → span a (b - a) ≡ a ∷ span (a + 1) (b - (a + 1))
unfolding span
span_more a b h = let z : b - a ≡ suc (b - (a + 1)) = omega arith in rw (z, add-one)

-- what a step says of the blocks that are left
Tells : List ℕ → List ℕ → Option (ℕ × Walk) → Type 0
Tells s bs None = bs ≡ []
Tells s bs (Some (b, w)) = bs ≡ b ∷ remaining s w

step_tells : (n : ℕ) (s : List ℕ) (at block end : ℕ) →
    Tells s (span block (end - block) ++ blocks_of (pairs_of n s at)) (step_in n s at block end)
unfolding Tells step_in remaining pairs_of blocks_of
step_tells zero s at block end = go (ltb block end) refl
  where
    go : (t : Bool) → ltb block end ≡ t →
        Tells s (span block (end - block) ++ [])
        (pick t (Some (block, (record { at = at; left = 0; block = block + 1; end = end }))) None)
    go true e = rw (span_more block end (ltb-true block end e))
    go false e = rw (span_none block end (ltb-false block end e))
step_tells (suc n) s at block end = go (ltb block end) refl (next (pair_at least_again s at) (step_tells n s))
  where
    next : (p : Read (ℕ × ℕ)) →
        ((at block end : ℕ) → Tells s (span block (end - block) ++ blocks_of (pairs_of n s at)) (step_in n s at block end)) →
        Tells s (blocks_of (on_pair p (λ a b i. record { start = a; end = b } ∷ pairs_of n s i) (λ p. [])))
        (on_pair p (λ a b i. step_in n s i a b) (λ p. None))
    next (Ok ((a, b), i)) h = h i a b
    next (Err p) h = refl

    go : (t : Bool) → ltb block end ≡ t →
        Tells s (blocks_of (pairs_of (suc n) s at)) (on_pair (pair_at least_again s at) (λ a b i. step_in n s i a b) (λ p. None)) →
        Tells s (span block (end - block) ++ blocks_of (pairs_of (suc n) s at))
        (pick t (Some (block, (record { at = at; left = suc n; block = block + 1; end = end })))
        (on_pair (pair_at least_again s at) (λ a b i. step_in n s i a b) (λ p. None)))
    go true e h = rw (span_more block end (ltb-true block end e))
    go false e h = rw (span_none block end (ltb-false block end e)) h

walk_tells : (s : List ℕ) (w : Walk) → Tells s (remaining s w) (step_of s w)
unfolding remaining step_of
walk_tells s w = step_tells w.left s w.at w.block w.end

pub walk_start : (s : List ℕ) (at : ℕ) → remaining s (walk_from s at) ≡ blocks_at s at
unfolding remaining walk_from blocks_at ranges_of pairs_of blocks_of span
walk_start s at = go (number_at s at)
  where
    go : (n : Read ℕ) →
        remaining s
        (on_read n (λ count from. record { at = from; left = count / 2; block = 0; end = 0 })
        (λ p. record { at = at; left = 0; block = 0; end = 0 }))
        ≡ blocks_of (on_read n (λ count from. pairs_of (count / 2) s from) (λ p. []))
    go (Ok (v, i)) = refl
    go (Err p) = refl

pub walk-done : (s : List ℕ) (w : Walk) → step_of s w ≡ None → remaining s w ≡ []
unfolding Tells
walk-done s w e = subst (Tells s (remaining s w)) e (walk_tells s w)

pub walk_block : (s : List ℕ) (w : Walk) {b : ℕ} {w' : Walk} → step_of s w ≡ Some (b, w') → remaining s w ≡ b ∷ remaining s w'
unfolding Tells
walk_block s w e = subst (Tells s (remaining s w)) e (walk_tells s w)

-- the blocks of the range at hand come first
pub walk_range : (s : List ℕ) (w : Walk) → remaining s w ≡ span w.block (w.end - w.block) ++ remaining s (past_range w)
unfolding remaining
walk_range s w = rw (span_none w.end w.end (omega arith))

-- fewer blocks are left past a step and the rest of its range
pub walk-fewer : (s : List ℕ) (w : Walk) {b : ℕ} {w' : Walk} → step_of s w ≡ Some (b, w') →
    length (remaining s (past_range w')) < length (remaining s w)
walk-fewer s w {b} {w'} e =
    let a : length (remaining s w) ≡ suc (length (remaining s w')) = ap length (walk_block s w e) in
    let c : length (remaining s w') ≡ length (span w'.block (w'.end - w'.block)) + length (remaining s (past_range w'))
    = ap length (walk_range s w') ∙ length-append (span w'.block (w'.end - w'.block)) (remaining s (past_range w')) in
    omega arith
