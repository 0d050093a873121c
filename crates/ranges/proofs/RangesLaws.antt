-- What a good pair, good pairs and a good range set are made of; where they end, that a pair's start is not past its end, and how many blocks
-- a set has at least. `least` is how many blocks a range has at least; what is good is good for fewer too.
-- Assumes nothing.
use mathlib.Core.Path.{◌≡◌, refl, sym, ap}
use mathlib.Core.Bool.{Bool, true, false}
use Prim.Native.Nat.{ℕ, zero, suc, ◌+◌, ◌-◌, ◌/◌, ◌%◌, ◌≤◌, ◌<◌}
use native.Mathlib.Omega.{arith}
use mathlib.Core.List.{List, ◌∷◌}
use lib.ListN.{length}
use lib.Dec.{eqb, leb}
use borrow.Author.Tests.{leb-true, le-leb}
use Rattle.text.specs.Choice.{pick}
use Rattle.text.specs.Expected.{comma, stands}
use Rattle.text.specs.Number.{largest, is_count, meets, number_for, number_at}
use Rattle.text.specs.declared.number.Need.{Need}
use Rattle.text.specs.declared.number.Need.TheVariants as need
use Rattle.ranges.specs.declared.RangeSet.{RangeSet}
use Rattle.ranges.specs.Ranges.{Range, item_at, pair_at, on_pair, follow, pairs_at, set_at, size_of, end_of, summary, ranges_at}
use Rattle.text.proofs.ChoiceLaws.{both_true}
use Rattle.text.proofs.NumberLaws.{number-next, number-most, number-meets, number-any}
use Rattle.text.proofs.NeedLaws.{number-met}
use Rattle.std.specs.Prelude.{Ok, Err}
use Rattle.text.specs.Read.{Read, on_read}
use Rattle.text.proofs.ReadLaws.{read-same}

-- a good item is a number past a comma
module _ (n : Need) (s : List ℕ) (at : ℕ) {v next : ℕ} where
  item_good : item_at n s at ≡ Ok (v, next) → number_for n s (at + 1) ≡ Ok (v, next)
  unfolding item_at
  item_good = go (stands s at comma)
    where
      go : (t : Bool) → pick t (number_for n s (at + 1)) (Err at) ≡ Ok (v, next) → number_for n s (at + 1) ≡ Ok (v, next)
      go true e = e
      go false e = absurd (let z : ◌≡◌ {A = ℕ} 0 1 = cc in omega arith)

  pub item_next : item_at n s at ≡ Ok (v, next) → (at < next) × (next ≤ length s)
  item_next e = let h = number-next s (at + 1) (number-any n s (at + 1) (item_good e)) in (omega arith, h.1)

  -- .. and meets every need that its number meets
  item_met : (m : Need) → item_at n s at ≡ Ok (v, next) → meets m v ≡ true → item_at m s at ≡ Ok (v, next)
  unfolding item_at
  item_met m = go (stands s at comma)
    where
      go : (t : Bool) → pick t (number_for n s (at + 1)) (Err at) ≡ Ok (v, next) → meets m v ≡ true →
          pick t (number_for m s (at + 1)) (Err at) ≡ Ok (v, next)
      go true e w = number-met m s (at + 1) (number-any n s (at + 1) e) w
      go false e w = absurd (let z : ◌≡◌ {A = ℕ} 0 1 = cc in omega arith)

-- .. and one that is asked to be at most, or at least, so much is
pub item_most : (high : ℕ) (s : List ℕ) (at : ℕ) {v next : ℕ} → item_at (need.AtMost high) s at ≡ Ok (v, next) → v ≤ high
unfolding meets
item_most high s at {v} e = leb-true v high (number-meets (need.AtMost high) s (at + 1) (item_good (need.AtMost high) s at e))

item_least : (low : ℕ) (s : List ℕ) (at : ℕ) {v next : ℕ} → item_at (need.AtLeast low) s at ≡ Ok (v, next) → low ≤ v
unfolding meets
item_least low s at {v} e = leb-true low v (number-meets (need.AtLeast low) s (at + 1) (item_good (need.AtLeast low) s at e))

-- a good pair is two good items, so many blocks apart
record Items (least : ℕ) (s : List ℕ) (at start end next : ℕ) : Type 0 where
  middle : ℕ
  first : item_at (need.AtMost (largest - least)) s at ≡ Ok (start, middle)
  second : item_at (need.AtLeast (start + least)) s middle ≡ Ok (end, next)

pair_good : (least : ℕ) (s : List ℕ) (at : ℕ) {start end next : ℕ} → pair_at least s at ≡ Ok ((start, end), next) →
    Items least s at start end next
unfolding pair_at
pair_good least s at {start} {end} {next} = go (item_at (need.AtMost (largest - least)) s at) refl
  where
    then : (a i : ℕ) (n : Read ℕ) → item_at (need.AtMost (largest - least)) s at ≡ Ok (a, i) → item_at (need.AtLeast (a + least)) s i ≡ n →
        ◌≡◌ {A = Read (ℕ × ℕ)} (on_read n (λ x y. Ok ((a, x), y)) Err) (Ok ((start, end), next)) → Items least s at start end next
    then a i (Ok (b, m)) e f g =
        let p = read-same g in
        let q : a ≡ start = ap (λ (x : ℕ × ℕ). x.0) p.0 in
        let r : b ≡ end = ap (λ (x : ℕ × ℕ). x.1) p.0 in
        let t : m ≡ next = p.1 in
        record { middle = i; first = cc; second = cc }
    then a i (Err p) e f g = absurd (let z : ◌≡◌ {A = ℕ} 0 1 = cc in omega arith)

    go : (n : Read ℕ) → item_at (need.AtMost (largest - least)) s at ≡ n →
        ◌≡◌ {A = Read (ℕ × ℕ)} (on_read n (λ a i. on_read (item_at (need.AtLeast (a + least)) s i) (λ x y. Ok ((a, x), y)) Err) Err)
        (Ok ((start, end), next)) →
        Items least s at start end next
    go (Ok (a, i)) e g = then a i (item_at (need.AtLeast (a + least)) s i) e refl g
    go (Err p) e g = absurd (let z : ◌≡◌ {A = ℕ} 0 1 = cc in omega arith)

module _ (least : ℕ) (s : List ℕ) (at : ℕ) {start end next : ℕ} (e : pair_at least s at ≡ Ok ((start, end), next)) where
  pub pair_apart : start + least ≤ end
  pair_apart = let i = pair_good least s at e in item_least (start + least) s i.middle i.second

  pub pair_order : start ≤ end
  pair_order = omega (arith, pair_apart)

  pub pair_next : (at < next) × (next ≤ length s)
  pair_next =
      let i = pair_good least s at e in
      let h = item_next (need.AtMost (largest - least)) s at i.first in
      let l = item_next (need.AtLeast (start + least)) s i.middle i.second in
      (omega arith, l.1)

  pub pair_most : end ≤ largest
  pair_most = let i = pair_good least s at e in number-most s (i.middle + 1) (number-any _ s (i.middle + 1) (item_good _ s i.middle i.second))

  -- a pair that has so many blocks is good, whatever it was read for
  pub pair_met : (fewer : ℕ) → start + fewer ≤ end → pair_at fewer s at ≡ Ok ((start, end), next)
  unfolding pair_at meets
  pair_met fewer l =
      let i = pair_good least s at e in
      let m = pair_most in
      rw (
        item_met _ s at (need.AtMost (largest - fewer)) i.first (le-leb start (largest - fewer) (omega arith)),
        item_met _ s i.middle (need.AtLeast (start + fewer)) i.second (le-leb (start + fewer) end l),
      )

-- good pairs are a good pair and good pairs
pub record Pairs (least n : ℕ) (s : List ℕ) (at : ℕ) (rs : List Range) (next : ℕ) : Type 0 where
  pub start : ℕ
  pub end : ℕ
  pub middle : ℕ
  pub rest : List Range
  pub first : pair_at least s at ≡ Ok ((start, end), middle)
  pub then : pairs_at least n s middle ≡ Ok (rest, next)
  pub whole : rs ≡ record { start = start; end = end } ∷ rest

pub pairs-good : (least n : ℕ) (s : List ℕ) (at : ℕ) {rs : List Range} {next : ℕ} → pairs_at least (suc n) s at ≡ Ok (rs, next) → Pairs least n s at rs next
unfolding pairs_at
pairs-good least n s at {rs} {next} = go (pair_at least s at) refl
  where
    more : (a b i : ℕ) (q : Read (List Range)) → pair_at least s at ≡ Ok ((a, b), i) → pairs_at least n s i ≡ q →
        follow (record { start = a; end = b }) q ≡ Ok (rs, next) → Pairs least n s at rs next
    more a b i (Ok (ys, m)) e f g =
        let p = read-same g in
        let q : m ≡ next = p.1 in
        record { start = a; end = b; middle = i; rest = ys; first = e; then = cc; whole = sym p.0 }
    more a b i (Err p) e f g = absurd (let z : ◌≡◌ {A = ℕ} 0 1 = cc in omega arith)

    go : (p : Read (ℕ × ℕ)) → pair_at least s at ≡ p →
        on_pair p (λ start end i. follow (record { start = start; end = end }) (pairs_at least n s i)) Err ≡ Ok (rs, next) → Pairs least n s at rs next
    go (Ok ((a, b), i)) e g = more a b i (pairs_at least n s i) e refl g
    go (Err p) e g = absurd (let z : ◌≡◌ {A = ℕ} 0 1 = cc in omega arith)

pairs_next : (least n : ℕ) (s : List ℕ) (at : ℕ) {rs : List Range} {next : ℕ} → at ≤ length s → pairs_at least n s at ≡ Ok (rs, next) →
    (at ≤ next) × (next ≤ length s)
unfolding pairs_at
pairs_next least zero s at {rs} {next} h e = let z : at ≡ next = (read-same e).1 in (omega arith, omega arith)
pairs_next least (suc n) s at h e =
    let p = pairs-good least n s at e in
    let l = pair_next least s at p.first in
    let k = pairs_next least n s p.middle l.1 p.then in
    (omega arith, k.1)

-- pairs, of which there is one, have at least its blocks
pairs_some : (least n : ℕ) (s : List ℕ) (at : ℕ) {rs : List Range} {next : ℕ} → 0 < n → pairs_at least n s at ≡ Ok (rs, next) → least ≤ size_of rs
unfolding size_of
pairs_some least zero s at h e = absurd (omega arith)
pairs_some least (suc n) s at h e =
    let p = pairs-good least n s at e in
    rw p.whole (omega (arith, pair_apart least s at p.first))

-- a good set is a good count and half as many good pairs
pub record Counted (least : ℕ) (s : List ℕ) (at : ℕ) (rs : List Range) (next : ℕ) : Type 0 where
  pub count : ℕ
  pub from : ℕ
  pub number : number_at s at ≡ Ok (count, from)
  pub even : is_count count ≡ true
  pub pairs : pairs_at least (count / 2) s from ≡ Ok (rs, next)

pub set-good : (least : ℕ) (s : List ℕ) (at : ℕ) {rs : List Range} {next : ℕ} → set_at least s at ≡ Ok (rs, next) → Counted least s at rs next
unfolding set_at meets
set-good least s at {rs} {next} = go (number_for need.Count s at) refl
  where
    go : (n : Read ℕ) → number_for need.Count s at ≡ n → on_read n (λ v i. pairs_at least (v / 2) s i) Err ≡ Ok (rs, next) → Counted least s at rs next
    go (Ok (v, i)) e g =
        record { count = v; from = i; number = number-any need.Count s at e; even = number-meets need.Count s at e; pairs = g }
    go (Err p) e g = absurd (let z : ◌≡◌ {A = ℕ} 0 1 = cc in omega arith)

-- what is kept of a good set
pub record Kept (least : ℕ) (s : List ℕ) (at : ℕ) (set : RangeSet) (next : ℕ) : Type 0 where
  pub ranges : List Range
  pub text : set_at least s at ≡ Ok (ranges, next)
  pub place : set.at ≡ at
  pub blocks : set.blocks ≡ size_of ranges
  pub end : set.end ≡ end_of ranges

module _ (least : ℕ) (s : List ℕ) (at : ℕ) {set : RangeSet} {next : ℕ} (e : ranges_at least s at ≡ Ok (set, next)) where
  pub ranges-good : Kept least s at set next
  unfolding ranges_at summary
  ranges-good = go (set_at least s at) refl e
    where
      go : (q : Read (List Range)) → set_at least s at ≡ q → summary at q ≡ Ok (set, next) → Kept least s at set next
      go (Ok (rs, m)) f g =
          let p = read-same g in
          let z : record { at = at; blocks = size_of rs; end = end_of rs } ≡ set = p.0 in
          let k : m ≡ next = p.1 in
          record { ranges = rs; text = cc; place = cc; blocks = cc; end = cc }
      go (Err p) f g = absurd (let z : ◌≡◌ {A = ℕ} 0 1 = cc in omega arith)

  pub ranges_at_lem : set.at ≡ at
  ranges_at_lem = ranges-good.place

  pub ranges-next : (at < next) × (next ≤ length s)
  ranges-next =
      let c = set-good least s at ranges-good.text in
      let h = number-next s at c.number in
      let l = pairs_next least (c.count / 2) s c.from h.1 c.pairs in
      (omega arith, l.1)

  -- a set has at least one range, so at least a range's blocks
  pub ranges_some : least ≤ set.blocks
  ranges_some =
      let c = set-good least s at ranges-good.text in
      let n = leb-true 2 c.count (both_true (eqb (c.count % 2) 0) (leb 2 c.count) c.even).1 in
      let h = pairs_some least (c.count / 2) s c.from (omega arith) c.pairs in
      omega (arith, ranges-good.blocks)
