-- A range set by the two readings: the same set where no range is empty, and now ill formed where one is; what was ill formed stays so.
-- Assumes nothing.
use mathlib.Core.Path.{◌≡◌, refl, sym, ap, ◌∙◌, subst}
use mathlib.Core.Bool.{true, false}
use mathlib.Core.Logic.{⊎_elim}
use Prim.Native.Nat.{ℕ, zero, suc, ◌/◌, ◌<◌}
use native.Mathlib.Omega.{arith}
use mathlib.Core.List.{List}
use lib.Dec.{ltb, eqb}
use borrow.Author.Tests.{ltb-true, ltb-false, eq-eqb, ne_eqb}
use Rattle.text.specs.Number.{number_for}
use Rattle.text.specs.declared.number.Need.TheVariants as need
use Rattle.text.proofs.ReadLaws.{read-same}
use Rattle.text.proofs.ChoiceLaws.{bool, either_is}
use Rattle.ranges.specs.Ranges.{least_blocks, pair_at, on_pair, follow, pairs_at, set_at, summary, ranges_at}
use Rattle.ranges.proofs.RangesLaws.{pair_apart, pair_order, pair_met}
use Rattle.ranges.proofs.WalkLaws.{ranges-again}
use Rattle.compatibility.specs.EmptyRanges.{least_before, some_empty, empty_in_set}
use Rattle.std.specs.Prelude.{Ok, Err}
use Rattle.text.specs.Read.{Read, on_read}
use Rattle.ranges.specs.declared.RangeSet.{RangeSet}
use Rattle.ranges.specs.Ranges.{Range}

-- ---- a pair, as it was read and as it is

abbrev PairTold : Read (ℕ × ℕ) → Read (ℕ × ℕ) → Type 0
PairTold (Ok ((a, b), n)) (Ok ((c, d), m)) = (a ≡ c) × (b ≡ d) × (n ≡ m) × (a < b)
PairTold (Ok ((a, b), n)) (Err p) = a ≡ b
PairTold (Err q) (Ok ((c, d), m)) = ⊥
PairTold (Err q) (Err p) = Unit {0}

pair_told : (s : List ℕ) (at : ℕ) → PairTold (pair_at least_before s at) (pair_at least_blocks s at)
pair_told s at = go (pair_at least_before s at) (pair_at least_blocks s at) refl refl
  where
    go : (x y : Read (ℕ × ℕ)) → pair_at least_before s at ≡ x → pair_at least_blocks s at ≡ y → PairTold x y
    go (Ok ((a, b), n)) (Ok ((c, d), m)) e f =
        let l = pair_apart least_blocks s at f in
        let g = read-same (sym e ∙ pair_met least_blocks s at f least_before (omega arith)) in
        let x : a ≡ c = ap (λ (r : ℕ × ℕ). r.0) g.0 in
        let y : b ≡ d = ap (λ (r : ℕ × ℕ). r.1) g.0 in
        (x, y, g.1, omega arith)
    go (Ok ((a, b), n)) (Err p) e f =
        let l = pair_order least_before s at e in
        ⊎_elim
        (λ h. absurd (let g = sym f ∙ pair_met least_before s at e least_blocks (omega (arith, ltb-true a b h)) in
        let z : ◌≡◌ {A = ℕ} 0 1 = cc in omega arith))
        (λ h. omega (arith, ltb-false a b h)) (bool (ltb a b))
    go (Err q) (Ok ((c, d), m)) e f =
        let l = pair_apart least_blocks s at f in
        let g = sym e ∙ pair_met least_blocks s at f least_before (omega arith) in
        let z : ◌≡◌ {A = ℕ} 0 1 = cc in omega arith
    go (Err q) (Err p) e f = tt

-- ---- pairs and sets

abbrev ParsedTold : Read (List Range) → Read (List Range) → Type 0
ParsedTold (Ok (rs, n)) (Ok (qs, m)) = (rs ≡ qs) × (n ≡ m) × (some_empty rs ≡ false)
ParsedTold (Ok (rs, n)) (Err p) = some_empty rs ≡ true
ParsedTold (Err q) (Ok (qs, m)) = ⊥
ParsedTold (Err q) (Err p) = Unit {0}

follow_some : (a b : ℕ) (x y : Read (List Range)) → a < b → ParsedTold x y →
    ParsedTold (follow (record { start = a; end = b }) x) (follow (record { start = a; end = b }) y)
unfolding some_empty
follow_some a b (Ok (rs, n)) (Ok (qs, m)) l h = (cc, h.1, rw (ne_eqb a b (λ e. omega arith)) h.2)
follow_some a b (Ok (rs, n)) (Err p) l h = either_is (eqb a b) h
follow_some a b (Err q) (Ok (qs, m)) l h = absurd h
follow_some a b (Err q) (Err p) l h = tt

follow-none : (a b p : ℕ) (x : Read (List Range)) → a ≡ b → ParsedTold (follow (record { start = a; end = b }) x) (Err p)
unfolding some_empty
follow-none a b p (Ok (rs, n)) e = rw (eq-eqb a b e)
follow-none a b p (Err q) e = tt

pairs-told : (n : ℕ) (s : List ℕ) (at : ℕ) → ParsedTold (pairs_at least_before n s at) (pairs_at least_blocks n s at)
unfolding pairs_at some_empty
pairs-told zero s at = (refl, refl, refl)
pairs-told (suc n) s at = go (pair_at least_before s at) (pair_at least_blocks s at) (pair_told s at) (pairs-told n s)
  where
    before : ℕ → ℕ → ℕ → Read (List Range)
    before a b i = follow (record { start = a; end = b }) (pairs_at least_before n s i)

    now : ℕ → ℕ → ℕ → Read (List Range)
    now a b i = follow (record { start = a; end = b }) (pairs_at least_blocks n s i)

    go : (x y : Read (ℕ × ℕ)) → PairTold x y → ((at : ℕ) → ParsedTold (pairs_at least_before n s at) (pairs_at least_blocks n s at)) →
        ParsedTold (on_pair x before Err) (on_pair y now Err)
    go (Ok ((a, b), i)) (Ok ((c, d), j)) h rest =
        subst (λ c. ParsedTold (before a b i) (now c d j)) h.0
        (subst (λ d. ParsedTold (before a b i) (now a d j)) h.1
        (subst (λ j. ParsedTold (before a b i) (now a b j)) h.2
        (follow_some a b (pairs_at least_before n s i) (pairs_at least_blocks n s i) h.3 (rest i))))
    go (Ok ((a, b), i)) (Err p) h rest = follow-none a b p (pairs_at least_before n s i) h
    go (Err q) (Ok ((c, d), j)) h rest = absurd h
    go (Err q) (Err p) h rest = tt

set_told : (s : List ℕ) (at : ℕ) → ParsedTold (set_at least_before s at) (set_at least_blocks s at)
unfolding set_at
set_told s at = go (number_for need.Count s at)
  where
    go : (n : Read ℕ) →
        ParsedTold (on_read n (λ count from. pairs_at least_before (count / 2) s from) Err)
        (on_read n (λ count from. pairs_at least_blocks (count / 2) s from) Err)
    go (Ok (count, from)) = pairs-told (count / 2) s from
    go (Err p) = tt

-- ---- what is kept of a set

abbrev pub RangesTold : List ℕ → Read RangeSet → Read RangeSet → Type 0
RangesTold s (Ok (x, n)) (Ok (y, m)) = (x ≡ y) × (n ≡ m) × (empty_in_set s x ≡ false)
RangesTold s (Ok (x, n)) (Err p) = empty_in_set s x ≡ true
RangesTold s (Err q) (Ok (y, m)) = ⊥
RangesTold s (Err q) (Err p) = Unit {0}

pub ranges-told : (s : List ℕ) (at : ℕ) → RangesTold s (ranges_at least_before s at) (ranges_at least_blocks s at)
unfolding ranges_at summary empty_in_set
ranges-told s at = go (set_at least_before s at) (set_at least_blocks s at) refl (set_told s at)
  where
    go : (x y : Read (List Range)) → set_at least_before s at ≡ x → ParsedTold x y → RangesTold s (summary at x) (summary at y)
    go (Ok (rs, n)) (Ok (qs, m)) e h = let z = h.0 in (cc, h.1, rw (ranges-again least_before s at e) h.2)
    go (Ok (rs, n)) (Err p) e h = rw (ranges-again least_before s at e) h
    go (Err q) (Ok (qs, m)) e h = absurd h
    go (Err q) (Err p) e h = tt
