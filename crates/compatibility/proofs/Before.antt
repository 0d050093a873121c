-- A pair is read with `least_before` as it was before: a start up to the largest number is any number.
-- Assumes nothing.
use mathlib.Core.Path.{◌≡◌, refl, ap}
use mathlib.Core.Bool.{Bool, true, false}
use Prim.Native.Nat.{ℕ, suc, ◌+◌, ◌-◌}
use native.Mathlib.Omega.{arith}
use mathlib.Core.List.{List, [], ◌∷◌}
use lib.ListN.{drop}
use lib.Dec.{leb, ltb}
use borrow.Author.Tests.{le-leb}
use Rattle.text.specs.Choice.{pick, both}
use Rattle.text.specs.Expected.{comma, stands}
use Rattle.text.specs.Number.{largest, is_digit, then, meets, can_meet, end_of, digits, number_from, number_for}
use Rattle.text.specs.declared.number.Need.TheVariants as need
use Rattle.text.proofs.NeedLaws.{digit-most}
use Rattle.ranges.specs.Ranges.{item_at, pair_at}
use Rattle.compatibility.specs.EmptyRanges.{least_before, PairsAsBefore}
use Rattle.std.specs.Prelude.{Ok, Err}
use Rattle.text.specs.Read.{Read, on_read}

-- ---- a number up to the largest is any number

digits-any : (v i : ℕ) (bs : List ℕ) → leb v largest ≡ true → digits (need.AtMost largest) v i bs ≡ digits need.Any v i bs
unfolding digits end_of meets can_meet
digits-any v i [] e = rw e
digits-any v i (b ∷ bs) e = go (is_digit b) (ltb 0 v) (leb (then v b) largest) refl (digits-any (then v b) (suc i) bs)
  where
    go : (d p t : Bool) → leb (then v b) largest ≡ t →
        (leb (then v b) largest ≡ true → digits (need.AtMost largest) (then v b) (suc i) bs ≡ digits need.Any (then v b) (suc i) bs) →
        pick d (pick (both p (both t t)) (digits (need.AtMost largest) (then v b) (suc i) bs) (Err i))
        (pick (leb v largest) (Ok (v, i)) (Err i))
        ≡ pick d (pick (both p (both t true)) (digits need.Any (then v b) (suc i) bs) (Err i)) (Ok (v, i))
    go true true true f rest = rest f
    go true true false f rest = refl
    go true false t f rest = refl
    go false p t f rest = rw e

number-any : (s : List ℕ) (at : ℕ) → number_for (need.AtMost largest) s at ≡ number_for need.Any s at
unfolding number_for number_from can_meet
number-any s at = go (drop at s)
  where
    digit : (b : ℕ) (bs : List ℕ) (d : Bool) → is_digit b ≡ d →
        pick (both d (leb (b - 48) largest)) (digits (need.AtMost largest) (b - 48) (suc at) bs) (Err at)
        ≡ pick (both d true) (digits need.Any (b - 48) (suc at) bs) (Err at)
    digit b bs true e =
        let l : leb (b - 48) largest ≡ true = le-leb (b - 48) largest (omega (arith, digit-most b e)) in
        rw l (digits-any (b - 48) (suc at) bs l)
    digit b bs false e = refl

    go : (bs : List ℕ) → number_from (need.AtMost largest) at bs ≡ number_from need.Any at bs
    go [] = refl
    go (b ∷ bs) = digit b bs (is_digit b) refl

item_any : (s : List ℕ) (at : ℕ) → item_at (need.AtMost largest) s at ≡ item_at need.Any s at
unfolding item_at
item_any s at = ap (λ (n : Read ℕ). pick (stands s at comma) n (Err at)) (number-any s (at + 1))

-- ---- a pair

pub pair_before_lem : PairsAsBefore
unfolding pair_at
pair_before_lem s at = rw (item_any s at) (go (item_at need.Any s at))
  where
    go : (n : Read ℕ) →
        ◌≡◌ {A = Read (ℕ × ℕ)} (on_read n (λ start i. on_read (item_at (need.AtLeast (start + least_before)) s i) (λ end next. Ok ((start, end), next)) Err) Err)
        (on_read n (λ start i. on_read (item_at (need.AtLeast start) s i) (λ end next. Ok ((start, end), next)) Err) Err)
    go (Ok (start, i)) =
        let e : start + least_before ≡ start = omega arith in
        ap (λ (low : ℕ). on_read {B = Read (ℕ × ℕ)} (item_at (need.AtLeast low) s i) (λ end next. Ok ((start, end), next)) Err) e
    go (Err p) = refl
