-- What `number_for` and `digits` say of the character at a position, by cases: the steps of a loop over digits.
-- Assumes nothing.
use mathlib.Core.Path.{◌≡◌, refl, subst}
use mathlib.Core.Bool.{Bool, true, false}
use Prim.Native.Nat.{ℕ, ◌+◌, ◌-◌, ◌*◌, ◌≤◌, ◌<◌}
use native.Mathlib.Numerals.{add-one}
use native.Mathlib.Omega.{arith}
use mathlib.Core.List.{List}
use lib.Dec.{ltb}
use lib.ListN.{length, drop, get_or, drop_of_length-le}
use lib.Seq.{drop-cons}
use borrow.Author.Tests.{ltb-true, ltb-false, le-leb, lt-leb, lt-ltb}
use Rattle.std.specs.Prelude.{Err, Option, Some, None}
use Rattle.text.specs.Choice.{pick, both}
use Rattle.text.specs.declared.number.Need.{Need}
use Rattle.text.specs.Number.{largest, is_digit, decimal_at, can_meet, end_of, digits, number_from, number_for}
use Rattle.text.proofs.NumberLaws.{digit_high}

-- a digit that was read stands in the text, and is at most 9
abbrev Stood : List ℕ → ℕ → Option ℕ → Type 0
Stood s i (Some d) = (i < length s) × (is_digit (get_or s i 0) ≡ true) × (get_or s i 0 - 48 ≡ d) × (d ≤ 9)
Stood s i None = Unit {0}

module _ (s : List ℕ) (i : ℕ) where
  stood : Stood s i (decimal_at s i)
  unfolding decimal_at
  stood = go (ltb i (length s)) (is_digit (get_or s i 0)) refl refl
    where
      go : (p q : Bool) → ltb i (length s) ≡ p → is_digit (get_or s i 0) ≡ q → Stood s i (pick (both p q) (Some (get_or s i 0 - 48)) None)
      go true true e f = (ltb-true i (length s) e, f, refl, omega (arith, digit_high (get_or s i 0) f))
      go true false e f = tt
      go false q e f = tt

  pub decimal_most : {d : ℕ} → decimal_at s i ≡ Some d → (i < length s) × (d ≤ 9)
  decimal_most {d} e = let h : Stood s i (Some d) = subst (Stood s i) e stood in (h.0, h.3)

  -- where there is none, the text ends there or another character stands there
  other : i < length s → decimal_at s i ≡ None → is_digit (get_or s i 0) ≡ false
  unfolding decimal_at
  other h e = go (is_digit (get_or s i 0)) (rw (lt-ltb i (length s) h) at e)
    where
      go : (q : Bool) → pick q (Some (get_or s i 0 - 48)) None ≡ None → q ≡ false
      go true e = absurd (let z : ◌≡◌ {A = ℕ} 0 1 = cc in omega arith)
      go false e = refl

module _ (n : Need) (s : List ℕ) (i : ℕ) where
  module _ (e : decimal_at s i ≡ None) where
    pub number-none : number_for n s i ≡ Err i
    unfolding number_for number_from
    number-none = go (ltb i (length s)) refl
      where
        go : (t : Bool) → ltb i (length s) ≡ t → number_from n i (drop i s) ≡ Err i
        go true f = let h = ltb-true i (length s) f in rw (drop-cons s i 0 h, other s i h e)
        go false f = rw (drop_of_length-le s (ltb-false i (length s) f))

    -- it ends a number
    pub digits-none : (v : ℕ) → digits n v i (drop i s) ≡ end_of n v i
    unfolding digits
    digits-none v = go (ltb i (length s)) refl
      where
        go : (t : Bool) → ltb i (length s) ≡ t → digits n v i (drop i s) ≡ end_of n v i
        go true f = let h = ltb-true i (length s) f in rw (drop-cons s i 0 h, other s i h e)
        go false f = rw (drop_of_length-le s (ltb-false i (length s) f))

  module _ {d : ℕ} (e : decimal_at s i ≡ Some d) where
    digit : Stood s i (Some d)
    digit = subst (Stood s i) e (stood s i)

    pub number-never : can_meet n d ≡ false → number_for n s i ≡ Err i
    unfolding number_for number_from
    number-never k = rw (drop-cons s i 0 digit.0, digit.1, digit.2, k)

    pub number-digit : can_meet n d ≡ true → number_for n s i ≡ digits n d (i + 1) (drop (i + 1) s)
    unfolding number_for number_from
    number-digit k = rw (add-one, drop-cons s i 0 digit.0, digit.1, digit.2, k)

    -- a later one: after a leading zero, too large, one with which no number that is asked for begins, or one more
    module _ (v : ℕ) where
      pub digits-zero : v ≡ 0 → digits n v i (drop i s) ≡ Err i
      unfolding digits
      digits-zero z = rw (drop-cons s i 0 digit.0, digit.1, digit.2, z)

      module _ (p : 0 < v) where
        pub digits-large : largest < v * 10 + d → digits n v i (drop i s) ≡ Err i
        unfolding digits
        digits-large z = rw (drop-cons s i 0 digit.0, digit.1, digit.2, lt-ltb 0 v p, lt-leb (v * 10 + d) largest z)

        module _ (z : v * 10 + d ≤ largest) where
          pub digits-never : can_meet n (v * 10 + d) ≡ false → digits n v i (drop i s) ≡ Err i
          unfolding digits
          digits-never k = rw (drop-cons s i 0 digit.0, digit.1, digit.2, lt-ltb 0 v p, le-leb (v * 10 + d) largest z, k)

          pub digits_more : can_meet n (v * 10 + d) ≡ true → digits n v i (drop i s) ≡ digits n (v * 10 + d) (i + 1) (drop (i + 1) s)
          unfolding digits
          digits_more k = rw (add-one, drop-cons s i 0 digit.0, digit.1, digit.2, lt-ltb 0 v p, le-leb (v * 10 + d) largest z, k)
