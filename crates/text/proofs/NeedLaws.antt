-- What is asked of a number, and the digits read so far: `can_meet` is true of those with which a number that is asked for begins. So a number
-- that meets a need and is read as any number is, is the one that is read for the need.
-- Assumes nothing.
use mathlib.Core.Path.{◌≡◌, refl, subst}
use mathlib.Core.Bool.{Bool, true, false}
use Prim.Native.Nat.{ℕ, zero, suc, ◌+◌, ◌-◌, ◌*◌, ◌%◌, ◌≤◌, ◌<◌}
use native.Mathlib.Omega.{arith}
use mathlib.Core.List.{List, [], ◌∷◌}
use lib.ListN.{drop}
use lib.Dec.{leb, ltb, eqb}
use borrow.Author.Tests.{leb-true, ltb-true, le-leb, lt-ltb}
use Rattle.text.specs.Choice.{pick, both}
use Rattle.text.specs.Number.{largest, digits_most, is_digit, then, is_count, meets, reaches, can_meet, end_of, digits, number_from, number_for, number_at}
use Rattle.text.specs.declared.number.Need.{Need}
use Rattle.text.specs.declared.number.Need.TheVariants as need
use Rattle.text.proofs.ChoiceLaws.{both_true, both_is, either_is}
use Rattle.text.proofs.NumberLaws.{digit_high}
use Rattle.std.specs.Prelude.{Ok, Err}
use Rattle.text.specs.Read.{Read}

-- ---- how a number is written

-- s is some digits and then t; the digits, written after those of v, make w
pub data Written : ℕ → ℕ → List ℕ → List ℕ → Type 0 where
  last : {v : ℕ} {t : List ℕ} → Written v v t t
  more : {v w b : ℕ} {s t : List ℕ} → is_digit b ≡ true → 0 < v → then v b ≤ largest → Written (then v b) w s t → Written v w (b ∷ s) t

-- more digits make no smaller number
pub written_above : {v w : ℕ} {s t : List ℕ} → Written v w s t → v ≤ w
written_above last = omega arith
written_above (more d p m x) = omega (arith, written_above x)

pub digit-most : (b : ℕ) → is_digit b ≡ true → b - 48 ≤ 9
digit-most b e = omega (arith, digit_high b e)

-- ---- a number that is asked for begins with these digits

count-holds : {v w : ℕ} {s t : List ℕ} → Written v w s t → is_count w ≡ true → can_meet need.Count v ≡ true
unfolding can_meet
count-holds (last {v}) e =
    let p = both_true (eqb (v % 2) 0) (leb 2 v) e in both_is (lt-ltb 0 v (omega (arith, leb-true 2 v p.1))) (rw p.0)
count-holds (more {v} d p m x) e = both_is (lt-ltb 0 v p) (either_is (eqb (v % 2) 0) (le-leb (v * 10) largest (omega arith)))

module _ (low : ℕ) where
  -- so many digits more are past the largest number
  unfoldable Enough : ℕ → ℕ → Type 0
  Enough zero first = largest < first
  Enough (suc n) first = Enough n (first * 10)

  reaches-holds : (n first most : ℕ) {v w : ℕ} {s t : List ℕ} → Written v w s t → 0 < first → first ≤ v → v ≤ most → v ≤ largest →
      Enough n first → leb low w ≡ true → reaches n low first most ≡ true
  unfolding reaches Enough
  reaches-holds zero first most x p a b m enough e = absurd (omega arith)
  reaches-holds (suc n) first most (last {v}) p a b m enough e = rw (le-leb low most (omega (arith, leb-true low v e)))
  reaches-holds (suc n) first most (more {v} {b = c} d q r x) p a b m enough e =
      either_is (leb low most)
      (both_is (lt-ltb 0 first p) (both_is (le-leb (first * 10) largest (omega arith))
      (reaches-holds n (first * 10) (most * 10 + 9) x (omega arith) (omega arith) (omega (arith, digit-most c d)) r enough e)))

  least-holds : {v w : ℕ} {s t : List ℕ} → Written v w s t → v ≤ largest → leb low w ≡ true → reaches digits_most low v v ≡ true
  unfolding reaches Enough
  least-holds {v = zero} last l e = rw e
  least-holds {v = zero} (more d p m x) l e = absurd (omega arith)
  least-holds {v = suc u} x l e = reaches-holds digits_most (suc u) (suc u) x (omega arith) (omega arith) (omega arith) l (omega arith) e

pub need-holds : (n : Need) {v w : ℕ} {s t : List ℕ} → Written v w s t → v ≤ largest → meets n w ≡ true → can_meet n v ≡ true
unfolding meets can_meet
need-holds need.Any x l e = refl
need-holds need.Count x l e = count-holds x e
need-holds (need.AtMost high) {v} {w} x l e = le-leb v high (omega (arith, leb-true w high e, written_above x))
need-holds (need.AtLeast low) x l e = least-holds low x l e

-- ---- a number that was read as any number is

-- where it meets the need, it is written so after the digits of v, and is what is read for the need
abbrev MetAfter : Need → ℕ → List ℕ → Read ℕ → Read ℕ → Type 0
MetAfter n v s (Ok (w, next)) exact = meets n w ≡ true → (t : List ℕ) × Written v w s t × (exact ≡ Ok (w, next))
MetAfter n v s (Err p) exact = Unit {0}

abbrev Met : Need → Read ℕ → Read ℕ → Type 0
Met n (Ok (w, next)) exact = meets n w ≡ true → exact ≡ Ok (w, next)
Met n (Err p) exact = Unit {0}

module _ (n : Need) where
  end-met : (v i : ℕ) (s : List ℕ) → MetAfter n v s (Ok (v, i)) (end_of n v i)
  unfolding end_of
  end-met v i s e = (s, last, rw e)

  one_more : (v b i : ℕ) (s : List ℕ) (any exact : Read ℕ) → is_digit b ≡ true → 0 < v → then v b ≤ largest → MetAfter n (then v b) s any exact →
      MetAfter n v (b ∷ s) any (pick (can_meet n (then v b)) exact (Err i))
  one_more v b i s (Ok (w, next)) exact d p m h =
      λ e. let k = h e in (k.0, more d p m k.1, rw (need-holds n k.1 m e) k.2)
  one_more v b i s (Err q) exact d p m h = tt

  digits-met : (v i : ℕ) (bs : List ℕ) → MetAfter n v bs (digits need.Any v i bs) (digits n v i bs)
  unfolding digits end_of meets can_meet
  digits-met v i [] = end-met v i []
  digits-met v i (b ∷ bs) =
      go (is_digit b) (ltb 0 v) (leb (then v b) largest) refl refl refl (digits-met (then v b) (suc i) bs)
    where
      go : (p q r : Bool) → is_digit b ≡ p → ltb 0 v ≡ q → leb (then v b) largest ≡ r →
          MetAfter n (then v b) bs (digits need.Any (then v b) (suc i) bs) (digits n (then v b) (suc i) bs) →
          MetAfter n v (b ∷ bs) (pick p (pick (both q (both r true)) (digits need.Any (then v b) (suc i) bs) (Err i)) (Ok (v, i)))
          (pick p (pick (both q (both r (can_meet n (then v b)))) (digits n (then v b) (suc i) bs) (Err i)) (end_of n v i))
      go true true true d e f h =
          one_more v b i bs (digits need.Any (then v b) (suc i) bs) (digits n (then v b) (suc i) bs) d (ltb-true 0 v e)
          (leb-true (then v b) largest f) h
      go true true false d e f h = tt
      go true false r d e f h = tt
      go false q r d e f h = end-met v i (b ∷ bs)

  number_from-met : (i : ℕ) (bs : List ℕ) → Met n (number_from need.Any i bs) (number_from n i bs)
  unfolding number_from can_meet
  number_from-met i [] = tt
  number_from-met i (b ∷ bs) = go (is_digit b) refl
    where
      first : (any exact : Read ℕ) → is_digit b ≡ true → MetAfter n (b - 48) bs any exact → Met n any (pick (can_meet n (b - 48)) exact (Err i))
      first (Ok (w, next)) exact d h = λ e. let k = h e in rw (need-holds n k.1 (omega (arith, digit-most b d)) e) k.2
      first (Err q) exact d h = tt

      go : (p : Bool) → is_digit b ≡ p →
          Met n (pick (both p true) (digits need.Any (b - 48) (suc i) bs) (Err i)) (pick (both p (can_meet n (b - 48))) (digits n (b - 48) (suc i) bs) (Err i))
      go true d = first (digits need.Any (b - 48) (suc i) bs) (digits n (b - 48) (suc i) bs) d (digits-met (b - 48) (suc i) bs)
      go false d = tt

  pub number-met : (s : List ℕ) (at : ℕ) {w next : ℕ} → number_at s at ≡ Ok (w, next) → meets n w ≡ true → number_for n s at ≡ Ok (w, next)
  unfolding number_for
  number-met s at {w} {next} e = subst (λ (any : Read ℕ). Met n any (number_from n at (drop at s))) e (number_from-met at (drop at s))
