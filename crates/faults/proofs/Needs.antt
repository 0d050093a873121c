-- What is asked of a number: where `can_meet` is true of the digits read so far, some number that is asked for begins with them. (That it is true
-- only then is `need-holds` of text.)
-- Assumes nothing.
use mathlib.Core.Path.{◌≡◌, refl, ◌∙◌, subst}
use mathlib.Core.Bool.{true}
use mathlib.Core.Logic.{⊎_elim}
use Prim.Native.Nat.{ℕ, zero, suc, ◌+◌, ◌*◌, ◌/◌, ◌%◌, ◌≤◌, ◌<◌, max}
use native.Mathlib.Omega.{arith}
use mathlib.Core.List.{List, [], ◌∷◌}
use lib.Dec.{leb, ltb, eqb}
use borrow.Author.Tests.{leb-true, ltb-true, le-leb, eq-eqb, eqb-true}
use Rattle.text.specs.Choice.{either}
use Rattle.text.specs.Number.{largest, digits_most, is_digit, then, is_count, meets, reaches, can_meet}
use Rattle.text.specs.declared.number.Need.TheVariants as need
use Rattle.text.proofs.ChoiceLaws.{both_true, both_is, either_true, either_or_false}
use Rattle.text.proofs.NeedLaws.{Written, last, more, written_above, need-holds}
use Rattle.faults.proofs.Numbers.{Exact}

-- ---- any number

pub any_exact : Exact need.Any
unfolding meets can_meet
any_exact =
    record { digit = 48; is_digit = refl; starts = refl; grows = λ v l e. (v, [], last, refl) }

-- ---- a number up to another

pub most_exact : (high : ℕ) → Exact (need.AtMost high)
unfolding meets can_meet
most_exact high = record { digit = 48; is_digit = refl; starts = le-leb 0 high (omega arith); grows = λ v l e. (v, [], last, e) }

-- ---- a count: an odd number takes a zero more, if there is room

count-even : (v : ℕ) → v % 2 ≡ 0 → 0 < v → is_count v ≡ true
count-even v e l = both_is (eq-eqb (v % 2) 0 e) (le-leb 2 v (omega arith))

count-grows : (v : ℕ) → can_meet need.Count v ≡ true → (w : ℕ) × (s : List ℕ) × Written v w s [] × (is_count w ≡ true)
unfolding can_meet
count-grows v e =
    let p = both_true (ltb 0 v) (either (eqb (v % 2) 0) (leb (v * 10) largest)) e in
    let l = ltb-true 0 v p.0 in
    ⊎_elim
    (λ even. (v, [], last, count-even v (eqb-true (v % 2) 0 even) l))
    (λ room. let m = leb-true (v * 10) largest room in
    (then v 48, 48 ∷ [], more {b = 48} refl l (omega arith) last, count-even (then v 48) (omega arith) (omega arith)))
    (either_true (eqb (v % 2) 0) (leb (v * 10) largest) p.1)

pub count_exact : Exact need.Count
unfolding meets can_meet
count_exact =
    record { digit = 50; is_digit = refl; starts = refl; grows = λ v l e. count-grows v e }

-- ---- a number from another on. Those that have j digits more than v lie from `lowest j v` to `highest j v`, and each is written

unfoldable lowest : ℕ → ℕ → ℕ
lowest zero v = v
lowest (suc j) v = lowest j v * 10

unfoldable highest : ℕ → ℕ → ℕ
highest zero v = v
highest (suc j) v = highest j v * 10 + 9

in_order : (j v : ℕ) → lowest j v ≤ highest j v
unfolding lowest highest
in_order zero v = omega arith
in_order (suc j) v = omega (arith, in_order j v)

-- one digit more is read
longer : {v w b : ℕ} {s t : List ℕ} → Written v w s (b ∷ t) → is_digit b ≡ true → 0 < w → then w b ≤ largest → Written v (then w b) s t
longer last d p m = more d p m last
longer (more e q n x) d p m = more e q n (longer x d p m)

digit_of_lem : (d : ℕ) → d ≤ 9 → is_digit (48 + d) ≡ true
digit_of_lem d l = both_is (le-leb 48 (48 + d) (omega arith)) (le-leb (48 + d) 57 (omega arith))

write : (j v w : ℕ) (t : List ℕ) → 0 < v → lowest j v ≤ w → w ≤ highest j v → w ≤ largest → (s : List ℕ) × Written v w s t
unfolding lowest highest
write zero v w t p l h m = (t, subst (λ w. Written v w t t) (let e : v ≡ w = omega arith in e) last)
write (suc j) v w t p l h m =
    let x = write j v (w / 10) ((48 + w % 10) ∷ t) p (omega arith) (omega arith) (omega arith) in
    let e : then (w / 10) (48 + w % 10) ≡ w = omega arith in (
      x.0,
      subst (λ w. Written v w x.0 t) e (longer x.1 (digit_of_lem (w % 10) (omega arith)) (omega (arith, written_above x.1)) (omega arith)),
    )

module _ (low : ℕ) where
  -- so many digits more than v make a number that is at least low
  Reached : ℕ → Type 0
  Reached v = (j : ℕ) × (lowest j v ≤ largest) × (low ≤ highest j v)

  reached : (n v j : ℕ) → lowest j v ≤ largest → reaches n low (lowest j v) (highest j v) ≡ true → Reached v
  unfolding reaches lowest highest Reached
  reached zero v j l e = (j, l, leb-true low (highest j v) e)
  reached (suc n) v j l e =
      ⊎_elim
      (λ h. (j, l, leb-true low (highest j v) h))
      (λ h. let p = both_true (ltb 0 (lowest j v)) _ h in
      let q = both_true (leb (lowest j v * 10) largest) (reaches n low (lowest j v * 10) (highest j v * 10 + 9)) p.1 in
      reached n v (suc j) (leb-true (lowest j v * 10) largest q.0) q.1)
      (either_true (leb low (highest j v)) _ e)

  least-grows : low ≤ largest → (v : ℕ) → v ≤ largest → reaches digits_most low v v ≡ true →
      (w : ℕ) × (s : List ℕ) × Written v w s [] × (leb low w ≡ true)
  unfolding reaches lowest highest Reached
  least-grows m zero l e = (0, [], last, either_or_false (leb low 0) ∙ e)
  least-grows m (suc u) l e =
      let k = reached digits_most (suc u) 0 l e in
      let w = max low (lowest k.0 (suc u)) in
      let o = in_order k.0 (suc u) in
      let x = write k.0 (suc u) w [] (omega arith) (omega arith) (omega (arith, k.2)) (omega (arith, k.1)) in
      (w, x.0, x.1, le-leb low w (omega arith))

  -- the largest number begins with 4, and has nine digits more
  pub least_exact : low ≤ largest → Exact (need.AtLeast low)
  unfolding meets can_meet lowest highest
  least_exact m =
      record {
        digit = 52;
        is_digit = refl;
        starts =
            need-holds (need.AtLeast low) (write 9 4 largest [] (omega arith) (omega arith) (omega arith) (omega arith)).1 (omega arith)
            (le-leb low largest m);
        grows = λ v l e. least-grows m v l e;
      }
