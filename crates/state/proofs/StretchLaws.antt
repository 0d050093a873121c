-- Laws of the stretches of a `free`: which there are, that they are fewer than the blocks that move, and that all before one are there too.
-- Assumes nothing.
use mathlib.Core.Path.{◌≡◌, refl, sym}
use mathlib.Core.Bool.{Bool, true, false}
use mathlib.Core.Logic.{◌⊎◌, inl, inr}
use Prim.Native.Nat.{ℕ, ◌+◌, ◌-◌, ◌*◌, ◌/◌, ◌≤◌, ◌<◌}
use native.Mathlib.Nat.{le-div_iff_mul-le, div-lt_iff_lt-mul, le-mul_of_pos_right, mul-le-mul_right}
use native.Mathlib.Omega.{arith}
use borrow.Author.Tests.{ltb-true, ltb-false, leb-true, leb-false, lt-ltb, le-ltb}
use lib.Dec.{leb, ltb}
use Rattle.text.specs.Choice.{both}
use Rattle.text.proofs.ChoiceLaws.{both_true}
use Rattle.state.specs.Stretches.{is_stretch}

module _ (gap younger k : ℕ) where
  pub stretch_some : is_stretch gap younger k ≡ true → (0 < gap) × (k * gap < younger)
  unfolding is_stretch
  stretch_some e =
      let p = both_true (ltb 0 gap) (ltb (k * gap) younger) e in
      (ltb-true 0 gap p.0, ltb-true (k * gap) younger p.1)

  pub stretch_is : 0 < gap → k * gap < younger → is_stretch gap younger k ≡ true
  unfolding is_stretch
  stretch_is h l = rw (lt-ltb 0 gap h, lt-ltb (k * gap) younger l)

  pub stretch_none : is_stretch gap younger k ≡ false → (gap ≡ 0) ⊎ (younger ≤ k * gap)
  unfolding is_stretch
  stretch_none = go (ltb 0 gap) refl
    where
      go : (t : Bool) → ltb 0 gap ≡ t → both t (ltb (k * gap) younger) ≡ false → (gap ≡ 0) ⊎ (younger ≤ k * gap)
      go true e f = inr (ltb-false (k * gap) younger f)
      go false e f = inl (omega (arith, ltb-false 0 gap e))

  -- none over a gap of no blocks, and none where all blocks are moved before it
  pub no-gap-no_stretch : gap ≡ 0 → is_stretch gap younger k ≡ false
  unfolding is_stretch
  no-gap-no_stretch h = rw (le-ltb 0 gap (omega arith))

  pub past-stretches : younger ≤ k * gap → is_stretch gap younger k ≡ false
  unfolding is_stretch
  past-stretches h = rw (le-ltb (k * gap) younger h) (none (ltb 0 gap))
    where
      none : (t : Bool) → both t false ≡ false
      none true = refl
      none false = refl

  -- each stretch moves at least one block
  pub stretch_few : is_stretch gap younger k ≡ true → k < younger
  stretch_few e =
      let s = stretch_some e in
      omega (arith, le-mul_of_pos_right {m = gap} k s.0)

  -- the stretches, counted by the whole gaps in the blocks before the last one
  pub stretch_by_gaps : 0 < gap → 0 < younger → leb k ((younger - 1) / gap) ≡ is_stretch gap younger k
  stretch_by_gaps h l = go (leb k ((younger - 1) / gap)) refl
    where
      go : (t : Bool) → leb k ((younger - 1) / gap) ≡ t → t ≡ is_stretch gap younger k
      go true e =
          let m = (le-div_iff_mul-le {k = gap} {x = k} {y = younger - 1} h).0 (leb-true k ((younger - 1) / gap) e) in
          sym (stretch_is h (omega arith))
      go false e =
          let m = (div-lt_iff_lt-mul {k = gap} {x = younger - 1} {y = k} h).0 (leb-false k ((younger - 1) / gap) e) in
          sym (past-stretches (omega arith))

pub stretch_before : (gap younger k : ℕ) → is_stretch gap younger (k + 1) ≡ true → is_stretch gap younger k ≡ true
stretch_before gap younger k e =
    let s = stretch_some gap younger (k + 1) e in
    let m = mul-le-mul_right {m = k} {n = k + 1} gap (omega arith) in
    stretch_is gap younger k s.0 (omega arith)
