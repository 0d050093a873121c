-- `text::number::can_reach` meets its contract.
use mathlib.Core.Path.{◌≡◌, refl, sym, ◌∙◌}
use mathlib.Core.Bool.{Bool, true, false}
use Prim.Native.Nat.{ℕ, zero, suc, ◌+◌, ◌-◌, ◌*◌, ◌≤◌, ◌<◌}
use native.Mathlib.Omega.{arith}
use lib.Dec.{leb, ltb}
use borrow.Author.Tests.{le-leb, lt-leb, lt-ltb, le-ltb, leb-false}
use Rattle.text.specs.Choice.{both, either}
use Rattle.text.specs.Number.{largest, reaches}
use Rattle.text.proofs.number.can_reach.Goals as goal

-- what every number but 0 can reach
abbrev always : ℕ
always = 100000000

-- `first` with n zeros after it is at least that
unfoldable Enough : ℕ → ℕ → Type 0
Enough zero first = always ≤ first
Enough (suc n) first = Enough n (first * 10)

module _ (low : ℕ) where
  reach-always : (n first last : ℕ) → low ≤ always → 0 < first → first ≤ last → Enough n first → reaches n low first last ≡ true
  unfolding reaches Enough
  reach-always zero first last l p o e = le-leb low last (omega arith)
  reach-always (suc n) first last l p o e =
      go (leb low last) refl (reach-always n (first * 10) (last * 10 + 9) l (omega arith) (omega arith) e)
    where
      go : (t : Bool) → leb low last ≡ t → reaches n low (first * 10) (last * 10 + 9) ≡ true →
          either t (both (ltb 0 first) (both (leb (first * 10) largest) (reaches n low (first * 10) (last * 10 + 9)))) ≡ true
      go true f h = refl
      go false f h =
          let m = leb-false low last f in
          rw (lt-ltb 0 first p, le-leb (first * 10) largest (omega arith), h)

  module _ (n first last : ℕ) where
    reach-last : n ≡ 0 → reaches n low first last ≡ leb low last
    unfolding reaches
    reach-last z = rw z

    module _ (m : ℕ) (p : n ≡ suc m) where
      reach_now : low ≤ last → reaches n low first last ≡ true
      unfolding reaches
      reach_now l = rw (p, le-leb low last l)

      module _ (l : last < low) where
        reach-zero : first ≡ 0 → reaches n low first last ≡ false
        unfolding reaches
        reach-zero z = rw (p, lt-leb low last l, le-ltb 0 first (omega arith))

        reach-large : 0 < first → largest < first * 10 → reaches n low first last ≡ false
        unfolding reaches
        reach-large q k = rw (p, lt-leb low last l, lt-ltb 0 first q, lt-leb (first * 10) largest k)

        reach-more : 0 < first → first * 10 ≤ largest → reaches n low first last ≡ reaches m low (first * 10) (last * 10 + 9)
        unfolding reaches
        reach-more q k = rw (p, lt-leb low last l, lt-ltb 0 first q, le-leb (first * 10) largest k)

pub returns-then-low-v : goal.returns-then-low-v
returns-then-low-v c = sym (reach_now _ _ _ _ 9 (omega arith) (omega arith))

pub returns-then-v-eq0 : goal.returns-then-v-eq0
returns-then-v-eq0 c = sym (reach-zero _ _ _ _ 9 (omega arith) (omega arith) (omega arith))

pub returns-then-low-le-ALWAYS_REACHED : goal.returns-then-low-le-ALWAYS_REACHED
unfolding Enough
returns-then-low-le-ALWAYS_REACHED c = sym (reach-always _ _ _ _ (omega arith) (omega arith) (omega arith) (omega arith))

pub loop-init : goal.loop-init
loop-init c = (omega arith, omega arith, refl)

pub returns-then-low-last : goal.returns-then-low-last
returns-then-low-last c = sym (reach_now _ _ _ _ (9 - c.loop.counter) (omega arith) (omega arith)) ∙ c.loop.invariant.2

pub returns-then-first-gt-LARGEST : goal.returns-then-first-gt-LARGEST
returns-then-first-gt-LARGEST c =
    sym (reach-large _ _ _ _ (9 - c.loop.counter) (omega arith) (omega arith) (omega arith) (omega arith)) ∙ c.loop.invariant.2

pub loop-preserved : goal.loop-preserved
loop-preserved c = (
  omega arith,
  omega arith,
  sym (reach-more _ _ _ _ _ (omega arith) (omega arith) (omega arith) (omega arith)) ∙ c.loop.invariant.2,
)

pub returns : goal.returns
returns c = sym (reach-last _ _ _ _ (omega arith)) ∙ c.loop.invariant.2
