-- Numbers that are all below a bound: the first, the others, those of each part, and a larger bound.
-- Assumes nothing.
use Prim.Native.Nat.{ℕ, ◌≤◌, ◌<◌}
use native.Mathlib.Omega.{arith}
use mathlib.Core.List.{List, [], ◌∷◌, ◌++◌}
use Rattle.text.specs.Below.{AllBelow}

pub below_head : (n b : ℕ) (bs : List ℕ) → AllBelow n (b ∷ bs) → b < n
unfolding AllBelow
below_head n b bs h = h.0

pub below_tail : (n b : ℕ) (bs : List ℕ) → AllBelow n (b ∷ bs) → AllBelow n bs
unfolding AllBelow
below_tail n b bs h = h.1

pub below_weaken : (n m : ℕ) (bs : List ℕ) → n ≤ m → AllBelow n bs → AllBelow m bs
unfolding AllBelow
below_weaken n m [] l h = tt
below_weaken n m (b ∷ bs) l h = (omega arith, below_weaken n m bs l h.1)

pub below-append : (n : ℕ) (xs ys : List ℕ) → AllBelow n xs → AllBelow n ys → AllBelow n (xs ++ ys)
unfolding AllBelow
below-append n [] ys h l = l
below-append n (x ∷ xs) ys h l = (h.0, below-append n xs ys h.1 l)

-- .. and so are those of each part
pub below_left : (n : ℕ) (xs ys : List ℕ) → AllBelow n (xs ++ ys) → AllBelow n xs
unfolding AllBelow
below_left n [] ys h = tt
below_left n (x ∷ xs) ys h = (h.0, below_left n xs ys h.1)

pub below_right : (n : ℕ) (xs ys : List ℕ) → AllBelow n (xs ++ ys) → AllBelow n ys
unfolding AllBelow
below_right n [] ys h = h
below_right n (x ∷ xs) ys h = below_right n xs ys h.1
