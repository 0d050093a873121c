-- A number below the bound compares with a bounded sum as with the whole; and the code's "not" is `no`.
-- Assumes nothing.
use mathlib.Core.Path.{◌≡◌, refl}
use mathlib.Core.Bool.{Bool, true, false, not}
use Prim.Native.Nat.{ℕ, ◌+◌, ◌<◌, min}
use native.Mathlib.Omega.{arith}
use lib.Dec.{leb, ltb, eqb}
use lib.ListN.{length, take}
use Rattle.std.proofs.lemmas.Grind.{common_steps}
use Rattle.text.specs.Choice.{no}
use Rattle.state.specs.Limits.{most_stashes}
use Rattle.state.specs.Stashes.{held_in, blocks_held}
use Rattle.state.specs.Sums.{bound, bounded}
use Rattle.state.specs.declared.stashes.Table.{Table}
use Rattle.state.proofs.TableLaws.{length-held, take-held}

pub not-no : (a : Bool) → not a ≡ no a
not-no true = refl
not-no false = refl

module _ (m n : ℕ) (l : n < bound) where
  pub eqb_bounded : eqb (bounded m) n ≡ eqb m n
  eqb_bounded = grind (arith, common_steps)

  pub leb_bounded : leb (bounded m) n ≡ leb m n
  leb_bounded = grind (arith, common_steps)

  pub ltb_bounded : ltb n (bounded m) ≡ ltb n m
  ltb_bounded = grind (arith, common_steps)

-- one number more, and a sum that was cut before
module _ (a m n : ℕ) (l : n < bound) where
  more : bounded (a + bounded m) ≡ bounded (a + m)
  more = omega arith

  pub eqb_more : eqb (bounded (a + bounded m)) n ≡ eqb (a + m) n
  eqb_more = rw (more, eqb_bounded (a + m) n l)

-- the stashes held and their blocks, against lines 3 and 4
module _ (t : Table) where
  pub held_length : length (held_in t) ≡ min t.count most_stashes
  held_length = length-held t

  pub ltb_blocks : (b n : ℕ) → n < bound →
      ltb n (bounded (bounded (blocks_held (take most_stashes (held_in t))) + b)) ≡ ltb n (blocks_held (held_in t) + b)
  ltb_blocks b n l =
      let q : bounded (bounded (blocks_held (take most_stashes (held_in t))) + b) ≡ bounded (blocks_held (held_in t) + b)
      = rw (take-held t) (omega arith) in
      rw (q, ltb_bounded (blocks_held (held_in t) + b) n l)
