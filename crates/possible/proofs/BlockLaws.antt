-- The blocks held, against line 4: their sum is cut at a bound, which no line 4 is past.
-- Assumes nothing.
use Prim.Native.Nat.{ℕ, ◌+◌, ◌≤◌, ◌<◌}
use native.Mathlib.Omega.{arith}
use mathlib.Core.Path.{◌≡◌, refl}
use mathlib.Core.Bool.{true}
use lib.Dec.{leb}
use lib.ListN.{take}
use borrow.Author.Tests.{leb-true}
use Rattle.text.specs.Choice.{no}
use Rattle.text.proofs.ChoiceLaws.{both_true}
use Rattle.state.specs.Limits.{most_stashes}
use Rattle.state.specs.Stashes.{held_in, held_twice, holds_empty, size_at, blocks_held}
use Rattle.state.specs.Sums.{bound, bounded}
use Rattle.state.specs.declared.stashes.Table.{Table}
use Rattle.state.proofs.StashLaws.{blocks_held-before}
use Rattle.state.proofs.TableLaws.{take-held, blocks-all}
use Rattle.transfer_list.specs.declared.header.Header.{Header}
use Rattle.rules.proofs.BoundLaws.{leb_bounded}
use Rattle.possible.specs.Possible.{can_hold}

-- the sum of the blocks held, compared
pub leb_blocks : (t : Table) (n : ℕ) → n < bound → leb (bounded (blocks_held (take most_stashes (held_in t)))) n ≡ leb (blocks_held (held_in t)) n
leb_blocks t n l = rw (leb_bounded (blocks_held (take most_stashes (held_in t))) n l, take-held t)

-- the blocks before a stash and its own are among those held
pub start_fits : (t : Table) (j : ℕ) → blocks_held (take j (held_in t)) + size_at (held_in t) j ≤ blocks_held (held_in t)
start_fits t j = blocks_held-before (held_in t) j

-- no sum is cut where the blocks held are below the bound
module _ (t : Table) (few : blocks_held (held_in t) < bound) where
  pub start_whole : (j : ℕ) → bounded (blocks_held (take j (held_in t))) ≡ blocks_held (take j (held_in t))
  start_whole j = omega (arith, blocks_held-before (held_in t) j)

  pub all_whole : bounded (blocks_held (take most_stashes (held_in t))) ≡ blocks_held (held_in t)
  all_whole = blocks-all t refl few

-- the blocks held are no more than line 4
pub held_most : (h : Header) (t : Table) → can_hold h t ≡ true → blocks_held (held_in t) ≤ h.blocks
unfolding can_hold
held_most h t e =
    let p = (both_true (leb t.count most_stashes) _ e).1 in
    let q = (both_true (no (held_twice (held_in t))) _ p).1 in
    leb-true (blocks_held (held_in t)) h.blocks (both_true (no (holds_empty (held_in t))) _ q).1
