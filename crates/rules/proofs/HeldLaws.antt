-- What is held after a command that is not refused: the table holds what the rules say, stays whole, holds no more blocks than line 4, and
-- no hash twice. And after any line: no stash of no blocks.
-- Assumes nothing.
use mathlib.Core.Path.{◌≡◌, refl}
use mathlib.Core.Bool.{false}
use mathlib.Core.List.{List, [], ◌∷◌}
use Prim.Native.Nat.{ℕ, ◌≤◌, ◌<◌}
use native.Mathlib.Omega.{arith}
use lib.ListN.{length}
use Rattle.text.specs.Hash.{hash_bytes}
use Rattle.ranges.specs.Ranges.{least_blocks}
use Rattle.ranges.specs.declared.RangeSet.{RangeSet}
use Rattle.state.specs.Limits.{most_stashes}
use Rattle.state.specs.Refusals.{none}
use Rattle.state.specs.Stashes.{Stash, Whole, held_in, find_in, held_twice, holds_empty, blocks_held}
use Rattle.state.specs.declared.stashes.Table.{Table}
use Rattle.state.proofs.StashLaws.{blocks_held-append, blocks_held-without, twice_append, twice_without, holds_empty-more, holds_empty-without}
use Rattle.state.proofs.TableLaws.{whole-held, hold_held, hold_whole, release_held, release_whole}
use Rattle.command.specs.Commands.{command_of}
use Rattle.command.specs.declared.Command.{Command}
use Rattle.command.specs.declared.Command.TheVariants as command
use Rattle.command.proofs.CommandLaws.{GoodCommand, stash_some}
use Rattle.rules.specs.Held.{drop_found, held_after, release_found, table_after}
use Rattle.rules.specs.Rules.{refusal_for}
use Rattle.rules.specs.declared.Terms.{Terms}
use Rattle.rules.proofs.RuleLaws.{stash-fits, not-unsupported, not-bad}
use Rattle.std.specs.Prelude.{Option, Some, None}

-- ---- in the table

module _ (l : List ℕ) (terms : Terms) (t : Table) (hash : List ℕ) (w : Whole t) where
  released_held : (f : Option ℕ) → held_in (release_found t f) ≡ drop_found (held_in t) f
  released_held (Some j) = release_held t j w
  released_held None = refl

  released_whole : (f : Option ℕ) → Whole (release_found t f)
  released_whole (Some j) = release_whole t j w
  released_whole None = w

  module _ (most : terms.stashes ≤ most_stashes) (size : length hash ≡ hash_bytes) where
    pub held_after_lem : (c : Command) → refusal_for l terms (held_in t) hash c ≡ none → held_in (table_after t hash c) ≡ held_after (held_in t) hash c
    unfolding held_after table_after
    held_after_lem (command.Zero set) e = refl
    held_after_lem (command.Erase set) e = refl
    held_after_lem (command.New set) e = refl
    held_after_lem (command.Move target n source) e = refl
    held_after_lem (command.Bsdiff target n source) e = refl
    held_after_lem (command.Stash set) e =
        let f = stash-fits l terms (held_in t) hash e refl in
        hold_held t hash set.blocks w (omega (arith, f.count, whole-held w)) size
    held_after_lem command.Free e = released_held (find_in (held_in t) hash)
    held_after_lem command.Unsupported e = refl
    held_after_lem (command.Bad p) e = refl

  pub table-whole : length hash ≡ hash_bytes → (c : Command) → Whole (table_after t hash c)
  unfolding table_after
  table-whole size (command.Zero set) = w
  table-whole size (command.Erase set) = w
  table-whole size (command.New set) = w
  table-whole size (command.Move target n source) = w
  table-whole size (command.Bsdiff target n source) = w
  table-whole size (command.Stash set) = hold_whole t hash set.blocks w size
  table-whole size command.Free = released_whole (find_in (held_in t) hash)
  table-whole size command.Unsupported = w
  table-whole size (command.Bad p) = w

-- ---- in the stashes

module _ (l : List ℕ) (terms : Terms) (stashes : List Stash) (hash : List ℕ) where
  pub good-command : (c : Command) → refusal_for l terms stashes hash c ≡ none → GoodCommand c
  good-command (command.Zero set) e = tt
  good-command (command.Erase set) e = tt
  good-command (command.New set) e = tt
  good-command (command.Move target n source) e = tt
  good-command (command.Bsdiff target n source) e = tt
  good-command (command.Stash set) e = tt
  good-command command.Free e = tt
  good-command command.Unsupported e = not-unsupported l terms stashes hash e refl
  good-command (command.Bad p) e = not-bad l terms stashes hash e refl

  -- no more blocks than line 4
  pub held-blocks : (c : Command) → refusal_for l terms stashes hash c ≡ none → blocks_held stashes ≤ terms.blocks →
      blocks_held (held_after stashes hash c) ≤ terms.blocks
  unfolding held_after blocks_held
  held-blocks (command.Zero set) e h = h
  held-blocks (command.Erase set) e h = h
  held-blocks (command.New set) e h = h
  held-blocks (command.Move target n source) e h = h
  held-blocks (command.Bsdiff target n source) e h = h
  held-blocks (command.Stash set) e h =
      let f = stash-fits l terms stashes hash e refl in
      omega (arith, f.room, blocks_held-append stashes (record { hash = hash; blocks = set.blocks } ∷ []))
  held-blocks command.Free e h = go (find_in stashes hash)
    where
      go : (f : Option ℕ) → blocks_held (drop_found stashes f) ≤ terms.blocks
      go (Some j) = omega (arith, blocks_held-without stashes j)
      go None = h
  held-blocks command.Unsupported e h = h
  held-blocks (command.Bad p) e h = h

  -- no hash twice
  pub after-once : (c : Command) → refusal_for l terms stashes hash c ≡ none → held_twice stashes ≡ false →
      held_twice (held_after stashes hash c) ≡ false
  unfolding held_after
  after-once (command.Zero set) e h = h
  after-once (command.Erase set) e h = h
  after-once (command.New set) e h = h
  after-once (command.Move target n source) e h = h
  after-once (command.Bsdiff target n source) e h = h
  after-once (command.Stash set) e h =
      twice_append stashes (record { hash = hash; blocks = set.blocks }) h (stash-fits l terms stashes hash e refl).unheld
  after-once command.Free e h = go (find_in stashes hash)
    where
      go : (f : Option ℕ) → held_twice (drop_found stashes f) ≡ false
      go (Some j) = twice_without stashes j h
      go None = h
  after-once command.Unsupported e h = h
  after-once (command.Bad p) e h = h

-- no stash of no blocks, as the set of a `stash` has some (R-7)
module _ (stashes : List Stash) (hash : List ℕ) (h : holds_empty stashes ≡ false) where
  command-keeps : (c : Command) → ((set : RangeSet) → c ≡ command.Stash set → 0 < set.blocks) → holds_empty (held_after stashes hash c) ≡ false
  unfolding held_after
  command-keeps (command.Zero set) some = h
  command-keeps (command.Erase set) some = h
  command-keeps (command.New set) some = h
  command-keeps (command.Move target n source) some = h
  command-keeps (command.Bsdiff target n source) some = h
  command-keeps (command.Stash set) some = holds_empty-more stashes hash set.blocks h (some set refl)
  command-keeps command.Free some = go (find_in stashes hash)
    where
      go : (f : Option ℕ) → holds_empty (drop_found stashes f) ≡ false
      go (Some j) = holds_empty-without stashes j h
      go None = h
  command-keeps command.Unsupported some = h
  command-keeps (command.Bad p) some = h

  pub after-none-empty : (l : List ℕ) → holds_empty (held_after stashes hash (command_of least_blocks l).command) ≡ false
  after-none-empty l = command-keeps (command_of least_blocks l).command (λ set e. stash_some l e)
