-- A source put together overwrites the first N blocks of the work area, and no other: its places are all of 0 to N-1, so that nothing is left
-- there of what the area held.
-- Assumes nothing.
use mathlib.Core.Path.{◌≡◌, refl, sym, subst, ◌∙◌}
use mathlib.Core.Bool.{Bool, true, false}
use mathlib.Core.List.{List, [], ◌∷◌, ◌++◌}
use mathlib.Core.Logic.{⊎_elim}
use Prim.Native.Nat.{ℕ, zero, suc, ◌+◌, ◌*◌, ◌/◌, ◌≤◌, ◌<◌}
use native.Mathlib.Omega.{arith}
use borrow.Author.Tests.{ltb-true, ltb-false, eqb-false, ne_eqb}
use lib.Dec.{ltb, eqb}
use lib.ListN.{length, length-append}
use Rattle.text.proofs.ChoiceLaws.{bool}
use Rattle.ranges.specs.Ranges.{span}
use Rattle.ranges.specs.Walk.{blocks_at, AllBelow}
use Rattle.ranges.specs.declared.RangeSet.{RangeSet}
use Rattle.ranges.proofs.WalkLaws.{length-span, set-blocks}
use Rattle.state.specs.Limits.{block_bytes}
use Rattle.state.specs.Stashes.{Stash}
use Rattle.command.specs.Parts.{StashUse, uses_at}
use Rattle.command.specs.declared.source.Source.{Source}
use Rattle.command.specs.declared.source.Source.TheVariants.{Blocks, Stashes, Both}
use Rattle.command.proofs.PartLaws.{AllSets, sets_head, sets_tail, named_start, all_named_sets}
use Rattle.rules.specs.Move.{is_in, places_named, places_of}
use Rattle.rules.specs.declared.Terms.{Terms}
use Rattle.rules.proofs.CoverLaws.{in_append, places_cover}
use Rattle.rules.proofs.RuleLaws.{SourceFits, misplaced-below}
use Rattle.updater.specs.Bytes.{gathered}
use Rattle.updater.specs.Source.{stash_bytes, spread, supplied, together}
use Rattle.updater.specs.Runnable.{blocks_in, Keeps, Spreads, InImage, Sourced}
use Rattle.updater.proofs.ByteLaws.{length-gathered, below_span}
use Rattle.updater.proofs.SourceLaws.{length-stash_bytes}
use Rattle.restart.proofs.OverwriteLaws.{Overwrites, overwrites_as, overwrites_nothing, overwrites_then, overwrites_written}

-- ---- places

-- n places that are all of 0 to n-1 are the blocks of the first n
front-blocks : (n : ℕ) (ps : List ℕ) → AllBelow n ps → ((k : ℕ) → k < n → is_in k ps ≡ true) → (k : ℕ) →
    ltb k (block_bytes * n) ≡ is_in (k / block_bytes) ps
unfolding is_in AllBelow
front-blocks n ps below all k = go (ltb k (block_bytes * n)) refl
  where
    not_in : (qs : List ℕ) → AllBelow n qs → (j : ℕ) → n ≤ j → is_in j qs ≡ false
    not_in [] b j h = refl
    not_in (q ∷ qs) b j h = let c = b.0 in rw (ne_eqb j q (λ e. omega arith)) (not_in qs b.1 j h)

    go : (t : Bool) → ltb k (block_bytes * n) ≡ t → t ≡ is_in (k / block_bytes) ps
    go true e = let l = ltb-true k (block_bytes * n) e in sym (all (k / block_bytes) (omega arith))
    go false e = let l = ltb-false k (block_bytes * n) e in sym (not_in ps below (k / block_bytes) (omega arith))

length-places : (l : List ℕ) (ps : List StashUse) → AllSets l ps → length (places_of l ps) ≡ places_named ps
unfolding places_of places_named
length-places l [] k = refl
length-places l (p ∷ ps) k =
    let here = set-blocks _ l p.places.at (sets_head p ps l k).text in
    let rest = length-places l ps (sets_tail p ps l k) in
    simp length-append (omega arith)

in_span : (start n k : ℕ) → start ≤ k → k < start + n → is_in k (span start n) ≡ true
unfolding is_in span
in_span start zero k h l = absurd (omega arith)
in_span start (suc n) k h l =
    ⊎_elim
    (λ t. rw t)
    (λ t. rw t (in_span (suc start) n k (omega (arith, eqb-false k start t)) (omega arith)))
    (bool (eqb k start))

-- ---- a source

-- bytes of the first n blocks
abbrev pub first_blocks : ℕ → ℕ → Bool
first_blocks n k = ltb k (block_bytes * n)

-- stashes over their places
overwrites_spread : (l : List ℕ) (xs : List Stash) (stash : List ℕ) → Keeps xs stash → (size : ℕ) (ps : List StashUse) →
    Spreads l xs (size / block_bytes) ps → Overwrites (λ k. is_in (k / block_bytes) (places_of l ps)) size (spread l xs stash ps)
unfolding spread Spreads places_of is_in
overwrites_spread l xs stash kept size [] h = overwrites_nothing size
overwrites_spread l xs stash kept size (p ∷ ps) h =
    let bs = blocks_at l p.places.at in
    let bytes = stash_bytes xs stash p.hash in
    let long = length-stash_bytes xs stash kept p.hash (length bs) h.0.size in
    overwrites_as
    (overwrites_then (overwrites_written size bs bytes h.0.below (omega arith)) (overwrites_spread l xs stash kept size ps h.1))
    (λ k. is_in (k / block_bytes) (bs ++ places_of l ps))
    (λ k. in_append (k / block_bytes) bs (places_of l ps))

module _ (l image work : List ℕ) where
  pub overwrites_supplied : (set : RangeSet) → InImage l image set → set.blocks ≤ blocks_in work →
      Overwrites (first_blocks set.blocks) (length work) (supplied l image set.at set.blocks)
  unfolding supplied
  overwrites_supplied set h room =
      let n = set.blocks in
      let long = length-gathered (blocks_at l set.at) image h.below in
      overwrites_as
      (overwrites_written (length work) (span 0 n) (gathered (blocks_at l set.at) image) (below_span (blocks_in work) 0 n (omega arith))
      (omega (arith, length-span 0 n, h.size)))
      (first_blocks n)
      (front-blocks n (span 0 n) (below_span n 0 n (omega arith)) (λ k b. in_span 0 n k (omega arith) (omega arith)))

  pub overwrites_together : (terms : Terms) (xs : List Stash) (stash : List ℕ) (n : ℕ) (source : Source) → Keeps xs stash →
      Sourced l xs image work source → SourceFits l terms xs n source → Overwrites (first_blocks n) (length work) (together l image stash xs source)
  unfolding together Sourced
  overwrites_together terms xs stash n (Blocks set) kept h g =
      subst (λ (i : ℕ). Overwrites (first_blocks i) (length work) (supplied l image set.at set.blocks)) g.size (overwrites_supplied set h.0 h.1)
  overwrites_together terms xs stash n (Stashes first) kept h g =
      let ps = uses_at l first in
      let all = length-places l ps (all_named_sets (named_start l first)) ∙ g.total in
      overwrites_as (overwrites_spread l xs stash kept (length work) ps h) (first_blocks n)
      (front-blocks n (places_of l ps) (misplaced-below n [] (places_of l ps) g.placed) (places_cover n (places_of l ps) g.placed all))
  overwrites_together terms xs stash n (Both set places first) kept h g =
      let ps = uses_at l first in
      let bs = blocks_at l places.at in
      let rest = length-places l ps (all_named_sets (named_start l first)) in
      let total = g.total in
      let sizes = g.size in
      let here = h.1.size in
      let all : length (bs ++ places_of l ps) ≡ n = simp length-append (omega arith) in
      let below = misplaced-below n [] (bs ++ places_of l ps) g.placed in
      let long = length-gathered (blocks_at l set.at) image h.0.below in
      overwrites_as
      (overwrites_then
      (overwrites_written (length work) bs (gathered (blocks_at l set.at) image) h.1.below (omega (arith, h.0.size)))
      (overwrites_spread l xs stash kept (length work) ps h.2))
      (first_blocks n)
      (λ k.
      front-blocks n (bs ++ places_of l ps) below (places_cover n (bs ++ places_of l ps) g.placed all) k
      ∙ in_append (k / block_bytes) bs (places_of l ps))
