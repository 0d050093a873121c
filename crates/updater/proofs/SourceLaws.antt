-- Laws of the stashes spread over the work area, and of a source put together there.
-- Assumes nothing.
use Rattle.std.proofs.Common.{◌≡◌, ℕ, ◌+◌, ◌*◌, ◌/◌, ◌≤◌, List, [], ◌∷◌, length, take, refl, ap, ◌∙◌, subst, arith, length-drop, length-take}
use Rattle.ranges.specs.Ranges.{span}
use Rattle.ranges.specs.Walk.{blocks_at, walk_from, remaining}
use Rattle.ranges.specs.declared.RangeSet.{RangeSet}
use Rattle.ranges.specs.declared.walk.Walk.{Walk}
use Rattle.ranges.proofs.WalkLaws.{length-span, walk_start}
use Rattle.state.specs.Limits.{block_bytes}
use Rattle.state.specs.Stashes.{Stash, find_in, size_at, blocks_held, stash_start}
use Rattle.state.specs.Sums.{bounded}
use Rattle.state.proofs.StashLaws.{blocks_held-before}
use Rattle.command.specs.Parts.{StashUse, uses_at}
use Rattle.command.specs.declared.source.Source.{Source}
use Rattle.command.specs.declared.source.Source.TheVariants.{Blocks, Stashes, Both}
use Rattle.updater.specs.Areas.{Areas}
use Rattle.updater.specs.Bytes.{gathered, written}
use Rattle.updater.specs.Source.{stash_bytes, spread, supplied, together}
use Rattle.updater.specs.Runnable.{Keeps, FoundSize, Spread, Spreads, InImage, InWork, Sourced, blocks_in}
use Rattle.updater.proofs.ByteLaws.{length-gathered, length-written, below_span, gathered-span}
use Rattle.std.specs.Prelude.{Option, Some, None}

-- the blocks of a walk from a set's start are the set's
pub walk-blocks : (l : List ℕ) (at : ℕ) {w : Walk} → w ≡ walk_from l at → remaining l w ≡ blocks_at l at
walk-blocks l at e = ap (remaining l) e ∙ walk_start l at

-- ---- a stash that is found

module _ (xs : List Stash) (stash : List ℕ) (k : Keeps xs stash) where
  -- it lies within the stash area, where all of them do
  pub stash-within : (j : ℕ) {n : ℕ} → size_at xs j ≡ n → block_bytes * (stash_start xs j + n) ≤ length stash
  stash-within j e = omega (arith, blocks_held-before xs j, k.room)

  -- its start, summed up to a bound
  pub start_exact : (j : ℕ) {n : ℕ} → n ≡ bounded (blocks_held (take j xs)) → n ≡ stash_start xs j
  start_exact j e = omega (arith, blocks_held-before xs j, k.blocks)

  -- its blocks, as many as the places, are within the stash area, and together they are its bytes
  pub stash_row : (hash : List ℕ) (n : ℕ) {j start : ℕ} → find_in xs hash ≡ Some j → start ≡ bounded (blocks_held (take j xs)) →
      FoundSize xs n (find_in xs hash) → (block_bytes * (start + n) ≤ length stash) × (gathered (span start n) stash ≡ stash_bytes xs stash hash)
  unfolding stash_bytes
  stash_row hash n {j = j} {start = start} e f h =
      let s : size_at xs j ≡ n = subst (FoundSize xs n) e h in
      let t = start_exact j f in
      (rw t (stash-within j s), rw (e, gathered-span start n stash, s, t))

  pub length-stash_bytes : (hash : List ℕ) (n : ℕ) → FoundSize xs n (find_in xs hash) → length (stash_bytes xs stash hash) ≡ block_bytes * n
  unfolding stash_bytes
  length-stash_bytes hash n h = go (find_in xs hash) refl h
    where
      go : (f : Option ℕ) → find_in xs hash ≡ f → FoundSize xs n f → length (stash_bytes xs stash hash) ≡ block_bytes * n
      go (Some j) e h =
          let w = stash-within j h in
          rw (e, h) (simp (length-take, length-drop) (omega arith))
      go None e h = absurd h

-- ---- stashes over their places

pub spreads_head : (l : List ℕ) (xs : List Stash) (n : ℕ) {ps rest : List StashUse} {p : StashUse} → ps ≡ p ∷ rest → Spreads l xs n ps →
    Spread l xs n p
unfolding Spreads
spreads_head l xs n e h = (subst (Spreads l xs n) e h).0

pub spreads_tail : (l : List ℕ) (xs : List Stash) (n : ℕ) {ps rest : List StashUse} {p : StashUse} → ps ≡ p ∷ rest → Spreads l xs n ps →
    Spreads l xs n rest
unfolding Spreads
spreads_tail l xs n e h = (subst (Spreads l xs n) e h).1

pub spread-done : (l : List ℕ) (xs : List Stash) (stash : List ℕ) {ps : List StashUse} → ps ≡ [] → (work : List ℕ) →
    spread l xs stash ps work ≡ work
unfolding spread
spread-done l xs stash e work = rw e

pub spread-next : (l : List ℕ) (xs : List Stash) (stash : List ℕ) {ps rest : List StashUse} {p : StashUse} {work' : List ℕ} → ps ≡ p ∷ rest →
    (work : List ℕ) → work' ≡ written (blocks_at l p.places.at) (stash_bytes xs stash p.hash) work →
    spread l xs stash rest work' ≡ spread l xs stash ps work
unfolding spread
spread-next l xs stash e work f = rw (e, f)

module _ (l : List ℕ) (xs : List Stash) (stash : List ℕ) (k : Keeps xs stash) where
  pub length-spread-one : (p : StashUse) (work : List ℕ) → Spread l xs (length work / block_bytes) p →
      length (written (blocks_at l p.places.at) (stash_bytes xs stash p.hash) work) ≡ length work
  length-spread-one p work h =
      let e = length-stash_bytes xs stash k p.hash (length (blocks_at l p.places.at)) h.size in
      length-written (blocks_at l p.places.at) (stash_bytes xs stash p.hash) work h.below (omega arith)

  length-spread : (ps : List StashUse) (work : List ℕ) → Spreads l xs (length work / block_bytes) ps →
      length (spread l xs stash ps work) ≡ length work
  unfolding spread Spreads
  length-spread [] work h = refl
  length-spread (p ∷ ps) work h =
      let e = length-spread-one p work h.0 in
      length-spread ps (written (blocks_at l p.places.at) (stash_bytes xs stash p.hash) work) (rw e h.1) ∙ e

-- ---- a source keeps the work area's length

module _ (l : List ℕ) (a : Areas) (set : RangeSet) (h : InImage l a.image set) where
  pub length-supplied : set.blocks ≤ blocks_in a.work → length (supplied l a.image set.at set.blocks a.work) ≡ length a.work
  unfolding supplied
  length-supplied room =
      let g = length-gathered (blocks_at l set.at) a.image h.below in
      length-written (span 0 set.blocks) (gathered (blocks_at l set.at) a.image) a.work
      (below_span (length a.work / block_bytes) 0 set.blocks (omega arith))
      (omega (arith, length-span 0 set.blocks, h.size))

  -- the blocks of S over L's places
  length-placed : (places : RangeSet) → InWork l a.work set places →
      length (written (blocks_at l places.at) (gathered (blocks_at l set.at) a.image) a.work) ≡ length a.work
  length-placed places k =
      let g = length-gathered (blocks_at l set.at) a.image h.below in
      length-written (blocks_at l places.at) (gathered (blocks_at l set.at) a.image) a.work k.below
      (omega (arith, h.size, k.size))

pub length-together : (l : List ℕ) (xs : List Stash) (a : Areas) (source : Source) → Keeps xs a.stash → Sourced l xs a.image a.work source →
    length (together l a.image a.stash xs source a.work) ≡ length a.work
unfolding together Sourced
length-together l xs a (Blocks set) k h = length-supplied l a set h.0 h.1
length-together l xs a (Stashes first) k h = length-spread l xs a.stash k (uses_at l first) a.work h
length-together l xs a (Both set places first) k h =
    let e = length-placed l a set h.0 places h.1 in
    length-spread l xs a.stash k (uses_at l first)
    (written (blocks_at l places.at) (gathered (blocks_at l set.at) a.image) a.work)
    (rw e h.2)
    ∙ e
