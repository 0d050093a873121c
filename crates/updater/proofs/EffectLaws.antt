-- Laws of what a command does to the lent areas: every area keeps its length, and the numbers that a command can stop with.
-- Assumes nothing.
use Rattle.std.proofs.Common.{◌≡◌, ℕ, ◌+◌, ◌*◌, ◌/◌, ◌≤◌, Bool, true, false, eqb, ◌⊎◌, List, length, take, sym, refl, ◌∙◌, subst, inl, inr, ⊎_elim, arith, length-take}
use Rattle.std.specs.Prelude.{Option, Some, None}
use Rattle.text.proofs.ChoiceLaws.{picks}
use Rattle.ranges.specs.Walk.{blocks_at, AllBelow}
use Rattle.ranges.specs.declared.RangeSet.{RangeSet}
use Rattle.state.specs.Limits.{block_bytes}
use Rattle.state.specs.Refusals.{none, hash_differs, patch_malformed}
use Rattle.state.specs.Stashes.{Stash, find_in, size_at, blocks_held, stash_start, younger}
use Rattle.state.proofs.StashLaws.{blocks_held-before}
use Rattle.command.specs.declared.Command.{Command}
use Rattle.command.specs.declared.Command.TheVariants as command
use Rattle.command.specs.declared.source.Source.{Source}
use Rattle.command.specs.Patching.{patching_of, result_hash}
use Rattle.command.specs.declared.patching.Patching.{Patching}
use Rattle.patch.specs.Patch.{is_patch, patched_by}
use Rattle.patch.proofs.PatchLaws.{patched-length}
use Rattle.copy.specs.Over.{over}
use Rattle.copy.proofs.OverLaws.{length_over}
use Rattle.updater.specs.Areas.{Areas, with_image, with_stash, with_work, with_result, SameLengths}
use Rattle.updater.specs.Bytes.{written}
use Rattle.updater.specs.Source.{supplied, together, hashes_to, closed_up}
use Rattle.updater.specs.Effect.{Effect, InRun, hash_refusal, move_filled, stash_filled, patch_of, result_made, result_filled, patch_filled, bsdiff_filled, filled}
use Rattle.updater.specs.Effect.{zeros_written, written_from, closed_found, is_finished, filled_written, unfinished_effect, effect}
use Rattle.updater.specs.Runnable.{Keeps, InImage, BsdiffRuns, StashRuns, Runnable}
use Rattle.updater.proofs.ByteLaws.{length-zeroed, length-written, length-moved_down}
use Rattle.updater.proofs.SourceLaws.{length-supplied, length-together}

-- ---- every area keeps its length

pub lengths_refl : (a : Areas) → SameLengths a a
lengths_refl a = record { image = refl; stash = refl; work = refl; result = refl; patch = refl }

image-lengths : (a : Areas) {image : List ℕ} → length image ≡ length a.image → SameLengths a (with_image a image)
image-lengths a e = record { image = e; stash = refl; work = refl; result = refl; patch = refl }

pub stash-area-lengths : (a : Areas) {stash : List ℕ} → length stash ≡ length a.stash → SameLengths a (with_stash a stash)
stash-area-lengths a e = record { image = refl; stash = e; work = refl; result = refl; patch = refl }

work-lengths : (a : Areas) {work : List ℕ} → length work ≡ length a.work → SameLengths a (with_work a work)
work-lengths a e = record { image = refl; stash = refl; work = e; result = refl; patch = refl }

result-lengths : (a : Areas) {result : List ℕ} → length result ≡ length a.result → SameLengths a (with_result a result)
result-lengths a e = record { image = refl; stash = refl; work = refl; result = e; patch = refl }

lengths-then : {a b c : Areas} → SameLengths a b → SameLengths b c → SameLengths a c
lengths-then e f =
    record {
      image = f.image ∙ e.image;
      stash = f.stash ∙ e.stash;
      work = f.work ∙ e.work;
      result = f.result ∙ e.result;
      patch = f.patch ∙ e.patch;
    }

-- a patch that is applied, with the source in the work area
module _ (l : List ℕ) (a : Areas) (patching : Patching) (target : RangeSet) (n : ℕ) where
  made-length : target.blocks ≤ length a.result / block_bytes → is_patch (patch_of patching a) (block_bytes * target.blocks) ≡ true →
      length (result_made patching n a).result ≡ length a.result
  made-length h g =
      let bytes = patched_by (patch_of patching a) (take (block_bytes * n) a.work) in
      let m : length bytes ≡ block_bytes * target.blocks = patched-length (patch_of patching a) (take (block_bytes * n) a.work) _ g in
      length_over a.result 0 bytes (omega arith)

  patch-lengths : target.blocks ≤ length a.result / block_bytes → SameLengths a (patch_filled l patching target n a).areas
  unfolding patch_filled result_filled
  patch-lengths h =
      picks (λ (x : Effect). SameLengths a x.areas) (is_patch (patch_of patching a) (block_bytes * target.blocks)) _ _
      (λ g. result-lengths a (made-length h g))
      (λ g. lengths_refl a)

pub zeros-lengths : (l : List ℕ) (a : Areas) (set : RangeSet) → InImage l a.image set → SameLengths a (zeros_written l set a)
zeros-lengths l a set h = image-lengths a (length-zeroed (blocks_at l set.at) a.image h.below)

-- filling
module _ (l : List ℕ) (xs : List Stash) (hash : List ℕ) (a : Areas) where
  bsdiff_lengths : (target : RangeSet) (n : ℕ) (source : Source) → Keeps xs a.stash →
      BsdiffRuns l xs a target n source → SameLengths a (bsdiff_filled l xs hash target n source a).areas
  unfolding bsdiff_filled
  bsdiff_lengths target n source k h =
      let work = together l a.image a.stash xs source a.work in
      let w : length work ≡ length a.work = length-together l xs a source k h.from in
      picks (λ (x : Effect). SameLengths a x.areas) (hashes_to work n hash) _ _
      (λ g. lengths-then (work-lengths a w) (patch-lengths l (with_work a work) (patching_of l) target n h.patched.holds))
      (λ g. work-lengths a w)

  pub filled-lengths : (c : Command) → Keeps xs a.stash → Runnable l xs a c → SameLengths a (filled l xs hash c a).areas
  unfolding filled move_filled stash_filled Runnable
  filled-lengths (command.Zero set) k h = lengths_refl a
  filled-lengths (command.Erase set) k h = lengths_refl a
  filled-lengths (command.New set) k h = lengths_refl a
  filled-lengths (command.Move target n source) k h = work-lengths a (length-together l xs a source k h.from)
  filled-lengths (command.Bsdiff target n source) k h = bsdiff_lengths target n source k h
  filled-lengths (command.Stash set) k h = work-lengths a (length-supplied l a set h.from h.room)
  filled-lengths command.Free k h = lengths_refl a
  filled-lengths command.Unsupported k h = lengths_refl a
  filled-lengths (command.Bad p) k h = lengths_refl a

-- writing, from areas that are as long as those that the command rests on
module _ (l : List ℕ) (xs : List Stash) (a b : Areas) (e : SameLengths a b) where
  -- the first n blocks of an area over a target of as many
  target-length : (target : RangeSet) (n : ℕ) (from : List ℕ) → InImage l a.image target → target.blocks ≡ n →
      n ≤ length from / block_bytes → length (written (blocks_at l target.at) (take (block_bytes * n) from) b.image) ≡ length b.image
  target-length target n from h s r =
      let t : length (take (block_bytes * n) from) ≡ block_bytes * n = simp length-take (omega arith) in
      let below = subst (λ (k : ℕ). AllBelow (k / block_bytes) (blocks_at l target.at)) (sym e.image) h.below in
      length-written (blocks_at l target.at) (take (block_bytes * n) from) b.image below (omega (arith, h.size))

  stash-length : (set : RangeSet) → StashRuns l xs a.image a.stash a.work set →
      length (over b.stash (block_bytes * blocks_held xs) (take (block_bytes * set.blocks) b.work)) ≡ length b.stash
  stash-length set h =
      let t : length (take (block_bytes * set.blocks) b.work) ≡ block_bytes * set.blocks =
      simp length-take (omega (arith, h.room, e.work)) in
      length_over b.stash (block_bytes * blocks_held xs) (take (block_bytes * set.blocks) b.work) (omega (arith, h.fits, e.stash))

  pub written_from-lengths : (c : Command) → Runnable l xs a c → SameLengths a (written_from l xs c b)
  unfolding written_from Runnable
  written_from-lengths (command.Zero set) h = e
  written_from-lengths (command.Erase set) h = e
  written_from-lengths (command.New set) h = e
  written_from-lengths (command.Move target n source) h =
      lengths-then e (image-lengths b (target-length target n b.work h.goal h.size (rw e.work h.room)))
  written_from-lengths (command.Bsdiff target n source) h =
      lengths-then e
      (image-lengths b (target-length target target.blocks b.result h.patched.goal refl (rw e.result h.patched.holds)))
  written_from-lengths (command.Stash set) h = lengths-then e (stash-area-lengths b (stash-length set h))
  written_from-lengths command.Free h = e
  written_from-lengths command.Unsupported h = e
  written_from-lengths (command.Bad p) h = e

-- a whole line
module _ (l : List ℕ) (xs : List Stash) (hash : List ℕ) (a : Areas) where
  filled_written-lengths : (c : Command) → Keeps xs a.stash → Runnable l xs a c → SameLengths a (filled_written l xs hash c a).areas
  unfolding filled_written
  filled_written-lengths c k h =
      let f = filled-lengths l xs hash a c k h in
      picks (λ (x : Effect). SameLengths a x.areas) (eqb (filled l xs hash c a).refusal none) _ _
      (λ g. written_from-lengths l xs a (filled l xs hash c a).areas f c h)
      (λ g. f)

  closed_length : (f : Option ℕ) → Keeps xs a.stash → length (closed_found xs a.stash f) ≡ length a.stash
  unfolding closed_up
  closed_length (Some j) k =
      length-moved_down a.stash (block_bytes * stash_start xs j) (block_bytes * (stash_start xs j + size_at xs j)) (block_bytes * younger xs j)
      (omega arith)
      (omega (arith, blocks_held-before xs j, k.room))
  closed_length None k = refl

  unfinished_lengths : (c : Command) → Keeps xs a.stash → Runnable l xs a c → SameLengths a (unfinished_effect l xs hash c a).areas
  unfolding unfinished_effect Runnable
  unfinished_lengths (command.Zero set) k h = zeros-lengths l a set h
  unfinished_lengths (command.Erase set) k h = zeros-lengths l a set h
  unfinished_lengths (command.New set) k h = lengths_refl a
  unfinished_lengths (command.Move target n source) k h = filled_written-lengths (command.Move target n source) k h
  unfinished_lengths (command.Bsdiff target n source) k h = filled_written-lengths (command.Bsdiff target n source) k h
  unfinished_lengths (command.Stash set) k h = filled_written-lengths (command.Stash set) k h
  unfinished_lengths command.Free k h = stash-area-lengths a (closed_length (find_in xs hash) k)
  unfinished_lengths command.Unsupported k h = lengths_refl a
  unfinished_lengths (command.Bad p) k h = lengths_refl a

  pub effect-lengths : (c : Command) → Keeps xs a.stash → Runnable l xs a c → SameLengths a (effect l xs hash c a).areas
  unfolding effect
  effect-lengths c k h =
      picks (λ (x : Effect). SameLengths a x.areas) (is_finished l hash c a.image) _ _
      (λ e. lengths_refl a)
      (λ e. unfinished_lengths c k h)

-- ---- a command is done, a hash differs, or a patch is malformed

-- a number that a command stops with is one
pub in_run_some : {number : ℕ} → InRun number → number ≡ none → ⊥
in_run_some s e =
    ⊎_elim
    (λ h. let z : ◌≡◌ {A = ℕ} hash_differs none = sym h ∙ e in omega arith)
    (λ h. let z : ◌≡◌ {A = ℕ} patch_malformed none = sym h ∙ e in omega arith)
    s

abbrev Stops : ℕ → Type 0
Stops number = (number ≡ none) ⊎ InRun number

hash-stops : (good : Bool) → Stops (hash_refusal good)
hash-stops true = inl refl
hash-stops false = inr (inl refl)

patch-stops : (l : List ℕ) (patching : Patching) (target : RangeSet) (n : ℕ) (a : Areas) → Stops (patch_filled l patching target n a).refusal
unfolding patch_filled result_filled
patch-stops l patching target n a =
    picks (λ (x : Effect). Stops x.refusal) (is_patch (patch_of patching a) (block_bytes * target.blocks)) _ _
    (λ g. hash-stops (hashes_to (result_made patching n a).result target.blocks (result_hash l patching.hashes)))
    (λ g. inr (inr refl))

module _ (l : List ℕ) (xs : List Stash) (hash : List ℕ) where
  pub filled-refusal : (c : Command) (a : Areas) → ((filled l xs hash c a).refusal ≡ none) ⊎ InRun (filled l xs hash c a).refusal
  unfolding filled move_filled stash_filled bsdiff_filled
  filled-refusal (command.Zero set) a = inl refl
  filled-refusal (command.Erase set) a = inl refl
  filled-refusal (command.New set) a = inl refl
  filled-refusal (command.Move target n source) a = hash-stops (hashes_to (together l a.image a.stash xs source a.work) n hash)
  filled-refusal (command.Bsdiff target n source) a =
      let work = together l a.image a.stash xs source a.work in
      picks (λ (x : Effect). Stops x.refusal) (hashes_to work n hash) _ _
      (λ g. patch-stops l (patching_of l) target n (with_work a work))
      (λ g. inr (inl refl))
  filled-refusal (command.Stash set) a = hash-stops (hashes_to (supplied l a.image set.at set.blocks a.work) set.blocks hash)
  filled-refusal command.Free a = inl refl
  filled-refusal command.Unsupported a = inl refl
  filled-refusal (command.Bad p) a = inl refl

  filled_written-stops : (c : Command) (a : Areas) → Stops (filled_written l xs hash c a).refusal
  unfolding filled_written
  filled_written-stops c a =
      picks (λ (x : Effect). Stops x.refusal) (eqb (filled l xs hash c a).refusal none) _ _ (λ g. inl refl) (λ g. filled-refusal c a)

  unfinished_stops : (c : Command) (a : Areas) → Stops (unfinished_effect l xs hash c a).refusal
  unfolding unfinished_effect
  unfinished_stops (command.Zero set) a = inl refl
  unfinished_stops (command.Erase set) a = inl refl
  unfinished_stops (command.New set) a = inl refl
  unfinished_stops (command.Move target n source) a = filled_written-stops (command.Move target n source) a
  unfinished_stops (command.Bsdiff target n source) a = filled_written-stops (command.Bsdiff target n source) a
  unfinished_stops (command.Stash set) a = filled_written-stops (command.Stash set) a
  unfinished_stops command.Free a = inl refl
  unfinished_stops command.Unsupported a = inl refl
  unfinished_stops (command.Bad p) a = inl refl

  pub effect-refusal : (c : Command) (a : Areas) → ((effect l xs hash c a).refusal ≡ none) ⊎ InRun (effect l xs hash c a).refusal
  unfolding effect
  effect-refusal c a =
      picks (λ (x : Effect). Stops x.refusal) (is_finished l hash c a.image) _ _ (λ e. inl refl) (λ e. unfinished_stops c a)
