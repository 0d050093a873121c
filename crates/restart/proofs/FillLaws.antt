-- `move`, `bsdiff` and `stash`: filling an area, and writing from it, each comes to the same where only what it writes may differ, and changes no
-- other byte.
-- Assumes nothing.
use mathlib.Core.Path.{◌≡◌, refl, sym, ap, subst, ◌∙◌}
use mathlib.Core.Bool.{Bool, true, false}
use mathlib.Core.List.{List}
use Prim.Native.Nat.{ℕ, ◌*◌, ◌/◌, ◌≤◌}
use native.Mathlib.Nat.{zero-add}
use native.Mathlib.Omega.{arith}
use borrow.Author.Tests.{le-ltb, le-leb}
use lib.ListN.{length, take}
use lib.Seq.{length-take-le}
use Rattle.text.specs.Choice.{pick, both}
use Rattle.ranges.specs.Walk.{blocks_at}
use Rattle.ranges.specs.declared.RangeSet.{RangeSet}
use Rattle.state.specs.Limits.{block_bytes}
use Rattle.state.specs.Refusals.{none, hash_differs}
use Rattle.state.specs.Stashes.{Stash, blocks_held}
use Rattle.state.specs.States.{is_ready}
use Rattle.command.specs.Filling.{fills}
use Rattle.command.specs.Patching.{patching_of}
use Rattle.command.specs.declared.patching.Patching.{Patching}
use Rattle.command.specs.declared.source.Source.{Source}
use Rattle.command.specs.declared.Command.{Command}
use Rattle.command.specs.declared.Command.TheVariants as command
use Rattle.patch.specs.Patch.{is_patch, patched_by}
use Rattle.patch.proofs.PatchLaws.{patched-length}
use Rattle.rules.specs.Move.{is_in}
use Rattle.rules.specs.declared.Terms.{Terms}
use Rattle.rules.specs.Rules.{refusal_for}
use Rattle.rules.proofs.RuleLaws.{move_fits, bsdiff_fits}
use Rattle.machine.proofs.MachineLaws.{never}
use Rattle.copy.specs.Over.{over}
use Rattle.updater.specs.Areas.{Areas, with_work, with_result}
use Rattle.updater.specs.Bytes.{written}
use Rattle.updater.specs.Source.{supplied, together, hashes_to}
use Rattle.updater.specs.Effect.{Effect, effect_of, move_filled, stash_filled, patch_of, result_filled, patch_filled, bsdiff_filled, filled}
use Rattle.updater.specs.Effect.{target_written, result_written, stash_written, written_from, is_finished}
use Rattle.updater.specs.Steps.{stepped, after_filling, fill_step}
use Rattle.updater.specs.declared.commands.StepEnd.TheVariants.{Ended}
use Rattle.updater.specs.Runnable.{blocks_in, Keeps, InImage, MoveRuns, BsdiffRuns, StashRuns, Runnable}
use Rattle.restart.specs.Writes.{image_byte, nowhere, in_blocks, in_stash, in_front, result_blocks, fill_writes}
use Rattle.restart.specs.Writes.{target_writes, fill_step_writes, Outside, AreasOutside}
use Rattle.restart.proofs.OutsideLaws.{outside-none, areas-same, areas-then, areas-none, work_changed, result_changed}
use Rattle.restart.proofs.OverwriteLaws.{Overwrites, overwritten_same, overwritten_only, overwrites_as, overwrites_over, overwrites_written}
use Rattle.restart.proofs.TogetherLaws.{first_blocks, overwrites_supplied, overwrites_together}
use Rattle.restart.proofs.ReadLaws.{Reads, step_left, in_front_lem, image-reads, stash-reads}

abbrev areas_left : Effect → Areas
areas_left e = e.areas

-- no blocks at the front
none-front : {a b : List ℕ} → Outside (first_blocks 0) a b → b ≡ a
none-front o = outside-none (λ k. le-ltb k (block_bytes * 0) (omega arith)) o

-- ---- writing from what was filled

module _ (a : Areas) where
  -- as many blocks as R has, from the front of an area
  front-written : (l : List ℕ) (target : RangeSet) (area : List ℕ) → InImage l a.image target → target.blocks ≤ blocks_in area →
      Overwrites (λ k. is_in (k / block_bytes) (blocks_at l target.at)) (length a.image)
      (written (blocks_at l target.at) (take (block_bytes * target.blocks) area))
  front-written l target area r room =
      let long = length-take-le (block_bytes * target.blocks) area (omega arith) in
      overwrites_written (length a.image) (blocks_at l target.at) (take (block_bytes * target.blocks) area) r.below (omega (arith, r.size))

  move_writes : (l : List ℕ) (xs : List Stash) (target : RangeSet) (n : ℕ) (source : Source) →
      MoveRuns l xs a.image a.work target n source → Reads (λ b. b) (in_blocks (blocks_at l target.at)) a (target_written l target n)
  move_writes l xs target n source r =
      image-reads a (blocks_at l target.at) (target_written l target n) (written (blocks_at l target.at) (take (block_bytes * n) a.work)) (λ image. refl)
      (rw r.size at (front-written l target a.work r.goal (rw r.size r.room)))

  bsdiff_writes : (l : List ℕ) (xs : List Stash) (target : RangeSet) (n : ℕ) (source : Source) → BsdiffRuns l xs a target n source →
      Reads (λ b. b) (in_blocks (blocks_at l target.at)) a (result_written l target)
  bsdiff_writes l xs target n source r =
      image-reads a (blocks_at l target.at) (result_written l target)
      (written (blocks_at l target.at) (take (block_bytes * target.blocks) a.result)) (λ image. refl)
      (front-written l target a.result r.patched.goal r.patched.holds)

  stash-writes : (l : List ℕ) (xs : List Stash) (set : RangeSet) → StashRuns l xs a.image a.stash a.work set →
      Reads (λ b. b) (in_stash (blocks_held xs) set.blocks) a (stash_written xs set.blocks)
  stash-writes l xs set r =
      let at = block_bytes * blocks_held xs in
      let bytes = take (block_bytes * set.blocks) a.work in
      let long = length-take-le (block_bytes * set.blocks) a.work (omega (arith, r.room)) in
      stash-reads a (blocks_held xs) set.blocks (stash_written xs set.blocks) (λ stash. over stash at bytes) (λ stash. refl)
      (overwrites_over (length a.stash) at (block_bytes * set.blocks) bytes long (omega (arith, r.fits)))

-- ---- filling

module _ (a : Areas) where
  -- the work area is filled as g does it
  work-only : (n r : ℕ) (g : List ℕ → List ℕ) → Overwrites (first_blocks n) (length a.work) g → AreasOutside (in_front n r) a (with_work a (g a.work))
  unfolding in_front
  work-only n r g o = work_changed _ a (overwritten_only o a.work refl)

  move_fills : (l hash : List ℕ) (xs : List Stash) (n : ℕ) (source : Source) →
      Overwrites (first_blocks n) (length a.work) (together l a.image a.stash xs source) →
      Reads areas_left (in_front n 0) a (move_filled l xs hash n source)
  unfolding move_filled in_front
  move_fills l hash xs n source o =
      record {
        only = work-only n 0 (together l a.image a.stash xs source) o;
        same = λ b d.
            subst (λ (x : Areas). move_filled l xs hash n source x ≡ move_filled l xs hash n source a) (sym (in_front_lem n 0 a b d))
            (rw (overwritten_same o a.work b.work refl d.work, none-front d.result));
      }

  stash-fills : (l hash : List ℕ) (set : RangeSet) → Overwrites (first_blocks set.blocks) (length a.work) (supplied l a.image set.at set.blocks) →
      Reads areas_left (in_front set.blocks 0) a (stash_filled l hash set)
  unfolding stash_filled in_front
  stash-fills l hash set o =
      record {
        only = work-only set.blocks 0 (supplied l a.image set.at set.blocks) o;
        same = λ b d.
            subst (λ (x : Areas). stash_filled l hash set x ≡ stash_filled l hash set a) (sym (in_front_lem set.blocks 0 a b d))
            (rw (overwritten_same o a.work b.work refl d.work, none-front d.result));
      }

  -- the result area is filled by a patch: not at all where it is malformed
  module _ (l : List ℕ) (patching : Patching) (target : RangeSet) (n : ℕ) (room : target.blocks ≤ blocks_in a.result) where
    abbrev blocks : Bool → ℕ
    blocks good = pick good target.blocks 0

    made : is_patch (patch_of patching a) (block_bytes * target.blocks) ≡ true →
        Overwrites (first_blocks target.blocks) (length a.result) (λ result. over result 0 (patched_by (patch_of patching a) (take (block_bytes * n) a.work)))
    made e =
        overwrites_as
        (overwrites_over (length a.result) 0 (block_bytes * target.blocks) (patched_by (patch_of patching a) (take (block_bytes * n) a.work))
        (patched-length (patch_of patching a) (take (block_bytes * n) a.work) (block_bytes * target.blocks) e) (omega arith))
        (first_blocks target.blocks) (λ k. rw (le-leb 0 k (omega arith), zero-add (block_bytes * target.blocks)))

    patch-only : (good : Bool) → is_patch (patch_of patching a) (block_bytes * target.blocks) ≡ good →
        AreasOutside (in_front n (blocks good)) a (patch_filled l patching target n a).areas
    unfolding patch_filled result_filled in_front
    patch-only true e = rw e (result_changed _ a (overwritten_only (made e) a.result refl))
    patch-only false e = rw e (areas-same _ a)

    patch-same : (good : Bool) → is_patch (patch_of patching a) (block_bytes * target.blocks) ≡ good → (result : List ℕ) →
        Outside (first_blocks (blocks good)) a.result result → patch_filled l patching target n (with_result a result) ≡ patch_filled l patching target n a
    unfolding patch_filled result_filled
    patch-same true e result d = rw (e, overwritten_same (made e) a.result result refl d)
    patch-same false e result d = rw (e, none-front d)

bsdiff_fills : (a : Areas) (l hash : List ℕ) (xs : List Stash) (target : RangeSet) (n : ℕ) (source : Source) → target.blocks ≤ blocks_in a.result →
    Overwrites (first_blocks n) (length a.work) (together l a.image a.stash xs source) →
    Reads areas_left (in_front n (result_blocks l xs hash target n source a)) a (bsdiff_filled l xs hash target n source)
unfolding bsdiff_filled result_blocks in_front
bsdiff_fills a l hash xs target n source room o =
    record {
      only = only (hashes_to put n hash) (is_patch patch size) refl;
      same = λ b d.
          subst (λ (x : Areas). bsdiff_filled l xs hash target n source x ≡ bsdiff_filled l xs hash target n source a) (sym (in_front_lem n _ a b d))
          (rw (overwritten_same o a.work b.work refl d.work)
          (alike (hashes_to put n hash) (is_patch patch size) refl b.result d.result));
    }
  where
    -- the source, put together
    put : List ℕ
    put = together l a.image a.stash xs source a.work

    from : Areas
    from = with_work a put

    patch : List ℕ
    patch = patch_of (patching_of l) a

    size : ℕ
    size = block_bytes * target.blocks

    go : Areas → Effect
    go = patch_filled l (patching_of l) target n

    only : (good formed : Bool) → is_patch patch size ≡ formed →
        AreasOutside (in_front n (pick (both good formed) target.blocks 0)) a (pick good (go from) (effect_of from hash_differs)).areas
    only true t e =
        areas-then _ a from (go from).areas (work-only a n _ (together l a.image a.stash xs source) o)
        (patch-only from l (patching_of l) target n room t e)
    only false t e = work-only a n 0 (together l a.image a.stash xs source) o

    alike : (good formed : Bool) → is_patch patch size ≡ formed → (result : List ℕ) →
        Outside (first_blocks (pick (both good formed) target.blocks 0)) a.result result →
        pick good (go (with_result from result)) (effect_of (with_result from result) hash_differs) ≡ pick good (go from) (effect_of from hash_differs)
    alike true t e result d = patch-same from l (patching_of l) target n room t e result d
    alike false t e result d = rw (none-front d)

-- ---- `move`, `bsdiff`, `stash`

-- what is ready is written; else a target that holds the result is left; else the area is filled
fill_step-reads : (a : Areas) (l hash : List ℕ) (xs : List Stash) (c : Command) (ready : ℕ) → ((k : ℕ) → fill_writes l xs hash c a (image_byte k) ≡ false) →
    Reads (λ b. b) (target_writes l xs c) a (written_from l xs c) → Reads areas_left (fill_writes l xs hash c a) a (filled l xs hash c) →
    Reads step_left (fill_step_writes l xs hash c ready a) a (fill_step l xs hash c ready)
unfolding fill_step_writes fill_step nowhere
fill_step-reads a l hash xs c ready clear w f =
    record {
      only = only (is_ready ready) (is_finished l hash c a.image);
      same = λ b d. alike b (is_ready ready) (is_finished l hash c a.image) refl d;
    }
  where
    only : (t u : Bool) →
        AreasOutside (pick t (target_writes l xs c) (pick u nowhere (fill_writes l xs hash c a))) a
        (pick t (stepped (written_from l xs c a) Ended) (pick u (stepped a Ended) (after_filling (filled l xs hash c a)))).areas
    only true u = w.only
    only false true = areas-same nowhere a
    only false false = f.only

    -- the image is not written unless something is ready, so that the target is looked at alike
    looked : (b : Areas) (u : Bool) → AreasOutside (pick u nowhere (fill_writes l xs hash c a)) a b →
        is_finished l hash c b.image ≡ is_finished l hash c a.image
    looked b true d = ap (is_finished l hash c) (outside-none (λ k. refl) d.image)
    looked b false d = ap (is_finished l hash c) (outside-none clear d.image)

    alike : (b : Areas) (t u : Bool) → is_finished l hash c a.image ≡ u →
        AreasOutside (pick t (target_writes l xs c) (pick u nowhere (fill_writes l xs hash c a))) a b →
        pick t (stepped (written_from l xs c b) Ended) (pick (is_finished l hash c b.image) (stepped b Ended) (after_filling (filled l xs hash c b)))
        ≡ pick t (stepped (written_from l xs c a) Ended) (pick u (stepped a Ended) (after_filling (filled l xs hash c a)))
    alike b true u e d = ap (λ (x : Areas). stepped x Ended) (w.same b d)
    alike b false true e d = rw (looked b true d ∙ e) (ap (λ (x : Areas). stepped x Ended) (areas-none nowhere a b (λ i. refl) d))
    alike b false false e d = rw (looked b false d ∙ e) (ap after_filling (f.same b d))

-- a command that fills, on a line that is not refused
module _ (a : Areas) (l hash : List ℕ) (terms : Terms) (xs : List Stash) (ready : ℕ) (kept : Keeps xs a.stash) where
  pub fills-reads : (c : Command) → refusal_for l terms xs hash c ≡ none → Runnable l xs a c → fills c ≡ true →
      Reads step_left (fill_step_writes l xs hash c ready a) a (fill_step l xs hash c ready)
  unfolding Runnable fills fill_writes target_writes written_from filled in_front
  fills-reads (command.Move target n source) e r h =
      fill_step-reads a l hash xs (command.Move target n source) ready (λ k. refl)
      (move_writes a l xs target n source r)
      (move_fills a l hash xs n source
      (overwrites_together l a.image a.work terms xs a.stash n source kept r.from (move_fits l terms xs hash e refl).from))
  fills-reads (command.Bsdiff target n source) e r h =
      fill_step-reads a l hash xs (command.Bsdiff target n source) ready (λ k. refl)
      (bsdiff_writes a l xs target n source r)
      (bsdiff_fills a l hash xs target n source r.patched.holds
      (overwrites_together l a.image a.work terms xs a.stash n source kept r.from (bsdiff_fits l terms xs hash e refl).from))
  fills-reads (command.Stash set) e r h =
      fill_step-reads a l hash xs (command.Stash set) ready (λ k. refl)
      (stash-writes a l xs set r)
      (stash-fills a l hash set (overwrites_supplied l a.image a.work set r.from r.room))
  fills-reads (command.Zero set) e r h = absurd (never (sym h))
  fills-reads (command.Erase set) e r h = absurd (never (sym h))
  fills-reads (command.New set) e r h = absurd (never (sym h))
  fills-reads command.Free e r h = absurd (never (sym h))
  fills-reads command.Unsupported e r h = absurd (never (sym h))
  fills-reads (command.Bad p) e r h = absurd (never (sym h))
