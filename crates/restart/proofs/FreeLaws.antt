-- `free`: a stretch is moved alike where only the blocks that receive it may differ, and changes no other byte. With no stretch to move nothing
-- is read or written.
-- Assumes nothing.
use mathlib.Core.Path.{◌≡◌, refl, sym, ap, subst, ◌∙◌}
use mathlib.Core.Bool.{true, false}
use mathlib.Core.List.{List}
use mathlib.Core.Logic.{⊎_elim}
use Prim.Native.Nat.{ℕ, ◌+◌, ◌*◌, ◌≤◌, ◌<◌}
use native.Mathlib.Omega.{arith}
use borrow.Author.Tests.{ltb-true, ltb-false}
use lib.Dec.{ltb}
use lib.ListN.{length, take, drop, length-drop}
use lib.Seq.{length-take-le, paste-zero}
use Rattle.text.proofs.ChoiceLaws.{bool}
use Rattle.state.specs.Limits.{block_bytes}
use Rattle.state.specs.Stashes.{Stash, size_at, younger}
use Rattle.state.specs.Stretches.{is_stretch, stretch_blocks}
use Rattle.state.proofs.StashLaws.{blocks_held-before}
use Rattle.state.proofs.StretchLaws.{stretch_none}
use Rattle.possible.specs.Possible.{found_stretch}
use Rattle.copy.specs.Over.{over}
use Rattle.updater.specs.Areas.{Areas, with_stash}
use Rattle.updater.specs.Bytes.{moved_down}
use Rattle.updater.specs.Source.{stretch_start, stretched}
use Rattle.updater.specs.Steps.{stepped, free_end, free_step}
use Rattle.updater.specs.declared.commands.StepEnd.TheVariants.{Passed}
use Rattle.updater.specs.Runnable.{Keeps}
use Rattle.restart.specs.Writes.{nowhere, in_stash, stretch_writes, Outside}
use Rattle.restart.proofs.OutsideLaws.{outside-same, outside_wider, outside-none, outside_part, areas-same, areas-none, stash_changed}
use Rattle.restart.proofs.OverwriteLaws.{Overwrites, overwritten_same, overwritten_only, overwrites_over, within, past-within, none_within, moved-is-over}
use Rattle.restart.proofs.ReadLaws.{Reads, Sets, step_left, in_stash_lem}
use Rattle.std.specs.Prelude.{Option, Some, None}

module _ (xs : List Stash) (j k : ℕ) where
  abbrev gap : ℕ
  gap = size_at xs j

  abbrev moves : ℕ
  moves = stretch_blocks gap (younger xs j) k

  -- the bytes where a stretch goes to, and where it comes from
  abbrev to : ℕ
  to = block_bytes * stretch_start xs j k

  abbrev from : ℕ
  from = block_bytes * (stretch_start xs j k + gap)

  -- no blocks are moved
  stretched-none : moves ≡ 0 → (stash : List ℕ) → stretched xs j k stash ≡ stash
  unfolding stretched moved_down
  stretched-none e stash = rw e (sym (paste-zero stash to (drop from stash)))

  no_stretch : is_stretch gap (younger xs j) k ≡ false → moves ≡ 0
  unfolding stretch_blocks
  no_stretch e = ⊎_elim (λ (h : gap ≡ 0). omega arith) (λ (h : younger xs j ≤ k * gap). omega arith) (stretch_none gap (younger xs j) k e)

  -- a stretch lies within the stash area, and is not moved over itself
  stretch_room : (stash : List ℕ) → Keeps xs stash → 0 < moves → (from + block_bytes * moves ≤ length stash) × (to + block_bytes * moves ≤ from)
  unfolding stretch_blocks
  stretch_room stash kept h =
      let older = blocks_held-before xs j in
      let room = kept.room in
      (omega arith, omega arith)

  -- it is written over the blocks that receive it
  abbrev carried : List ℕ → List ℕ
  carried stash = take (block_bytes * moves) (drop from stash)

  stretched-is : (stash : List ℕ) → from + block_bytes * moves ≤ length stash → stretched xs j k stash ≡ over stash to (carried stash)
  unfolding stretched
  stretched-is stash h = moved-is-over stash to from (block_bytes * moves) h

  overwrites_stretch : (stash : List ℕ) → from + block_bytes * moves ≤ length stash → to + block_bytes * moves ≤ from →
      Overwrites (within to (block_bytes * moves)) (length stash) (λ area. over area to (carried stash))
  overwrites_stretch stash h l =
      overwrites_over (length stash) to (block_bytes * moves) (carried stash)
      (length-take-le (block_bytes * moves) (drop from stash) (simp length-drop (omega arith))) (omega arith)

  stretch_only : (stash : List ℕ) → Keeps xs stash → Outside (within to (block_bytes * moves)) stash (stretched xs j k stash)
  stretch_only stash kept =
      ⊎_elim
      (λ (t : ltb 0 moves ≡ true).
      let room = stretch_room stash kept (ltb-true 0 moves t) in
      rw (stretched-is stash room.0) (overwritten_only (overwrites_stretch stash room.0 room.1) stash refl))
      (λ (t : ltb 0 moves ≡ false). rw (stretched-none (omega (arith, ltb-false 0 moves t)) stash) (outside-same _ stash))
      (bool (ltb 0 moves))

  stretch_same : (a b : List ℕ) → Keeps xs a → Outside (within to (block_bytes * moves)) a b → stretched xs j k b ≡ stretched xs j k a
  stretch_same a b kept d =
      let size = d.size in
      ⊎_elim
      (λ (t : ltb 0 moves ≡ true).
      let room = stretch_room a kept (ltb-true 0 moves t) in
      let inside = room.0 in
      let apart = room.1 in
      let bytes : carried b ≡ carried a =
      outside_part (within to (block_bytes * moves)) a b from (block_bytes * moves) d (λ i h l. past-within to (block_bytes * moves) i (omega arith)) in
      stretched-is b (omega arith)
      ∙ ap (over b to) bytes
      ∙ overwritten_same (overwrites_stretch a inside apart) a b refl d
      ∙ sym (stretched-is a inside))
      (λ (t : ltb 0 moves ≡ false).
      let none : moves ≡ 0 = omega (arith, ltb-false 0 moves t) in
      stretched-none none b
      ∙ outside-none (λ i. none_within to (block_bytes * moves) i (omega arith)) d
      ∙ sym (stretched-none none a))
      (bool (ltb 0 moves))

-- ---- the step

module _ (a : Areas) (xs : List Stash) (k : ℕ) where
  pub free_reads : Keeps xs a.stash → (f : Option ℕ) → Reads step_left (stretch_writes xs k f) a (λ b. free_step xs k b f)
  unfolding stretch_writes free_step in_stash nowhere
  free_reads kept (Some j) =
      record {
        only = stash_changed _ a (stretch_only xs j k a.stash kept);
        same = λ b d.
            subst (λ (x : Areas). free_step xs k x (Some j) ≡ free_step xs k a (Some j)) (sym (in_stash_lem _ _ a b d))
            (ap (λ (stash : List ℕ). stepped (with_stash a stash) (free_end xs j k)) (stretch_same xs j k a.stash b.stash kept d.stash));
      }
  free_reads kept None =
      record { only = areas-same _ a; same = λ b d. ap (λ (x : Areas). stepped x Passed) (areas-none nowhere a b (λ i. refl) d) }

  -- with no stretch to move
  pub free_sets : (f : Option ℕ) → found_stretch xs k f ≡ false → Sets (stretch_writes xs k f) a (λ b. free_step xs k b f)
  unfolding stretch_writes free_step found_stretch in_stash nowhere
  free_sets (Some j) h =
      let none = no_stretch xs j k h in
      record {
        only = rw (stretched-none xs j k none a.stash) (areas-same _ a);
        ends = λ b. refl;
        agree = λ L b d.
            record {
              image = d.image;
              stash =
                  rw (stretched-none xs j k none a.stash, stretched-none xs j k none b.stash)
                  (outside_wider _ _ _ _ (λ i e. rw (none_within (to xs j k) (block_bytes * moves xs j k) i (omega arith)) e) d.stash);
              work = d.work;
              result = d.result;
              patch = d.patch;
            };
      }
  free_sets None h = record { only = areas-same _ a; ends = λ b. refl; agree = λ L b d. d }
