-- Laws of one step of a command: that a stretch lies among what is held and every area keeps its length, the step by its cases, and the
-- numbers that it can be refused with.
-- Assumes nothing.
use Rattle.std.proofs.Common.{◌≡◌, ℕ, ◌+◌, ◌-◌, ◌*◌, ◌≤◌, true, eqb, List, length, take, subst, ⊎_elim, arith, ne_eqb, eqb-true}
use Rattle.text.specs.Choice.{pick, either}
use Rattle.text.proofs.ChoiceLaws.{picks, either_true}
use Rattle.ranges.specs.declared.RangeSet.{RangeSet}
use Rattle.state.specs.Limits.{block_bytes, most_area_blocks}
use Rattle.state.specs.Refusals.{none}
use Rattle.state.specs.Stashes.{Stash, find_in, size_at, blocks_held, stash_start, younger}
use Rattle.state.specs.States.{is_ready}
use Rattle.state.specs.Stretches.{is_stretch, stretch_blocks}
use Rattle.state.proofs.StashLaws.{blocks_held-before}
use Rattle.state.proofs.StretchLaws.{stretch_some, stretch_few}
use Rattle.command.specs.declared.Command.{Command}
use Rattle.command.specs.declared.Command.TheVariants as command
use Rattle.possible.specs.Possible.{found_stretch, frees_on}
use Rattle.updater.specs.Areas.{Areas, with_stash, SameLengths}
use Rattle.copy.specs.Over.{over}
use Rattle.updater.specs.Bytes.{moved_down}
use Rattle.updater.specs.Source.{stretch_start, stretched}
use Rattle.updater.specs.Effect.{InRun, filled, written_from, is_finished}
use Rattle.updater.specs.Runnable.{Keeps, Runnable}
use Rattle.updater.specs.Steps.{Stepped, stepped, after_filling, fill_step, free_step, step_of}
use Rattle.updater.specs.declared.commands.StepEnd.{StepEnd}
use Rattle.updater.specs.declared.commands.StepEnd.TheVariants.{Passed, Ended, Filled, Stretched, Refused}
use Rattle.updater.proofs.ByteLaws.{length-moved_down}
use Rattle.updater.proofs.EffectLaws.{lengths_refl, stash-area-lengths, zeros-lengths, filled-lengths, written_from-lengths, filled-refusal}
use Rattle.std.specs.Prelude.{Option, Some, None}

-- ---- a stretch lies among what is held

-- what is asked before stretch k: it is the first, or it is there to be moved
abbrev pub MayStretch : List Stash → ℕ → ℕ → Type 0
MayStretch xs j k = either (eqb k 0) (is_stretch (size_at xs j) (younger xs j) k) ≡ true

module _ (xs : List Stash) (j k : ℕ) where
  -- the stretches before it are no more than the younger blocks, and there are no more of them than blocks
  stretches-before : MayStretch xs j k → (k * size_at xs j ≤ younger xs j) × (k ≤ younger xs j)
  stretches-before h =
      ⊎_elim
      (λ z. let e = eqb-true k 0 z in (rw e (omega arith), omega arith))
      (λ s.
      let m = stretch_some (size_at xs j) (younger xs j) k s in
      let f = stretch_few (size_at xs j) (younger xs j) k s in
      (omega (arith, m), omega arith))
      (either_true (eqb k 0) (is_stretch (size_at xs j) (younger xs j) k) h)

  pub stretch_within : MayStretch xs j k →
      stretch_start xs j k + size_at xs j + stretch_blocks (size_at xs j) (younger xs j) k ≤ blocks_held xs
  unfolding stretch_blocks
  stretch_within h = omega (arith, blocks_held-before xs j, (stretches-before h).0)

  module _ (stash : List ℕ) (keeps : Keeps xs stash) where
    -- the bytes that it comes from lie in the stash area
    pub stretched-fits : MayStretch xs j k →
        block_bytes * (stretch_start xs j k + size_at xs j) + block_bytes * stretch_blocks (size_at xs j) (younger xs j) k ≤ length stash
    stretched-fits h = omega (arith, stretch_within h, keeps.room)

    -- few blocks: what is counted of it, and the bytes that they are, fit in a number
    pub stretch_small : MayStretch xs j k →
        (stretch_start xs j k + size_at xs j + stretch_blocks (size_at xs j) (younger xs j) k ≤ most_area_blocks) × (k ≤ most_area_blocks)
    stretch_small h =
        (omega (arith, stretch_within h, keeps.blocks), omega (arith, (stretches-before h).1, keeps.blocks))

    pub length-stretched : MayStretch xs j k → length (stretched xs j k stash) ≡ length stash
    unfolding stretched
    length-stretched h =
        length-moved_down stash (block_bytes * stretch_start xs j k) (block_bytes * (stretch_start xs j k + size_at xs j))
        (block_bytes * stretch_blocks (size_at xs j) (younger xs j) k)
        (omega arith)
        (stretched-fits h)

-- ---- every area keeps its length

fill_step-lengths : (l : List ℕ) (xs : List Stash) (hash : List ℕ) (c : Command) (ready : ℕ) (a : Areas) → Keeps xs a.stash →
    Runnable l xs a c → SameLengths a (fill_step l xs hash c ready a).areas
unfolding fill_step
fill_step-lengths l xs hash c ready a h r =
    picks (λ (x : Stepped). SameLengths a x.areas) (is_ready ready) _ _
    (λ e. written_from-lengths l xs a a (lengths_refl a) c r)
    (λ e.
    picks (λ (x : Stepped). SameLengths a x.areas) (is_finished l hash c a.image) _ _
    (λ f. lengths_refl a)
    (λ f. filled-lengths l xs hash a c h r))

free_step-lengths : (xs : List Stash) (k : ℕ) (a : Areas) → Keeps xs a.stash → (f : Option ℕ) →
    either (eqb k 0) (found_stretch xs k f) ≡ true → SameLengths a (free_step xs k a f).areas
unfolding free_step found_stretch
free_step-lengths xs k a h (Some j) e = stash-area-lengths a (length-stretched xs j k a.stash h e)
free_step-lengths xs k a h None e = lengths_refl a

pub step-lengths : (l : List ℕ) (xs : List Stash) (hash : List ℕ) (c : Command) (ready k : ℕ) (a : Areas) → Keeps xs a.stash →
    Runnable l xs a c → either (eqb k 0) (frees_on xs k hash c) ≡ true → SameLengths a (step_of l xs hash c ready k a).areas
unfolding step_of Runnable frees_on
step-lengths l xs hash (command.Zero set) ready k a h r e = zeros-lengths l a set r
step-lengths l xs hash (command.Erase set) ready k a h r e = zeros-lengths l a set r
step-lengths l xs hash (command.New set) ready k a h r e = lengths_refl a
step-lengths l xs hash (command.Move target n source) ready k a h r e = fill_step-lengths l xs hash (command.Move target n source) ready a h r
step-lengths l xs hash (command.Bsdiff target n source) ready k a h r e = fill_step-lengths l xs hash (command.Bsdiff target n source) ready a h r
step-lengths l xs hash (command.Stash set) ready k a h r e = fill_step-lengths l xs hash (command.Stash set) ready a h r
step-lengths l xs hash command.Free ready k a h r e = free_step-lengths xs k a h (find_in xs hash) e
step-lengths l xs hash command.Unsupported ready k a h r e = lengths_refl a
step-lengths l xs hash (command.Bad p) ready k a h r e = lengths_refl a

-- ---- a `stash` that is ready goes past the `start` blocks that are held

pub stash-writes : (l : List ℕ) (xs : List Stash) (hash : List ℕ) {ready : ℕ} (a : Areas) (set : RangeSet) → (ready ≡ 0 → ⊥) →
    {stash : List ℕ} {start : ℕ} → start ≡ blocks_held xs →
    stash ≡ over a.stash (block_bytes * start) (take (block_bytes * set.blocks) a.work) →
    stepped (with_stash a stash) Ended ≡ fill_step l xs hash (command.Stash set) ready a
unfolding fill_step written_from
stash-writes l xs hash {ready} a set r h e = rw (ne_eqb ready 0 r, e, h)

-- ---- a stretch of a `free`

module _ (xs : List Stash) (k : ℕ) {f : Option ℕ} where
  pub may_stretch : {j : ℕ} → f ≡ Some j → either (eqb k 0) (found_stretch xs k f) ≡ true → MayStretch xs j k
  unfolding found_stretch
  may_stretch e h = subst (λ (g : Option ℕ). either (eqb k 0) (found_stretch xs k g) ≡ true) e h

-- stash j of `gap` blocks starts at block `start`, of `all` blocks that are held
module _ (xs : List Stash) (j k : ℕ) {start gap all : ℕ} (first : start ≡ stash_start xs j) (size : gap ≡ size_at xs j)
    (held : all ≡ blocks_held xs) where
  pub stretch_bounds : (stash : List ℕ) → Keeps xs stash → MayStretch xs j k →
      (start + gap ≤ all) × (start + k * gap + gap + stretch_blocks gap (all - (start + gap)) k ≤ all) × (all ≤ most_area_blocks)
      × (k ≤ most_area_blocks)
  stretch_bounds stash keeps h =
      rw (first, size, held)
      (blocks_held-before xs j, stretch_within xs j k h, keeps.blocks, (stretch_small xs j k stash keeps h).1)

  pub frees_at : {f : Option ℕ} → f ≡ Some j → (a : Areas) {stash : List ℕ} {blocks : ℕ} {end : StepEnd} →
      blocks ≡ stretch_blocks gap (all - (start + gap)) k →
      stash ≡ moved_down a.stash (block_bytes * (start + k * gap)) (block_bytes * (start + k * gap + gap)) (block_bytes * blocks) →
      end ≡ pick (is_stretch gap (all - (start + gap)) (k + 1)) Stretched (pick (is_stretch gap (all - (start + gap)) k) Ended Passed) →
      stepped (with_stash a stash) end ≡ free_step xs k a f
  unfolding free_step stretched
  frees_at d a b e g = rw (d, g, e, b, first, size, held)

-- ---- a step is refused because a hash differs or a patch is malformed

abbrev Refuses : StepEnd → Type 0
Refuses end = (number : ℕ) → end ≡ Refused number → InRun number

passed-not : Refuses Passed
passed-not number e = absurd (let z : ◌≡◌ {A = ℕ} 0 1 = cc in omega arith)

ended-not : Refuses Ended
ended-not number e = absurd (let z : ◌≡◌ {A = ℕ} 0 1 = cc in omega arith)

filled-not : Refuses Filled
filled-not number e = absurd (let z : ◌≡◌ {A = ℕ} 0 1 = cc in omega arith)

stretched-not : Refuses Stretched
stretched-not number e = absurd (let z : ◌≡◌ {A = ℕ} 0 1 = cc in omega arith)

free_step-refuses : (xs : List Stash) (k : ℕ) (a : Areas) (f : Option ℕ) → Refuses (free_step xs k a f).end
unfolding free_step
free_step-refuses xs k a (Some j) =
    picks Refuses (is_stretch (size_at xs j) (younger xs j) (k + 1)) _ _
    (λ e. stretched-not)
    (λ e. picks Refuses (is_stretch (size_at xs j) (younger xs j) k) _ _ (λ f. ended-not) (λ f. passed-not))
free_step-refuses xs k a None = passed-not

module _ (l : List ℕ) (xs : List Stash) (hash : List ℕ) where
  filling_refuses : (c : Command) (a : Areas) → Refuses (after_filling (filled l xs hash c a)).end
  filling_refuses c a =
      ⊎_elim
      (λ z. rw z filled-not)
      (λ s.
      picks Refuses (eqb (filled l xs hash c a).refusal none) Filled (Refused (filled l xs hash c a).refusal)
      (λ g. filled-not)
      (λ g number e. let i : (filled l xs hash c a).refusal ≡ number = cc in rw (← i) s))
      (filled-refusal l xs hash c a)

  fill_step-refuses : (c : Command) (ready : ℕ) (a : Areas) → Refuses (fill_step l xs hash c ready a).end
  unfolding fill_step
  fill_step-refuses c ready a =
      picks (λ (x : Stepped). Refuses x.end) (is_ready ready) _ _
      (λ e. ended-not)
      (λ e.
      picks (λ (x : Stepped). Refuses x.end) (is_finished l hash c a.image) _ _
      (λ f. ended-not)
      (λ f. filling_refuses c a))

  end-refuses : (c : Command) (ready k : ℕ) (a : Areas) → Refuses (step_of l xs hash c ready k a).end
  unfolding step_of
  end-refuses (command.Zero set) ready k a = passed-not
  end-refuses (command.Erase set) ready k a = passed-not
  end-refuses (command.New set) ready k a = passed-not
  end-refuses (command.Move target n source) ready k a = fill_step-refuses (command.Move target n source) ready a
  end-refuses (command.Bsdiff target n source) ready k a = fill_step-refuses (command.Bsdiff target n source) ready a
  end-refuses (command.Stash set) ready k a = fill_step-refuses (command.Stash set) ready a
  end-refuses command.Free ready k a = free_step-refuses xs k a (find_in xs hash)
  end-refuses command.Unsupported ready k a = passed-not
  end-refuses (command.Bad p) ready k a = passed-not

pub step-refuses : (l : List ℕ) (xs : List Stash) (hash : List ℕ) (c : Command) (ready k : ℕ) (a : Areas) {number : ℕ} →
    (step_of l xs hash c ready k a).end ≡ Refused number → InRun number
step-refuses l xs hash c ready k a {number} e = end-refuses l xs hash c ready k a number e
