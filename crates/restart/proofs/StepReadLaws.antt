-- Which steps of a command read bytes. Such a step comes to the same where only what it writes may differ, and a stop or a refusal follows it;
-- any other sets what it writes, whatever stood there. No step changes another byte.
-- Assumes nothing.
use mathlib.Core.Path.{◌≡◌, refl, sym}
use mathlib.Core.Bool.{Bool, true, false}
use mathlib.Core.List.{List}
use mathlib.Core.Logic.{⊎_elim}
use Prim.Native.Nat.{ℕ, ◌+◌}
use lib.Dec.{eqb}
use lib.ListN.{length}
use Rattle.text.specs.Choice.{pick, either, no}
use Rattle.text.proofs.ChoiceLaws.{bool, picks}
use Rattle.ranges.specs.Walk.{blocks_at}
use Rattle.ranges.specs.declared.RangeSet.{RangeSet}
use Rattle.state.specs.Refusals.{none}
use Rattle.state.specs.Stashes.{Stash, find_in, size_at, younger}
use Rattle.state.specs.States.{is_ready}
use Rattle.state.specs.Stretches.{is_stretch}
use Rattle.command.specs.Filling.{fills}
use Rattle.command.specs.declared.Command.{Command}
use Rattle.command.specs.declared.Command.TheVariants as command
use Rattle.rules.specs.Rules.{refusal_for}
use Rattle.rules.specs.declared.Terms.{Terms}
use Rattle.possible.specs.Possible.{found_stretch, frees_on}
use Rattle.machine.proofs.MachineLaws.{never}
use Rattle.updater.specs.Areas.{Areas}
use Rattle.updater.specs.Effect.{Effect, filled, zeros_written, is_finished}
use Rattle.updater.specs.Steps.{Stepped, stepped, after_filling, fill_step, free_step, step_of}
use Rattle.updater.specs.declared.commands.StepEnd.{StepEnd}
use Rattle.updater.specs.declared.commands.StepEnd.TheVariants.{Passed, Ended, Filled, Stretched, Refused}
use Rattle.updater.specs.Runnable.{Keeps, InImage, Runnable}
use Rattle.restart.specs.Writes.{image_byte, nowhere, in_blocks, step_writes, AreasOutside}
use Rattle.restart.proofs.OutsideLaws.{areas-same, image_changed}
use Rattle.restart.proofs.OverwriteLaws.{overwritten_outside, overwritten_only, overwrites_zeroed}
use Rattle.restart.proofs.ReadLaws.{Reads, Sets, step_left}
use Rattle.restart.proofs.FillLaws.{fills-reads}
use Rattle.restart.proofs.FreeLaws.{free_reads, free_sets}
use Rattle.std.specs.Prelude.{Option, Some, None}

-- a `move`, a `bsdiff`, a `stash`, or a `free` with a stretch to move
abbrev pub reads_bytes : List Stash → ℕ → List ℕ → Command → Bool
reads_bytes xs k hash c = either (fills c) (frees_on xs k hash c)

module _ (a : Areas) (l hash : List ℕ) (xs : List Stash) (ready k : ℕ) where
  pub step-reads : (terms : Terms) (c : Command) → Keeps xs a.stash → refusal_for l terms xs hash c ≡ none → Runnable l xs a c →
      reads_bytes xs k hash c ≡ true → Reads step_left (step_writes l xs hash c ready k a) a (step_of l xs hash c ready k)
  unfolding step_writes step_of fills frees_on
  step-reads terms (command.Move target n source) kept e r h = fills-reads a l hash terms xs ready kept (command.Move target n source) e r refl
  step-reads terms (command.Bsdiff target n source) kept e r h = fills-reads a l hash terms xs ready kept (command.Bsdiff target n source) e r refl
  step-reads terms (command.Stash set) kept e r h = fills-reads a l hash terms xs ready kept (command.Stash set) e r refl
  step-reads terms command.Free kept e r h = free_reads a xs k kept (find_in xs hash)
  step-reads terms (command.Zero set) kept e r h = absurd (never (sym h))
  step-reads terms (command.Erase set) kept e r h = absurd (never (sym h))
  step-reads terms (command.New set) kept e r h = absurd (never (sym h))
  step-reads terms command.Unsupported kept e r h = absurd (never (sym h))
  step-reads terms (command.Bad p) kept e r h = absurd (never (sym h))

  nothing-set : Sets nowhere a (λ b. stepped b Passed)
  unfolding nowhere
  nothing-set = record { only = areas-same _ a; ends = λ b. refl; agree = λ L b d. d }

  zeros-set : (set : RangeSet) → InImage l a.image set → Sets (in_blocks (blocks_at l set.at)) a (λ b. stepped (zeros_written l set b) Passed)
  unfolding in_blocks
  zeros-set set r =
      let o = overwrites_zeroed (length a.image) (blocks_at l set.at) r.below in
      record {
        only = image_changed _ a (overwritten_only o a.image refl);
        ends = λ b. refl;
        agree = λ L b d.
            record {
              image = overwritten_outside o (λ i. L (image_byte i)) a.image b.image refl d.image;
              stash = d.stash;
              work = d.work;
              result = d.result;
              patch = d.patch;
            };
      }

  pub step-sets : (c : Command) → Runnable l xs a c → reads_bytes xs k hash c ≡ false →
      Sets (step_writes l xs hash c ready k a) a (step_of l xs hash c ready k)
  unfolding step_writes step_of fills frees_on Runnable
  step-sets (command.Zero set) r h = zeros-set set r
  step-sets (command.Erase set) r h = zeros-set set r
  step-sets (command.New set) r h = nothing-set
  step-sets command.Free r h = free_sets a xs k (find_in xs hash) h
  step-sets command.Unsupported r h = nothing-set
  step-sets (command.Bad p) r h = nothing-set
  step-sets (command.Move target n source) r h = absurd (never h)
  step-sets (command.Bsdiff target n source) r h = absurd (never h)
  step-sets (command.Stash set) r h = absurd (never h)

  pub step-only : (terms : Terms) (c : Command) → Keeps xs a.stash → refusal_for l terms xs hash c ≡ none → Runnable l xs a c →
      AreasOutside (step_writes l xs hash c ready k a) a (step_of l xs hash c ready k a).areas
  step-only terms c kept e r =
      ⊎_elim (λ h. (step-reads terms c kept e r h).only) (λ h. (step-sets c r h).only) (bool (reads_bytes xs k hash c))

-- ---- what follows a step that reads

-- a stop, or a refusal
unfoldable pub is_last : StepEnd → Bool
is_last Passed = false
is_last Ended = true
is_last Filled = true
is_last Stretched = true
is_last (Refused number) = no (eqb number none)

filling_last : (e : Effect) → is_last (after_filling e).end ≡ true
unfolding is_last
filling_last e = picks (λ (x : StepEnd). is_last x ≡ true) (eqb e.refusal none) Filled (Refused e.refusal) (λ t. refl) (λ t. rw t)

module _ (a : Areas) (l hash : List ℕ) (xs : List Stash) (ready k : ℕ) where
  fill_last : (c : Command) → is_last (fill_step l xs hash c ready a).end ≡ true
  unfolding fill_step is_last
  fill_last c =
      picks (λ (s : Stepped). is_last s.end ≡ true) (is_ready ready) _ _ (λ t. refl)
      (λ t. picks (λ (s : Stepped). is_last s.end ≡ true) (is_finished l hash c a.image) _ _ (λ u. refl) (λ u. filling_last (filled l xs hash c a)))

  free_last : (f : Option ℕ) → found_stretch xs k f ≡ true → is_last (free_step xs k a f).end ≡ true
  unfolding free_step found_stretch is_last
  free_last (Some j) h = rw h (go (is_stretch (size_at xs j) (younger xs j) (k + 1)))
    where
      go : (t : Bool) → is_last (pick t Stretched Ended) ≡ true
      go true = refl
      go false = refl
  free_last None h = absurd (never (sym h))

  pub step-last : (c : Command) → reads_bytes xs k hash c ≡ true → is_last (step_of l xs hash c ready k a).end ≡ true
  unfolding step_of fills frees_on
  step-last (command.Move target n source) h = fill_last (command.Move target n source)
  step-last (command.Bsdiff target n source) h = fill_last (command.Bsdiff target n source)
  step-last (command.Stash set) h = fill_last (command.Stash set)
  step-last command.Free h = free_last (find_in xs hash) h
  step-last (command.Zero set) h = absurd (never (sym h))
  step-last (command.Erase set) h = absurd (never (sym h))
  step-last (command.New set) h = absurd (never (sym h))
  step-last command.Unsupported h = absurd (never (sym h))
  step-last (command.Bad p) h = absurd (never (sym h))
