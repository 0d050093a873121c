-- Where a run stops, by the command alone.
-- Assumes nothing.
use mathlib.Core.Path.{◌≡◌, refl, sym, ap, ◌∙◌}
use mathlib.Core.Bool.{Bool, true, false}
use mathlib.Core.Logic.{⊎_elim}
use mathlib.Core.List.{List}
use Prim.Native.Nat.{ℕ, ◌+◌}
use Rattle.text.specs.Choice.{pick}
use Rattle.text.proofs.ChoiceLaws.{bool}
use Rattle.state.specs.Stashes.{Stash, find_in, size_at, younger}
use Rattle.state.specs.Stretches.{is_stretch}
use Rattle.state.proofs.StretchLaws.{stretch_before}
use Rattle.command.specs.Filling.{fills}
use Rattle.command.specs.declared.Command.{Command}
use Rattle.command.specs.declared.Command.TheVariants as command
use Rattle.possible.specs.Possible.{found_stretch, frees_on}
use Rattle.machine.proofs.MachineLaws.{never}
use Rattle.updater.specs.Areas.{Areas}
use Rattle.updater.specs.Steps.{stops_after, free_step, step_of}
use Rattle.updater.specs.declared.commands.StepEnd.{StepEnd}
use Rattle.updater.specs.declared.commands.StepEnd.TheVariants.{Passed, Ended, Filled, Stretched, Refused}
use Rattle.restart.specs.Restart.{StopsThere}
use Rattle.restart.proofs.StepReadLaws.{reads_bytes, is_last, step-last}
use Rattle.std.specs.Prelude.{Option, Some, None}

-- a step that is the last one before a stop or a refusal, and is not refused
unrefused-stops : (e : StepEnd) → is_last e ≡ true → ((number : ℕ) → e ≡ Refused number → ⊥) → stops_after e ≡ true
unfolding is_last stops_after
unrefused-stops Passed h n = absurd (never (sym h))
unrefused-stops Ended h n = refl
unrefused-stops Filled h n = refl
unrefused-stops Stretched h n = refl
unrefused-stops (Refused number) h n = absurd (n number refl)

module _ (a : Areas) (l hash : List ℕ) (xs : List Stash) (ready k : ℕ) where
  free_passes : (f : Option ℕ) → found_stretch xs k f ≡ false → (free_step xs k a f).end ≡ Passed
  unfolding free_step found_stretch
  free_passes (Some j) h = rw h (go (is_stretch (size_at xs j) (younger xs j) (k + 1)) (λ t. never (sym (stretch_before (size_at xs j) (younger xs j) k t) ∙ h)))
    where
      go : (t : Bool) → (t ≡ true → ⊥) → pick t Stretched Passed ≡ Passed
      go true n = absurd (n refl)
      go false n = refl
  free_passes None h = refl

  step-passes : (c : Command) → reads_bytes xs k hash c ≡ false → (step_of l xs hash c ready k a).end ≡ Passed
  unfolding step_of fills frees_on
  step-passes (command.Zero set) h = refl
  step-passes (command.Erase set) h = refl
  step-passes (command.New set) h = refl
  step-passes command.Free h = free_passes (find_in xs hash) h
  step-passes command.Unsupported h = refl
  step-passes (command.Bad p) h = refl
  step-passes (command.Move target n source) h = absurd (never h)
  step-passes (command.Bsdiff target n source) h = absurd (never h)
  step-passes (command.Stash set) h = absurd (never h)

passed-goes_on : stops_after Passed ≡ false
unfolding stops_after
passed-goes_on = refl

pub stops-there : StopsThere
stops-there l xs hash c ready k a n =
    ⊎_elim
    (λ h. unrefused-stops (step_of l xs hash c ready k a).end (step-last a l hash xs ready k c h) n ∙ sym h)
    (λ h. ap stops_after (step-passes a l hash xs ready k c h) ∙ passed-goes_on ∙ sym h)
    (bool (reads_bytes xs k hash c))
