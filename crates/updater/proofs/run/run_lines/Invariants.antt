-- What the loop of `run_lines` keeps.
use Rattle.std.proofs.Common.{◌≡◌, length}
use Rattle.ranges.specs.Ranges.{least_blocks}
use Rattle.state.specs.Refusals.{none}
use Rattle.updater.specs.Areas.{areas_of}
use Rattle.updater.specs.Steps.{config_of}
use Rattle.updater.specs.Run.{machine}
use Rattle.updater.proofs.RunLaws.{Runs}
use Rattle.updater.proofs.run.run_lines.Given as goal

-- The areas are as long as at the start, nothing is refused, and what is left to do from here gives the same.
abbrev pub invariant-loop-state : goal.invariant-loop-state
invariant-loop-state l = record {
  image : length l.image ≡ length l.initial.image;
  stash : length l.stash ≡ length l.initial.stash;
  work : length l.work ≡ length l.initial.work;
  res : length l.res ≡ length l.initial.res;
  unrefused : l.state.refusal.number ≡ none;
  runs : Runs l.list l.terms l.piece
      (config_of (areas_of l.initial.image l.initial.stash l.initial.work l.initial.res l.patch) l.initial.state)
      (config_of (areas_of l.image l.stash l.work l.res l.patch) l.state) l.taken;
}

-- Each turn burns fuel, since it ends with a step that needs no byte.
abbrev pub decreases-loop-state : goal.decreases-loop-state
decreases-loop-state l = (machine least_blocks l.list l.terms).fuel (config_of (areas_of l.image l.stash l.work l.res l.patch) l.state)
