-- What the loops of `call_on` keep.
use mathlib.Core.Path.{◌≡◌}
use lib.ListN.{length}
use Rattle.updater.specs.Areas.{areas_of}
use Rattle.updater.specs.Steps.{config_of}
use Rattle.sequence.proofs.CutLaws.{stops_left, CallingOn}
use Rattle.sequence.proofs.call_on.Given as goal

-- The areas keep their lengths, and after the calls that were made so far `taken` bytes of the piece are taken.
abbrev pub invariant-loop : goal.invariant-loop
invariant-loop l = (length l.image ≡ length l.initial.image)
    × (length l.stash ≡ length l.initial.stash)
    × (length l.work ≡ length l.initial.work)
    × (length l.res ≡ length l.initial.res)
    × CallingOn l.list l.piece
    (config_of (areas_of l.initial.image l.initial.stash l.initial.work l.initial.res l.patch) l.initial.state)
    (config_of (areas_of l.image l.stash l.work l.res l.patch) l.state) l.taken

abbrev pub decreases-loop : goal.decreases-loop
decreases-loop l = stops_left l.list (config_of (areas_of l.image l.stash l.work l.res l.patch) l.state)
