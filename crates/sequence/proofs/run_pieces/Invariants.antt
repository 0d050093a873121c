-- What the loops of `run_pieces` keep.
use mathlib.Core.Path.{◌≡◌}
use lib.ListN.{length}
use Rattle.updater.specs.Areas.{areas_of}
use Rattle.updater.specs.Steps.{config_of}
use Rattle.sequence.proofs.CutLaws.{Cutting}
use Rattle.sequence.proofs.run_pieces.Given as goal

-- The areas keep their lengths, and the bytes that are left come to what all of them come to.
abbrev pub invariant-loop-cut : goal.invariant-loop-cut
invariant-loop-cut l = (length l.image ≡ length l.initial.image)
    × (length l.stash ≡ length l.initial.stash)
    × (length l.work ≡ length l.initial.work)
    × (length l.res ≡ length l.initial.res)
    × Cutting l.list l.bytes
    (config_of (areas_of l.initial.image l.initial.stash l.initial.work l.initial.res l.patch) l.initial.state)
    (config_of (areas_of l.image l.stash l.work l.res l.patch) l.state) l.from l.total
