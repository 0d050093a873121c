-- `copy_over` meets its contract.
use Rattle.std.proofs.Common.{arith, length-drop, length-take}
use Rattle.copy.proofs.OverLaws.{part_back}
use Rattle.updater.proofs.areas.copy_over.Goals as goal

pub returns : goal.returns
returns c = part_back _ _ _ _ _ (simp (length-take, length-drop) (omega arith)) c.copy_in.ensures
