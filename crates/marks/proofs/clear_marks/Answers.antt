-- `clear_marks` meets its contract.
use native.Mathlib.Omega.{arith}
use Rattle.marks.proofs.MarkLaws.{clear_part}
use Rattle.marks.proofs.clear_marks.Goals as goal

pub returns-clause-clear : goal.returns-clause-clear
returns-clause-clear c = rw (c.fill.ensures.after (λ y e. e)) (clear_part c.args.marks.now c.args.n c.min.result (omega arith))
