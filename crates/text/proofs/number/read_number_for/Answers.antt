-- `text::number::read_number_for` meets its contract: a number that meets the need, read as any number is, is the one
-- that is read for the need.
use mathlib.Core.Path.{sym, ◌∙◌}
use Rattle.text.proofs.NeedLaws.{number-met}
use Rattle.text.proofs.number.read_number_for.Goals as goal

pub returns-in-Ok : goal.returns-in-Ok
returns-in-Ok c = c.in-Ok.is ∙ sym (number-met _ _ _ (sym c.read_number-read.ensures ∙ c.in-Ok.is) (sym c.meets.ensures ∙ c.if-meets.true))
