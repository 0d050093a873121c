-- `muongrabi_open` meets its contract: what the opening gave, saved.
use mathlib.Core.Path.{refl, ap, ◌∙◌}
use Rattle.muongrabi.specs.Answers.{opening_of}
use Rattle.muongrabi.proofs.AnswerLaws.{opened-saved}
use Rattle.muongrabi.proofs.muongrabi_open.Goals as goal

pub returns : goal.returns
returns c = opened-saved _ _ _ c.save_in_place.ensures refl ∙ ap opening_of c.open-opened.ensures
