-- `muongrabi_run` meets its contract: what the calls give back at last, saved.
use mathlib.Core.Path.{refl, ap, ◌∙◌}
use Rattle.updater.specs.Calls.{result_of, called_with}
use Rattle.muongrabi.specs.Answers.{answer_to}
use Rattle.muongrabi.proofs.AnswerLaws.{answered_saved}
use Rattle.muongrabi.proofs.muongrabi_run.Goals as goal

pub returns : goal.returns
returns c =
    let r = c.run_pieces-ran.result in
    answered_saved _ _ _ (result_of _ (called_with r.state r.called)) refl c.save_in_place.ensures c.to_answer.ensures
    ∙ ap answer_to c.run_pieces-ran.ensures.result_after
