-- `muongrabi_call` meets its contract: the state is read from the bytes, and the one after the call is saved there; or the bytes are no
-- saved form.
use mathlib.Core.Path.{refl, ◌∙◌}
use Rattle.updater.specs.Areas.{areas_of}
use Rattle.updater.specs.Calls.{result_of, called_with}
use Rattle.saved.proofs.ReadLaws.{restored_same, restored_error}
use Rattle.muongrabi.proofs.AnswerLaws.{answered_saved, called-saved, called_unsaved}
use Rattle.muongrabi.proofs.muongrabi_call.Goals as goal

pub returns-in-Ok : goal.returns-in-Ok
returns-in-Ok c =
    let a = c.args in
    let lent = areas_of a.image.now a.stash.now a.work.now a.res.now a.patch.now in
    let e = restored_same a.state.now _ _ _ c.in-Ok.ensures.value c.in-Ok.ensures.state_after in
    answered_saved _ _ _ (result_of _ (called_with c.call-called.new.state c.call-called.result)) refl c.save_in_place.ensures c.to_answer.ensures
    ∙ called-saved a.list.now a.piece.now lent a.state.now _ e _ c.call-called.ensures

pub returns-in-Err : goal.returns-in-Err
returns-in-Err c =
    let a = c.args in
    let lent = areas_of a.image.now a.stash.now a.work.now a.res.now a.patch.now in
    let e = restored_error a.state.now _ c.in-Err.ensures.value in
    called_unsaved a.list.now a.piece.now lent a.state.now _ e _ c.refusal.ensures _ c.to_answer-in-Err.ensures
