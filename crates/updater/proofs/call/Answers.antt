-- `call` meets its contract: a refusal that is held, a state that is not possible, or a run, with a stop or without.
use Rattle.std.proofs.Common.{sym, ◌∙◌}
use Rattle.updater.specs.Areas.{areas_of}
use Rattle.updater.specs.Steps.{Config, config_of}
use Rattle.updater.proofs.CallLaws.{possible-fits, held-call, impossible_call, stop-call, run_call}
use Rattle.updater.proofs.call.Goals as goal
use Rattle.updater.proofs.call.Goals.{After-run_lines-ran, Start}

-- where the call starts
abbrev first : Start → Config
first c =
    config_of (areas_of c.args.image.now c.args.stash.now c.args.work.now c.args.res.now c.args.patch.now) c.args.state.now

-- .. and where its run was left
abbrev last : After-run_lines-ran → Config
last c =
    config_of
    (areas_of c.run_lines-ran.new.image c.run_lines-ran.new.stash c.run_lines-ran.new.work c.run_lines-ran.new.res c.args.patch.now)
    c.run_lines-ran.new.state

pub returns-then-held-ne0 : goal.returns-then-held-ne0
returns-then-held-ne0 c =
    rw (c.refused.ensures.outcome, c.refused.ensures.taken) (held-call c.args.list.now c.args.piece.now (first (goal.at.returns-then-held-ne0 c).Start) c.if-held-ne0.true)

pub returns-then-not-is_possible : goal.returns-then-not-is_possible
returns-then-not-is_possible c =
    let at = goal.at.returns-then-not-is_possible c in
    rw (c.refused-then-not-is_possible.ensures.outcome, c.refused-then-not-is_possible.ensures.taken, c.refusal.ensures)
    (impossible_call c.args.list.now c.args.piece.now (first at.Start) c.if-held-ne0.false
    (sym c.is_possible.ensures ∙ c.if-not-is_possible.true))

pub run_lines-ran-requires-clause-fits : goal.run_lines-ran-requires-clause-fits
run_lines-ran-requires-clause-fits c =
    let p = first (goal.at.run_lines-ran-requires-clause-fits c).Start in
    rw c.terms_for-terms.ensures
    (possible-fits c.args.list.now p (sym c.is_possible.ensures ∙ c.if-not-is_possible.false) c.typed.ensures)

pub returns-then-ran : goal.returns-then-ran
returns-then-ran c =
    let at = goal.at.returns-then-ran c in
    stop-call c.args.list.now c.args.piece.now (first at.Start) c.if-held-ne0.false
    (sym c.is_possible.ensures ∙ c.if-not-is_possible.false) c.terms_for-terms.ensures {q = last at.After-run_lines-ran}
    c.run_lines-ran.ensures c.if-ran.true

pub returns-else-ran : goal.returns-else-ran
returns-else-ran c =
    let at = goal.at.returns-else-ran c in
    run_call c.args.list.now c.args.piece.now (first at.Start) c.if-held-ne0.false
    (sym c.is_possible.ensures ∙ c.if-not-is_possible.false) c.terms_for-terms.ensures {q = last at.After-run_lines-ran}
    c.run_lines-ran.ensures c.if-ran.false c.outcome_of-outcome.ensures
