-- `run_lines` meets its contract: each turn of the loop is a step of the machine, or the bytes of a `new` and a step.
use Rattle.std.proofs.Common.{◌≡◌, ◌-◌, ◌^◌, ◌<◌, length, ap, sym, ◌∙◌, arith}
use Rattle.state.specs.Refusals.{checked_number}
use Rattle.state.proofs.ReasonLaws.{number-some}
use Rattle.rules.specs.Rules.{checked_as}
use Rattle.updater.specs.Areas.{areas_of}
use Rattle.updater.specs.Steps.{Config, config_of}
use Rattle.updater.proofs.RunnableLaws.{next-line, next_stretch}
use Rattle.updater.proofs.RunLaws.{Checks, checked-at, checked-fault, checked-stretches, checked-runs}
use Rattle.updater.proofs.RunLaws.{new_in_image, new_counts, further-at, further-line, further-refusal, stops-finished, refuses, stops, runs, halts, lacks}
use Rattle.updater.proofs.RunLaws.{fills, came}
use Rattle.updater.proofs.run.run_lines.Goals as goal
use Rattle.updater.proofs.run.run_lines.Goals.{After-check_line-checked}

-- where the turn starts, once its line is checked
abbrev here : After-check_line-checked → Config
here c =
    config_of (areas_of c.loop-state.image c.loop-state.stash c.loop-state.work c.loop-state.res c.args.patch.now)
    c.loop-state.state

checks : (c : After-check_line-checked) →
    Checks c.args.list.now c.args.terms (here c) c.line_at-l.result.now (checked_as c.check_line-checked.result)
checks c = record {
  going = record { unrefused = c.loop-state.invariant.unrefused; within = c.loop-state-test.true };
  line = c.line_at-l.ensures;
  result = c.check_line-checked.ensures;
}

pub fault_byte-byte-requires : goal.fault_byte-byte-requires
fault_byte-byte-requires c =
    checked-fault c.loop-state.invariant.runs.keeps (checks (goal.at.fault_byte-byte-requires c).After-check_line-checked)

-- ---- a `new`: its bytes are taken and counted, and where they are all there its line is passed

pub take_new-next-requires : goal.take_new-next-requires
take_new-next-requires c =
    let a = c.loop-state.invariant.runs in
    let k = checks (goal.at.take_new-next-requires c).After-check_line-checked in
    ((new_in_image a.keeps k (ap checked_number (c.in_default.is)) (sym c.new_target.ensures ∙ c.in-Some.is)).below, a.within)

pub take_bytes-requires : goal.take_bytes-requires
take_bytes-requires c =
    let k = checks (goal.at.take_bytes-requires c).After-check_line-checked in
    let h : c.loop-state.state.into < 2 ^ 64 = omega arith in
    let n = new_counts c.loop-state.invariant.runs.keeps k (ap checked_number (c.in_default.is)) (sym c.new_target.ensures ∙ c.in-Some.is)
    (length c.args.piece.now - c.loop-state.taken) h in
    omega (arith, c.take_new-next.ensures.left, n)

pub pass-requires : goal.pass-requires
pass-requires c =
    let f = c.loop-state.invariant.runs.keeps in
    let k = checks (goal.at.pass-requires c).After-check_line-checked in
    let e = c.take_bytes.ensures in
    (omega (arith, further-at _ _ e, checked-at f k), omega (arith, further-line _ _ e, next-line _ _ _ f))

pub loop-state-smaller-in-Some : goal.loop-state-smaller-in-Some
loop-state-smaller-in-Some c =
    let k = checks (goal.at.loop-state-smaller-in-Some c).After-check_line-checked in
    (fills c.loop-state.invariant.runs k (ap checked_number (c.in_default.is)) (sym c.new_target.ensures ∙ c.in-Some.is) c.take_new-next.ensures.left
    c.take_new-next.ensures.put c.take_bytes.ensures c.if-state-set.false c.pass.ensures).less

pub loop-state-preserved-in-Some : goal.loop-state-preserved-in-Some
loop-state-preserved-in-Some c =
    let v = c.loop-state.invariant in
    let k = checks (goal.at.loop-state-preserved-in-Some c).After-check_line-checked in
    record {
      image = c.take_new-next.auto.image ∙ v.image;
      stash = v.stash;
      work = v.work;
      res = v.res;
      unrefused = further-refusal _ _ (c.take_bytes.ensures) _ c.pass.ensures
          ∙ v.unrefused;
      runs = (fills v.runs k (ap checked_number (c.in_default.is)) (sym c.new_target.ensures ∙ c.in-Some.is) c.take_new-next.ensures.left
          c.take_new-next.ensures.put c.take_bytes.ensures c.if-state-set.false c.pass.ensures).same;
    }

-- ---- a step of another command

pub run_step-end-requires-clause-runs : goal.run_step-end-requires-clause-runs
run_step-end-requires-clause-runs c =
    let k = checks (goal.at.run_step-end-requires-clause-runs c).After-check_line-checked in
    checked-runs c.loop-state.invariant.runs.keeps k (ap checked_number (c.in_default.is))

pub run_step-end-requires-clause-may_stretch : goal.run_step-end-requires-clause-may_stretch
run_step-end-requires-clause-may_stretch c =
    checked-stretches c.loop-state.invariant.runs.keeps (checks (goal.at.run_step-end-requires-clause-may_stretch c).After-check_line-checked)

pub after_step-requires : goal.after_step-requires
after_step-requires c =
    let f = c.loop-state.invariant.runs.keeps in (
      checked-at f (checks (goal.at.after_step-requires c).After-check_line-checked),
      next-line _ _ _ f,
      next_stretch _ _ _ f,
    )

pub loop-state-smaller : goal.loop-state-smaller
loop-state-smaller c =
    let k = checks (goal.at.loop-state-smaller c).After-check_line-checked in
    (runs c.loop-state.invariant.runs k (ap checked_number (c.in_default.is)) (sym c.new_target.ensures ∙ c.in-None.is) c.run_step-end.ensures
    c.after_step.ensures (sym c.stops.ensures ∙ c.if-stops.false)).less

pub loop-state-preserved : goal.loop-state-preserved
loop-state-preserved c =
    let v = c.loop-state.invariant in
    let kept = c.run_step-end.auto in
    let k = checks (goal.at.loop-state-preserved c).After-check_line-checked in
    record {
      image = kept.image ∙ v.image;
      stash = kept.stash ∙ v.stash;
      work = kept.work ∙ v.work;
      res = kept.res ∙ v.res;
      unrefused = c.if-state-ne0.false;
      runs = (runs v.runs k (ap checked_number (c.in_default.is)) (sym c.new_target.ensures ∙ c.in-None.is) c.run_step-end.ensures
          c.after_step.ensures (sym c.stops.ensures ∙ c.if-stops.false)).same;
    }

-- ---- where the run ends: the text does, a line is refused, the piece ends, a stop comes, a step refuses

pub returns-after-loop-state : goal.returns-after-loop-state
returns-after-loop-state c =
    (came _ _ (stops-finished c.loop-state.invariant.runs c.loop-state-test.false))

pub returns-in-Err : goal.returns-in-Err
returns-in-Err c =
    let k = checks (goal.at.returns-in-Err c).After-check_line-checked in
    let number : checked_number c.check_line-checked.result.refusal ≡ c.number.result =
    ap checked_number c.in-Err.is ∙ sym c.number.ensures in
    came _ _
    (refuses c.loop-state.invariant.runs k (λ z. number-some _ (sym (ap checked_number c.in-Err.is) ∙ z)) c.fault_byte-byte.ensures
    (rw number c.refuse.ensures))

pub returns-then-state-set : goal.returns-then-state-set
returns-then-state-set c =
    let v = c.loop-state.invariant in
    let k = checks (goal.at.returns-then-state-set c).After-check_line-checked in
    (came _ _
    (lacks v.runs k (ap checked_number (c.in_default.is)) (sym c.new_target.ensures ∙ c.in-Some.is) c.take_new-next.ensures.left
    c.take_new-next.ensures.put c.take_bytes.ensures c.if-state-set.true))

pub returns-then-stops : goal.returns-then-stops
returns-then-stops c =
    let k = checks (goal.at.returns-then-stops c).After-check_line-checked in
    came _ _
    (stops c.loop-state.invariant.runs k (ap checked_number (c.in_default.is)) (sym c.new_target.ensures ∙ c.in-None.is) c.run_step-end.ensures
    c.after_step.ensures (sym c.stops.ensures ∙ c.if-stops.true))

pub returns-then-state-ne0 : goal.returns-then-state-ne0
returns-then-state-ne0 c =
    let v = c.loop-state.invariant in
    let k = checks (goal.at.returns-then-state-ne0 c).After-check_line-checked in
    (came _ _
    (halts v.runs k (ap checked_number (c.in_default.is)) (sym c.new_target.ensures ∙ c.in-None.is) c.run_step-end.ensures
    c.after_step.ensures (sym c.stops.ensures ∙ c.if-stops.false) c.if-state-ne0.true))
