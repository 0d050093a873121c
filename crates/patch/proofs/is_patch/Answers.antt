-- `is_patch` meets its contract.
use Rattle.std.proofs.Common.{sym, ◌∙◌, arith}
use Rattle.patch.proofs.RecordLaws.{Within, record_within}
use Rattle.patch.proofs.PatchLaws.{records_end, records_bad, records_good, good_start, good-bad, good-end, good-next}
use Rattle.patch.proofs.is_patch.Goals as goal
use Rattle.patch.proofs.is_patch.Goals.{In-Some}

within : (c : In-Some) → Within c.args.patch.now c.loop-at.at c.in-Some.found
within c = record_within _ _ _ c.loop-at.invariant.2 (sym c.read_record.ensures ∙ c.in-Some.is)

pub loop-at-init : goal.loop-at-init
loop-at-init c = (good_start _ _, omega arith, omega arith, omega arith)

pub read_record-requires : goal.read_record-requires
read_record-requires c = (omega arith, c.loop-at.invariant.2)

pub returns-in_default : goal.returns-in_default
returns-in_default c =
    good-bad _ _ (records_bad _ _ _ c.loop-at-test.true (sym c.read_record.ensures ∙ c.in_default.is))
    ∙ c.loop-at.invariant.0

pub overflow_sub-total : goal.overflow_sub-total
overflow_sub-total c = let w = within (goal.at.overflow_sub-total c).In-Some in omega arith

pub overflow_add-total : goal.overflow_add-total
overflow_add-total c = let w = within (goal.at.overflow_add-total c).In-Some in record { fits = omega arith }

pub loop-at-smaller : goal.loop-at-smaller
loop-at-smaller c = let w = within (goal.at.loop-at-smaller c).In-Some in omega arith

pub loop-at-preserved : goal.loop-at-preserved
loop-at-preserved c =
    let w = within (goal.at.loop-at-preserved c).In-Some in
    let l = c.loop-at in (
      good-next _ _ (records_good _ _ _ c.loop-at-test.true l.invariant.2 (sym c.read_record.ensures ∙ c.in-Some.is)) ∙ l.invariant.0,
      w.inside,
      w.next,
      omega arith,
    )

pub returns : goal.returns
returns c = good-end _ _ (records_end _ _ _ (omega arith)) ∙ c.loop-at.invariant.0
