-- `write_records` meets its contract.
use Rattle.std.proofs.Common.{◌≡◌, ◌+◌, ◌≤◌, length, sym, refl, ◌∙◌, arith}
use Rattle.patch.specs.Patch.{follow, records_from, record_size}
use Rattle.patch.proofs.RecordLaws.{Within, record_within}
use Rattle.patch.proofs.PatchLaws.{records_end, records_bad, records_good, length-between, writing_start, writing_end, writing_room, writing_next}
use Rattle.patch.proofs.write.write_records.Goals as goal
use Rattle.patch.proofs.write.write_records.Goals.{In-Some}

within : (c : In-Some) → Within c.args.patch.now c.loop-at.at c.in-Some.found
within c = record_within _ _ _ c.loop-at.invariant.0.near (sym c.read_record.ensures ∙ c.in-Some.is)

next : (c : In-Some) → records_from c.args.patch.now c.loop-at.at c.loop-at.position
    ≡ follow c.in-Some.found (records_from c.args.patch.now c.in-Some.found.end c.in-Some.found.next)
next c =
    records_good _ _ _ c.loop-at-test.true c.loop-at.invariant.0.near (sym c.read_record.ensures ∙ c.in-Some.is)

room : (c : In-Some) → c.loop-at.out + record_size c.in-Some.found ≤ length c.loop-at.res
room c = omega (arith, writing_room c.loop-at.invariant.0 (next c) (within c))

pub loop-at-init : goal.loop-at-init
loop-at-init c = (writing_start _ _ _ c.requires, refl)

pub read_record-requires : goal.read_record-requires
read_record-requires c = (omega arith, c.loop-at.invariant.0.near)

pub shape_of-res-in_default : goal.shape_of-res-in_default
shape_of-res-in_default c = c.loop-at.invariant.1

pub returns-in_default : goal.returns-in_default
returns-in_default c =
    let l = c.loop-at in
    writing_end l.invariant.0 (records_bad _ _ _ c.loop-at-test.true (sym c.read_record.ensures ∙ c.in_default.is))

pub overflow_sub-end : goal.overflow_sub-end
overflow_sub-end c = let w = within (goal.at.overflow_sub-end c).In-Some in omega arith

pub overflow_add-end : goal.overflow_add-end
overflow_add-end c = let w = room (goal.at.overflow_add-end c).In-Some in record { fits = omega arith }

pub slice_bounds-write_record-end : goal.slice_bounds-write_record-end
slice_bounds-write_record-end c = let w = room (goal.at.slice_bounds-write_record-end c).In-Some in omega arith

pub write_record-requires : goal.write_record-requires
write_record-requires c =
    let w = within (goal.at.write_record-requires c).In-Some in
    let l = c.loop-at in
    record { inside = (w.extras, w.end, w.inside); room = length-between l.res l.out _ (room (goal.at.write_record-requires c).In-Some) ∙ omega arith }

pub loop-at-smaller : goal.loop-at-smaller
loop-at-smaller c = let w = within (goal.at.loop-at-smaller c).In-Some in omega arith

pub loop-at-preserved : goal.loop-at-preserved
loop-at-preserved c =
    let w = within (goal.at.loop-at-preserved c).In-Some in
    let l = c.loop-at in
    let n = writing_next l.invariant.0 (next (goal.at.loop-at-preserved c).In-Some) w c.write_record.new.part c.write_record.ensures in
    (n, sym n.room ∙ writing_room l.invariant.0 (next (goal.at.loop-at-preserved c).In-Some) w ∙ l.invariant.1)

pub shape_of-res : goal.shape_of-res
shape_of-res c = c.loop-at.invariant.1

pub returns : goal.returns
returns c = writing_end c.loop-at.invariant.0 (records_end _ _ _ (omega arith))
