-- `take_new` meets its contract.
use Rattle.std.proofs.Common.{◌≡◌, ◌+◌, ◌-◌, ◌*◌, ◌/◌, ◌<◌, length, sym, ap, ◌∙◌, arith}
use lib.Seq.{set-get_or}
use Rattle.ranges.specs.Ranges.{least_again, pair_at}
use Rattle.ranges.specs.Walk.{blocks_at}
use Rattle.ranges.proofs.RangesLaws.{pair_order}
use Rattle.state.specs.Limits.{block_bytes}
use Rattle.updater.proofs.NewLaws.{blocks-none, blocks-bad, blocks_end, went_none, ahead-start, ahead_past, ahead_skip, ahead-end, inside-end}
use Rattle.updater.proofs.NewLaws.{filled_more, range_room, length-lent, part-inside, part_went}
use Rattle.updater.proofs.new_data.take_new.Goals as goal
use Rattle.updater.proofs.new_data.take_new.Goals.{In-Ok-read_pair, In-loop-byte, then-skip-size+else-loop-byte-test, else-skip-size}
use Rattle.std.specs.Prelude.{Ok}

-- the range that was read, one of those left
pair-is : (c : In-Ok-read_pair) → pair_at least_again c.args.l.now c.ranges-2.next ≡ Ok ((c.in-Ok-read_pair.start, c.in-Ok-read_pair.end), c.in-Ok-read_pair.past)
pair-is c = sym c.read_pair.ensures ∙ c.in-Ok-read_pair.is

some-left : (c : In-Ok-read_pair) → 0 < c.in-Ok.count / 2 - c.ranges-2.counter
some-left c = omega (arith, c.ranges-2-test.true)

-- the byte at hand is one of those that the range has left
few : (c : In-loop-byte) → c.loop-byte.byte-index < block_bytes * (c.in-Ok-read_pair.end - c.in-Ok-read_pair.start) - c.ranges-2.skip
few c =
    let i = c.ranges-2.invariant in
    let e = sym c.read_pair.ensures ∙ c.in-Ok-read_pair.is in
    let n = length-lent i.went i.ahead (omega (arith, c.ranges-2-test.true)) e c.if-skip-size.true c.requires.0 in
    omega (arith, c.loop-byte-test.true, c.loop-byte.auto.byte-items)

pub returns-in_default-clause-left : goal.returns-in_default-clause-left
returns-in_default-clause-left c =
    let n = ap length (blocks-none c.args.l.now c.args.at (sym c.read_number.ensures ∙ c.in_default.is)) in
    omega arith

pub returns-in_default-clause-put : goal.returns-in_default-clause-put
returns-in_default-clause-put c =
    (went_none (blocks_at c.args.l.now c.args.at) c.args.piece.now c.args.image.now c.args.from c.args.into c.requires.1).image-is

pub ranges-2-init : goal.ranges-2-init
ranges-2-init c =
    let z : c.in-Ok.count / 2 - 0 ≡ c.in-Ok.count / 2 = omega arith in
    record {
      went = went_none _ _ _ _ _ c.requires.1;
      ahead = rw z (ahead-start _ _ _ _ (sym c.read_number.ensures ∙ c.in-Ok.is));
    }

pub returns-in_default-read_pair-clause-left : goal.returns-in_default-read_pair-clause-left
returns-in_default-read_pair-clause-left c =
    let i = c.ranges-2.invariant in
    ahead-end i.ahead (blocks-bad _ _ _ (omega (arith, c.ranges-2-test.true)) (sym c.read_pair.ensures ∙ c.in_default-read_pair.is)) _ i.went.past i.went.within

pub overflow_sub-size : goal.overflow_sub-size
overflow_sub-size c = pair_order _ _ _ (pair-is c)

pub slice_bounds-byte-items-end : goal.slice_bounds-byte-items-end
slice_bounds-byte-items-end c =
    let here = (goal.at.slice_bounds-byte-items-end c).In-Ok-read_pair in
    let i = c.ranges-2.invariant in
    range_room i.went i.ahead (some-left here) (pair-is here) c.if-skip-size.true c.requires.0

pub loop-byte-preserved : goal.loop-byte-preserved
loop-byte-preserved c =
    let v = c.loop-byte.invariant in
    let n = c.loop-byte.auto.byte-items in
    record {
      within = omega (arith, v.within, c.if-i-piece.false);
      passed = omega (arith, v.passed);
      items = filled_more _ _ _ v.items v.passed (omega (arith, v.within, c.if-i-piece.false)) (omega (arith, c.loop-byte-test.true));
    }

pub ranges-2-preserved : goal.ranges-2-preserved
ranges-2-preserved c =
    let here = (goal.at.ranges-2-preserved c).In-Ok-read_pair in
    let i = c.ranges-2.invariant in
    let s : c.in-Ok.count / 2 - (c.ranges-2.counter + 1) ≡ c.in-Ok.count / 2 - c.ranges-2.counter - 1 = omega arith in
    let some = some-left here in
    let e = pair-is here in
    elim c.if-skip-size.branch [
      | then-skip-size+else-loop-byte-test w ↦
          let v = w.loop-byte.invariant in
          let h = w.if-skip-size.true in
          let n = length-lent i.went i.ahead some e h c.requires.0 in
          let m = w.loop-byte.auto.byte-index-end in
          let t = w.loop-byte-test.false in
          let b = w.loop-byte.auto.byte-items in
          rw (w.image-is, w.i-is, w.skip-is, s)
          (record {
            went = part_went i.went i.ahead some e h v.passed (omega arith) c.requires.0 v.within v.items;
            ahead = ahead_past (part-inside i.went i.ahead some e h v.passed (omega arith)) (omega arith);
          })
      | else-skip-size w ↦
          rw (w.image-is, w.i-is, w.skip-is, s)
          (record { went = i.went; ahead = ahead_skip i.ahead some e w.if-skip-size.false })
    ]

pub returns-after-ranges-2-clause-left : goal.returns-after-ranges-2-clause-left
returns-after-ranges-2-clause-left c =
    let i = c.ranges-2.invariant in
    ahead-end i.ahead (blocks_end _ _ _ (omega (arith, c.ranges-2-test.false))) _ i.went.past i.went.within

pub returns-then-i-piece-clause-left : goal.returns-then-i-piece-clause-left
returns-then-i-piece-clause-left c =
    let at = goal.at.returns-then-i-piece-clause-left c in
    let here = at.In-Ok-read_pair in
    let i = c.ranges-2.invariant in
    let v = c.loop-byte.invariant in
    let n = few at.In-loop-byte in
    let p = i.went.past in
    inside-end (part-inside i.went i.ahead (some-left here) (pair-is here) c.if-skip-size.true v.passed (omega arith)) _ (omega (arith, v.passed)) c.if-i-piece.true

pub returns-then-i-piece-clause-put : goal.returns-then-i-piece-clause-put
returns-then-i-piece-clause-put c =
    let at = goal.at.returns-then-i-piece-clause-put c in
    let here = at.In-Ok-read_pair in
    let i = c.ranges-2.invariant in
    let v = c.loop-byte.invariant in
    let n = few at.In-loop-byte in
    rw (set-get_or c.loop-byte.byte-items c.loop-byte.byte-index 0)
    (part_went i.went i.ahead (some-left here) (pair-is here) c.if-skip-size.true v.passed (omega arith) c.requires.0 v.within v.items).image-is
