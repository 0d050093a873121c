-- `text::line::part_feeds` meets its contract.
use Prim.Native.Nat.{◌+◌}
use native.Mathlib.Omega.{arith}
use lib.ListN.{get_or}
use Rattle.text.specs.Line.{lfs_in}
use Rattle.text.proofs.LineLaws.{lfs_byte, lfs_test, lfs_within}
use Rattle.text.proofs.line.part_feeds.Goals as goal

pub loop-b-init : goal.loop-b-init
unfolding lfs_in
loop-b-init c = omega arith

pub overflow_add-n : goal.overflow_add-n
overflow_add-n c =
    let part = c.args.part.now in
    let i = c.loop-b.b-index in
    omega (arith, lfs_byte part i (omega arith), lfs_test (get_or part i 0), lfs_within part (i + 1))

pub loop-b-preserved : goal.loop-b-preserved
loop-b-preserved c =
    let part = c.args.part.now in
    let i = c.loop-b.b-index in
    omega (arith, lfs_byte part i (omega arith), lfs_test (get_or part i 0))
