-- `fill_in` meets its contract.
use mathlib.Core.Path.{◌≡◌, ◌∙◌}
use mathlib.Core.List.{append-nil}
use Prim.Native.Nat.{ℕ, ◌+◌, ◌/◌, ◌%◌}
use native.Mathlib.Omega.{arith}
use lib.ListN.{length}
use lib.Seq.{take_all, drop-length}
use Rattle.sparse_file.specs.Chunk.{fill_bytes}
use Rattle.sparse.specs.Loading.{repeated}
use Rattle.sparse.proofs.LoadingLaws.{length-repeated, fill_next}
use Rattle.sparse.proofs.write.fill_in.Goals as goal

pub loop-i-preserved : goal.loop-i-preserved
loop-i-preserved c =
    let i = c.loop-i.i in
    let area = c.args.part.now in
    let bytes = c.args.bytes.now in
    let whole : length area % fill_bytes ≡ 0 = omega arith in
    let e1 = fill_next area bytes c.requires.1 whole i (i + 4) (omega arith) (omega arith) (omega arith) c.loop-i.invariant.2 c.put_four.ensures in
    let e2 = fill_next area bytes c.requires.1 whole (i + 4) (i + 8) (omega arith) (omega arith) (omega arith) e1 c.put_four-in-loop-i.ensures in
    let e3 = fill_next area bytes c.requires.1 whole (i + 8) (i + 12) (omega arith) (omega arith) (omega arith) e2 c.put_four-in-loop-i-2.ensures in
    let e4 = fill_next area bytes c.requires.1 whole (i + 12) (i + 16) (omega arith) (omega arith) (omega arith) e3 c.put_four-in-loop-i-3.ensures in
    (omega arith, omega arith, e4, omega arith)

pub returns : goal.returns
returns c =
    let part = c.args.part.now in
    let bytes = c.args.bytes.now in
    let e : c.loop-i.i ≡ length part = omega arith in
    let n = length-repeated bytes c.requires.1 (length part / fill_bytes) in
    let all = take_all {A = ℕ} (length part) (repeated (length part / fill_bytes) bytes) (omega arith) in
    c.loop-i.invariant.2 ∙ rw (e, all, drop-length, append-nil)
