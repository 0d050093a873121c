-- `Table::blocks_before` meets its contract.
use mathlib.Core.Path.{◌≡◌, refl, ap, ◌∙◌}
use mathlib.Core.List.{List}
use Prim.Native.Nat.{◌<◌, min}
use native.Mathlib.Omega.{arith}
use lib.ListN.{length, length-take}
use lib.Seq.{get_or-take}
use Rattle.std.proofs.lemmas.List.{take_min}
use Rattle.state.specs.Stashes.{Stash, held_in, blocks_held}
use Rattle.state.specs.Sums.{bounded}
use Rattle.state.proofs.StashLaws.{blocks_held-next}
use Rattle.state.proofs.TableLaws.{length-held, size_held}
use Rattle.state.proofs.stashes.Table.blocks_before.Goals as goal

pub loop-size-init : goal.loop-size-init
unfolding blocks_held
loop-size-init c = refl

pub loop-size-preserved : goal.loop-size-preserved
loop-size-preserved c =
    let t = c.args.self.now in
    let i = c.loop-size.size-index in
    let l : i < c.min.result = omega (arith, length-take c.min.result t.sizes) in
    omega (arith, c.bounded_sum-sum.ensures, get_or-take c.min.result t.sizes i 0 l, size_held t i (omega arith), blocks_held-next (held_in t) i)

pub returns : goal.returns
returns c =
    let t = c.args.self.now in
    let i = c.loop-size.size-index in
    let e : i ≡ min c.args.n (length (held_in t)) = omega (arith, length-take c.min.result t.sizes, length-held t) in
    c.loop-size.invariant ∙ ap (λ (xs : List Stash). bounded (blocks_held xs)) (rw e (take_min c.args.n (held_in t)))
