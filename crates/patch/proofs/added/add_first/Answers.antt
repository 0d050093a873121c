-- `add_first` meets its contract: the bytes inside the source are added, and those past it copied.
use Rattle.std.proofs.Common.{◌≡◌, ℕ, ◌+◌, List, ◌++◌, drop, length, ap, ap₂, ◌∙◌, arith, length-drop, length-take}
use Rattle.patch.proofs.PartLaws.{to_end, copied, both_back}
use Rattle.patch.proofs.AddedLaws.{from_first}
use Rattle.patch.proofs.added.add_first.Goals as goal

pub returns : goal.returns
returns c =
    let n = c.min-inside.result in
    let a = c.args in
    let to = a.to.now in
    let adds = a.adds.now in
    let rest = drop n adds in
    let l : length c.add_each.new.to ≡ n = omega (arith, length-take n to) in
    let m : n + length rest ≡ length to = omega (arith, length-drop n adds) in
    let e : c.copy_in.new.to ≡ rest = copied to c.add_each.new.to c.copy_in.new.to rest n l m (rw (to_end adds n) at c.copy_in.ensures) in
    both_back to c.add_each.new.to c.copy_in.new.to n l (omega (arith, ap length e))
    ∙ ap₂ (λ (x y : List ℕ). x ++ y) c.add_each.ensures e
    ∙ from_first a.source.now adds n c.min-inside.ensures (λ i. omega (arith, c.type_inv.adds i))
