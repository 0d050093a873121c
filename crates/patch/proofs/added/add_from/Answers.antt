-- `add_from` meets its contract: before the source, and from its first byte on; or from a later one on.
use Rattle.std.proofs.Common.{◌≡◌, ℕ, List, ◌++◌, take, drop, length, ap, ap₂, ◌∙◌, arith, length-drop, length-take}
use Rattle.patch.specs.Position.{origin}
use Rattle.patch.specs.Added.{added}
use Rattle.patch.proofs.PartLaws.{to_end, front-all, both_back}
use Rattle.patch.proofs.AddedLaws.{length-added, from-before, from-inside}
use Rattle.patch.proofs.added.add_from.Goals as goal

pub returns-then-position-lt-ORIGIN : goal.returns-then-position-lt-ORIGIN
returns-then-position-lt-ORIGIN c =
    let n = c.min-before.result in
    let a = c.args in
    let adds = a.adds.now in
    let source = a.source.now in
    let e : c.add_first.new.to ≡ added source origin (drop n adds) = rw (to_end adds n) at c.add_first.ensures in
    let f : c.copy_in.new.to ≡ take n adds =
    c.copy_in.ensures ∙ front-all (take n a.to.now) (take n adds) (omega (arith, length-take n adds, length-take n a.to.now)) in
    both_back a.to.now c.copy_in.new.to c.add_first.new.to n
    (omega (arith, length-take n a.to.now)) (omega (arith, ap length e, length-added source origin (drop n adds), length-drop n adds))
    ∙ ap₂ (λ (x y : List ℕ). x ++ y) f e
    ∙ from-before source adds a.position n (omega arith) c.min-before.ensures (λ i. omega (arith, c.type_inv.adds i))

pub returns-else-position-lt-ORIGIN : goal.returns-else-position-lt-ORIGIN
returns-else-position-lt-ORIGIN c =
    let a = c.args in
    rw (to_end a.source.now c.min-start.result) at c.add_first-else-position-lt-ORIGIN.ensures
    ∙ from-inside a.source.now a.adds.now a.position c.min-start.result (omega arith) c.min-start.ensures
