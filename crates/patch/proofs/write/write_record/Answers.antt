-- `write_record` meets its contract: the added bytes, then the extra bytes.
use Rattle.std.proofs.Common.{◌≡◌, ℕ, ◌+◌, List, ◌++◌, ◌-◌, length, ap, ap₂, ◌∙◌, arith, length-take}
use Rattle.patch.specs.Patch.{between, record_result}
use Rattle.patch.proofs.PartLaws.{copied, both_back}
use Rattle.patch.proofs.PatchLaws.{length-between}
use Rattle.patch.proofs.write.write_record.Goals as goal

pub returns : goal.returns
unfolding record_result
returns c =
    let a = c.args in
    let r = a.found in
    let n = r.extras - r.adds in
    let part = a.part.now in
    let extras = between r.extras r.end a.patch.now in
    let l : length c.add_from.new.to ≡ n = omega (arith, length-take n part) in
    let m : n + length extras ≡ length part = omega (arith, length-between a.patch.now r.extras r.end (omega arith)) in
    let e : c.copy_in.new.to ≡ extras = copied part c.add_from.new.to c.copy_in.new.to extras n l m c.copy_in.ensures in
    both_back part c.add_from.new.to c.copy_in.new.to n l (omega (arith, ap length e))
    ∙ ap₂ (λ (x y : List ℕ). x ++ y) c.add_from.ensures e
