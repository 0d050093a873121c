-- `command::parts::check_parts` meets its contract.
use Prim.Native.Nat.{ℕ, suc, ◌-◌, ◌<◌}
use native.Mathlib.Omega.{arith}
use mathlib.Core.Path.{◌≡◌, refl, sym, ap, ◌∙◌}
use mathlib.Core.List.{List}
use lib.ListN.{length}
use Rattle.std.specs.Prelude.{Option, Some, None, Ok, Err}
use Rattle.ranges.specs.Ranges.{least_blocks}
use Rattle.command.specs.declared.parts.Part.{Part}
use Rattle.command.specs.declared.parts.BadPart.{BadPart}
use Rattle.command.specs.Parts.{part_at, parts_in, parts_at}
use Rattle.command.proofs.PartLaws.{part_next}
use Rattle.command.proofs.parts.check_parts.Invariants.{Checking, CheckingNext, left}
use Rattle.command.proofs.parts.check_parts.Goals as goal

module _ (l : List ℕ) (first at : ℕ) (k : Checking l first at) where
  checking_more : {p : Part} → part_at least_blocks l at ≡ Ok p → CheckingNext l first p.next
  unfolding parts_in
  checking_more {p} e = go p.next refl
    where
      go : (next : Option ℕ) → p.next ≡ next → CheckingNext l first next
      go (Some next) f =
          let h = part_next least_blocks l at e f in
          let some : suc (k.n - 1) ≡ k.n = omega (arith, k.enough) in
          let here : parts_in least_blocks k.n l first next ≡ parts_in least_blocks (suc k.n) l first at = rw (e, f) in
          record {
            n = k.n - 1;
            enough = omega (arith, k.enough);
            same = ap (λ (n : ℕ). parts_in least_blocks n l first next) some ∙ here ∙ k.same;
          }
      go None f = sym k.same ∙ rw (e, f)

  checking_bad : {q : BadPart} → part_at least_blocks l at ≡ Err q → Err q.at ≡ parts_at least_blocks l first
  unfolding parts_in
  checking_bad e = rw e at k.same

-- what is left of the line past a P is less
further : (l : List ℕ) (at : ℕ) {p : Part} {n : Option ℕ} → part_at least_blocks l at ≡ Ok p → n ≡ Some at → left l p.next < left l n
further l at {p} e f = rw f (go p.next refl)
  where
    go : (next : Option ℕ) → p.next ≡ next → left l next < suc (length l - at)
    go (Some next) g = omega (arith, part_next least_blocks l at e g)
    go None g = omega arith

pub loop-next-init : goal.loop-next-init
unfolding parts_at
loop-next-init c = record { n = length c.args.l.now; enough = omega arith; same = refl }

pub returns-in-Err : goal.returns-in-Err
returns-in-Err c =
    checking_bad c.args.l.now c.args.first c.in-Some.at (rw c.in-Some.is at c.loop-next.invariant) (sym (c.in-Err.ensures))

pub loop-next-smaller : goal.loop-next-smaller
loop-next-smaller c = further c.args.l.now c.in-Some.at (sym (c.in-Ok.ensures)) c.in-Some.is

pub loop-next-preserved : goal.loop-next-preserved
loop-next-preserved c =
    checking_more c.args.l.now c.args.first c.in-Some.at (rw c.in-Some.is at c.loop-next.invariant) (sym (c.in-Ok.ensures))
