-- `rules::places::take_uses` meets its contract.
use mathlib.Core.Path.{◌≡◌, sym, ap, subst, ◌∙◌}
use mathlib.Core.Bool.{Bool, true, false}
use mathlib.Core.List.{List, ◌++◌}
use Prim.Native.Nat.{ℕ}
use Rattle.std.specs.Prelude.{Option, Some, None, Result, Ok, Err}
use Rattle.ranges.specs.Ranges.{least_again}
use Rattle.ranges.specs.Walk.{blocks_at}
use Rattle.command.specs.declared.parts.Part.{Part}
use Rattle.command.specs.declared.parts.BadPart.{BadPart}
use Rattle.command.specs.Parts.{part_at, uses_at}
use Rattle.command.proofs.PartLaws.{NamedFrom, NamedNext, named_start, named_next, named_bad}
use Rattle.rules.specs.Move.{places_of}
use Rattle.rules.specs.Taken.{Takes}
use Rattle.rules.proofs.PlaceLaws.{Pass, pass-start, pass-left, pass-done, pass_some, pass_fails}
use Rattle.rules.proofs.UseLaws.{unread-less}
use Rattle.rules.proofs.places.take_uses.Invariants.{Naming}
use Rattle.rules.proofs.places.take_uses.Goals as goal

naming_start : (l : List ℕ) (n : ℕ) (marks : List ℕ) (first : ℕ) → Naming l n marks (places_of l (uses_at l first)) marks (Some first)
naming_start l n marks first = record { ps = uses_at l first; from = named_start l first; pass = pass-start _ _ _ }

module _ {l : List ℕ} {n : ℕ} {before all marks : List ℕ} {next : Option ℕ} (k : Naming l n before all marks next) where
  naming_done : next ≡ None → Takes n before marks all true
  unfolding places_of
  naming_done e = pass-done (pass-left (ap (places_of l) (subst (λ (n : Option ℕ). NamedNext l n k.ps) e k.from)) k.pass)

  module _ {at : ℕ} (here : next ≡ Some at) {r : Result Part BadPart} (read : r ≡ part_at least_again l at) where
    from : NamedFrom l at k.ps
    from = subst (λ (n : Option ℕ). NamedNext l n k.ps) here k.from

    naming_bad : {q : BadPart} → r ≡ Err q → Takes n before marks all true
    unfolding places_of
    naming_bad f = pass-done (pass-left (ap (places_of l) (named_bad from (sym read ∙ f))) k.pass)

    module _ {p : Part} (f : r ≡ Ok p) where
      naming_pass : Pass n before all marks (blocks_at l p.places.at ++ places_of l (named_next from (sym read ∙ f)).0)
      unfolding places_of
      naming_pass = pass-left (ap (places_of l) (named_next from (sym read ∙ f)).1) k.pass

      naming_fails : {after : List ℕ} {yes : Bool} → Takes n marks after (blocks_at l p.places.at) yes → yes ≡ false →
          Takes n before after all false
      naming_fails a e = pass_fails _ _ naming_pass a e

      naming_more : {after : List ℕ} {yes : Bool} → Takes n marks after (blocks_at l p.places.at) yes → yes ≡ true →
          Naming l n before all after p.next
      naming_more a e = record {
        ps = (named_next from (sym read ∙ f)).0;
        from = (named_next from (sym read ∙ f)).2;
        pass = pass_some _ _ naming_pass a e;
      }

pub loop-next-init : goal.loop-next-init
loop-next-init c = naming_start _ _ _ _

pub returns-in_default-read_part : goal.returns-in_default-read_part
returns-in_default-read_part c = naming_bad c.loop-next.invariant c.in-Some.is c.read_part.ensures c.in_default-read_part.is

pub returns-then-not-take_places : goal.returns-then-not-take_places
returns-then-not-take_places c =
    naming_fails c.loop-next.invariant c.in-Some.is c.read_part.ensures c.in-Ok.is c.take_places.ensures c.if-not-take_places.true

pub loop-next-smaller : goal.loop-next-smaller
loop-next-smaller c = unread-less _ c.read_part.ensures c.in-Some.is c.in-Ok.is

pub loop-next-preserved : goal.loop-next-preserved
loop-next-preserved c =
    naming_more c.loop-next.invariant c.in-Some.is c.read_part.ensures c.in-Ok.is c.take_places.ensures c.if-not-take_places.false

pub returns : goal.returns
returns c = naming_done c.loop-next.invariant c.in_default.is
