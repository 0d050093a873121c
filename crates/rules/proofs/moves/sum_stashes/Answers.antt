-- `rules::moves::sum_stashes` meets its contract.
use Prim.Native.Nat.{ℕ, ◌+◌, ◌≤◌}
use mathlib.Core.Path.{◌≡◌, refl, sym, ap, subst, ◌∙◌}
use mathlib.Core.Bool.{Bool, false}
use mathlib.Core.List.{List, [], ◌∷◌}
use native.Mathlib.Omega.{arith}
use Rattle.std.specs.Prelude.{Option, Some, None, Result, Ok, Err}
use Rattle.text.specs.Choice.{either}
use Rattle.text.proofs.ChoiceLaws.{either_or_false, either-either}
use Rattle.ranges.specs.Ranges.{least_again}
use Rattle.state.specs.Stashes.{Stash}
use Rattle.state.specs.Sums.{bound, bounded}
use Rattle.command.specs.declared.parts.Part.{Part}
use Rattle.command.specs.declared.parts.BadPart.{BadPart}
use Rattle.command.specs.Parts.{StashUse, part_at, uses_at}
use Rattle.command.proofs.PartLaws.{NamedFrom, NamedNext, named_start, named_next, named_bad}
use Rattle.rules.specs.declared.moves.Sums.{Sums}
use Rattle.rules.specs.Move.{some_missing, some_differ, places_named}
use Rattle.rules.specs.Sums.{sums_of, sums_with}
use Rattle.rules.proofs.UseLaws.{unread-less}
use Rattle.rules.proofs.moves.sum_stashes.Invariants.{Summing, sums_from}
use Rattle.rules.proofs.moves.sum_stashes.Goals as goal

abbrev none : Sums
none = record { missing = false; differs = false; places = 0 }

sums_eq : {m m' d d' : Bool} {p p' : ℕ} → m ≡ m' → d ≡ d' → p ≡ p' →
    ◌≡◌ {A = Sums} (record { missing = m; differs = d; places = p }) (record { missing = m'; differs = d'; places = p' })
sums_eq e f g = rw (e, f, g)

sums_from_lem : (held : List Stash) (sums : Sums) (ps : List StashUse) → sums.places ≤ bound →
    sums_from held sums ps
    ≡ record {
      missing = either sums.missing (some_missing held ps);
      differs = either sums.differs (some_differ held ps);
      places = bounded (sums.places + places_named ps);
    }
unfolding sums_from sums_with some_missing some_differ places_named
sums_from_lem held sums [] h = sums_eq (either_or_false sums.missing) (either_or_false sums.differs) (omega arith)
sums_from_lem held sums (p ∷ ps) h =
    sums_from_lem held (sums_with sums held p.hash p.places.blocks) ps (omega arith)
    ∙ sums_eq (either-either sums.missing _ _) (either-either sums.differs _ _) (omega arith)

summing_start : (l : List ℕ) (first : ℕ) (held : List Stash) → Summing l first held none (Some first)
unfolding sums_of
summing_start l first held =
    record {
      left = uses_at l first;
      text = named_start l first;
      same = sums_from_lem held none (uses_at l first) (omega arith) ∙ sums_eq refl refl (omega arith);
    }

module _ {l : List ℕ} {first : ℕ} {held : List Stash} {sums : Sums} {next : Option ℕ} (k : Summing l first held sums next) where
  summing_done : next ≡ None → sums ≡ sums_of held (uses_at l first)
  unfolding sums_from
  summing_done e = sym (ap (sums_from held sums) (subst (λ (n : Option ℕ). NamedNext l n k.left) e k.text)) ∙ k.same

  module _ {at : ℕ} (here : next ≡ Some at) {r : Result Part BadPart} (read : r ≡ part_at least_again l at) where
    from : NamedFrom l at k.left
    from = subst (λ (n : Option ℕ). NamedNext l n k.left) here k.text

    summing_bad : {q : BadPart} → r ≡ Err q → sums ≡ sums_of held (uses_at l first)
    unfolding sums_from
    summing_bad f = sym (ap (sums_from held sums) (named_bad from (sym read ∙ f))) ∙ k.same

    summing_more : {p : Part} → r ≡ Ok p → {s : Sums} → s ≡ sums_with sums held p.hash p.places.blocks → Summing l first held s p.next
    unfolding sums_from
    summing_more {p} f e =
        let m = named_next from (sym read ∙ f) in
        record {
          left = m.0;
          text = m.2;
          same = ap (λ (s : Sums). sums_from held s m.0) e ∙ sym (ap (sums_from held sums) m.1) ∙ k.same;
        }

pub loop-next-init : goal.loop-next-init
loop-next-init c = summing_start _ _ _

pub returns-in_default-read_part : goal.returns-in_default-read_part
returns-in_default-read_part c =
    summing_bad c.loop-next.invariant c.in-Some.is c.read_part.ensures c.in_default-read_part.is

pub loop-next-smaller : goal.loop-next-smaller
loop-next-smaller c = unread-less _ c.read_part.ensures c.in-Some.is c.in-Ok.is

pub loop-next-preserved : goal.loop-next-preserved
loop-next-preserved c =
    summing_more c.loop-next.invariant c.in-Some.is c.read_part.ensures c.in-Ok.is c.add_stash-sums.ensures

pub returns : goal.returns
returns c = summing_done c.loop-next.invariant c.in_default.is
