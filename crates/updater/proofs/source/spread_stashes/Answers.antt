-- `spread_stashes` meets its contract.
use Rattle.std.proofs.Common.{◌≡◌, ℕ, ◌/◌, List, ◌∷◌, length, sym, refl, ap, ◌∙◌, subst}
use Rattle.ranges.specs.Ranges.{least_again}
use Rattle.ranges.specs.Walk.{blocks_at}
use Rattle.state.specs.Limits.{block_bytes}
use Rattle.state.specs.Stashes.{Stash}
use Rattle.command.specs.declared.parts.Part.{Part}
use Rattle.command.specs.declared.parts.BadPart.{BadPart}
use Rattle.command.specs.Parts.{StashUse, part_at, uses_at}
use Rattle.command.proofs.PartLaws.{NamedFrom, NamedNext, named_start, named_next, named_bad}
use Rattle.rules.proofs.UseLaws.{unread-less}
use Rattle.updater.specs.Bytes.{written}
use Rattle.updater.specs.Source.{stash_bytes, spread}
use Rattle.updater.specs.Runnable.{Keeps, use_of, Spread}
use Rattle.updater.proofs.SourceLaws.{spreads_head, spreads_tail, spread-done, spread-next, length-spread-one}
use Rattle.updater.proofs.source.spread_stashes.Invariants.{Spreading}
use Rattle.updater.proofs.source.spread_stashes.Goals as goal
use Rattle.std.specs.Prelude.{Option, Some, None, Result, Ok, Err}

module _ {l : List ℕ} {xs : List Stash} {stash : List ℕ} {first : ℕ} {work₀ : List ℕ} {next : Option ℕ} {work : List ℕ}
    (k : Spreading l xs stash first work₀ next work) where
  all-done : next ≡ None → work ≡ spread l xs stash (uses_at l first) work₀
  all-done e = sym (spread-done l xs stash (subst (λ (n : Option ℕ). NamedNext l n k.ps) e k.from) work) ∙ k.same

  module _ {at : ℕ} (here : next ≡ Some at) {r : Result Part BadPart} (read : r ≡ part_at least_again l at) where
    from : NamedFrom l at k.ps
    from = subst (λ (n : Option ℕ). NamedNext l n k.ps) here k.from

    bad-done : {q : BadPart} → r ≡ Err q → work ≡ spread l xs stash (uses_at l first) work₀
    bad-done f = sym (spread-done l xs stash (named_bad from (sym read ∙ f)) work) ∙ k.same

    module _ {p : Part} (f : r ≡ Ok p) where
      rest : (rest : List StashUse) × (k.ps ≡ use_of p.hash p.places ∷ rest) × NamedNext l p.next rest
      rest = named_next from (sym read ∙ f)

      fits-here : Spread l xs (length work / block_bytes) (use_of p.hash p.places)
      fits-here = rw k.keeps (spreads_head l xs (length work₀ / block_bytes) rest.1 k.fits)

      -- what the spreading of this one leaves
      more_left : {work' : List ℕ} → Keeps xs stash → work' ≡ written (blocks_at l p.places.at) (stash_bytes xs stash p.hash) work →
          Spreading l xs stash first work₀ p.next work'
      more_left h w =
          record {
            ps = rest.0;
            from = rest.2;
            fits = spreads_tail l xs (length work₀ / block_bytes) rest.1 k.fits;
            keeps = ap length w ∙ length-spread-one l xs stash h (use_of p.hash p.places) work fits-here ∙ k.keeps;
            same = spread-next l xs stash rest.1 work w ∙ k.same;
          }

pub loop-next-init : goal.loop-next-init
loop-next-init c =
    record { ps = _; from = named_start c.args.l.now c.args.first; fits = c.requires.spreads; keeps = refl; same = refl }

pub returns-in_default-read_part : goal.returns-in_default-read_part
returns-in_default-read_part c = bad-done c.loop-next.invariant c.in-Some.is c.read_part.ensures c.in_default-read_part.is

pub spread_one-requires-clause-spread : goal.spread_one-requires-clause-spread
spread_one-requires-clause-spread c = fits-here c.loop-next.invariant c.in-Some.is c.read_part.ensures c.in-Ok.is

pub loop-next-smaller : goal.loop-next-smaller
loop-next-smaller c = unread-less _ c.read_part.ensures c.in-Some.is c.in-Ok.is

pub loop-next-preserved : goal.loop-next-preserved
loop-next-preserved c =
    more_left c.loop-next.invariant c.in-Some.is c.read_part.ensures c.in-Ok.is c.requires.keeps c.spread_one.ensures

pub returns : goal.returns
returns c = all-done c.loop-next.invariant c.in_default.is
