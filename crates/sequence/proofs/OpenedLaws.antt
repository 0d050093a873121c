-- A list that was opened starts to run.
-- Assumes nothing.
use mathlib.Core.Path.{◌≡◌, refl, sym, ap, subst}
use mathlib.Core.Bool.{true, false}
use mathlib.Core.List.{List, []}
use mathlib.Core.Logic.{◌⊎◌, inl, inr}
use Prim.Native.Nat.{ℕ, zero, suc, ◌+◌}
use native.Mathlib.Omega.{arith}
use borrow.Author.Tests.{eqb-true, eqb-false}
use lib.Dec.{leb, eqb}
use lib.ListN.{length, length-replicate}
use Rattle.text.specs.Choice.{no}
use Rattle.text.specs.Line.{line_at}
use Rattle.ranges.specs.Ranges.{least_blocks}
use Rattle.state.specs.Refusals.{none, total_differs}
use Rattle.state.specs.Limits.{most_stashes, table_bytes}
use Rattle.state.specs.Stashes.{Stash, held_in, entries, held_twice, holds_empty, blocks_held}
use Rattle.state.specs.declared.Lengths.{Lengths}
use Rattle.state.specs.declared.Refusal.{Refusal}
use Rattle.state.specs.declared.State.{State}
use Rattle.rules.specs.Rules.{refusal_of}
use Rattle.rules.specs.declared.Terms.{Terms}
use Rattle.state.specs.States.{refusing, no_refusal, state_at}
use Rattle.transfer_list.specs.Header.{first_line, header_of, start_refusal}
use Rattle.transfer_list.specs.Opening.{terms_of, total_refusal, lines_refusal, commands_refusal, open_refusal, first_at, accepted_state, refused_state, open_state}
use Rattle.transfer_list.specs.declared.header.Header.{Header}
use Rattle.transfer_list.proofs.HeaderLaws.{Opening, header-first, header-last, header-lines, start_none}
use Rattle.possible.specs.Possible.{can_be_stretched}
use Rattle.updater.specs.Fits.{Fits}
use Rattle.updater.specs.Areas.{Areas}
use Rattle.updater.specs.Steps.{Config, config_of}
use Rattle.updater.specs.Calls.{lengths_at}
use Rattle.sequence.specs.Claim.{opened_config, Accepted}
use Rattle.text.proofs.ChoiceLaws.{bool, picks}
use Rattle.sequence.proofs.Running.{WalkLeft, going, Running}
use Rattle.sequence.proofs.ModelLaws.{Fresh}
use Rattle.std.specs.Prelude.{Result, Ok, Err}
use Rattle.transfer_list.specs.declared.header.BadHeader.{BadHeader}

module _ (s : List ℕ) (lengths : Lengths) (e : open_refusal least_blocks s lengths ≡ no_refusal) where
  -- neither the start nor a command line is refused
  accepted : ((start_refusal s lengths).number ≡ none) × (commands_refusal least_blocks s lengths (header_of s) ≡ no_refusal)
  unfolding open_refusal
  accepted = go (bool (eqb (start_refusal s lengths).number none))
    where
      go : (eqb (start_refusal s lengths).number none ≡ true) ⊎ (eqb (start_refusal s lengths).number none ≡ false) →
          ((start_refusal s lengths).number ≡ none) × (commands_refusal least_blocks s lengths (header_of s) ≡ no_refusal)
      go (inl t) = (eqb-true (start_refusal s lengths).number none t, rw t at e)
      go (inr t) = absurd (eqb-false (start_refusal s lengths).number none t (ap (λ (r : Refusal). r.number) (rw t at e)))

  opened-state : {h : Header} → header_of s ≡ Ok h → open_state least_blocks s lengths ≡ state_at first_line h.first no_refusal lengths
  unfolding open_state accepted_state first_at
  opened-state r = rw (e, r)

abbrev starts_at : List ℕ → Areas → Header → Config
starts_at s a h = config_of a (state_at first_line h.first no_refusal (lengths_at s a))

module _ (s : List ℕ) (a : Areas) (o : Opening s (lengths_at s a)) where
  fits : Fits s (terms_of (lengths_at s a) o.header) (starts_at s a o.header)
  unfolding blocks_held held_in entries can_be_stretched
  fits =
      let f = header-first s o.read in
      record {
        list = o.list;
        at = f.1;
        line = omega arith;
        image = refl;
        most-image = o.image.fits;
        work = refl;
        result = refl;
        patch = refl;
        stash = omega (arith, o.blocks);
        most-blocks = omega (arith, o.blocks, o.stash.fits);
        most-stashes = o.stashes;
        whole =
            record {
              hashes = length-replicate {A = ℕ} table_bytes 0;
              sizes = length-replicate {A = ℕ} most_stashes 0;
              count = omega arith;
            };
        blocks = omega arith;
        total = omega arith;
        stretches = refl;
      }

  walk : commands_refusal least_blocks s (lengths_at s a) (header_of s) ≡ no_refusal →
      WalkLeft s (terms_of (lengths_at s a) o.header) o.header (starts_at s a o.header)
  unfolding commands_refusal held_in entries
  walk e = record { n = suc (length s); counted = 0; enough = omega (arith, (header-first s o.read).0); accepted = rw o.read at e }

  starts : (start_refusal s (lengths_at s a)).number ≡ none → commands_refusal least_blocks s (lengths_at s a) (header_of s) ≡ no_refusal →
      Running s (lengths_at s a) o.header (starts_at s a o.header)
  unfolding held_in entries held_twice holds_empty
  starts z e =
      record {
        fits = fits;
        lent = record { opened = refl; list = refl; image = refl; stash = refl; work = refl; result = refl; patch = refl };
        start = z;
        header = o.read;
        at_line_lem = record { first = omega arith; ended = header-last s o.read; line = sym (header-lines s o.read) };
        once = refl;
        none-empty = refl;
        into = inl refl;
        ready = inl refl;
        goes = going refl (walk e);
      }

-- ---- an opening without a number is accepted

abbrev Decided : Refusal → Type 0
Decided r = r.number ≡ none → r ≡ no_refusal

total-decided : (h : Header) (counted : ℕ) → Decided (total_refusal h counted)
unfolding total_refusal
total-decided h counted =
    picks Decided (no (eqb counted h.total)) (refusing total_differs 2) no_refusal (λ e r. absurd (omega arith)) (λ e r. refl)

lines-decided : (n : ℕ) (s : List ℕ) (terms : Terms) (h : Header) (line at : ℕ) (stashes : List Stash) (counted : ℕ) →
    Decided (lines_refusal least_blocks n s terms h line at stashes counted)
unfolding lines_refusal
lines-decided zero s terms h line at stashes counted = total-decided h counted
lines-decided (suc n) s terms h line at stashes counted =
    picks Decided (leb (length s) at) _ _ (λ e. total-decided h counted)
    (λ e.
    picks Decided (eqb (refusal_of least_blocks (line_at s at) terms stashes) none) _ _
    (λ f. lines-decided n s terms h (line + 1) (at + length (line_at s at)) _ _)
    (λ f r. absurd (eqb-false (refusal_of least_blocks (line_at s at) terms stashes) none f r)))

commands-decided : (s : List ℕ) (lengths : Lengths) (h : Result Header BadHeader) → Decided (commands_refusal least_blocks s lengths h)
unfolding commands_refusal
commands-decided s lengths (Ok h) = lines-decided (suc (length s)) s (terms_of lengths h) h first_line h.first [] 0
commands-decided s lengths (Err bad) = λ r. refl

open_decided : (s : List ℕ) (lengths : Lengths) → Decided (open_refusal least_blocks s lengths)
unfolding open_refusal
open_decided s lengths =
    picks Decided (eqb (start_refusal s lengths).number none) _ _ (λ e. commands-decided s lengths (header_of s))
    (λ e r. absurd (eqb-false (start_refusal s lengths).number none e r))

-- .. by the state that it gives
pub state-decided : (s : List ℕ) (lengths : Lengths) → (open_state least_blocks s lengths).refusal.number ≡ none → open_refusal least_blocks s lengths ≡ no_refusal
unfolding open_state accepted_state refused_state
state-decided s lengths =
    picks (λ (t : State). t.refusal.number ≡ none → open_refusal least_blocks s lengths ≡ no_refusal) (eqb (open_refusal least_blocks s lengths).number none) _ _
    (λ e r. open_decided s lengths (eqb-true (open_refusal least_blocks s lengths).number none e))
    (λ e r. absurd (eqb-false (open_refusal least_blocks s lengths).number none e r))

-- where an accepted opening leaves a run: at the start of a line, with no byte taken
pub record Starts (s : List ℕ) (a : Areas) : Type 0 where
  pub header : Header
  pub running : Running s (lengths_at s a) header (opened_config s a)
  pub into : (opened_config s a).state.into ≡ 0
  pub fresh : Fresh (opened_config s a)
  pub total : (opened_config s a).state.total ≡ 0

pub opened-running : (s : List ℕ) (a : Areas) → Accepted s a → Starts s a
opened-running s a e =
    let b = accepted s (lengths_at s a) e in
    let o = start_none s (lengths_at s a) b.0 in
    let q = opened-state s (lengths_at s a) e o.read in
    record {
      header = o.header;
      running = subst (λ (t : State). Running s (lengths_at s a) o.header (config_of a t)) (sym q) (starts s a o b.0 b.1);
      into = ap (λ (t : State). t.into) q;
      fresh = record { ready = ap (λ (t : State). t.ready) q; stretches = ap (λ (t : State). t.stretches) q };
      total = ap (λ (t : State). t.total) q;
    }
