-- The claim: the calls of an opened list come to what the model gives for the pieces joined, whenever the last one did not stop.
-- Assumes nothing.
use mathlib.Core.Path.{◌≡◌, sym, ap, subst, ◌∙◌}
use mathlib.Core.List.{List, [], ◌∷◌, ◌++◌}
use Prim.Native.Nat.{ℕ, suc, ◌+◌, ◌*◌, ◌%◌, ◌^◌}
use native.Mathlib.Nat.{zero-add}
use native.Mathlib.Omega.{arith}
use lib.ListN.{length, replicate}
use Rattle.ranges.specs.Ranges.{least_blocks}
use Rattle.state.specs.Refusals.{none}
use Rattle.state.specs.Stashes.{held_in, entries}
use Rattle.state.specs.declared.Lengths.{Lengths}
use Rattle.state.specs.declared.Refusal.{Refusal}
use Rattle.state.proofs.TableLaws.{whole-held}
use Rattle.transfer_list.specs.Opening.{terms_of, open_state, accepted_state}
use Rattle.transfer_list.specs.declared.header.Header.{Header}
use Rattle.machine.specs.Machine.{Machine, feeds, counts}
use Rattle.machine.specs.Pieces.{joined}
use Rattle.machine.specs.Stops.{Sent, start}
use Rattle.machine.proofs.MachineLaws.{feeds-keeps}
use Rattle.machine.proofs.StopLaws.{feeds-total}
use Rattle.updater.specs.Areas.{Areas}
use Rattle.updater.specs.Effect.{InRun}
use Rattle.updater.specs.Steps.{Config}
use Rattle.updater.specs.Run.{line_steps, halts_at, machine}
use Rattle.updater.specs.Calls.{lengths_at, outcome_of}
use Rattle.updater.specs.declared.Outcome.TheVariants as outcome
use Rattle.updater.proofs.FitLaws.{quiet-total, put-total}
use Rattle.sequence.specs.Model.{Model, model, model_start, model_outcome, run_lines}
use Rattle.sequence.specs.Sequence.{CallsMade, last_takes, last_piece}
use Rattle.sequence.specs.Footprint.{OnlyWritten}
use Rattle.sequence.specs.Claim.{opened_config, Accepted, opened, calls_made, said, NoStop, Holds, Agrees, Alike, Claim}
use Rattle.sequence.proofs.Running.{Running}
use Rattle.sequence.proofs.RunningLaws.{running-sound}
use Rattle.sequence.proofs.PossibleLaws.{none-into, running-possible}
use Rattle.sequence.proofs.OpenedLaws.{Starts, state-decided, opened-running}
use Rattle.sequence.proofs.ModelLaws.{model_of, model_eq, Fresh, lines, lines-fresh}
use Rattle.sequence.proofs.ReadLaws.{finished_by_target, finished-leaves, only-read}
use Rattle.sequence.proofs.FootprintLaws.{written_none, call-written}
use Rattle.sequence.proofs.SequenceLaws.{Callable, runs, all-sent, all-keeps, all-total, all-ends, ended-feeds, ended-counts}
use Rattle.sequence.proofs.SequenceLaws.{ended-says, last-whole, last-only}

-- ---- the calls after an opening

opened-state : (s : List ℕ) (a : Areas) → Accepted s a → open_state least_blocks s (lengths_at s a) ≡ accepted_state s (lengths_at s a)
unfolding open_state
opened-state s a e = rw e

-- the model starts where an accepted opening leaves the state
model_start_lem : (s : List ℕ) (a : Areas) → Accepted s a → model_start s a ≡ model_of (opened_config s a) 0
unfolding model_start accepted_state held_in entries
model_start_lem s a e = rw (opened-state s a e)

module _ (s : List ℕ) (a : Areas) (e : Accepted s a) where
  abbrev lengths : Lengths
  lengths = lengths_at s a

  abbrev first : Config
  first = opened_config s a

  pub starts : Starts s a
  starts = opened-running s a e

  abbrev pub header : Header
  header = starts.header

  starts_free : first.state.refusal.number ≡ none
  unfolding accepted_state
  starts_free = rw (opened-state s a e)

  pub starts-callable : Callable s lengths header first
  starts-callable =
      record {
        running = starts.running;
        possible = running-possible s lengths header first starts.running (none-into s (terms_of lengths header) first.state starts.into);
      }

  abbrev machine_opened : Machine
  machine_opened = machine least_blocks s (terms_of lengths header)

  -- the model over all bytes is a run past every stop over them
  pub model-feeds : (xs : List ℕ) → model least_blocks s a xs ≡ model_of (feeds machine_opened xs first) (counts machine_opened xs first)
  unfolding model
  model-feeds xs =
      ap (λ (m : Model). run_lines least_blocks (suc (length s)) s m xs) (model_start_lem s a e)
      ∙ lines s (terms_of lengths header) (Running s lengths header) (runs s lengths header) (suc (length s)) first xs 0 starts.running
      starts_free starts.into starts.fresh (omega arith) (omega arith)
      ∙ ap (λ (k : ℕ). model_of (feeds machine_opened xs first) k) (zero-add (counts machine_opened xs first))

  feeds-fresh : (xs : List ℕ) → Fresh (feeds machine_opened xs first)
  feeds-fresh xs =
      lines-fresh s (terms_of lengths header) (Running s lengths header) (runs s lengths header) (suc (length s)) first xs 0 starts.running
      starts_free starts.into starts.fresh (omega arith) (omega arith)

  feeds-taken : (xs : List ℕ) → (feeds machine_opened xs first).state.total ≡ counts machine_opened xs first % 2 ^ 64
  feeds-taken xs =
      feeds-total machine_opened (Running s lengths header) (running-sound s lengths header) (λ (m : Config). m.state.total) (2 ^ 64)
      (λ m u. u.fits.total) (λ m u w. quiet-total s (terms_of lengths header) m) (λ m x. put-total s (terms_of lengths header) m x) xs first
      starts.running
      ∙ ap (λ (n : ℕ). (n + counts machine_opened xs first) % 2 ^ 64) starts.total
      ∙ ap (λ (n : ℕ). n % 2 ^ 64) (zero-add (counts machine_opened xs first))

  -- what a run past every stop leaves is what the model gives
  pub feeds-holds : (xs : List ℕ) → Holds lengths (feeds machine_opened xs first).state (model least_blocks s a xs)
  feeds-holds xs =
      let v = feeds-keeps machine_opened (Running s lengths header) (running-sound s lengths header) xs first starts.running in
      let m = sym (model-feeds xs) in
      record {
        count = sym (whole-held v.fits.whole) ∙ ap (λ (x : Model). length x.stashes) m;
        stashes = ap (λ (x : Model). x.stashes) m;
        line = ap (λ (x : Model). x.line) m;
        at = ap (λ (x : Model). x.at) m;
        into = ap (λ (x : Model). x.into) m;
        refusal = ap (λ (x : Model). x.refusal) m;
        lengths = v.lent.opened;
        total = feeds-taken xs ∙ ap (λ (x : Model). x.taken % 2 ^ 64) m;
        ready = (feeds-fresh xs).ready;
        stretches = (feeds-fresh xs).stretches;
      }

  -- at a stop too the state's total is the sum of bytes taken
  opened-totals : (qs : List (List ℕ)) → (calls_made s a qs).config.state.total ≡ (calls_made s a qs).taken % 2 ^ 64
  opened-totals qs =
      all-total s lengths header first starts-callable qs
      ∙ ap (λ (n : ℕ). (n + (calls_made s a qs).taken) % 2 ^ 64) starts.total
      ∙ ap (λ (n : ℕ). n % 2 ^ 64) (zero-add (calls_made s a qs).taken)

  opened-written : (qs : List (List ℕ)) → OnlyWritten s (calls_made s a qs).config.state.at a (calls_made s a qs).config.areas
  opened-written qs =
      subst (λ (c : CallsMade). OnlyWritten s c.config.state.at a c.config.areas) (sym (all-sent s lengths header first starts-callable qs))
      (all-keeps s lengths header (λ (c : Sent Config). OnlyWritten s c.end.config.state.at a c.end.config.areas)
      (λ q c v w. call-written s lengths header a (halts_at least_blocks s (terms_of lengths header)) _ c.end.config v.running w)
      qs (start first) starts-callable (written_none s first.state.at a))

  module _ (q : List ℕ) (qs : List (List ℕ)) where
    -- calling on comes to an end
    opened-ends : NoStop (said s a q (qs ++ replicate (line_steps * (length s + 1)) []))
    opened-ends = all-ends s lengths header first starts-callable q qs

    opened-whole : said s a q qs ≡ outcome.More → last_takes least_blocks s q qs (opened s a) ≡ length (last_piece least_blocks s q qs (opened s a))
    opened-whole = last-whole s lengths header q qs (start first) starts-callable

    opened-only : {refused : Refusal} → said s a q qs ≡ outcome.Refused refused → InRun refused.number
    opened-only = last-only s lengths header first starts-callable q qs

    -- the last one did not stop
    module _ (n : NoStop (said s a q qs)) where
      opened-feeds : (calls_made s a (q ∷ qs)).config ≡ feeds machine_opened (joined (q ∷ qs)) first
      opened-feeds = ended-feeds s lengths header first starts-callable q qs n

      opened-counts : (calls_made s a (q ∷ qs)).taken ≡ counts machine_opened (joined (q ∷ qs)) first
      opened-counts = ended-counts s lengths header first starts-callable q qs n

      opened-says : said s a q qs ≡ outcome_of s (feeds machine_opened (joined (q ∷ qs)) first).state
      opened-says = ended-says s lengths header first starts-callable q qs n ∙ ap (λ (p : Config). outcome_of s p.state) opened-feeds

      opened-agrees : Agrees s a q qs (model least_blocks s a (joined (q ∷ qs)))
      opened-agrees =
          let m = model_eq _ _ _ _ opened-feeds opened-counts ∙ sym (model-feeds (joined (q ∷ qs))) in
          record {
            areas = ap (λ (x : Model). x.areas) m;
            state =
                subst (λ (p : Config). Holds lengths p.state (model least_blocks s a (joined (q ∷ qs)))) (sym opened-feeds)
                (feeds-holds (joined (q ∷ qs)));
            outcome = opened-says ∙ ap (model_outcome s) (sym (model-feeds (joined (q ∷ qs))));
            taken = ap (λ (x : Model). x.taken) m;
          }

  opened-alike : (q r : List ℕ) (qs rs : List (List ℕ)) → joined (q ∷ qs) ≡ joined (r ∷ rs) → NoStop (said s a q qs) → NoStop (said s a r rs) →
      Alike s a q r qs rs
  opened-alike q r qs rs j n m =
      record {
        config = opened-feeds q qs n ∙ ap (λ (xs : List ℕ). feeds machine_opened xs first) j ∙ sym (opened-feeds r rs m);
        outcome =
            opened-says q qs n ∙ ap (λ (xs : List ℕ). outcome_of s (feeds machine_opened xs first).state) j ∙ sym (opened-says r rs m);
        taken = opened-counts q qs n ∙ ap (λ (xs : List ℕ). counts machine_opened xs first) j ∙ sym (opened-counts r rs m);
      }

-- THE CLAIM, for every text, areas and pieces
pub claim : Claim
claim =
    record {
      decided = λ s a. state-decided s (lengths_at s a);
      agrees = opened-agrees;
      ends = opened-ends;
      alike = opened-alike;
      totals = opened-totals;
      only-written = opened-written;
      finished_by_target = finished_by_target;
      finished-leaves = finished-leaves;
      only-read = only-read;
      whole = opened-whole;
      only-run = opened-only;
    }
