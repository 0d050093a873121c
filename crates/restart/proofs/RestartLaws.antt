-- The run of a list can be cut between two stops: each step brings the bytes that it writes to what they are in an uncut run. And no step
-- writes another byte than it is said to write.
-- Assumes nothing.
use mathlib.Core.Path.{◌≡◌, refl, sym, ap, subst}
use mathlib.Core.Bool.{Bool, true, false}
use mathlib.Core.List.{List}
use Prim.Native.Nat.{ℕ, ◌<◌}
use native.Mathlib.Omega.{arith}
use borrow.Author.Tests.{ltb-true, eqb-true}
use lib.Dec.{ltb, eqb}
use lib.ListN.{length}
use Rattle.text.specs.Choice.{pick, both, either}
use Rattle.text.proofs.ChoiceLaws.{both_true}
use Rattle.ranges.specs.Ranges.{least_blocks}
use Rattle.ranges.specs.Walk.{blocks_at}
use Rattle.state.specs.Refusals.{none}
use Rattle.state.specs.Stashes.{held}
use Rattle.command.specs.Commands.{command_of}
use Rattle.command.specs.Targets.{new_target}
use Rattle.command.specs.declared.Command.{Command}
use Rattle.command.specs.declared.Command.TheVariants as command
use Rattle.rules.specs.Rules.{refusal_of}
use Rattle.rules.specs.declared.Terms.{Terms}
use Rattle.machine.proofs.MachineLaws.{never}
use Rattle.machine.proofs.WriteLaws.{Restarts, Covers}
use Rattle.updater.specs.Areas.{Areas}
use Rattle.updater.specs.Bytes.{address_of}
use Rattle.updater.specs.Steps.{Config, config_of, Stepped, refused_with, state_after, stops_after, step_of, after}
use Rattle.updater.specs.Run.{current_line, current_command, refusal_here, fault_here, refused_at, quiet_step, halts_at, new_blocks, new_bytes}
use Rattle.updater.specs.Run.{put_byte, is_stopped, needs_byte, machine}
use Rattle.updater.specs.declared.commands.StepEnd.{StepEnd}
use Rattle.updater.specs.declared.commands.StepEnd.TheVariants.{Passed, Ended, Filled, Stretched, Refused}
use Rattle.updater.specs.Runnable.{Runnable}
use Rattle.updater.specs.Fits.{Fits}
use Rattle.restart.specs.Writes.{Spot, image_byte, nowhere, step_writes, quiet_writes, put_writes, AreasOutside, Agree, spots}
use Rattle.updater.proofs.NewLaws.{address_below}
use Rattle.updater.proofs.RunnableLaws.{runnable, keeps}
use Rattle.restart.proofs.OutsideLaws.{areas-same, areas-wider, areas-then, areas-none, image_changed}
use Rattle.restart.proofs.OverwriteLaws.{overwritten_outside, overwritten_only, overwrites_set}
use Rattle.restart.proofs.StepReadLaws.{reads_bytes, step-reads, step-sets, step-only, is_last, step-last}

-- the step from a configuration reads bytes that a run writes
pub reads : List ℕ → Terms → Config → Bool
reads s terms p =
    both (eqb (refusal_here least_blocks s terms p) none)
    (reads_bytes (held p.state) p.state.stretches (command_of least_blocks (current_line s p)).hash (current_command least_blocks s p))

-- ---- a byte of new data

new_in_image : (l : List ℕ) (p : Config) (c : Command) (k : ℕ) → Runnable l (held p.state) p.areas c → k < new_bytes c →
    address_of (new_blocks l c) k < length p.areas.image
unfolding Runnable new_bytes new_blocks new_target
new_in_image l p (command.New set) k r h = address_below (length p.areas.image) (blocks_at l set.at) k r.below (omega (arith, r.size))
new_in_image l p (command.Zero set) k r h = absurd (omega arith)
new_in_image l p (command.Erase set) k r h = absurd (omega arith)
new_in_image l p (command.Move target n source) k r h = absurd (omega arith)
new_in_image l p (command.Bsdiff target n source) k r h = absurd (omega arith)
new_in_image l p (command.Stash set) k r h = absurd (omega arith)
new_in_image l p command.Free k r h = absurd (omega arith)
new_in_image l p command.Unsupported k r h = absurd (omega arith)
new_in_image l p (command.Bad q) k r h = absurd (omega arith)

-- ---- a step, and the same step with other areas

module _ (s : List ℕ) (terms : Terms) (p : Config) (f : Fits s terms p) where
  abbrev l : List ℕ
  l = current_line s p

  abbrev hash : List ℕ
  hash = (command_of least_blocks l).hash

  abbrev cmd : Command
  cmd = current_command least_blocks s p

  abbrev writes : Spot → Bool
  writes = step_writes l (held p.state) hash cmd p.state.ready p.state.stretches p.areas

  -- a step, as a function of the areas
  abbrev step : Areas → Stepped
  step = step_of l (held p.state) hash cmd p.state.ready p.state.stretches

  abbrev next : Stepped → Config
  next x = config_of x.areas (state_after l hash cmd p.state x.end)

  abbrev refused : Areas → Config
  refused a = refused_at (refusal_here least_blocks s terms p) (fault_here least_blocks s p) (config_of a p.state)

  quiet-plain : (L : Spot → Bool) (b : Areas) → reads s terms p ≡ false →
      AreasOutside (λ i. either (quiet_writes least_blocks s terms p i) (L i)) p.areas b →
      (halts_at least_blocks s terms p ≡ halts_at least_blocks s terms (config_of b p.state))
      × Agree L (quiet_step least_blocks s terms p) (quiet_step least_blocks s terms (config_of b p.state))
  unfolding reads quiet_writes halts_at quiet_step after refused_at nowhere
  quiet-plain L b = go (eqb (refusal_here least_blocks s terms p) none) refl
    where
      go : (t : Bool) → eqb (refusal_here least_blocks s terms p) none ≡ t →
          both t (reads_bytes (held p.state) p.state.stretches hash cmd) ≡ false →
          AreasOutside (λ i. either (pick t writes nowhere i) (L i)) p.areas b →
          (both t (stops_after (step p.areas).end) ≡ both t (stops_after (step b).end))
          × Agree L (pick t (next (step p.areas)) (refused p.areas)) (pick t (next (step b)) (refused b))
      go true e h d =
          let x = step-sets p.areas l hash (held p.state) p.state.ready p.state.stretches cmd
          (runnable s terms p f (eqb-true (refusal_here least_blocks s terms p) none e)) h in
          (ap stops_after (sym (x.ends b)), record { state = ap (state_after l hash cmd p.state) (x.ends b); areas = x.agree L b d })
      go false e h d = (refl, record { state = refl; areas = d })

  quiet-reading : (b : Areas) → reads s terms p ≡ true → AreasOutside (quiet_writes least_blocks s terms p) p.areas b →
      (halts_at least_blocks s terms p ≡ halts_at least_blocks s terms (config_of b p.state))
      × (quiet_step least_blocks s terms p ≡ quiet_step least_blocks s terms (config_of b p.state))
  unfolding reads quiet_writes halts_at quiet_step after refusal_of
  quiet-reading b = go (eqb (refusal_here least_blocks s terms p) none) refl
    where
      go : (t : Bool) → eqb (refusal_here least_blocks s terms p) none ≡ t →
          both t (reads_bytes (held p.state) p.state.stretches hash cmd) ≡ true → AreasOutside (pick t writes nowhere) p.areas b →
          (both t (stops_after (step p.areas).end) ≡ both t (stops_after (step b).end))
          × (pick t (next (step p.areas)) (refused p.areas) ≡ pick t (next (step b)) (refused b))
      go true e h d =
          let passes = eqb-true (refusal_here least_blocks s terms p) none e in
          let x = step-reads p.areas l hash (held p.state) p.state.ready p.state.stretches terms cmd (keeps s terms p f) passes
          (runnable s terms p f passes) h in
          (ap (λ (y : Stepped). stops_after y.end) (sym (x.same b d)), ap next (sym (x.same b d)))
      go false e h d = absurd (never (sym h))

  quiet-only : AreasOutside (quiet_writes least_blocks s terms p) p.areas (quiet_step least_blocks s terms p).areas
  unfolding quiet_writes quiet_step after refused_at refusal_of
  quiet-only = go (eqb (refusal_here least_blocks s terms p) none) refl
    where
      go : (t : Bool) → eqb (refusal_here least_blocks s terms p) none ≡ t →
          AreasOutside (pick t writes nowhere) p.areas (pick t (next (step p.areas)) (refused p.areas)).areas
      go true e =
          let passes = eqb-true (refusal_here least_blocks s terms p) none e in
          step-only p.areas l hash (held p.state) p.state.ready p.state.stretches terms cmd (keeps s terms p f) passes
          (runnable s terms p f passes)
      go false e = areas-same nowhere p.areas

  -- a stop or the end follows a step that reads
  last-stops : (a : Areas) (e : StepEnd) → is_last e ≡ true →
      either (stops_after e) (is_stopped s (config_of a (state_after l hash cmd p.state e))) ≡ true
  unfolding is_last stops_after state_after refused_with is_stopped
  last-stops a Passed h = absurd (never (sym h))
  last-stops a Ended h = refl
  last-stops a Filled h = refl
  last-stops a Stretched h = refl
  last-stops a (Refused number) h = rw h

  quiet-last : reads s terms p ≡ true → either (halts_at least_blocks s terms p) (is_stopped s (quiet_step least_blocks s terms p)) ≡ true
  unfolding reads halts_at quiet_step after
  quiet-last = go (eqb (refusal_here least_blocks s terms p) none)
    where
      go : (t : Bool) → both t (reads_bytes (held p.state) p.state.stretches hash cmd) ≡ true →
          either (both t (stops_after (step p.areas).end)) (is_stopped s (pick t (next (step p.areas)) (refused p.areas))) ≡ true
      go true h =
          last-stops (step p.areas).areas (step p.areas).end
          (step-last p.areas l hash (held p.state) p.state.ready p.state.stretches cmd h)
      go false h = absurd (never (sym h))

  -- a byte of new data falls on the image
  byte-in_image : (machine least_blocks s terms).waits p ≡ true → is_stopped s p ≡ false →
      address_of (new_blocks l cmd) p.state.into < length p.areas.image
  unfolding needs_byte
  byte-in_image y e =
      let n = new_bytes cmd in
      let b = both_true (eqb (refusal_here least_blocks s terms p) none) (ltb p.state.into n) (rw e at y) in
      new_in_image l p cmd p.state.into (runnable s terms p f (eqb-true (refusal_here least_blocks s terms p) none b.0))
      (ltb-true p.state.into n b.1)

  put-plain : (L : Spot → Bool) (x : ℕ) (b : Areas) → (machine least_blocks s terms).waits p ≡ true → is_stopped s p ≡ false →
      AreasOutside (λ i. either (put_writes least_blocks s p i) (L i)) p.areas b →
      Agree L (put_byte least_blocks s x p) (put_byte least_blocks s x (config_of b p.state))
  unfolding put_writes put_byte
  put-plain L x b y e d =
      record {
        state = refl;
        areas =
            record {
              image =
                  overwritten_outside (overwrites_set (length p.areas.image) _ x (byte-in_image y e)) (λ k. L (image_byte k)) p.areas.image b.image
                  refl d.image;
              stash = d.stash;
              work = d.work;
              result = d.result;
              patch = d.patch;
            };
      }

  put_only : (x : ℕ) → (machine least_blocks s terms).waits p ≡ true → is_stopped s p ≡ false →
      AreasOutside (put_writes least_blocks s p) p.areas (put_byte least_blocks s x p).areas
  unfolding put_writes put_byte
  put_only x y e =
      image_changed _ p.areas (overwritten_only (overwrites_set (length p.areas.image) _ x (byte-in_image y e)) p.areas.image refl)

-- ---- the whole

module _ (s : List ℕ) (terms : Terms) where
  -- a configuration with the state of another
  other : (p q : Config) → q.state ≡ p.state → config_of q.areas p.state ≡ q
  other p q e = rw e

  config_eq : {p q : Config} → q.state ≡ p.state → q.areas ≡ p.areas → p ≡ q
  config_eq e f = rw (e, f)

  -- what a run rests on asks of the areas their lengths alone
  fits-other : (p : Config) (b : Areas) → Fits s terms p → (W : Spot → Bool) → AreasOutside W p.areas b → Fits s terms (config_of b p.state)
  fits-other p b f W o =
      record {
        list = f.list;
        at = f.at;
        line = f.line;
        image = rw o.image.size f.image;
        most-image = f.most-image;
        work = rw o.work.size f.work;
        result = rw o.result.size f.result;
        patch = rw o.patch f.patch;
        stash = rw o.stash.size f.stash;
        most-blocks = f.most-blocks;
        most-stashes = f.most-stashes;
        whole = f.whole;
        blocks = f.blocks;
        total = f.total;
        stretches = f.stretches;
      }

  same-waits : (p q : Config) → q.state ≡ p.state → (machine least_blocks s terms).waits q ≡ (machine least_blocks s terms).waits p
  unfolding is_stopped needs_byte
  same-waits p q e = rw e

  same-stopped : (p q : Config) → q.state ≡ p.state → is_stopped s q ≡ is_stopped s p
  unfolding is_stopped
  same-stopped p q e = rw e

  same-fuel : (p q : Config) → q.state ≡ p.state → (machine least_blocks s terms).fuel q ≡ (machine least_blocks s terms).fuel p
  same-fuel p q e = rw e

  pub restarts : Restarts (machine least_blocks s terms) (halts_at least_blocks s terms) (spots least_blocks s terms) (Fits s terms) (reads s terms)
  restarts =
      record {
        itself = λ W p. record { state = refl; areas = areas-same W p.areas };
        wider = λ L W p q h a. record { state = a.state; areas = areas-wider W L p.areas q.areas h a.areas };
        nowhere = λ p q a. config_eq a.state (areas-none (λ i. false) p.areas q.areas (λ i. refl) a.areas);
        keeps = λ W p q a f. subst (Fits s terms) (other p q a.state) (fits-other p q.areas f W a.areas);
        waits = λ W p q a. same-waits p q a.state;
        stopped = λ W p q a. same-stopped p q a.state;
        fuel = λ W p q a. same-fuel p q a.state;
        plain = λ L p q f y e a.
            subst (λ (x : Config). (halts_at least_blocks s terms p ≡ halts_at least_blocks s terms x)
            × Agree L (quiet_step least_blocks s terms p) (quiet_step least_blocks s terms x))
            (other p q a.state) (quiet-plain s terms p f L q.areas e a.areas);
        reading = λ p q f y e a.
            subst (λ (x : Config). (halts_at least_blocks s terms p ≡ halts_at least_blocks s terms x)
            × (quiet_step least_blocks s terms p ≡ quiet_step least_blocks s terms x))
            (other p q a.state) (quiet-reading s terms p f q.areas e a.areas);
        last = λ p f y e. quiet-last s terms p f e;
        put = λ L x p q f y e a.
            subst (λ (m : Config). Agree L (put_byte least_blocks s x p) (put_byte least_blocks s x m)) (other p q a.state)
            (put-plain s terms p f L x q.areas y e a.areas);
      }

-- q differs from p at the bytes W at the most; the state may be another
abbrev pub Only : (Spot → Bool) → Config → Config → Type 0
Only W p q = AreasOutside W p.areas q.areas

pub covers : (s : List ℕ) (terms : Terms) → Covers (machine least_blocks s terms) (spots least_blocks s terms) (Fits s terms) Only
covers s terms =
    record {
      itself = λ p. areas-same _ p.areas;
      wider = λ L W p q h a. areas-wider W L p.areas q.areas h a;
      then = λ W p q r a b. areas-then W p.areas q.areas r.areas a b;
      quiet = λ p f y. quiet-only s terms p f;
      put = λ x p f y e. put_only s terms p f x y e;
    }
