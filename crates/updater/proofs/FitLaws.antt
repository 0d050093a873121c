-- The machine that runs a list is sound on configurations that fit: each step keeps them fitting, and each step without a byte moves on or
-- refuses. And the bytes taken in all: only the step by a byte counts one.
-- Assumes nothing.
use Rattle.std.proofs.Common.{◌≡◌, ℕ, ◌+◌, ◌-◌, ◌%◌, ◌^◌, ◌<◌, ◌≤◌, Bool, true, false, eqb, leb, List, length, refl, mod-lt, arith, length-set, eq-eqb, ne_eqb, eqb-true, leb-false}
use borrow.Author.Tests.{eqb-false}
use Rattle.text.specs.Choice.{pick, no}
use Rattle.text.proofs.ChoiceLaws.{picks, either_false, either_is, no_false}
use Rattle.text.proofs.LineLaws.{line_some, line-within}
use Rattle.ranges.specs.Ranges.{least_blocks}
use Rattle.state.specs.Limits.{most_area_blocks}
use Rattle.state.specs.Refusals.{none}
use Rattle.state.specs.declared.stashes.Table.{Table}
use Rattle.state.specs.Stashes.{Stash, Whole, table_of, held_in, held, find_in, size_at, blocks_held, younger}
use Rattle.state.specs.States.{with_table, is_ready}
use Rattle.state.specs.Stretches.{is_stretch}
use Rattle.state.specs.declared.State.{State}
use Rattle.command.specs.Commands.{command_of}
use Rattle.command.specs.declared.Command.{Command}
use Rattle.command.specs.declared.Command.TheVariants as command
use Rattle.command.proofs.CommandLaws.{command-hash}
use Rattle.rules.specs.Held.{table_after}
use Rattle.rules.specs.Rules.{refusal_of}
use Rattle.rules.specs.declared.Terms.{Terms}
use Rattle.rules.proofs.HeldLaws.{held-blocks, table-whole, held_after_lem}
use Rattle.machine.proofs.MachineLaws.{Sound}
use Rattle.possible.specs.Possible.{found_stretch, frees_on, can_be_stretched}
use Rattle.updater.specs.Areas.{Areas, SameLengths}
use Rattle.updater.specs.Bytes.{address_of}
use Rattle.updater.specs.Effect.{filled, is_finished}
use Rattle.updater.specs.Steps.{Config, config_of, passed, refused_with, further_into, marked_with, Stepped, fill_step, free_step, step_of}
use Rattle.updater.specs.Steps.{state_after, step_at, after}
use Rattle.updater.specs.Run.{current_line, current_command, refusal_here, fault_here, refused_at, quiet_step, new_blocks, put_byte, is_stopped}
use Rattle.updater.specs.Run.{needs_byte, steps_left, machine}
use Rattle.updater.specs.declared.commands.StepEnd.{StepEnd}
use Rattle.updater.specs.declared.commands.StepEnd.TheVariants.{Passed, Ended, Filled, Stretched, Refused}
use Rattle.updater.specs.Fits.{Fits}
use Rattle.updater.proofs.EffectLaws.{lengths_refl, in_run_some}
use Rattle.updater.proofs.StepLaws.{step-lengths, step-refuses}
use Rattle.updater.proofs.RunnableLaws.{runnable, keeps, stretches-few}
use Rattle.std.specs.Prelude.{Option, Some, None}

-- ---- how a step ends

-- what an end at the same line tells: an area that is filled was not ready, and after a stretch one more is there to be moved
abbrev Told : List Stash → List ℕ → Command → ℕ → ℕ → StepEnd → Type 0
Told xs hash c ready k Passed = Unit {0}
Told xs hash c ready k Ended = Unit {0}
Told xs hash c ready k Filled = is_ready ready ≡ false
Told xs hash c ready k Stretched = frees_on xs (k + 1) hash c ≡ true
Told xs hash c ready k (Refused number) = Unit {0}

module _ (l : List ℕ) (xs : List Stash) (hash : List ℕ) (ready k : ℕ) (a : Areas) where
  fill_told : (c : Command) → Told xs hash c ready k (fill_step l xs hash c ready a).end
  unfolding fill_step
  fill_told c =
      picks (λ (x : Stepped). Told xs hash c ready k x.end) (is_ready ready) _ _
      (λ e. tt)
      (λ e.
      picks (λ (x : Stepped). Told xs hash c ready k x.end) (is_finished l hash c a.image) _ _
      (λ t. tt)
      (λ t.
      let number = (filled l xs hash c a).refusal in
      picks (Told xs hash c ready k) (eqb number none) Filled (Refused number) (λ u. e) (λ u. tt)))

  free_told : (f : Option ℕ) → find_in xs hash ≡ f → Told xs hash command.Free ready k (free_step xs k a f).end
  unfolding free_step frees_on found_stretch
  free_told (Some j) e =
      picks (Told xs hash command.Free ready k) (is_stretch (size_at xs j) (younger xs j) (k + 1)) Stretched _
      (λ t. rw e t)
      (λ t. picks (Told xs hash command.Free ready k) (is_stretch (size_at xs j) (younger xs j) k) Ended Passed (λ u. tt) (λ u. tt))
  free_told None e = tt

  step-told : (c : Command) → Told xs hash c ready k (step_of l xs hash c ready k a).end
  unfolding step_of
  step-told (command.Zero set) = tt
  step-told (command.Erase set) = tt
  step-told (command.New set) = tt
  step-told (command.Move target n source) = fill_told (command.Move target n source)
  step-told (command.Bsdiff target n source) = fill_told (command.Bsdiff target n source)
  step-told (command.Stash set) = fill_told (command.Stash set)
  step-told command.Free = free_told (find_in xs hash) refl
  step-told command.Unsupported = tt
  step-told (command.Bad p) = tt

-- ---- what a configuration needs to fit

-- the tables are whole and hold no more than line 4 says; the total fits; and the line at hand has that many stretches
record StateFits (s : List ℕ) (terms : Terms) (t : State) : Type 0 where
  at : t.at ≤ length s
  line : t.line ≤ t.at + 1
  whole : Whole (table_of t)
  blocks : blocks_held (held t) ≤ terms.blocks
  total : t.total < 2 ^ 64
  stretches : can_be_stretched least_blocks s t.at (held t) t.stretches ≡ true

module _ (s : List ℕ) (terms : Terms) (p : Config) (f : Fits s terms p) where
  still-fits : (q : Config) → SameLengths p.areas q.areas → StateFits s terms q.state → Fits s terms q
  still-fits q e t =
      record {
        list = f.list;
        at = t.at;
        line = t.line;
        image = rw e.image f.image;
        most-image = f.most-image;
        work = rw e.work f.work;
        result = rw e.result f.result;
        patch = rw e.patch f.patch;
        stash = rw e.stash f.stash;
        most-blocks = f.most-blocks;
        most-stashes = f.most-stashes;
        whole = t.whole;
        blocks = t.blocks;
        total = t.total;
        stretches = t.stretches;
      }

-- ---- a step without a byte

-- the steps that are left, or none where something was refused
abbrev left : List ℕ → Config → ℕ
left s p = pick (eqb p.state.refusal.number none) (steps_left s p) 0

-- after a step from p to q less is left, the areas are as long as before, and q fits too
record StepKeeps (s : List ℕ) (terms : Terms) (p q : Config) : Type 0 where
  fits : Fits s terms q
  same : SameLengths p.areas q.areas
  less : left s q < steps_left s p

-- an area that was not ready is one step nearer to the line's end when it is
nearer : (b : Bool) (n : ℕ) → b ≡ false → pick (is_ready 1) 0 1 + n < pick b 0 1 + n
nearer true n e = absurd (let z : ◌≡◌ {A = ℕ} 0 1 = cc in omega arith)
nearer false n e = omega arith

-- p is not at the text's end
module _ (s : List ℕ) (terms : Terms) (p : Config) (f : Fits s terms p) (h : p.state.at < length s) where
  -- past the line, with what is then held
  step_past : (a : Areas) (t : Table) → SameLengths p.areas a → Whole t → blocks_held (held_in t) ≤ terms.blocks →
      StepKeeps s terms p (config_of a (passed (with_table p.state t) (length (current_line s p))))
  unfolding passed can_be_stretched
  step_past a t e w b =
      let q = config_of a (passed (with_table p.state t) (length (current_line s p))) in
      let line = f.line in
      let some = line_some s p.state.at h in
      let within = line-within s p.state.at h in
      record {
        fits =
            still-fits s terms p f q e
            (record { at = omega arith; line = omega arith; whole = w; blocks = b; total = f.total; stretches = refl });
        same = e;
        less =
            picks (λ (n : ℕ). n < steps_left s p) (eqb p.state.refusal.number none) (steps_left s q) 0
            (λ e. omega arith)
            (λ e. omega arith);
      }

  -- refused at the line
  step-refused : (a : Areas) (number byte : ℕ) → SameLengths p.areas a → (number ≡ none → ⊥) →
      StepKeeps s terms p (config_of a (refused_with p.state number byte))
  unfolding refused_with
  step-refused a number byte e n =
      record {
        fits =
            still-fits s terms p f (config_of a (refused_with p.state number byte)) e
            (record { at = f.at; line = f.line; whole = f.whole; blocks = f.blocks; total = f.total; stretches = f.stretches });
        same = e;
        less = rw (ne_eqb number none n) (omega arith);
      }

  -- at the line, nearer to its end
  step_stays : (a : Areas) (ready k : ℕ) → SameLengths p.areas a →
      can_be_stretched least_blocks s p.state.at (held p.state) k ≡ true →
      pick (is_ready ready) 0 1 + (most_area_blocks - k) < pick (is_ready p.state.ready) 0 1 + (most_area_blocks - p.state.stretches) →
      StepKeeps s terms p (config_of a (marked_with p.state ready k))
  unfolding marked_with
  step_stays a ready k e c n =
      record {
        fits =
            still-fits s terms p f (config_of a (marked_with p.state ready k)) e
            (record { at = f.at; line = f.line; whole = f.whole; blocks = f.blocks; total = f.total; stretches = c });
        same = e;
        less =
            picks (λ (n : ℕ). n < steps_left s p) (eqb p.state.refusal.number none) (steps_left s (config_of a (marked_with p.state ready k))) 0
            (λ e. omega arith)
            (λ e. omega arith);
      }

  step_after : refusal_here least_blocks s terms p ≡ none →
      StepKeeps s terms p (after (current_line s p) (command_of least_blocks (current_line s p)).hash (current_command least_blocks s p) p)
  unfolding after state_after refusal_of can_be_stretched
  step_after e =
      go (step_at l hash c p).end refl (step-told l xs hash p.state.ready k p.areas c)
    where
      l : List ℕ
      l = current_line s p

      hash : List ℕ
      hash = (command_of least_blocks l).hash

      c : Command
      c = (command_of least_blocks l).command

      xs : List Stash
      xs = held p.state

      k : ℕ
      k = p.state.stretches

      a : Areas
      a = (step_at l hash c p).areas

      same : SameLengths p.areas a
      same = step-lengths l xs hash c p.state.ready k p.areas (keeps s terms p f) (runnable s terms p f e) f.stretches

      past : StepKeeps s terms p (config_of a (passed (with_table p.state (table_after (table_of p.state) hash c)) (length l)))
      past =
          let t = table_of p.state in
          step_past a (table_after t hash c) same (table-whole l terms t hash f.whole (command-hash l) c)
          (rw (held_after_lem l terms t hash f.whole f.most-stashes (command-hash l) c e) (held-blocks l terms xs hash c e f.blocks))

      go : (x : StepEnd) → (step_at l hash c p).end ≡ x → Told xs hash c p.state.ready k x →
          StepKeeps s terms p (config_of a (state_after l hash c p.state x))
      go Passed e t = past
      go Ended e t = past
      go Filled e t = step_stays a 1 k same f.stretches (nearer (is_ready p.state.ready) (most_area_blocks - k) t)
      go Stretched e t =
          let few = stretches-few xs hash c (k + 1) t in
          let b = f.blocks in
          let m = f.most-blocks in
          step_stays a p.state.ready (k + 1) same (either_is (eqb (k + 1) 0) t) (omega arith)
      go (Refused number) r t = step-refused a number 0 same (in_run_some (step-refuses l xs hash c p.state.ready k p.areas r))

-- ---- where the machine has not stopped

pub record NotStopped (s : List ℕ) (p : Config) : Type 0 where
  pub unrefused : p.state.refusal.number ≡ none
  pub within : p.state.at < length s

pub not_stopped : (s : List ℕ) (p : Config) → is_stopped s p ≡ false → NotStopped s p
unfolding is_stopped
not_stopped s p e =
    let b = either_false (no (eqb p.state.refusal.number none)) (leb (length s) p.state.at) e in
    record {
      unrefused = eqb-true p.state.refusal.number none (no_false (eqb p.state.refusal.number none) b.0);
      within = leb-false (length s) p.state.at b.1;
    }

module _ (s : List ℕ) (terms : Terms) (p : Config) (f : Fits s terms p) where
  step-quiet : p.state.at < length s → StepKeeps s terms p (quiet_step least_blocks s terms p)
  unfolding quiet_step refused_at
  step-quiet h =
      let number = refusal_here least_blocks s terms p in
      picks (StepKeeps s terms p) (eqb number none) _ _
      (λ t. step_after s terms p f h (eqb-true number none t))
      (λ t. step-refused s terms p f h p.areas number (fault_here least_blocks s p) (lengths_refl p.areas) (eqb-false number none t))

  pub quiet-lengths : p.state.at < length s → SameLengths p.areas (quiet_step least_blocks s terms p).areas
  quiet-lengths h = (step-quiet h).same

  put-fits : (x : ℕ) → Fits s terms (put_byte least_blocks s x p)
  unfolding put_byte further_into
  put-fits x =
      still-fits s terms p f (put_byte least_blocks s x p)
      (record {
        image = length-set p.areas.image (address_of (new_blocks (current_line s p) (current_command least_blocks s p)) p.state.into) x;
        stash = refl;
        work = refl;
        result = refl;
        patch = refl;
      })
      (record {
        at = f.at;
        line = f.line;
        whole = f.whole;
        blocks = f.blocks;
        total = mod-lt (p.state.total + 1) (omega arith);
        stretches = f.stretches;
      })

module _ (s : List ℕ) (terms : Terms) where
  moving : (p : Config) → (machine least_blocks s terms).waits p ≡ false → NotStopped s p
  moving p w = not_stopped s p (either_false (is_stopped s p) (needs_byte least_blocks s terms p) w).0

  pub fits-sound : Sound (machine least_blocks s terms) (Fits s terms)
  fits-sound =
      record {
        falls = λ p f w.
            let g = moving p w in
            rw (eq-eqb p.state.refusal.number none g.unrefused) (step-quiet s terms p f g.within).less;
        rests = λ p f e. rw e;
        quiet_keeps = λ p f w. (step-quiet s terms p f (moving p w).within).fits;
        put_keeps = λ p x f w e. put-fits s terms p f x;
      }

  -- a byte leaves as many steps
  pub put_burns_none : (p : Config) (x : ℕ) →
      (machine least_blocks s terms).fuel (put_byte least_blocks s x p) ≤ (machine least_blocks s terms).fuel p
  unfolding put_byte further_into
  put_burns_none p x = omega arith

-- ---- the bytes taken in all

after-total : (l hash : List ℕ) (c : Command) (t : State) (x : StepEnd) → (state_after l hash c t x).total ≡ t.total
unfolding state_after passed refused_with marked_with
after-total l hash c t Passed = refl
after-total l hash c t Ended = refl
after-total l hash c t Filled = refl
after-total l hash c t Stretched = refl
after-total l hash c t (Refused number) = refl

module _ (s : List ℕ) (terms : Terms) (p : Config) where
  -- a step without a byte takes none
  pub quiet-total : (quiet_step least_blocks s terms p).state.total ≡ p.state.total
  unfolding quiet_step refused_at refused_with after
  quiet-total =
      let l = current_line s p in
      let hash = (command_of least_blocks l).hash in
      let c = current_command least_blocks s p in
      picks (λ (q : Config). q.state.total ≡ p.state.total) (eqb (refusal_here least_blocks s terms p) none) _ _
      (λ e. after-total l hash c p.state (step_at l hash c p).end)
      (λ e. refl)

  pub put-total : (x : ℕ) → (put_byte least_blocks s x p).state.total ≡ (p.state.total + 1) % 2 ^ 64
  unfolding put_byte further_into
  put-total x = refl
