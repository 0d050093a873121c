-- A list that was opened runs: with the states that the calls gave back every line passes its checks again, and a run can only be refused
-- with 16 or 19.
-- Assumes nothing.
use mathlib.Core.Path.{◌≡◌, refl, sym, ap, subst, ◌∙◌}
use mathlib.Core.Bool.{true, false}
use mathlib.Core.List.{List}
use mathlib.Core.Logic.{◌⊎◌, inl, inr}
use Prim.Native.Nat.{ℕ, ◌+◌, ◌-◌, ◌*◌, ◌<◌}
use native.Mathlib.Omega.{arith}
use borrow.Author.Tests.{ltb-true, eqb-true}
use lib.Dec.{ltb, eqb}
use lib.ListN.{length, length-set}
use Rattle.text.proofs.ChoiceLaws.{picks, both_true, either_false}
use Rattle.text.proofs.LineLaws.{line_some, line-mark}
use Rattle.text.specs.Read.{on_option}
use Rattle.ranges.specs.Ranges.{least_blocks}
use Rattle.ranges.specs.declared.RangeSet.{RangeSet}
use Rattle.state.specs.Limits.{block_bytes}
use Rattle.state.specs.Refusals.{none}
use Rattle.state.specs.Stashes.{Stash, table_of, held, find_in, size_at, younger}
use Rattle.state.specs.States.{is_ready}
use Rattle.state.specs.Stretches.{is_stretch}
use Rattle.state.specs.declared.Lengths.{Lengths}
use Rattle.state.specs.declared.Refusal.{Refusal}
use Rattle.state.specs.declared.State.{State}
use Rattle.command.specs.Commands.{command_of}
use Rattle.command.specs.Filling.{fills}
use Rattle.command.specs.Targets.{new_target}
use Rattle.command.specs.declared.Command.{Command}
use Rattle.command.specs.declared.Command.TheVariants as command
use Rattle.command.proofs.CommandLaws.{command-ended, command-hash}
use Rattle.rules.specs.Held.{held_after}
use Rattle.rules.specs.Rules.{refusal_for, refusal_of, target_refusal}
use Rattle.rules.specs.declared.Terms.{Terms}
use Rattle.rules.proofs.HeldLaws.{good-command, after-once, after-none-empty, held_after_lem}
use Rattle.transfer_list.specs.Opening.{terms_of, counted_blocks}
use Rattle.transfer_list.specs.declared.header.Header.{Header}
use Rattle.transfer_list.proofs.OpeningLaws.{lines_next}
use Rattle.transfer_list.proofs.OpeningLaws as opening
use Rattle.machine.proofs.MachineLaws.{Sound}
use Rattle.updater.specs.Areas.{Areas, SameLengths}
use Rattle.updater.specs.Effect.{InRun, filled, is_finished}
use Rattle.updater.specs.Fits.{Fits}
use Rattle.updater.specs.Steps.{Config, passed, refused_with, further_into, marked_with, Stepped, fill_step, free_step, step_of, state_after, step_at, after}
use Rattle.updater.specs.declared.commands.StepEnd.{StepEnd}
use Rattle.updater.specs.declared.commands.StepEnd.TheVariants.{Passed, Ended, Filled, Stretched, Refused}
use Rattle.updater.specs.Run.{machine, current_line, current_command, refusal_here, quiet_step, new_bytes, put_byte, is_stopped, needs_byte}
use Rattle.updater.proofs.EffectLaws.{in_run_some}
use Rattle.updater.proofs.StepLaws.{step-refuses}
use Rattle.updater.proofs.FitLaws.{not_stopped, quiet-lengths, fits-sound}
use Rattle.updater.proofs.AtLineLaws.{step_here, step}
use Rattle.updater.proofs.RunLaws.{is_new}
use Rattle.sequence.proofs.Running.{WalkLeft, OpenOrRefused, going, refused, IntoNew, Into, Ready, Lent, Running}
use Rattle.std.specs.Prelude.{Option, Some, None}

-- ---- the walk goes on

-- the state is past the line l, and holds what the rules say is held after its command
pub record PastLine (l : List ℕ) (t u : State) : Type 0 where
  pub line : u.line ≡ t.line + 1
  pub at : u.at ≡ t.at + length l
  pub into : u.into ≡ 0
  pub ready : u.ready ≡ 0
  pub refusal : u.refusal ≡ t.refusal
  pub lengths : u.lengths ≡ t.lengths
  pub holds : held u ≡ held_after (held t) (command_of least_blocks l).hash (command_of least_blocks l).command

module _ (s : List ℕ) (terms : Terms) (h : Header) (p : Config) where
  pub going-here : OpenOrRefused s terms h p → p.state.refusal.number ≡ none → WalkLeft s terms h p
  going-here (going e g) z = g
  going-here (refused e) z = absurd (in_run_some e z)

  module _ (g : WalkLeft s terms h p) (l : p.state.at < length s) where
    pub going-passed : opening.Passed (g.n - 1) s terms h p.state.line p.state.at (held p.state) g.counted
    going-passed =
        lines_next g.n s terms h p.state.line p.state.at (held p.state) g.counted (omega (arith, g.enough)) l g.accepted

    going_next : (q : Config) → PastLine (current_line s p) p.state q.state → WalkLeft s terms h q
    going_next q w =
        let some = line_some s p.state.at l in
        record {
          n = g.n - 1;
          counted = g.counted + counted_blocks (current_command least_blocks s p);
          enough = omega (arith, g.enough, w.at);
          accepted = rw (w.holds, w.line, w.at) going-passed.rest;
        }

-- ---- a state that stays at its line

pub record Stays (t u : State) : Type 0 where
  pub line : u.line ≡ t.line
  pub at : u.at ≡ t.at
  pub lengths : u.lengths ≡ t.lengths
  pub holds : held u ≡ held t

stays-refused : (t : State) (number byte : ℕ) → Stays t (refused_with t number byte)
unfolding refused_with
stays-refused t number byte = record { line = refl; at = refl; lengths = refl; holds = refl }

stays-further : (t : State) (n : ℕ) → Stays t (further_into t n)
unfolding further_into
stays-further t n = record { line = refl; at = refl; lengths = refl; holds = refl }

stays-marked : (t : State) (ready k : ℕ) → Stays t (marked_with t ready k)
unfolding marked_with
stays-marked t ready k = record { line = refl; at = refl; lengths = refl; holds = refl }

going-stays : (s : List ℕ) (terms : Terms) (h : Header) (p q : Config) → Stays p.state q.state → WalkLeft s terms h p →
    WalkLeft s terms h q
going-stays s terms h p q y g =
    record { n = g.n; counted = g.counted; enough = rw y.at g.enough; accepted = rw (y.holds, y.line, y.at) g.accepted }

-- ---- how a step ends

-- only a command that fills an area leaves it filled
abbrev Tells : Command → StepEnd → Type 0
Tells c Passed = Unit {0}
Tells c Ended = Unit {0}
Tells c Filled = fills c ≡ true
Tells c Stretched = Unit {0}
Tells c (Refused number) = Unit {0}

module _ (l : List ℕ) (xs : List Stash) (hash : List ℕ) (ready k : ℕ) (a : Areas) where
  fill_tells : (c : Command) → fills c ≡ true → Tells c (fill_step l xs hash c ready a).end
  unfolding fill_step
  fill_tells c f =
      picks (λ (x : Stepped). Tells c x.end) (is_ready ready) _ _
      (λ e. tt)
      (λ e.
      picks (λ (x : Stepped). Tells c x.end) (is_finished l hash c a.image) _ _
      (λ t. tt)
      (λ t. let number = (filled l xs hash c a).refusal in picks (Tells c) (eqb number none) Filled (Refused number) (λ u. f) (λ u. tt)))

  free_tells : (f : Option ℕ) → Tells command.Free (free_step xs k a f).end
  unfolding free_step
  free_tells (Some j) =
      picks (Tells command.Free) (is_stretch (size_at xs j) (younger xs j) (k + 1)) Stretched _
      (λ t. tt)
      (λ t. picks (Tells command.Free) (is_stretch (size_at xs j) (younger xs j) k) Ended Passed (λ u. tt) (λ u. tt))
  free_tells None = tt

  step_tells : (c : Command) → Tells c (step_of l xs hash c ready k a).end
  unfolding step_of fills
  step_tells (command.Zero set) = tt
  step_tells (command.Erase set) = tt
  step_tells (command.New set) = tt
  step_tells (command.Move target n source) = fill_tells (command.Move target n source) refl
  step_tells (command.Bsdiff target n source) = fill_tells (command.Bsdiff target n source) refl
  step_tells (command.Stash set) = fill_tells (command.Stash set) refl
  step_tells command.Free = free_tells (find_in xs hash)
  step_tells command.Unsupported = tt
  step_tells (command.Bad p) = tt

-- ---- the invariant is kept

module _ (s : List ℕ) (lengths : Lengths) (h : Header) where
  lent-kept : (p q : Config) → Lent s lengths p → SameLengths p.areas q.areas → q.state.lengths ≡ p.state.lengths → Lent s lengths q
  lent-kept p q v a e =
      record {
        opened = e ∙ v.opened;
        list = v.list;
        image = v.image ∙ sym a.image;
        stash = v.stash ∙ sym a.stash;
        work = v.work ∙ sym a.work;
        result = v.result ∙ sym a.result;
        patch = v.patch ∙ sym a.patch;
      }

  pub running-stays : (p q : Config) → Running s lengths h p → Fits s (terms_of lengths h) q → SameLengths p.areas q.areas →
      Stays p.state q.state → Into s (terms_of lengths h) q.state → Ready s q.state → OpenOrRefused s (terms_of lengths h) h q →
      Running s lengths h q
  running-stays p q v f a y i r g =
      record {
        fits = f;
        lent = lent-kept p q v.lent a y.lengths;
        start = v.start;
        header = v.header;
        at_line_lem =
            record {
              first = rw y.at v.at_line_lem.first;
              ended = rw y.at v.at_line_lem.ended;
              line = rw (y.at, y.line) v.at_line_lem.line;
            };
        once = rw y.holds v.once;
        none-empty = rw y.holds v.none-empty;
        into = i;
        ready = r;
        goes = g;
      }

  -- with the same refusal
  pub goes-stays : (p q : Config) → Stays p.state q.state → q.state.refusal ≡ p.state.refusal →
      OpenOrRefused s (terms_of lengths h) h p → OpenOrRefused s (terms_of lengths h) h q
  goes-stays p q y e (going f g) = going (e ∙ f) (going-stays s (terms_of lengths h) h p q y g)
  goes-stays p q y e (refused f) = refused (subst (λ (r : Refusal). InRun r.number) (sym e) f)

  module _ (p : Config) (v : Running s lengths h p) where
    -- a line that is reached passes its checks again
    pub running-line : p.state.refusal.number ≡ none → p.state.at < length s → refusal_here least_blocks s (terms_of lengths h) p ≡ none
    running-line z l =
        (going-passed s (terms_of lengths h) h p (going-here s (terms_of lengths h) h p v.goes z) l).good

    -- a run is refused with 16 or 19 alone
    pub running-only : (p.state.refusal.number ≡ none) ⊎ InRun p.state.refusal.number
    running-only = go v.goes
      where
        go : OpenOrRefused s (terms_of lengths h) h p → (p.state.refusal.number ≡ none) ⊎ InRun p.state.refusal.number
        go (going e g) = inl (ap (λ (r : Refusal). r.number) e)
        go (refused e) = inr e

    -- the next line is reached
    running-past : (q : Config) → p.state.refusal.number ≡ none → p.state.at < length s → Fits s (terms_of lengths h) q →
        SameLengths p.areas q.areas → PastLine (current_line s p) p.state q.state → Running s lengths h q
    unfolding refusal_of
    running-past q z l f a w =
        let line = current_line s p in
        let hash = (command_of least_blocks line).hash in
        let c = (command_of least_blocks line).command in
        let e = running-line z l in
        let end = command-ended line (good-command line (terms_of lengths h) (held p.state) hash c e) in
        let m = line-mark s p.state.at end.place end.text in
        record {
          fits = f;
          lent = lent-kept p q v.lent a w.lengths;
          start = v.start;
          header = v.header;
          at_line_lem =
              record {
                first = omega (arith, w.at, v.at_line_lem.first);
                ended = rw w.at m.2;
                line = rw w.at (w.line ∙ omega (arith, v.at_line_lem.line, m.1));
              };
          once = rw w.holds (after-once line (terms_of lengths h) (held p.state) hash c e v.once);
          none-empty = rw w.holds (after-none-empty (held p.state) hash v.none-empty line);
          into = inl w.into;
          ready = inl w.ready;
          goes = ongoing v.goes;
        }
      where
        ongoing : OpenOrRefused s (terms_of lengths h) h p → OpenOrRefused s (terms_of lengths h) h q
        ongoing (going e g) = going (w.refusal ∙ e) (going_next s (terms_of lengths h) h p g l q w)
        ongoing (refused e) = absurd (in_run_some e z)

    running-refused : (q : Config) (number : ℕ) → InRun number → Fits s (terms_of lengths h) q → SameLengths p.areas q.areas →
        q.state ≡ refused_with p.state number 0 → Running s lengths h q
    unfolding refused_with
    running-refused q number n f a e =
        running-stays p q v f a
        (subst (Stays p.state) (sym e) (stays-refused p.state number 0))
        (subst (Into s (terms_of lengths h)) (sym e) v.into)
        (subst (Ready s) (sym e) v.ready)
        (refused (subst InRun (sym (ap (λ (t : State). t.refusal.number) e)) n))

    -- at the same line, with other marks
    running-marked : (q : Config) (ready k : ℕ) → Fits s (terms_of lengths h) q → SameLengths p.areas q.areas →
        (ready ≡ 0) ⊎ (fills (current_command least_blocks s p) ≡ true) → q.state ≡ marked_with p.state ready k → Running s lengths h q
    unfolding marked_with
    running-marked q ready k f a r e =
        let y = subst (Stays p.state) (sym e) (stays-marked p.state ready k) in
        running-stays p q v f a y
        (subst (Into s (terms_of lengths h)) (sym e) v.into)
        (subst (Ready s) (sym e) r)
        (goes-stays p q y (ap (λ (t : State). t.refusal) e) v.goes)

    -- what a line that is passed leaves of the state
    passed-past : refusal_here least_blocks s (terms_of lengths h) p ≡ none →
        PastLine (current_line s p) p.state
        (state_after (current_line s p) (command_of least_blocks (current_line s p)).hash (current_command least_blocks s p) p.state Passed)
    unfolding state_after passed refusal_of
    passed-past e =
        record {
          line = refl;
          at = refl;
          into = refl;
          ready = refl;
          refusal = refl;
          lengths = refl;
          holds =
              held_after_lem (current_line s p) (terms_of lengths h) (table_of p.state) (command_of least_blocks (current_line s p)).hash v.fits.whole
              v.fits.most-stashes (command-hash (current_line s p)) (current_command least_blocks s p) e;
        }

    -- a step of the command on its line
    running-after : (q : Config) → q ≡ step_here s p → p.state.refusal.number ≡ none → p.state.at < length s →
        Fits s (terms_of lengths h) q → SameLengths p.areas q.areas → Running s lengths h q
    unfolding after state_after
    running-after q e z l f a =
        let line = current_line s p in
        let hash = (command_of least_blocks line).hash in
        let c = current_command least_blocks s p in
        let t = ap (λ (r : Config). r.state) e in
        go (step_at line hash c p).end refl (step_tells line (held p.state) hash p.state.ready p.state.stretches p.areas c) t
      where
        go : (x : StepEnd) → (step_at (current_line s p) (command_of least_blocks (current_line s p)).hash (current_command least_blocks s p) p).end ≡ x →
            Tells (current_command least_blocks s p) x →
            q.state ≡ state_after (current_line s p) (command_of least_blocks (current_line s p)).hash (current_command least_blocks s p) p.state x →
            Running s lengths h q
        go Passed n k t = running-past q z l f a (subst (PastLine (current_line s p) p.state) (sym t) (passed-past (running-line z l)))
        go Ended n k t = running-past q z l f a (subst (PastLine (current_line s p) p.state) (sym t) (passed-past (running-line z l)))
        go Filled n k t = running-marked q 1 p.state.stretches f a (inr k) t
        go Stretched n k t = running-marked q p.state.ready (p.state.stretches + 1) f a v.ready t
        go (Refused number) n k t =
            running-refused q number
            (step-refuses (current_line s p) (held p.state) (command_of least_blocks (current_line s p)).hash (current_command least_blocks s p) p.state.ready
            p.state.stretches p.areas n)
            f a t

-- ---- where a run needs a byte

needs_new : (c : Command) (n : ℕ) → n < new_bytes c → (set : RangeSet) × (c ≡ command.New set) × (n < block_bytes * set.blocks)
unfolding new_bytes
needs_new c n l = go (new_target c) refl l
  where
    go : (t : Option RangeSet) → new_target c ≡ t → n < on_option t (λ set. block_bytes * set.blocks) 0 →
        (set : RangeSet) × (c ≡ command.New set) × (n < block_bytes * set.blocks)
    go (Some set) e l = (set, is_new c e, l)
    go None e l = absurd (omega arith)

new_good : (l : List ℕ) (terms : Terms) (stashes : List Stash) {set : RangeSet} → (command_of least_blocks l).command ≡ command.New set →
    refusal_of least_blocks l terms stashes ≡ none → target_refusal terms set ≡ none
unfolding refusal_of refusal_for
new_good l terms stashes e r = rw e at r

module _ (s : List ℕ) (terms : Terms) (p : Config) where
  -- one byte more
  pub into_more : needs_byte least_blocks s terms p ≡ true → IntoNew s terms p.state.at (p.state.into + 1)
  unfolding needs_byte
  into_more e =
      let b = both_true (eqb (refusal_here least_blocks s terms p) none) (ltb p.state.into (new_bytes (current_command least_blocks s p))) e in
      let n = needs_new (current_command least_blocks s p) p.state.into (ltb-true p.state.into _ b.1) in
      record {
        set = n.0;
        is_new = n.1;
        good = new_good (current_line s p) terms (held p.state) n.1 (eqb-true (refusal_here least_blocks s terms p) none b.0);
        within = omega arith;
      }

-- ---- the machine

module _ (s : List ℕ) (lengths : Lengths) (h : Header) where
  quiet-running : (p : Config) → Running s lengths h p → (machine least_blocks s (terms_of lengths h)).waits p ≡ false →
      Running s lengths h (quiet_step least_blocks s (terms_of lengths h) p)
  quiet-running p v w =
      let b = not_stopped s p (either_false (is_stopped s p) (needs_byte least_blocks s (terms_of lengths h) p) w).0 in
      let e = step s (terms_of lengths h) p b (running-line s lengths h p v b.unrefused b.within) in
      running-after s lengths h p v (quiet_step least_blocks s (terms_of lengths h) p) e b.unrefused b.within
      ((fits-sound s (terms_of lengths h)).quiet_keeps p v.fits w)
      (quiet-lengths s (terms_of lengths h) p v.fits b.within)

  put-running : (p : Config) (x : ℕ) → Running s lengths h p → (machine least_blocks s (terms_of lengths h)).waits p ≡ true → is_stopped s p ≡ false →
      Running s lengths h (put_byte least_blocks s x p)
  unfolding put_byte further_into
  put-running p x v w e =
      let n : needs_byte least_blocks s (terms_of lengths h) p ≡ true = rw e at w in
      running-stays s lengths h p (put_byte least_blocks s x p) v
      ((fits-sound s (terms_of lengths h)).put_keeps p x v.fits w e)
      (record { image = length-set p.areas.image _ x; stash = refl; work = refl; result = refl; patch = refl })
      (stays-further p.state 1)
      (inr (into_more s (terms_of lengths h) p n))
      v.ready
      (goes-stays s lengths h p (put_byte least_blocks s x p) (stays-further p.state 1) refl v.goes)

  pub running-sound : Sound (machine least_blocks s (terms_of lengths h)) (Running s lengths h)
  running-sound =
      record {
        falls = λ p v. (fits-sound s (terms_of lengths h)).falls p v.fits;
        rests = λ p v. (fits-sound s (terms_of lengths h)).rests p v.fits;
        quiet_keeps = quiet-running;
        put_keeps = put-running;
      }
