-- Calls by the two readings: over a list without an empty range two runs go together, step by step and stop by stop, until a line that is ill
-- formed in both refuses both.
-- Assumes nothing.
use mathlib.Core.Path.{◌≡◌, refl, sym, ◌∙◌, ap, subst}
use mathlib.Core.Bool.{Bool, true, false}
use mathlib.Core.Logic.{⊎_elim}
use Prim.Native.Nat.{ℕ}
use native.Mathlib.Omega.{arith}
use mathlib.Core.List.{List, []}
use lib.ListN.{length, set}
use lib.Dec.{leb, ltb, eqb}
use borrow.Author.Tests.{eqb-true}
use Rattle.text.specs.Choice.{pick, both, either, no}
use Rattle.text.specs.Line.{line_at}
use Rattle.text.proofs.ChoiceLaws.{bool, both_true, either_false}
use Rattle.ranges.specs.Ranges.{least_blocks}
use Rattle.state.specs.Refusals.{none, line_form, state_impossible}
use Rattle.state.specs.Stashes.{Stash, held, table_of}
use Rattle.state.specs.States.{refusing, with_refusal, is_ready}
use Rattle.state.specs.declared.Lengths.{Lengths}
use Rattle.state.specs.declared.Refusal.{Refusal}
use Rattle.state.specs.declared.State.{State}
use Rattle.command.specs.Commands.{command_of}
use Rattle.command.specs.Faults.{fault_byte}
use Rattle.command.specs.Filling.{fills}
use Rattle.command.specs.Targets.{new_target}
use Rattle.command.specs.declared.Command.{Command}
use Rattle.command.specs.declared.Command.TheVariants as command
use Rattle.command.specs.declared.Line.{Line}
use Rattle.rules.specs.Rules.{refusal_for, refusal_of}
use Rattle.rules.specs.declared.Terms.{Terms}
use Rattle.transfer_list.specs.Header.{header_of, start_refusal}
use Rattle.transfer_list.specs.Opening.{terms_of}
use Rattle.transfer_list.specs.declared.header.Header.{Header}
use Rattle.possible.specs.Possible.{same_lengths, at_line, can_hold, has_more, can_be_into, can_be_ready, frees_on, can_be_stretched, possible_under, is_possible, terms_for}
use Rattle.machine.specs.Machine.{Machine}
use Rattle.updater.specs.Areas.{Areas, with_image}
use Rattle.updater.specs.Bytes.{address_of}
use Rattle.updater.specs.Steps.{Config, config_of, passed, refused_with, further_into, marked_with, state_after, stops_after, step_at, after}
use Rattle.updater.specs.Run.{current_line, refused_at, quiet_step, halts_at, new_blocks, new_bytes, put_byte, is_stopped, needs_byte, machine, run_of}
use Rattle.updater.specs.Calls.{outcome_at, outcome_of, lengths_at, is_run, leaves, takes, stops, says}
use Rattle.updater.specs.declared.commands.StepEnd.{StepEnd}
use Rattle.updater.specs.declared.commands.StepEnd.TheVariants.{Passed, Ended, Filled, Stretched, Refused}
use Rattle.updater.specs.declared.Outcome.{Outcome}
use Rattle.updater.specs.declared.Outcome.TheVariants as outcome
use Rattle.compatibility.specs.EmptyRanges.{least_before, WithoutEmpty}
use Rattle.compatibility.specs.Matching.{MatchingRefusals, MatchingStates, MatchingConfigs, MatchingOutcomes}
use Rattle.compatibility.specs.AsBefore.{SameCall}
use Rattle.compatibility.proofs.Lines.{clash, IllCommand, SameLine, same, ill, line_same}
use Rattle.compatibility.proofs.Starts.{StartsAt, next-starts, state-starts}
use Rattle.compatibility.proofs.Machines.{Alike, ends-alike, takes-alike}
use Rattle.compatibility.proofs.Openings.{matching-refusal, matching_six, matching-state, ill-refused}
use Rattle.std.specs.Prelude.{Result, Ok, Err}
use Rattle.transfer_list.specs.declared.header.BadHeader.{BadHeader}

pub matching-config : (p : Config) → MatchingConfigs p p
matching-config p = record { areas = refl; state = matching-state p.state }

-- states that match and hold no refusal are the same
state-is : (t u : State) → MatchingStates t u → t.refusal.number ≡ none → t ≡ u
state-is t u k e = refused t.refusal u.refusal k.refusal e
  where
    refused : (a b : Refusal) → MatchingRefusals a b → a.number ≡ none → with_refusal t a ≡ with_refusal u b
    refused a b h n =
        ap (λ (x : State). with_refusal x a) k.rest
        ∙ ap (with_refusal u) (fields h.number h.line (h.byte (λ q. absurd (let z : ◌≡◌ {A = ℕ} none line_form = sym n ∙ q in omega arith))))
      where
        fields : {n m l k b c : ℕ} → n ≡ m → l ≡ k → b ≡ c → ◌≡◌ {A = Refusal} (record { number = n; line = l; byte = b }) (record { number = m; line = k; byte = c })
        fields p q r = cc

ill-more : (terms : Terms) (into : ℕ) {c : Command} {p : ℕ} → c ≡ command.Bad p → has_more terms into c ≡ false
unfolding has_more new_target
ill-more terms into e = rw e

ill_frees : (held : List Stash) (k : ℕ) (hash : List ℕ) {c : Command} {p : ℕ} → c ≡ command.Bad p → frees_on held k hash c ≡ false
unfolding frees_on
ill_frees held k hash e = rw e

module _ (s : List ℕ) (w : WithoutEmpty s) where
  -- ---- a line

  here : {at : ℕ} → StartsAt s at → SameLine (line_at s at) (command_of least_before (line_at s at)) (command_of least_blocks (line_at s at))
  here {at} x = line_same (line_at s at) (rw x.place (w x.line x.command))

  module _ (terms : Terms) where
    -- ---- two runs: they stand at the same place, or both have ended with a refusal

    data Together (p q : Config) : Type 0 where
      going : p ≡ q → StartsAt s p.state.at → Together p q
      refused : eqb p.state.refusal.number none ≡ false → MatchingConfigs p q → Together p q

    matching : {p q : Config} → Together p q → MatchingConfigs p q
    matching {p} (going e x) = subst (MatchingConfigs p) e (matching-config p)
    matching (refused e k) = k

    -- what matches a refused one is refused
    refused_too : {p q : Config} → eqb p.state.refusal.number none ≡ false → MatchingConfigs p q → eqb q.state.refusal.number none ≡ false
    refused_too e k = rw (sym k.state.refusal.number) e

    refused-stops : (p : Config) → eqb p.state.refusal.number none ≡ false → is_stopped s p ≡ true
    unfolding is_stopped
    refused-stops p e = rw e

    -- ---- what is done at a line, by what was read of it

    module _ (p : Config) where
      abbrev number : Line → ℕ
      number a = refusal_for (current_line s p) terms (held p.state) a.hash a.command

      abbrev needs : Line → Bool
      needs a = both (eqb (number a) none) (ltb p.state.into (new_bytes a.command))

      abbrev puts : ℕ → Command → Config
      puts y c =
          config_of
          (with_image p.areas (set p.areas.image (address_of (new_blocks (current_line s p) c) p.state.into) y))
          (further_into p.state 1)

      abbrev steps : Line → Config
      steps a =
          pick (eqb (number a) none)
          (after (current_line s p) a.hash a.command p)
          (refused_at (number a) (fault_byte p.state.at a.command) p)

      abbrev halts : Line → Bool
      halts a = both (eqb (number a) none) (stops_after (step_at (current_line s p) a.hash a.command p).end)

      no_blocks : {c : Command} → IllCommand (current_line s p) c → new_blocks (current_line s p) c ≡ []
      unfolding new_blocks new_target
      no_blocks i = rw i.1

      -- a step leaves the line, or stays at it
      steps-starts : (a : Line) → StartsAt s p.state.at → StartsAt s (steps a).state.at
      unfolding after state_after passed marked_with refused_with refused_at
      steps-starts a x = go (eqb (number a) none) (step_at (current_line s p) a.hash a.command p).end
        where
          go : (t : Bool) (end : StepEnd) →
              StartsAt s (pick t (config_of (step_at (current_line s p) a.hash a.command p).areas
              (state_after (current_line s p) a.hash a.command p.state end))
              (refused_at (number a) (fault_byte p.state.at a.command) p)).state.at
          go true Passed = next-starts x
          go true Ended = next-starts x
          go true Filled = x
          go true Stretched = x
          go true (Refused number) = x
          go false end = x

    module _ (p : Config) (x : StartsAt s p.state.at) where
      needs-same : needs_byte least_before s terms p ≡ needs_byte least_blocks s terms p
      unfolding needs_byte refusal_of
      needs-same = go (command_of least_before (current_line s p)) (command_of least_blocks (current_line s p)) (here x)
        where
          go : (a b : Line) → SameLine (current_line s p) a b → needs p a ≡ needs p b
          go a b (same e) = ap (needs p) e
          go a b (ill e i j) = rw (ill-refused (current_line s p) a terms (held p.state) i, ill-refused (current_line s p) b terms (held p.state) j)

      put_same : (y : ℕ) → put_byte least_before s y p ≡ put_byte least_blocks s y p
      unfolding put_byte
      put_same y = go (command_of least_before (current_line s p)) (command_of least_blocks (current_line s p)) (here x)
        where
          go : (a b : Line) → SameLine (current_line s p) a b → puts p y a.command ≡ puts p y b.command
          go a b (same e) = ap (λ (a : Line). puts p y a.command) e
          go a b (ill e i j) = rw (no_blocks p i, no_blocks p j)

      put-starts : (y : ℕ) → StartsAt s (put_byte least_before s y p).state.at
      unfolding put_byte further_into
      put-starts y = x

      halts-same : halts_at least_before s terms p ≡ halts_at least_blocks s terms p
      unfolding halts_at refusal_of
      halts-same = go (command_of least_before (current_line s p)) (command_of least_blocks (current_line s p)) (here x)
        where
          go : (a b : Line) → SameLine (current_line s p) a b → halts p a ≡ halts p b
          go a b (same e) = ap (halts p) e
          go a b (ill e i j) = rw (ill-refused (current_line s p) a terms (held p.state) i, ill-refused (current_line s p) b terms (held p.state) j)

      step-together : Together (quiet_step least_before s terms p) (quiet_step least_blocks s terms p)
      unfolding quiet_step refusal_of refused_at refused_with
      step-together = go (command_of least_before (current_line s p)) (command_of least_blocks (current_line s p)) (here x)
        where
          stays : (a : Line) → IllCommand (current_line s p) a.command → steps p a ≡ refused_at line_form (fault_byte p.state.at a.command) p
          stays a i = rw (ill-refused (current_line s p) a terms (held p.state) i)

          go : (a b : Line) → SameLine (current_line s p) a b → Together (steps p a) (steps p b)
          go a b (same e) = going (ap (steps p) e) (steps-starts p a x)
          go a b (ill e i j) =
              rw (stays a i, stays b j)
              (refused refl (record {
                areas = refl;
                state = record {
                  refusal = matching_six p.state.line (fault_byte p.state.at a.command) (fault_byte p.state.at b.command);
                  rest = refl;
                };
              }))

    -- ---- the two machines

    abbrev before : Machine
    before = machine least_before s terms

    abbrev now : Machine
    now = machine least_blocks s terms

    -- a refused one waits, so none that steps is refused
    quiet-goes : (p : Config) → before.waits p ≡ false → eqb p.state.refusal.number none ≡ false → ⊥
    quiet-goes p w e = clash (refused-stops p e) (either_false (is_stopped s p) (needs_byte least_before s terms p) w).0

    machines_alike : Alike before now Together
    machines_alike =
        record {
          waits = waits-same;
          stopped = stopped-same;
          fuel = fuel-same;
          quiet = quiet-together;
          put = put-together;
        }
      where
        waits-same : (p q : Config) → Together p q → before.waits p ≡ now.waits q
        waits-same p q (going e x) = subst (λ q. before.waits p ≡ now.waits q) e (ap (either (is_stopped s p)) (needs-same p x))
        waits-same p q (refused e k) = rw (refused-stops p e, refused-stops q (refused_too e k))

        stopped-same : (p q : Config) → Together p q → is_stopped s p ≡ is_stopped s q
        stopped-same p q (going e x) = ap (is_stopped s) e
        stopped-same p q (refused e k) = rw (refused-stops p e, refused-stops q (refused_too e k))

        fuel-same : (p q : Config) → Together p q → before.fuel p ≡ now.fuel q
        fuel-same p q (going e x) = ap before.fuel e
        fuel-same p q (refused e k) = rw (e, refused_too e k)

        quiet-together : (p q : Config) → Together p q → before.waits p ≡ false → Together (before.quiet p) (now.quiet q)
        quiet-together p q (going e x) w = subst (λ q. Together (before.quiet p) (now.quiet q)) e (step-together p x)
        quiet-together p q (refused e k) w = absurd (quiet-goes p w e)

        put-together : (y : ℕ) (p q : Config) → Together p q → is_stopped s p ≡ false → Together (before.put y p) (now.put y q)
        put-together y p q (going e x) f = subst (λ q. Together (before.put y p) (now.put y q)) e (going (put_same p x y) (put-starts p x y))
        put-together y p q (refused e k) f = absurd (clash (refused-stops p e) f)

    stops-alike : (p q : Config) → Together p q → before.waits p ≡ false → halts_at least_before s terms p ≡ halts_at least_blocks s terms q
    stops-alike p q (going e x) w = subst (λ q. halts_at least_before s terms p ≡ halts_at least_blocks s terms q) e (halts-same p x)
    stops-alike p q (refused e k) w = absurd (quiet-goes p w e)

    -- ---- a run

    record SameRun (piece : List ℕ) (p q : Config) : Type 0 where
      config : MatchingConfigs (run_of least_before s terms piece p).config (run_of least_blocks s terms piece q).config
      taken : (run_of least_before s terms piece p).taken ≡ (run_of least_blocks s terms piece q).taken
      stop : (run_of least_before s terms piece p).stop ≡ (run_of least_blocks s terms piece q).stop

    run-same : (piece : List ℕ) (p : Config) → StartsAt s p.state.at → SameRun piece p p
    unfolding run_of
    run-same piece p x =
        let k = ends-alike before now Together machines_alike _ _ stops-alike piece p p (going refl x) in
        record {
          config = matching k.config;
          taken = takes-alike before now Together machines_alike _ _ stops-alike piece p p (going refl x);
          stop = k.halted;
        }

  -- ---- 17

  more_same : (terms : Terms) (at into : ℕ) → StartsAt s at → can_be_into least_before s terms at into ≡ can_be_into least_blocks s terms at into
  unfolding can_be_into
  more_same terms at into x = go (command_of least_before (line_at s at)) (command_of least_blocks (line_at s at)) (here x)
    where
      nothing : {c : Command} → IllCommand (line_at s at) c → has_more terms into c ≡ false
      nothing i = ill-more terms into i.1

      go : (a b : Line) → SameLine (line_at s at) a b → either (eqb into 0) (has_more terms into a.command) ≡ either (eqb into 0) (has_more terms into b.command)
      go a b (same e) = ap (λ (a : Line). either (eqb into 0) (has_more terms into a.command)) e
      go a b (ill e i j) = rw (nothing i, nothing j)

  ready-same : (terms : Terms) (at : ℕ) (held : List Stash) (ready : ℕ) → StartsAt s at →
      can_be_ready least_before s terms at held ready ≡ can_be_ready least_blocks s terms at held ready
  unfolding can_be_ready refusal_of
  ready-same terms at held ready x = go (command_of least_before (line_at s at)) (command_of least_blocks (line_at s at)) (here x)
    where
      can : Line → Bool
      can a = either (no (is_ready ready)) (both (eqb (refusal_for (line_at s at) terms held a.hash a.command) none) (fills a.command))

      go : (a b : Line) → SameLine (line_at s at) a b → can a ≡ can b
      go a b (same e) = ap can e
      go a b (ill e i j) = rw (ill-refused (line_at s at) a terms held i, ill-refused (line_at s at) b terms held j)

  stretched-same : (at : ℕ) (held : List Stash) (k : ℕ) → StartsAt s at →
      can_be_stretched least_before s at held k ≡ can_be_stretched least_blocks s at held k
  unfolding can_be_stretched
  stretched-same at held k x = go (command_of least_before (line_at s at)) (command_of least_blocks (line_at s at)) (here x)
    where
      can : Line → Bool
      can a = either (eqb k 0) (frees_on held k a.hash a.command)

      go : (a b : Line) → SameLine (line_at s at) a b → can a ≡ can b
      go a b (same e) = ap can e
      go a b (ill e i j) = rw (ill_frees held k a.hash i.1, ill_frees held k b.hash j.1)

  possible-same : (lengths : Lengths) (t : State) → is_possible least_before s lengths t ≡ is_possible least_blocks s lengths t
  unfolding is_possible possible_under
  possible-same lengths t = ap (both (same_lengths t.lengths lengths)) (ap (both (eqb (start_refusal s lengths).number none)) (under (header_of s) refl))
    where
      -- what is asked of a state at a line
      can : ℕ → Header → Bool
      can least h =
          both (can_hold h (table_of t))
          (both (can_be_into least s (terms_of lengths h) t.at t.into)
          (both (can_be_ready least s (terms_of lengths h) t.at (held t) t.ready)
          (can_be_stretched least s t.at (held t) t.stretches)))

      at_line_lem : (h : Header) → header_of s ≡ Ok h → (a : Bool) → at_line s h t.line t.at ≡ a → both a (can least_before h) ≡ both a (can least_blocks h)
      at_line_lem h r true e =
          let x = state-starts s t.line t.at r e in
          rw (
            more_same (terms_of lengths h) t.at t.into x,
            ready-same (terms_of lengths h) t.at (held t) t.ready x,
            stretched-same t.at (held t) t.stretches x,
          )
      at_line_lem h r false e = refl

      under : (read : Result Header BadHeader) → header_of s ≡ read → possible_under least_before s lengths read t ≡ possible_under least_blocks s lengths read t
      under (Ok h) e = at_line_lem h e (at_line s h t.line t.at) refl
      under (Err bad) e = refl

  possible-starts : (lengths : Lengths) (t : State) → is_possible least_before s lengths t ≡ true → StartsAt s t.at
  unfolding is_possible possible_under
  possible-starts lengths t e =
      let a = both_true (same_lengths t.lengths lengths) _ e in
      let b = both_true (eqb (start_refusal s lengths).number none) _ a.1 in
      under (header_of s) refl b.1
    where
      under : (read : Result Header BadHeader) → header_of s ≡ read → possible_under least_before s lengths read t ≡ true → StartsAt s t.at
      under (Ok h) r p = state-starts s t.line t.at r (both_true (at_line s h t.line t.at) _ p).0
      under (Err bad) r p = absurd (clash p refl)

  -- ---- a call

  outcome-matching : (t u : State) → MatchingStates t u → MatchingOutcomes (outcome_of s t) (outcome_of s u)
  unfolding outcome_at
  outcome-matching t u k =
      subst (λ (n : ℕ). MatchingOutcomes (outcome_of s t) (said n u.at)) k.refusal.number
      (subst (λ (i : ℕ). MatchingOutcomes (outcome_of s t) (said t.refusal.number i)) (ap (λ (x : State). x.at) k.rest)
      (go (eqb t.refusal.number none) (leb (length s) t.at)))
    where
      said : ℕ → ℕ → Outcome
      said n i = pick (eqb n none) (pick (leb (length s) i) outcome.Done outcome.More) (outcome.Refused u.refusal)

      go : (a b : Bool) →
          MatchingOutcomes (pick a (pick b outcome.Done outcome.More) (outcome.Refused t.refusal)) (pick a (pick b outcome.Done outcome.More) (outcome.Refused u.refusal))
      go true true = tt
      go true false = tt
      go false b = k.refusal

  -- a stop, or else what states that match come to
  said-matching : (a b : Bool) (t u : State) → a ≡ b → MatchingStates t u →
      MatchingOutcomes (pick a outcome.Stop (outcome_of s t)) (pick b outcome.Stop (outcome_of s u))
  said-matching a b t u e k = rw (← e) (go a)
    where
      go : (a : Bool) → MatchingOutcomes (pick a outcome.Stop (outcome_of s t)) (pick a outcome.Stop (outcome_of s u))
      go true = tt
      go false = outcome-matching t u k

  module _ (piece : List ℕ) where
    -- from one state, which holds no refusal
    from_one : (p : Config) → eqb p.state.refusal.number none ≡ true → SameCall s piece p p
    unfolding leaves takes stops says is_run
    from_one p e =
        go (is_possible least_before s lengths p.state) (is_possible least_blocks s lengths p.state) refl refl (possible-same lengths p.state)
      where
        lengths : Lengths
        lengths = lengths_at s p.areas

        go : (a b : Bool) → is_possible least_before s lengths p.state ≡ a → is_possible least_blocks s lengths p.state ≡ b →
            is_possible least_before s lengths p.state ≡ is_possible least_blocks s lengths p.state → SameCall s piece p p
        go true true f g h =
            let k = run-same (terms_for s lengths) piece p (possible-starts lengths p.state f) in
            record {
              leaves = rw (e, f, g) k.config;
              says = rw (e, f, g) (said-matching _ _ _ _ k.stop k.config.state);
              takes = rw (e, f, g) k.taken;
              stops = rw (e, f, g) k.stop;
            }
        go true false f g h = absurd (clash (sym h ∙ f) g)
        go false true f g h = absurd (clash (h ∙ g) f)
        go false false f g h =
            record {
              leaves = rw (e, f, g) (matching-config p);
              says = rw (e, f, g) (matching-refusal (refusing state_impossible 0));
              takes = rw (e, f, g);
              stops = rw (e, f, g);
            }

    pub call_same : (p q : Config) → MatchingConfigs p q → SameCall s piece p q
    unfolding leaves takes stops says is_run
    call_same p q k = ⊎_elim
        (λ e. subst (SameCall s piece p) (config-is k.areas (state-is p.state q.state k.state (eqb-true p.state.refusal.number none e)))
        (from_one p e))
        (λ e. let f : eqb q.state.refusal.number none ≡ false = rw (sym k.state.refusal.number) e in
        record {
          leaves = rw (e, f) k;
          says = rw (e, f) (outcome-matching p.state q.state k.state);
          takes = rw (e, f);
          stops = rw (e, f);
        })
        (bool (eqb p.state.refusal.number none))
      where
        config-is : p.areas ≡ q.areas → p.state ≡ q.state → p ≡ q
        config-is a b = joined a b
          where
            joined : {a b : Areas} {t u : State} → a ≡ b → t ≡ u → config_of a t ≡ config_of b u
            joined e f = cc
