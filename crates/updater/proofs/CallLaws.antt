-- One call, case by case: a refusal that is held, a state that is not possible, and a run, with a stop at its end or none, for which a possible
-- state is ready.
-- Assumes nothing.
use Rattle.std.proofs.Common.{◌≡◌, ℕ, ◌+◌, ◌-◌, ◌≤◌, Bool, true, false, eqb, leb, List, length, get_or, take, refl, ap, arith, length-take, eq-eqb, ne_eqb, eqb-true, leb-true}
use Rattle.text.specs.Choice.{pick, no}
use Rattle.text.specs.Line.{line_number}
use Rattle.text.specs.Expected.{lf}
use Rattle.text.proofs.LineLaws.{lfs_most}
use Rattle.ranges.specs.Ranges.{least_blocks}
use Rattle.state.specs.Limits.{most_stashes}
use Rattle.state.specs.Refusals.{none, state_impossible}
use Rattle.state.specs.Stashes.{table_of, held, held_twice, holds_empty, blocks_held}
use Rattle.state.specs.States.{refusing}
use Rattle.state.specs.declared.Lengths.{Lengths}
use Rattle.state.specs.declared.State.{State}
use Rattle.rules.specs.declared.Terms.{Terms}
use Rattle.transfer_list.specs.Header.{header_of, start_refusal}
use Rattle.transfer_list.specs.Opening.{terms_of}
use Rattle.transfer_list.specs.declared.header.Header.{Header}
use Rattle.transfer_list.proofs.HeaderLaws.{start_none}
use Rattle.machine.specs.Machine.{Machine}
use Rattle.machine.specs.Stops.{going_on, halting, call_takes}
use Rattle.machine.proofs.MachineLaws.{Sound, counts-most}
use Rattle.updater.specs.Areas.{Areas}
use Rattle.updater.specs.Steps.{Config, config_of}
use Rattle.updater.specs.Run.{halts_at, machine, reached, run_of}
use Rattle.updater.specs.Fits.{Typed, Fits}
use Rattle.possible.specs.Possible.{same_lengths, at_line, can_hold, can_be_into, can_be_ready, can_be_stretched, possible_under, is_possible, terms_under}
use Rattle.possible.specs.Possible.{terms_for}
use Rattle.updater.specs.Calls.{outcome_at, outcome_of, lengths_at, is_run, ran, leaves, takes, stops, says, Left, CallResult, result_of, call_of}
use Rattle.updater.specs.declared.Outcome.{Outcome}
use Rattle.updater.specs.declared.Outcome.TheVariants.{Stop, Refused}
use Rattle.text.proofs.ChoiceLaws.{picks, both_true}
use Rattle.std.specs.Prelude.{Ok}

-- ---- a possible state is ready to run

-- every line before a position has a byte
line_number-most : (s : List ℕ) (at : ℕ) → line_number s at ≤ at + 1
unfolding line_number
line_number-most s at = omega (arith, lfs_most (take at s), length-take at s)

-- what the tests say of the position, the line number, the stashes and the stretches that are moved
record Tested (s : List ℕ) (h : Header) (state : State) : Type 0 where
  at : state.at ≤ length s
  line : state.line ≤ state.at + 1
  count : state.table.count ≤ most_stashes
  blocks : blocks_held (held state) ≤ h.blocks
  stretches : can_be_stretched least_blocks s state.at (held state) state.stretches ≡ true

tested : (s : List ℕ) (lengths : Lengths) (h : Header) (state : State) → possible_under least_blocks s lengths (Ok h) state ≡ true → Tested s h state
unfolding possible_under at_line can_hold
tested s lengths h state e =
    let a = both_true (at_line s h state.line state.at) _ e in
    let first = both_true (leb h.first state.at) _ a.0 in
    let within = both_true (leb state.at (length s)) _ first.1 in
    let ended = both_true (eqb (get_or s (state.at - 1) 0) lf) _ within.1 in
    let holds = both_true (can_hold h (table_of state)) _ a.1 in
    let few = both_true (leb state.table.count most_stashes) _ holds.0 in
    let once = both_true (no (held_twice (held state))) _ few.1 in
    let none = both_true (no (holds_empty (held state))) _ once.1 in
    let into = both_true (can_be_into least_blocks s (terms_of lengths h) state.at state.into) _ holds.1 in
    let ready = both_true (can_be_ready least_blocks s (terms_of lengths h) state.at (held state) state.ready) _ into.1 in
    let line = eqb-true state.line (line_number s state.at) ended.1 in
    record {
      at = leb-true state.at (length s) within.0;
      line = omega (arith, line_number-most s state.at);
      count = leb-true state.table.count most_stashes few.0;
      blocks = leb-true (blocks_held (held state)) h.blocks none.1;
      stretches = ready.1;
    }

terms-read : (s : List ℕ) (lengths : Lengths) {h : Header} → header_of s ≡ Ok h → terms_for s lengths ≡ terms_of lengths h
unfolding terms_for terms_under
terms-read s lengths e = rw e

module _ (s : List ℕ) (p : Config) where
  pub possible-fits : is_possible least_blocks s (lengths_at s p.areas) p.state ≡ true → Typed p.state → Fits s (terms_for s (lengths_at s p.areas)) p
  unfolding is_possible
  possible-fits e typed =
      let lengths = lengths_at s p.areas in
      let a = both_true (same_lengths p.state.lengths lengths) _ e in
      let b = both_true (eqb (start_refusal s lengths).number none) _ a.1 in
      let o = start_none s lengths (eqb-true (start_refusal s lengths).number none b.0) in
      let t = tested s lengths o.header p.state (rw o.read at b.1) in
      rw (terms-read s lengths o.read) record {
        list = o.list;
        at = t.at;
        line = t.line;
        image = refl;
        most-image = o.image.fits;
        work = refl;
        result = refl;
        patch = refl;
        stash = omega (arith, o.blocks);
        most-blocks = omega (arith, o.blocks, o.stash.fits);
        most-stashes = o.stashes;
        whole = record { hashes = typed.hashes; sizes = typed.sizes; count = t.count };
        blocks = t.blocks;
        total = typed.total;
        stretches = t.stretches;
      }

-- ---- what a call comes to

module _ (s piece : List ℕ) (p : Config) where
  -- a held refusal is repeated and changes nothing
  pub held-call : (p.state.refusal.number ≡ none → ⊥) →
      result_of p.areas (record { state = p.state; outcome = Refused p.state.refusal; taken = 0 }) ≡ call_of least_blocks s piece p
  unfolding call_of leaves takes stops says is_run outcome_at
  held-call r = rw (ne_eqb p.state.refusal.number none r)

  module _ (r : p.state.refusal.number ≡ none) where
    -- so does 17
    pub impossible_call : is_possible least_blocks s (lengths_at s p.areas) p.state ≡ false →
        result_of p.areas (record { state = p.state; outcome = Refused (refusing state_impossible 0); taken = 0 }) ≡ call_of least_blocks s piece p
    unfolding call_of leaves takes stops says is_run
    impossible_call e = rw (eq-eqb p.state.refusal.number none r, e)

    -- else the lines run
    module _ (e : is_possible least_blocks s (lengths_at s p.areas) p.state ≡ true) {terms : Terms} (l : terms ≡ terms_for s (lengths_at s p.areas))
        {q : Config} {i : ℕ} {stop : Bool} (x : reached q i stop ≡ run_of least_blocks s terms piece p) where
      came : {o : Outcome} → o ≡ pick stop Stop (outcome_of s q.state) →
          result_of q.areas (record { state = q.state; outcome = o; taken = i }) ≡ call_of least_blocks s piece p
      unfolding call_of leaves takes stops says is_run
      came g = rw (eq-eqb p.state.refusal.number none r, e, ← l, ← x, g)

      -- to a stop
      pub stop-call : stop ≡ true →
          result_of q.areas (record { state = q.state; outcome = Stop; taken = i }) ≡ call_of least_blocks s piece p
      stop-call h = came (rw h)

      -- or not
      pub run_call : stop ≡ false → {o : Outcome} → o ≡ outcome_of s q.state →
          result_of q.areas (record { state = q.state; outcome = o; taken = i }) ≡ call_of least_blocks s piece p
      run_call h g = came (rw h g)

-- ---- what a call's contract says, part by part

-- no more is taken than a piece has
takes-most : (s q : List ℕ) (p : Config) → takes least_blocks s q p ≤ length q
unfolding takes run_of call_takes
takes-most s q p =
    picks (λ (n : ℕ). n ≤ length q) (is_run least_blocks s p) (ran least_blocks s q p).taken 0
    (λ e. counts-most stopping (λ m. ⊥) anywhere q (going_on p))
    (λ e. omega arith)
  where
    stopping : Machine
    stopping =
        let terms = terms_for s (lengths_at s p.areas) in
        halting (machine least_blocks s terms) (halts_at least_blocks s terms)

    -- `counts-most` asks for no more than soundness where nothing holds
    anywhere : Sound stopping (λ m. ⊥)
    anywhere =
        record {
          falls = λ m v. absurd v;
          rests = λ m v. absurd v;
          quiet_keeps = λ m v. absurd v;
          put_keeps = λ m x v. absurd v;
        }

module _ (s q : List ℕ) (p : Config) {areas : Areas} {called : Left} (e : result_of areas called ≡ call_of least_blocks s q p) where
  pub call-leaves : config_of areas called.state ≡ leaves least_blocks s q p
  unfolding call_of
  call-leaves = ap (λ (r : CallResult). config_of r.areas r.called.state) e

  pub call_takes_lem : called.taken ≡ takes least_blocks s q p
  unfolding call_of
  call_takes_lem = ap (λ (r : CallResult). r.called.taken) e

  pub call-says : called.outcome ≡ says least_blocks s q p
  unfolding call_of
  call-says = ap (λ (r : CallResult). r.called.outcome) e

  -- no more is taken than the piece has
  pub call-most : called.taken ≤ length q
  call-most = let t = call_takes_lem in omega (arith, takes-most s q p)
