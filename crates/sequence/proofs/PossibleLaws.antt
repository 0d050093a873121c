-- The states that an opened list's calls give back are possible ones, at a stop too.
-- Assumes nothing.
use mathlib.Core.Path.{◌≡◌, refl, sym, ap, subst, ◌∙◌}
use mathlib.Core.Bool.{true, false}
use mathlib.Core.List.{List}
use mathlib.Core.Logic.{◌⊎◌, inl, inr}
use Prim.Native.Nat.{ℕ, ◌-◌, ◌*◌, ◌≤◌}
use native.Mathlib.Omega.{arith}
use borrow.Author.Tests.{leb-true, leb-false, lt-ltb, le-leb, eq-eqb}
use lib.Dec.{leb, eqb}
use lib.ListN.{length, get_or}
use Rattle.text.specs.Choice.{both, either, no}
use Rattle.text.specs.Line.{line_at, line_number}
use Rattle.text.specs.Expected.{lf}
use Rattle.text.proofs.ChoiceLaws.{bool, both_true, both_is, either_is, either_false}
use Rattle.text.proofs.ExpectedLaws.{expected-next}
use Rattle.text.proofs.LineLaws.{line-none}
use Rattle.ranges.specs.Ranges.{least_blocks}
use Rattle.ranges.specs.declared.RangeSet.{RangeSet}
use Rattle.state.specs.Limits.{block_bytes, most_stashes}
use Rattle.state.specs.Refusals.{none}
use Rattle.state.specs.Stashes.{table_of, held, blocks_held}
use Rattle.state.specs.States.{is_ready}
use Rattle.state.specs.declared.Lengths.{Lengths}
use Rattle.state.specs.declared.State.{State}
use Rattle.command.specs.Commands.{command_of}
use Rattle.command.specs.Filling.{fills}
use Rattle.command.specs.Targets.{new_target}
use Rattle.command.specs.declared.Command.{Command}
use Rattle.command.specs.declared.Command.TheVariants as command
use Rattle.command.proofs.CommandLaws.{GoodCommand, command-ended}
use Rattle.rules.specs.declared.Terms.{Terms}
use Rattle.transfer_list.specs.Header.{start_refusal}
use Rattle.transfer_list.specs.Opening.{terms_of}
use Rattle.transfer_list.specs.declared.header.Header.{Header}
use Rattle.possible.specs.Possible.{same_lengths, at_line, can_hold, has_more, can_be_into, can_be_ready, possible_under, is_possible}
use Rattle.possible.specs.Possible.{terms_under, terms_for}
use Rattle.machine.proofs.MachineLaws.{never}
use Rattle.updater.specs.Steps.{Config, passed, marked_with, step_of, state_after, stops_after, step_at, after}
use Rattle.updater.specs.Run.{machine, current_line, current_command, refusal_here, quiet_step, halts_at, is_stopped, needs_byte}
use Rattle.updater.specs.Calls.{lengths_at, is_run}
use Rattle.updater.specs.declared.commands.StepEnd.{StepEnd}
use Rattle.updater.specs.declared.commands.StepEnd.TheVariants.{Passed, Ended, Filled, Stretched, Refused}
use Rattle.updater.proofs.FitLaws.{not_stopped}
use Rattle.updater.proofs.AtLineLaws.{step}
use Rattle.sequence.proofs.Running.{IntoNew, Into, Ready, Running}
use Rattle.sequence.proofs.RunningLaws.{into_more, running-line}

-- ---- the bytes into a `new`

module _ (s : List ℕ) (terms : Terms) (p : Config) where
  -- not all bytes are in
  into_some : needs_byte least_blocks s terms p ≡ true → has_more terms p.state.into (command_of least_blocks (current_line s p)).command ≡ true
  unfolding has_more new_target
  into_some e =
      let n = into_more s terms p e in
      rw (n.is_new, eq-eqb _ none n.good, lt-ltb p.state.into (block_bytes * n.set.blocks) (omega (arith, n.within)))

-- at the text's end there is no line
end-not-good : (s : List ℕ) (at : ℕ) → length s ≤ at → GoodCommand (command_of least_blocks (line_at s at)).command → ⊥
end-not-good s at l g =
    let end = command-ended (line_at s at) g in
    let m = expected-next (line_at s at) end.place lf end.text in
    omega (arith, ap length (line-none s at l), m.1)

end-not_new : (s : List ℕ) (terms : Terms) (at into : ℕ) → length s ≤ at → IntoNew s terms at into → ⊥
end-not_new s terms at into l n = end-not-good s at l (subst GoodCommand (sym n.is_new) tt)

-- a command that fills an area is a good one
fills-good : (c : Command) → fills c ≡ true → GoodCommand c
unfolding fills
fills-good (command.Move target n source) e = tt
fills-good (command.Bsdiff target n source) e = tt
fills-good (command.Stash set) e = tt
fills-good (command.Zero set) e = tt
fills-good (command.Erase set) e = tt
fills-good (command.New set) e = tt
fills-good command.Free e = tt
fills-good command.Unsupported e = never (sym e)
fills-good (command.Bad p) e = never (sym e)

-- ---- what a call tests of a state

pub none-into : (s : List ℕ) (terms : Terms) (state : State) → state.into ≡ 0 → can_be_into least_blocks s terms state.at state.into ≡ true
unfolding can_be_into
none-into s terms state e = rw e

some_into : (s : List ℕ) (terms : Terms) (state : State) → has_more terms state.into (command_of least_blocks (line_at s state.at)).command ≡ true →
    can_be_into least_blocks s terms state.at state.into ≡ true
unfolding can_be_into
some_into s terms state e = either_is (eqb state.into 0) e

at_line-goes : (s : List ℕ) (p : Config) → p.state.refusal.number ≡ none → leb (length s) p.state.at ≡ false →
    is_stopped s p ≡ false
unfolding is_stopped
at_line-goes s p z t = rw (z, t)

same_lengths_lem : (lengths : Lengths) → same_lengths lengths lengths ≡ true
unfolding same_lengths
same_lengths_lem lengths =
    rw (
      eq-eqb lengths.list lengths.list refl,
      eq-eqb lengths.image lengths.image refl,
      eq-eqb lengths.stash lengths.stash refl,
      eq-eqb lengths.work lengths.work refl,
      eq-eqb lengths.result lengths.result refl,
      eq-eqb lengths.patch lengths.patch refl,
    )

-- ---- a configuration of a run

module _ (s : List ℕ) (lengths : Lengths) (h : Header) (p : Config) (v : Running s lengths h p) where
  -- where a call ends, the bytes into a `new` are not all of them
  pub running-into : (machine least_blocks s (terms_of lengths h)).waits p ≡ true → p.state.refusal.number ≡ none →
      can_be_into least_blocks s (terms_of lengths h) p.state.at p.state.into ≡ true
  running-into w z = go v.into (bool (leb (length s) p.state.at))
    where
      go : Into s (terms_of lengths h) p.state →
          (leb (length s) p.state.at ≡ true) ⊎ (leb (length s) p.state.at ≡ false) →
          can_be_into least_blocks s (terms_of lengths h) p.state.at p.state.into ≡ true
      go (inl e) t = none-into s (terms_of lengths h) p.state e
      go (inr n) (inl t) = absurd (end-not_new s (terms_of lengths h) _ _ (leb-true (length s) p.state.at t) n)
      go (inr n) (inr t) =
          let e : needs_byte least_blocks s (terms_of lengths h) p ≡ true = rw (at_line-goes s p z t) at w in
          some_into s (terms_of lengths h) p.state (into_some s (terms_of lengths h) p e)

  lengths_here_lem : lengths_at s p.areas ≡ lengths
  lengths_here_lem = rw (← v.lent.list, ← v.lent.image, ← v.lent.stash, ← v.lent.work, ← v.lent.result, ← v.lent.patch)

  at_line_true : at_line s h p.state.line p.state.at ≡ true
  unfolding at_line
  at_line_true =
      both_is (le-leb h.first p.state.at v.at_line_lem.first)
      (both_is (le-leb p.state.at (length s) v.fits.at)
      (both_is (eq-eqb (get_or s (p.state.at - 1) 0) lf v.at_line_lem.ended)
      (eq-eqb p.state.line (line_number s p.state.at) v.at_line_lem.line)))

  can_hold_true : can_hold h (table_of p.state) ≡ true
  unfolding can_hold
  can_hold_true =
      both_is (le-leb p.state.table.count most_stashes v.fits.whole.count)
      (both_is (ap no v.once)
      (both_is (ap no v.none-empty) (le-leb (blocks_held (held p.state)) h.blocks v.fits.blocks)))

  -- the line that fills an area is not refused, and not at the text's end
  ready_true : p.state.refusal.number ≡ none → can_be_ready least_blocks s (terms_of lengths h) p.state.at (held p.state) p.state.ready ≡ true
  unfolding can_be_ready
  ready_true z = go v.ready (bool (leb (length s) p.state.at))
    where
      go : Ready s p.state → (leb (length s) p.state.at ≡ true) ⊎ (leb (length s) p.state.at ≡ false) →
          either (no (is_ready p.state.ready))
          (both (eqb (refusal_here least_blocks s (terms_of lengths h) p) none) (fills (current_command least_blocks s p)))
          ≡ true
      go (inl e) t = rw (eq-eqb p.state.ready 0 e)
      go (inr e) (inl t) = absurd (end-not-good s p.state.at (leb-true (length s) p.state.at t) (fills-good (current_command least_blocks s p) e))
      go (inr e) (inr t) =
          either_is (no (is_ready p.state.ready))
          (both_is
          (eq-eqb (refusal_here least_blocks s (terms_of lengths h) p) none (running-line s lengths h p v z (leb-false (length s) p.state.at t))) e)

  possible : can_be_into least_blocks s (terms_of lengths h) p.state.at p.state.into ≡ true → p.state.refusal.number ≡ none →
      is_possible least_blocks s lengths p.state ≡ true
  unfolding is_possible possible_under
  possible i z =
      both_is (ap (λ (x : Lengths). same_lengths x lengths) v.lent.opened ∙ same_lengths_lem lengths)
      (both_is (eq-eqb (start_refusal s lengths).number none v.start)
      (rw v.header (both_is at_line_true (both_is can_hold_true (both_is i (both_is (ready_true z) v.fits.stretches))))))

  -- no state of a run is impossible
  pub running-possible : can_be_into least_blocks s (terms_of lengths h) p.state.at p.state.into ≡ true → p.state.refusal.number ≡ none → is_run least_blocks s p ≡ true
  unfolding is_run
  running-possible i z =
      both_is (eq-eqb p.state.refusal.number none z)
      (ap (λ (x : Lengths). is_possible least_blocks s x p.state) lengths_here_lem ∙ possible i z)

  pub running-terms : terms_for s (lengths_at s p.areas) ≡ terms_of lengths h
  unfolding terms_for terms_under
  running-terms = rw (lengths_here_lem, v.header)

-- ---- at a stop

-- a `new` does not stop
new_goes_on : (l hash : List ℕ) (p : Config) {c : Command} {set : RangeSet} → c ≡ command.New set → stops_after (step_at l hash c p).end ≡ true → ⊥
unfolding step_of stops_after
new_goes_on l hash p e t = never (sym (rw e at t))

module _ (s : List ℕ) (lengths : Lengths) (h : Header) where
  -- a step that a stop follows leaves no byte into a `new`
  marks-into : (p : Config) (x : StepEnd) → stops_after x ≡ true → p.state.into ≡ 0 →
      (state_after (current_line s p) (command_of least_blocks (current_line s p)).hash (current_command least_blocks s p) p.state x).into ≡ 0
  unfolding state_after stops_after passed marked_with
  marks-into p Passed t e = refl
  marks-into p Ended t e = refl
  marks-into p Filled t e = e
  marks-into p Stretched t e = e
  marks-into p (Refused number) t e = absurd (never (sym t))

  pub stop-into : (p : Config) → Running s lengths h p → (machine least_blocks s (terms_of lengths h)).waits p ≡ false →
      halts_at least_blocks s (terms_of lengths h) p ≡ true → (quiet_step least_blocks s (terms_of lengths h) p).state.into ≡ 0
  unfolding halts_at after
  stop-into p v w t =
      let l = current_line s p in
      let hash = (command_of least_blocks l).hash in
      let c = current_command least_blocks s p in
      let b = both_true (eqb (refusal_here least_blocks s (terms_of lengths h) p) none) (stops_after (step_at l hash c p).end) t in
      let g = not_stopped s p (either_false (is_stopped s p) (needs_byte least_blocks s (terms_of lengths h) p) w).0 in
      let e = step s (terms_of lengths h) p g (running-line s lengths h p v g.unrefused g.within) in
      ap (λ (q : Config). q.state.into) e ∙ marks-into p (step_at l hash c p).end b.1 (none_in v.into b.1)
    where
      none_in : Into s (terms_of lengths h) p.state →
          stops_after (step_at (current_line s p) (command_of least_blocks (current_line s p)).hash (current_command least_blocks s p) p).end ≡ true → p.state.into ≡ 0
      none_in (inl e) u = e
      none_in (inr n) u = absurd (new_goes_on (current_line s p) (command_of least_blocks (current_line s p)).hash p n.is_new u)
