-- Calls over a run, told by the fresh bytes of each: each call is one of the machine with stops, and a sequence of calls whose last one did not stop
-- comes to one run past every stop, over all the bytes.
-- Assumes nothing.
use mathlib.Core.Path.{◌≡◌, refl, sym, ap, subst, ◌∙◌}
use mathlib.Core.Bool.{Bool, true, false}
use mathlib.Core.Logic.{⊎_elim}
use mathlib.Core.List.{List, [], ◌∷◌, ◌++◌}
use Prim.Native.Nat.{ℕ, ◌+◌, ◌-◌, ◌*◌, ◌%◌, ◌^◌, ◌<◌}
use native.Mathlib.Nat.{mod-add-mod, add-zero, mod-eq_of_lt}
use native.Mathlib.Omega.{arith}
use lib.ListN.{length, drop, replicate}
use lib.Dec.{leb, eqb}
use borrow.Author.Tests.{eqb-true, eqb-false}
use Rattle.text.specs.Choice.{pick, either, no}
use Rattle.text.proofs.ChoiceLaws.{bool, picks}
use Rattle.ranges.specs.Ranges.{least_blocks}
use Rattle.state.specs.Limits.{most_area_blocks}
use Rattle.state.specs.Refusals.{none}
use Rattle.state.specs.States.{is_ready}
use Rattle.state.specs.declared.Lengths.{Lengths}
use Rattle.state.specs.declared.Refusal.{Refusal}
use Rattle.state.specs.declared.State.{State}
use Rattle.rules.specs.declared.Terms.{Terms}
use Rattle.transfer_list.specs.Opening.{terms_of}
use Rattle.transfer_list.specs.declared.header.Header.{Header}
use Rattle.possible.specs.Possible.{can_be_into, is_possible}
use Rattle.machine.proofs.MachineLaws.{never}
use Rattle.machine.specs.Machine.{Machine, feeds, counts}
use Rattle.machine.specs.Pieces.{joined}
use Rattle.machine.specs.Stops.{Halted, going_on, call_ends, call_takes, Sent, start, send, send_all}
use Rattle.machine.proofs.StopLaws.{call-keeps, call-waits, call-all, call-stopped, call-came, call-total, send-append, sequence_ends, calling_on-ends}
use Rattle.updater.specs.Effect.{InRun}
use Rattle.updater.specs.Steps.{Config}
use Rattle.updater.specs.Run.{line_steps, steps_left, machine, halts_at, run_of, is_stopped}
use Rattle.updater.specs.Calls.{lengths_at, is_run, outcome_at, outcome_of, leaves, takes, stops, says}
use Rattle.updater.specs.declared.Outcome.{Outcome}
use Rattle.updater.specs.declared.Outcome.TheVariants as outcome
use Rattle.updater.proofs.FitLaws.{put_burns_none, quiet-total, put-total}
use Rattle.sequence.specs.Sequence.{CallsMade, no_calls, next_call, all_calls, last_says, last_takes, last_piece}
use Rattle.sequence.specs.Claim.{NoStop}
use Rattle.sequence.proofs.Running.{Running}
use Rattle.sequence.proofs.RunningLaws.{running-line, running-only, running-sound}
use Rattle.sequence.proofs.PossibleLaws.{none-into, running-into, running-possible, running-terms, stop-into}
use Rattle.sequence.proofs.ModelLaws.{Runs}

-- a call goes on, unless a refusal is held
abbrev pub Possible : List ℕ → Config → Type 0
Possible s p = p.state.refusal.number ≡ none → is_run least_blocks s p ≡ true

-- ---- what a call says

not-run : (s : List ℕ) (p : Config) → eqb p.state.refusal.number none ≡ false → is_run least_blocks s p ≡ false
unfolding is_run
not-run s p h = rw h

refused-stopped : (s : List ℕ) (p : Config) → eqb p.state.refusal.number none ≡ false → is_stopped s p ≡ true
unfolding is_stopped
refused-stopped s p h = rw h

run-possible : (s : List ℕ) (p : Config) → eqb p.state.refusal.number none ≡ true → is_run least_blocks s p ≡ true
    → is_possible least_blocks s (lengths_at s p.areas) p.state ≡ true
unfolding is_run
run-possible s p h e = rw h at e

-- a stop, or what a run came to
abbrev said_at : List ℕ → Halted Config → Outcome
said_at s e = pick e.halted outcome.Stop (outcome_of s e.config.state)

pub outcome-no-stop : (s : List ℕ) (t : State) → outcome_of s t ≡ outcome.Stop → ⊥
unfolding outcome_at
outcome-no-stop s t e = go (eqb t.refusal.number none) (leb (length s) t.at) e
  where
    go : (a b : Bool) → pick a (pick b outcome.Done outcome.More) (outcome.Refused t.refusal) ≡ outcome.Stop → ⊥
    go true true q = let z : ◌≡◌ {A = ℕ} 0 1 = cc in omega arith
    go true false q = let z : ◌≡◌ {A = ℕ} 0 1 = cc in omega arith
    go false b q = let z : ◌≡◌ {A = ℕ} 0 1 = cc in omega arith

stop-halted : (s : List ℕ) (e : Halted Config) → said_at s e ≡ outcome.Stop → e.halted ≡ true
stop-halted s e q = go e.halted q
  where
    go : (b : Bool) → pick b outcome.Stop (outcome_of s e.config.state) ≡ outcome.Stop → b ≡ true
    go true q = refl
    go false q = absurd (outcome-no-stop s e.config.state q)

ended-goes : (s : List ℕ) (e : Halted Config) → NoStop (said_at s e) → e.halted ≡ false
ended-goes s e q = go e.halted q
  where
    go : (b : Bool) → (pick b outcome.Stop (outcome_of s e.config.state) ≡ outcome.Stop → ⊥) → b ≡ false
    go true q = absurd (q refl)
    go false q = refl

goes-said : (s : List ℕ) (e : Halted Config) → e.halted ≡ false → said_at s e ≡ outcome_of s e.config.state
goes-said s e h = rw h

more-goes : (s : List ℕ) (e : Halted Config) → said_at s e ≡ outcome.More → (e.halted ≡ false) × (is_stopped s e.config ≡ false)
unfolding outcome_at is_stopped
more-goes s e q = go e.halted (eqb e.config.state.refusal.number none) (leb (length s) e.config.state.at) q
  where
    go : (c a b : Bool)
        → pick c outcome.Stop (pick a (pick b outcome.Done outcome.More) (outcome.Refused e.config.state.refusal)) ≡ outcome.More
        → (c ≡ false) × (either (no a) b ≡ false)
    go true a b q = absurd (let z : ◌≡◌ {A = ℕ} 0 1 = cc in omega arith)
    go false true true q = absurd (let z : ◌≡◌ {A = ℕ} 0 1 = cc in omega arith)
    go false true false q = (refl, refl)
    go false false b q = absurd (let z : ◌≡◌ {A = ℕ} 0 1 = cc in omega arith)

refused-number : (s : List ℕ) (e : Halted Config) {refused : Refusal} → said_at s e ≡ outcome.Refused refused →
    (e.config.state.refusal.number ≡ none → ⊥) × (e.config.state.refusal ≡ refused)
unfolding outcome_at
refused-number s e {refused} q =
    go e.halted (eqb e.config.state.refusal.number none) (leb (length s) e.config.state.at)
    (eqb-false e.config.state.refusal.number none) q
  where
    t : State
    t = e.config.state

    go : (c a b : Bool) → (a ≡ false → t.refusal.number ≡ none → ⊥) →
        pick c outcome.Stop (pick a (pick b outcome.Done outcome.More) (outcome.Refused t.refusal)) ≡ outcome.Refused refused →
        (t.refusal.number ≡ none → ⊥) × (t.refusal ≡ refused)
    go true a b n q = absurd (let z : ◌≡◌ {A = ℕ} 0 1 = cc in omega arith)
    go false true true n q = absurd (let z : ◌≡◌ {A = ℕ} 0 1 = cc in omega arith)
    go false true false n q = absurd (let z : ◌≡◌ {A = ℕ} 0 1 = cc in omega arith)
    go false false b n q = (n refl, cc)

-- a held refusal is repeated; a run says a stop, or where it ended
says_by : (s q : List ℕ) (p : Config) → Possible s p →
    says least_blocks s q p ≡ pick (stops least_blocks s q p) outcome.Stop (outcome_of s (leaves least_blocks s q p).state)
unfolding says stops leaves
says_by s q p a =
    ⊎_elim
    (λ (e : eqb p.state.refusal.number none ≡ true).
    let r = a (eqb-true p.state.refusal.number none e) in
    rw (e, run-possible s p e r, r))
    (λ (e : eqb p.state.refusal.number none ≡ false). rw (e, not-run s p e))
    (bool (eqb p.state.refusal.number none))

-- ---- calling on

-- no config has as many steps left as calls are allowed to end
fuel-most : (s : List ℕ) (terms : Terms) (p : Config) → (machine least_blocks s terms).fuel p < line_steps * (length s + 1)
fuel-most s terms p =
    picks (λ (n : ℕ). n < line_steps * (length s + 1)) (eqb p.state.refusal.number none) (steps_left s p) 0
    (λ e.
    picks (λ (n : ℕ). line_steps * (length s - p.state.at) + (n + (most_area_blocks - p.state.stretches)) < line_steps * (length s + 1))
    (is_ready p.state.ready) 0 1
    (λ r. omega arith)
    (λ r. omega arith))
    (λ e. omega arith)

-- ---- a run

module _ (s : List ℕ) (lengths : Lengths) (h : Header) where
  pub runs : Runs s (terms_of lengths h) (Running s lengths h)
  runs = record { sound = running-sound s lengths h; fits = λ p v. v.fits; unrefused = running-line s lengths h }

  abbrev machine_here : Machine
  machine_here = machine least_blocks s (terms_of lengths h)

  abbrev halts_here : Config → Bool
  halts_here = halts_at least_blocks s (terms_of lengths h)

  -- a config of the run that a call may begin from
  pub record Callable (p : Config) : Type 0 where
    pub running : Running s lengths h p
    pub possible : Possible s p

  -- ---- one call

  module _ (q : List ℕ) (p : Config) (v : Callable p) where
    abbrev end : Halted Config
    end = call_ends machine_here halts_here q p

    still : eqb p.state.refusal.number none ≡ false → (end ≡ going_on p) × (call_takes machine_here halts_here q p ≡ 0)
    still e = call-stopped machine_here halts_here (Running s lengths h) (running-sound s lengths h) q p v.running (refused-stopped s p e)

    pub leaves-ends : leaves least_blocks s q p ≡ end.config
    unfolding leaves run_of
    leaves-ends =
        ⊎_elim
        (λ (e : eqb p.state.refusal.number none ≡ true).
        rw (v.possible (eqb-true p.state.refusal.number none e))
        (ap (λ (w : Terms). (call_ends (machine least_blocks s w) (halts_at least_blocks s w) q p).config) (running-terms s lengths h p v.running)))
        (λ (e : eqb p.state.refusal.number none ≡ false).
        rw (not-run s p e) (sym (ap (λ (c : Halted Config). c.config) (still e).0)))
        (bool (eqb p.state.refusal.number none))

    stops-ends : stops least_blocks s q p ≡ end.halted
    unfolding stops run_of
    stops-ends =
        ⊎_elim
        (λ (e : eqb p.state.refusal.number none ≡ true).
        rw (v.possible (eqb-true p.state.refusal.number none e))
        (ap (λ (w : Terms). (call_ends (machine least_blocks s w) (halts_at least_blocks s w) q p).halted) (running-terms s lengths h p v.running)))
        (λ (e : eqb p.state.refusal.number none ≡ false).
        rw (not-run s p e) (sym (ap (λ (c : Halted Config). c.halted) (still e).0)))
        (bool (eqb p.state.refusal.number none))

    takes-ends : takes least_blocks s q p ≡ call_takes machine_here halts_here q p
    unfolding takes run_of
    takes-ends =
        ⊎_elim
        (λ (e : eqb p.state.refusal.number none ≡ true).
        rw (v.possible (eqb-true p.state.refusal.number none e))
        (ap (λ (w : Terms). call_takes (machine least_blocks s w) (halts_at least_blocks s w) q p) (running-terms s lengths h p v.running)))
        (λ (e : eqb p.state.refusal.number none ≡ false). rw (not-run s p e) (sym (still e).1))
        (bool (eqb p.state.refusal.number none))

    says-ends : says least_blocks s q p ≡ said_at s end
    says-ends =
        says_by s q p v.possible
        ∙ ap (λ (b : Bool). pick b outcome.Stop (outcome_of s (leaves least_blocks s q p).state)) stops-ends
        ∙ ap (λ (m : Config). pick end.halted outcome.Stop (outcome_of s m.state)) leaves-ends

    end-running : Running s lengths h end.config
    end-running = call-keeps machine_here halts_here (Running s lengths h) (running-sound s lengths h) q p v.running

    -- at a stop too
    pub end-callable : Callable end.config
    end-callable = record { running = end-running; possible = λ e. running-possible s lengths h end.config end-running (into e) e }
      where
        into : end.config.state.refusal.number ≡ none → can_be_into least_blocks s (terms_of lengths h) end.config.state.at end.config.state.into ≡ true
        into e =
            ⊎_elim
            (λ (t : end.halted ≡ true).
            let c = call-came machine_here halts_here (Running s lengths h) (running-sound s lengths h) q p v.running t in
            none-into s (terms_of lengths h) end.config.state
            (ap (λ (m : Config). m.state.into) c.is ∙ stop-into s lengths h c.from c.keeps c.moves c.halt))
            (λ (t : end.halted ≡ false).
            running-into s lengths h end.config end-running
            (call-waits machine_here halts_here (Running s lengths h) (running-sound s lengths h) q p v.running t) e)
            (bool end.halted)

  -- ---- a sequence of calls

  abbrev made_of : Sent Config → CallsMade
  made_of c = record { config = c.end.config; rest = c.rest; taken = c.taken }

  made_eq : {p r : Config} {x y : List ℕ} {m n : ℕ} → p ≡ r → x ≡ y → m ≡ n →
      ◌≡◌ {A = CallsMade} (record { config = p; rest = x; taken = m }) (record { config = r; rest = y; taken = n })
  made_eq e f g = rw (e, f, g)

  -- each call is one of the machine with stops
  next-send : (q : List ℕ) (c : Sent Config) → Callable c.end.config → next_call least_blocks s q (made_of c) ≡ made_of (send machine_here halts_here q c)
  next-send q c v =
      let piece = c.rest ++ q in
      let p = c.end.config in
      let n = takes-ends piece p v in
      made_eq
      (leaves-ends piece p v)
      (ap (λ (b : Bool). pick b (drop (takes least_blocks s piece p) piece) []) (stops-ends piece p v)
      ∙ ap (λ (i : ℕ). pick (call_ends machine_here halts_here piece p).halted (drop i piece) []) n)
      (ap (λ (i : ℕ). c.taken + i) n)

  pub all-send : (qs : List (List ℕ)) (c : Sent Config) → Callable c.end.config →
      all_calls least_blocks s qs (made_of c) ≡ made_of (send_all machine_here halts_here qs c)
  unfolding all_calls send_all
  all-send [] c v = refl
  all-send (q ∷ qs) c v =
      ap (all_calls least_blocks s qs) (next-send q c v)
      ∙ all-send qs (send machine_here halts_here q c) (end-callable (c.rest ++ q) c.end.config v)

  -- what each call keeps
  module _ (P : Sent Config → Type 0)
      (keeps : (q : List ℕ) (c : Sent Config) → Callable c.end.config → P c → P (send machine_here halts_here q c)) where
    pub all-keeps : (qs : List (List ℕ)) (c : Sent Config) → Callable c.end.config → P c → P (send_all machine_here halts_here qs c)
    unfolding send_all
    all-keeps [] c v x = x
    all-keeps (q ∷ qs) c v x =
        all-keeps qs (send machine_here halts_here q c) (end-callable (c.rest ++ q) c.end.config v) (keeps q c v x)

  pub all-callable : (qs : List (List ℕ)) (c : Sent Config) → Callable c.end.config → Callable (send_all machine_here halts_here qs c).end.config
  all-callable qs c v =
      all-keeps (λ (d : Sent Config). Callable d.end.config) (λ q d w x. end-callable (d.rest ++ q) d.end.config w) qs c v v

  last_says_lem : (q : List ℕ) (qs : List (List ℕ)) (c : Sent Config) → Callable c.end.config →
      last_says least_blocks s q qs (made_of c) ≡ said_at s (send_all machine_here halts_here (q ∷ qs) c).end
  unfolding last_says send_all
  last_says_lem q [] c v = says-ends (c.rest ++ q) c.end.config v
  last_says_lem q (r ∷ qs) c v =
      ap (last_says least_blocks s r qs) (next-send q c v)
      ∙ last_says_lem r qs (send machine_here halts_here q c) (end-callable (c.rest ++ q) c.end.config v)

  -- a call whose outcome is more took its whole piece
  pub last-whole : (q : List ℕ) (qs : List (List ℕ)) (c : Sent Config) → Callable c.end.config → last_says least_blocks s q qs (made_of c) ≡ outcome.More →
      last_takes least_blocks s q qs (made_of c) ≡ length (last_piece least_blocks s q qs (made_of c))
  unfolding last_says last_takes last_piece
  last-whole q [] c v e =
      let piece = c.rest ++ q in
      let p = c.end.config in
      let m = more-goes s (call_ends machine_here halts_here piece p) (sym (says-ends piece p v) ∙ e) in
      takes-ends piece p v
      ∙ call-all machine_here halts_here (Running s lengths h) (running-sound s lengths h) piece p v.running m.0 m.1
  last-whole q (r ∷ qs) c v e =
      let d = next-send q c v in
      subst (λ (x : CallsMade). last_takes least_blocks s r qs x ≡ length (last_piece least_blocks s r qs x)) (sym d)
      (last-whole r qs (send machine_here halts_here q c) (end-callable (c.rest ++ q) c.end.config v)
      (ap (last_says least_blocks s r qs) (sym d) ∙ e))

  -- the total of a state is that at the start and the bytes taken since
  abbrev Counted : ℕ → Sent Config → Type 0
  Counted t c = c.end.config.state.total ≡ (t + c.taken) % 2 ^ 64

  counted-send : (t : ℕ) (q : List ℕ) (c : Sent Config) → Callable c.end.config → Counted t c → Counted t (send machine_here halts_here q c)
  counted-send t q c v e =
      let piece = c.rest ++ q in
      let p = c.end.config in
      let n = call_takes machine_here halts_here piece p in
      let a : (t + c.taken) + n ≡ t + (c.taken + n) = omega arith in
      call-total machine_here (Running s lengths h) (running-sound s lengths h) (λ (m : Config). m.state.total) (2 ^ 64) (λ m u. u.fits.total)
      (λ m u w. quiet-total s (terms_of lengths h) m) (λ m x. put-total s (terms_of lengths h) m x) halts_here piece p v.running
      ∙ ap (λ (i : ℕ). (i + n) % 2 ^ 64) e
      ∙ mod-add-mod (t + c.taken) (2 ^ 64) n
      ∙ ap (λ (i : ℕ). i % 2 ^ 64) a

  module _ (p : Config) (v : Callable p) where
    pub all-sent : (qs : List (List ℕ)) → all_calls least_blocks s qs (no_calls p) ≡ made_of (send_all machine_here halts_here qs (start p))
    all-sent qs = all-send qs (start p) v

    pub all-total : (qs : List (List ℕ)) →
        (all_calls least_blocks s qs (no_calls p)).config.state.total ≡ (p.state.total + (all_calls least_blocks s qs (no_calls p)).taken) % 2 ^ 64
    all-total qs =
        let n : p.state.total ≡ (p.state.total + 0) % 2 ^ 64 = rw add-zero (sym (mod-eq_of_lt v.running.fits.total)) in
        subst (λ (c : CallsMade). c.config.state.total ≡ (p.state.total + c.taken) % 2 ^ 64) (sym (all-sent qs))
        (all-keeps (Counted p.state.total) (counted-send p.state.total) qs (start p) v n)

    module _ (q : List ℕ) (qs : List (List ℕ)) where
      abbrev sent : Sent Config
      sent = send_all machine_here halts_here (q ∷ qs) (start p)

      said-sent : last_says least_blocks s q qs (no_calls p) ≡ said_at s sent.end
      said-sent = last_says_lem q qs (start p) v

      pub stop-sent : last_says least_blocks s q qs (no_calls p) ≡ outcome.Stop → sent.end.halted ≡ true
      stop-sent e = stop-halted s sent.end (sym said-sent ∙ e)

      pub more-sent : last_says least_blocks s q qs (no_calls p) ≡ outcome.More → is_stopped s sent.end.config ≡ false
      more-sent e = (more-goes s sent.end (sym said-sent ∙ e)).1

      -- calling on comes to an end: each stop has cost a step
      pub all-ends : NoStop (last_says least_blocks s q (qs ++ replicate (line_steps * (length s + 1)) []) (no_calls p))
      all-ends f =
          let n = line_steps * (length s + 1) in
          let stopped = stop-halted s (send_all machine_here halts_here (q ∷ (qs ++ replicate n [])) (start p)).end (sym (last_says_lem q (qs ++ replicate n []) (start p) v) ∙ f) in
          let on = ap (λ (c : Sent Config). c.end.halted) (send-append machine_here halts_here (q ∷ qs) (replicate n []) (start p)) in
          let ends =
          calling_on-ends machine_here halts_here (Running s lengths h) (running-sound s lengths h) (λ m x w t u. put_burns_none s (terms_of lengths h) m x) n
          sent (all-callable (q ∷ qs) (start p) v).running (fuel-most s (terms_of lengths h) sent.end.config) in
          never (sym stopped ∙ on ∙ ends)

      -- a sequence of calls whose last one did not stop
      module _ (e : NoStop (last_says least_blocks s q qs (no_calls p))) where
        ended-sent : sent.end.halted ≡ false
        ended-sent = ended-goes s sent.end (λ f. e (said-sent ∙ f))

        -- .. ends as the run past every stop does, over all the bytes
        pub ended-feeds : (all_calls least_blocks s (q ∷ qs) (no_calls p)).config ≡ feeds machine_here (joined (q ∷ qs)) p
        ended-feeds =
            ap (λ (c : CallsMade). c.config) (all-sent (q ∷ qs))
            ∙ (sequence_ends machine_here halts_here (Running s lengths h) (running-sound s lengths h) q qs p v.running ended-sent).0

        pub ended-counts : (all_calls least_blocks s (q ∷ qs) (no_calls p)).taken ≡ counts machine_here (joined (q ∷ qs)) p
        ended-counts =
            ap (λ (c : CallsMade). c.taken) (all-sent (q ∷ qs))
            ∙ (sequence_ends machine_here halts_here (Running s lengths h) (running-sound s lengths h) q qs p v.running ended-sent).1

        pub ended-says : last_says least_blocks s q qs (no_calls p) ≡ outcome_of s (all_calls least_blocks s (q ∷ qs) (no_calls p)).config.state
        ended-says =
            said-sent
            ∙ goes-said s sent.end ended-sent
            ∙ ap (λ (c : CallsMade). outcome_of s c.config.state) (sym (all-sent (q ∷ qs)))

      -- a run can only be refused with 16 or 19
      pub last-only : {refused : Refusal} → last_says least_blocks s q qs (no_calls p) ≡ outcome.Refused refused → InRun refused.number
      last-only e =
          let f = refused-number s sent.end (sym said-sent ∙ e) in
          ⊎_elim
          (λ z. absurd (f.0 z))
          (λ z. subst InRun (ap (λ (r : Refusal). r.number) f.1) z)
          (running-only s lengths h sent.end.config (all-callable (q ∷ qs) (start p) v).running)
