-- The loops that call: one calls on until a call does not stop, which ends since each stop has cost a step; one goes over the pieces that are cut from
-- the data. Together they come to `run_all`, and that to what the model gives.
-- Assumes nothing.
use mathlib.Core.Path.{◌≡◌, refl, sym, ap, subst, ◌∙◌}
use mathlib.Core.Bool.{Bool, true, false}
use mathlib.Core.List.{List, [], ◌∷◌, ◌++◌, append-nil}
use Prim.Native.Nat.{ℕ, zero, suc, ◌+◌, ◌-◌, ◌≤◌, ◌<◌}
use native.Mathlib.Nat.{zero-add}
use native.Mathlib.Omega.{arith}
use borrow.Author.Tests.{ne_eqb}
use lib.Dec.{eqb}
use lib.ListN.{length, take, drop, replicate, length-take, length-drop, take-append-drop}
use lib.Seq.{take_all, drop-drop}
use Rattle.text.specs.Choice.{pick, both}
use Rattle.text.proofs.ChoiceLaws.{both_true}
use Rattle.ranges.specs.Ranges.{least_blocks}
use Rattle.state.specs.Refusals.{none, state_impossible}
use Rattle.state.specs.States.{refusing}
use Rattle.state.specs.declared.Lengths.{Lengths}
use Rattle.state.specs.declared.State.{State}
use Rattle.rules.specs.declared.Terms.{Terms}
use Rattle.transfer_list.specs.Opening.{terms_of, open_refusal, open_state, accepted_state, refused_state}
use Rattle.transfer_list.specs.declared.header.Header.{Header}
use Rattle.possible.specs.Possible.{is_possible, terms_for}
use Rattle.machine.specs.Machine.{Machine, feeds, counts}
use Rattle.machine.specs.Pieces.{joined}
use Rattle.machine.specs.Stops.{start}
use Rattle.machine.proofs.MachineLaws.{feeds-append, counts-append, counts-most}
use Rattle.machine.proofs.StopLaws.{call-keeps, call_burns}
use Rattle.updater.specs.Areas.{Areas}
use Rattle.updater.specs.Fits.{Typed, Fits}
use Rattle.updater.specs.Steps.{Config, config_of}
use Rattle.updater.specs.Run.{steps_left, halts_at, machine, run_of}
use Rattle.updater.specs.Calls.{outcome_of, lengths_at, is_run, leaves, takes, stops, says, Left, CallResult, result_of, call_of}
use Rattle.updater.specs.declared.Outcome.{Outcome}
use Rattle.updater.specs.declared.Outcome.TheVariants as outcome
use Rattle.updater.proofs.FitLaws.{fits-sound, put_burns_none}
use Rattle.updater.proofs.CallLaws.{possible-fits, call-leaves, call_takes_lem, call-says, call-most}
use Rattle.sequence.specs.Model.{Model, model, model_outcome}
use Rattle.sequence.specs.Sequence.{CallsMade, no_calls, piece_of, next_call, all_calls, last_says}
use Rattle.sequence.specs.Claim.{opened_config, Accepted, NoStop}
use Rattle.sequence.specs.Cuts.{CallsOn, past_stops, run_all, RunAgrees, RunMeets, RunClaim}
use Rattle.sequence.proofs.Running.{Running}
use Rattle.sequence.proofs.RunningLaws.{running-sound}
use Rattle.sequence.proofs.PossibleLaws.{running-terms}
use Rattle.sequence.proofs.SequenceLaws.{outcome-no-stop, Callable, all-sent, all-callable, ended-feeds, ended-counts, ended-says}
use Rattle.sequence.proofs.ClaimLaws.{claim, header, starts-callable, model-feeds, feeds-holds}

-- ---- a call that stops

-- the steps that are left at the most: no more calls can stop
abbrev pub stops_left : List ℕ → Config → ℕ
stops_left s p = pick (eqb p.state.refusal.number none) (steps_left s p) 0

module _ (s q : List ℕ) (p : Config) where
  -- it was a run
  says-stop : says least_blocks s q p ≡ outcome.Stop → (is_run least_blocks s p ≡ true) × (stops least_blocks s q p ≡ true)
  unfolding says is_run
  says-stop e =
      go (eqb p.state.refusal.number none) (is_possible least_blocks s (lengths_at s p.areas) p.state) (stops least_blocks s q p) e
    where
      go : (a b c : Bool) →
          pick a
          (pick b (pick c outcome.Stop (outcome_of s (leaves least_blocks s q p).state)) (outcome.Refused (refusing state_impossible 0)))
          (outcome_of s p.state)
          ≡ outcome.Stop →
          (both a b ≡ true) × (c ≡ true)
      go true true true e = (refl, refl)
      go true true false e = absurd (outcome-no-stop s (leaves least_blocks s q p).state e)
      go true false c e = absurd (let z : ◌≡◌ {A = ℕ} 0 1 = cc in omega arith)
      go false b c e = absurd (outcome-no-stop s p.state e)

  -- from such a state
  module _ (typed : Typed p.state) (e : says least_blocks s q p ≡ outcome.Stop) where
    abbrev terms : Terms
    terms = terms_for s (lengths_at s p.areas)

    stop-fits : Fits s terms p
    unfolding is_run
    stop-fits =
        possible-fits s p
        (both_true (eqb p.state.refusal.number none) (is_possible least_blocks s (lengths_at s p.areas) p.state) (says-stop e).0).1
        typed

    -- .. it has cost a step
    stop_burns : stops_left s (leaves least_blocks s q p) < stops_left s p
    unfolding leaves stops run_of
    stop_burns =
        let x = says-stop e in
        rw x.0
        ((call_burns (machine least_blocks s terms) (halts_at least_blocks s terms) (Fits s terms) (fits-sound s terms)
        (λ m y v w t. put_burns_none s terms m y) q p stop-fits).less (rw x.0 at x.1))

    -- .. and it leaves such a state
    stop-keeps : Typed (leaves least_blocks s q p).state
    unfolding leaves run_of
    stop-keeps =
        let f = call-keeps (machine least_blocks s terms) (halts_at least_blocks s terms) (Fits s terms) (fits-sound s terms) q p stop-fits in
        rw (says-stop e).0 (record { hashes = f.whole.hashes; sizes = f.whole.sizes; total = f.total })

-- ---- the loop that calls on

-- before a call with no fresh bytes, p and the bytes that are handed on
abbrev handed_on : Config → List ℕ → ℕ → CallsMade
handed_on p rest taken = record { config = p; rest = rest; taken = taken }

calls_last : (s : List ℕ) (n : ℕ) (c : CallsMade) → all_calls least_blocks s (replicate (suc n) []) c ≡ next_call least_blocks s [] (all_calls least_blocks s (replicate n []) c)
unfolding all_calls
calls_last s zero c = refl
calls_last s (suc n) c = calls_last s n (next_call least_blocks s [] c)

says_last : (s : List ℕ) (n : ℕ) (c : CallsMade) →
    last_says least_blocks s [] (replicate n []) c
    ≡ says least_blocks s (piece_of (all_calls least_blocks s (replicate n []) c) []) (all_calls least_blocks s (replicate n []) c).config
unfolding all_calls last_says
says_last s zero c = refl
says_last s (suc n) c = says_last s n (next_call least_blocks s [] c)

-- the first piece may as well be handed on
module _ (s piece : List ℕ) (p : Config) where
  first_next : next_call least_blocks s piece (no_calls p) ≡ next_call least_blocks s [] (handed_on p piece 0)
  first_next = rw append-nil

  first-calls : (n : ℕ) → all_calls least_blocks s (piece ∷ replicate n []) (no_calls p) ≡ all_calls least_blocks s (replicate (suc n) []) (handed_on p piece 0)
  unfolding all_calls
  first-calls n = ap (all_calls least_blocks s (replicate n [])) first_next

  first_says : (n : ℕ) → last_says least_blocks s piece (replicate n []) (no_calls p) ≡ last_says least_blocks s [] (replicate n []) (handed_on p piece 0)
  unfolding last_says
  first_says zero = rw append-nil
  first_says (suc n) = ap (last_says least_blocks s [] (replicate n [])) first_next

-- after some calls that all stopped, p stands and `at` bytes of the piece are taken
pub record CallingOn (s piece : List ℕ) (p₀ p : Config) (at : ℕ) : Type 0 where
  pub stopped : ℕ
  pub made : all_calls least_blocks s (replicate stopped []) (handed_on p₀ piece 0) ≡ handed_on p (drop at piece) at
  pub within : at ≤ length piece
  pub typed : Typed p.state

module _ (s piece : List ℕ) where
  pub calling_start : (p : Config) → Typed p.state → CallingOn s piece p p 0
  unfolding all_calls
  calling_start p t = record { stopped = 0; made = refl; within = omega arith; typed = t }

  module _ {p₀ p : Config} {at : ℕ} (v : CallingOn s piece p₀ p at) {areas : Areas} {called : Left}
      (r : result_of areas called ≡ call_of least_blocks s (take (length piece - at) (drop at piece)) p) where
    all_left : take (length piece - at) (drop at piece) ≡ drop at piece
    all_left = let l = length-drop at piece in take_all (length piece - at) (drop at piece) (omega arith)

    -- the bytes taken stay within the piece
    pub calling_within : at + called.taken ≤ length piece
    calling_within =
        let a = call-most s (take (length piece - at) (drop at piece)) p r in
        let l = ap length all_left ∙ length-drop at piece in
        let w = v.within in
        omega arith

    abbrev next : CallsMade
    next = next_call least_blocks s [] (handed_on p (drop at piece) at)

    next-made : all_calls least_blocks s (replicate (suc v.stopped) []) (handed_on p₀ piece 0) ≡ next
    next-made = calls_last s v.stopped (handed_on p₀ piece 0) ∙ ap (next_call least_blocks s []) v.made

    piece-here : take (length piece - at) (drop at piece) ≡ drop at piece ++ []
    piece-here = all_left ∙ sym (append-nil (drop at piece))

    next-config : config_of areas called.state ≡ next.config
    next-config = call-leaves s (take (length piece - at) (drop at piece)) p r ∙ ap (λ (l : List ℕ). leaves least_blocks s l p) piece-here

    next-taken : at + called.taken ≡ next.taken
    next-taken =
        ap (λ (n : ℕ). at + n)
        (call_takes_lem s (take (length piece - at) (drop at piece)) p r ∙ ap (λ (l : List ℕ). takes least_blocks s l p) piece-here)

    next-says : called.outcome ≡ says least_blocks s (drop at piece ++ []) p
    next-says = call-says s (take (length piece - at) (drop at piece)) p r ∙ ap (λ (l : List ℕ). says least_blocks s l p) piece-here

    -- the call stopped
    module _ (e : called.outcome ≡ outcome.Stop) where
      pub calling_burns : stops_left s (config_of areas called.state) < stops_left s p
      calling_burns =
          subst (λ (m : Config). stops_left s m < stops_left s p) (sym next-config)
          (stop_burns s (drop at piece ++ []) p v.typed (sym next-says ∙ e))

      next-rest : next.rest ≡ drop (at + called.taken) piece
      next-rest =
          let stopped = (says-stop s (drop at piece ++ []) p (sym next-says ∙ e)).1 in
          rw stopped
          (ap (λ (l : List ℕ). drop (takes least_blocks s (drop at piece ++ []) p) l) (append-nil (drop at piece))
          ∙ drop-drop (takes least_blocks s (drop at piece ++ []) p) at piece
          ∙ ap (λ (n : ℕ). drop n piece) (sym next-taken))

      pub calling_more : CallingOn s piece p₀ (config_of areas called.state) (at + called.taken)
      calling_more =
          record {
            stopped = suc v.stopped;
            made = next-made ∙ made_eq (sym next-config) next-rest (sym next-taken);
            within = calling_within;
            typed =
                subst (λ (m : Config). Typed m.state) (sym next-config)
                (stop-keeps s (drop at piece ++ []) p v.typed (sym next-says ∙ e));
          }
        where
          made_eq : {m n : Config} {x y : List ℕ} {i j : ℕ} → m ≡ n → x ≡ y → i ≡ j → handed_on m x i ≡ handed_on n y j
          made_eq a b c = rw (a, b, c)

    -- it did not
    pub calling_ends : NoStop called.outcome →
        CallsOn s piece p₀ (result_of areas (record { state = called.state; outcome = called.outcome; taken = at + called.taken }))
    calling_ends n =
        let all = first-calls s piece p₀ v.stopped ∙ next-made in
        let config = next-config ∙ sym (ap (λ (c : CallsMade). c.config) all) in
        record {
          stops = v.stopped;
          areas = ap (λ (c : Config). c.areas) config;
          state = ap (λ (c : Config). c.state) config;
          outcome =
              next-says
              ∙ sym
              (first_says s piece p₀ v.stopped
              ∙ says_last s v.stopped (handed_on p₀ piece 0)
              ∙ ap (λ (c : CallsMade). says least_blocks s (piece_of c []) c.config) v.made);
          taken = next-taken ∙ sym (ap (λ (c : CallsMade). c.taken) all);
          ended = n;
        }

-- ---- the loop over the cuts

joined-none : (n : ℕ) → joined (replicate n []) ≡ []
unfolding joined
joined-none zero = refl
joined-none (suc n) = joined-none n

joined-first : (piece : List ℕ) (n : ℕ) → joined (piece ∷ replicate n []) ≡ piece
unfolding joined
joined-first piece n = ap (λ (l : List ℕ). piece ++ l) (joined-none n) ∙ append-nil piece

-- calling on from a config of a run comes to the run past every stop over the piece
module _ (s : List ℕ) (lengths : Lengths) (h : Header) (piece : List ℕ) (p : Config) (v : Callable s lengths h p) {r : CallResult} (k : CallsOn s piece p r) where
  abbrev machine_on : Machine
  machine_on = machine least_blocks s (terms_of lengths h)

  said-last : NoStop (last_says least_blocks s piece (replicate k.stops []) (no_calls p))
  said-last e = k.ended (k.outcome ∙ e)

  on-is : config_of r.areas r.called.state ≡ (all_calls least_blocks s (piece ∷ replicate k.stops []) (no_calls p)).config
  on-is = rw (k.areas, k.state)

  on-feeds : config_of r.areas r.called.state ≡ feeds machine_on piece p
  on-feeds =
      on-is
      ∙ ended-feeds s lengths h p v piece (replicate k.stops []) said-last
      ∙ ap (λ (l : List ℕ). feeds machine_on l p) (joined-first piece k.stops)

  on-counts : r.called.taken ≡ counts machine_on piece p
  on-counts =
      k.taken
      ∙ ended-counts s lengths h p v piece (replicate k.stops []) said-last
      ∙ ap (λ (l : List ℕ). counts machine_on l p) (joined-first piece k.stops)

  on-says : r.called.outcome ≡ outcome_of s (feeds machine_on piece p).state
  on-says =
      k.outcome
      ∙ ended-says s lengths h p v piece (replicate k.stops []) said-last
      ∙ ap (λ (c : Config). outcome_of s c.state) (sym on-is ∙ on-feeds)

  on-callable : Callable s lengths h (config_of r.areas r.called.state)
  on-callable =
      let q = piece ∷ replicate k.stops [] in
      subst (Callable s lengths h) (sym (on-is ∙ ap (λ (c : CallsMade). c.config) (all-sent s lengths h p v q)))
      (all-callable s lengths h q (start p) v)

  on-most : r.called.taken ≤ length piece
  on-most = rw on-counts (counts-most machine_on (Running s lengths h) (running-sound s lengths h) piece p)

-- the bytes that are left, from byte `from` on, come with the total so far to what all of them come to
pub record Cutting (s bytes : List ℕ) (p₀ p : Config) (from total : ℕ) : Type 0 where
  pub header : Header
  pub terms : terms_for s (lengths_at s p₀.areas) ≡ terms_of (lengths_at s p₀.areas) header
  pub callable : Callable s (lengths_at s p₀.areas) header p
  pub left : feeds (machine least_blocks s (terms_of (lengths_at s p₀.areas) header)) (drop from bytes) p
      ≡ feeds (machine least_blocks s (terms_of (lengths_at s p₀.areas) header)) bytes p₀
  pub taken : total + counts (machine least_blocks s (terms_of (lengths_at s p₀.areas) header)) (drop from bytes) p
      ≡ counts (machine least_blocks s (terms_of (lengths_at s p₀.areas) header)) bytes p₀
  pub within : from ≤ length bytes
  pub fits : total ≤ from

-- an opening that was accepted
pub cutting_start : (s bytes : List ℕ) (a : Areas) {opened : State} → opened ≡ open_state least_blocks s (lengths_at s a) → opened.refusal.number ≡ none →
    Cutting s bytes (config_of a opened) (config_of a opened) 0 0
cutting_start s bytes a o z =
    let e = claim.decided s a (rw o at z) in
    let v = starts-callable s a e in
    rw o
    (record {
      header = header s a e;
      terms = running-terms s (lengths_at s a) (header s a e) (opened_config s a) v.running;
      callable = v;
      left = refl;
      taken = zero-add _;
      within = omega arith;
      fits = omega arith;
    })

module _ (s bytes : List ℕ) {p₀ p : Config} {from total : ℕ} (v : Cutting s bytes p₀ p from total) where
  abbrev lengths_cut : Lengths
  lengths_cut = lengths_at s p₀.areas

  abbrev machine_cut : Machine
  machine_cut = machine least_blocks s (terms_of lengths_cut v.header)

  -- a piece of the bytes that are left
  module _ {end : ℕ} (l : from ≤ end) (m : end ≤ length bytes) {r : CallResult} (k : CallsOn s (take (end - from) (drop from bytes)) p r) where
    abbrev piece : List ℕ
    piece = take (end - from) (drop from bytes)

    split : piece ++ drop end bytes ≡ drop from bytes
    split =
        let f : from + (end - from) ≡ end = omega arith in
        ap (λ (l : List ℕ). piece ++ l) (ap (λ (i : ℕ). drop i bytes) (sym f) ∙ sym (drop-drop (end - from) from bytes))
        ∙ take-append-drop (end - from) (drop from bytes)

    -- the total stays within the data
    pub cutting_within : (total + r.called.taken ≤ end) × (total + r.called.taken ≤ length bytes)
    cutting_within =
        let a = on-most s lengths_cut v.header piece p v.callable k in
        let b = length-take (end - from) (drop from bytes) in
        let c = v.fits in
        (omega arith, omega arith)

    pub cutting_more : Cutting s bytes p₀ (config_of r.areas r.called.state) end (total + r.called.taken)
    cutting_more =
        let x = v.callable in
        let Inv = Running s lengths_cut v.header in
        let g = running-sound s lengths_cut v.header in
        let a = on-feeds s lengths_cut v.header piece p x k in
        let b = on-counts s lengths_cut v.header piece p x k in
        let c = counts-append machine_cut Inv g piece (drop end bytes) p x.running in
        let d = ap (λ (l : List ℕ). counts machine_cut l p) split in
        let f = ap (counts machine_cut (drop end bytes)) a in
        let t = v.taken in
        record {
          header = v.header;
          terms = v.terms;
          callable = on-callable s lengths_cut v.header piece p x k;
          left =
              ap (feeds machine_cut (drop end bytes)) a
              ∙ sym (feeds-append machine_cut Inv g piece (drop end bytes) p x.running)
              ∙ ap (λ (l : List ℕ). feeds machine_cut l p) split
              ∙ v.left;
          taken = omega arith;
          within = m;
          fits = cutting_within.0;
        }

  -- all that is left
  pub cutting_ends : {r : CallResult} → CallsOn s (take (length bytes - from) (drop from bytes)) p r →
      result_of r.areas (record { state = r.called.state; outcome = r.called.outcome; taken = total + r.called.taken })
      ≡ past_stops s (terms_for s (lengths_at s p₀.areas)) bytes p₀
  cutting_ends {r} k =
      let x = v.callable in
      let left = take (length bytes - from) (drop from bytes) in
      let all : left ≡ drop from bytes = let l = length-drop from bytes in take_all (length bytes - from) (drop from bytes) (omega arith) in
      let end : feeds machine_cut left p ≡ feeds machine_cut bytes p₀ = ap (λ (l : List ℕ). feeds machine_cut l p) all ∙ v.left in
      let config = on-feeds s lengths_cut v.header left p x k ∙ end in
      let took = on-counts s lengths_cut v.header left p x k ∙ ap (λ (l : List ℕ). counts machine_cut l p) all in
      let t = v.taken in
      subst
      (λ (terms : Terms).
      result_of r.areas (record { state = r.called.state; outcome = r.called.outcome; taken = total + r.called.taken }) ≡ past_stops s terms bytes p₀)
      (sym v.terms)
      (result_eq (ap (λ (c : Config). c.areas) config) (ap (λ (c : Config). c.state) config)
      (on-says s lengths_cut v.header left p x k ∙ ap (λ (c : Config). outcome_of s c.state) end)
      (omega arith))
    where
      result_eq : {b c : Areas} {t u : State} {x y : Outcome} {m n : ℕ} → b ≡ c → t ≡ u → x ≡ y → m ≡ n →
          result_of b (record { state = t; outcome = x; taken = m }) ≡ result_of c (record { state = u; outcome = y; taken = n })
      result_eq e f g h = rw (e, f, g, h)

-- ---- an opening and the run after it

-- an opening's state holds its refusal, if any
module _ (s : List ℕ) (lengths : Lengths) where
  open_free : (open_refusal least_blocks s lengths).number ≡ none → (open_state least_blocks s lengths).refusal.number ≡ none
  unfolding open_state accepted_state
  open_free e = rw e

  open_refusal_lem : ((open_refusal least_blocks s lengths).number ≡ none → ⊥) → (open_state least_blocks s lengths).refusal ≡ open_refusal least_blocks s lengths
  unfolding open_state refused_state
  open_refusal_lem h = rw (ne_eqb (open_refusal least_blocks s lengths).number none h)

module _ (s : List ℕ) (a : Areas) (bytes : List ℕ) {opened : State} (o : opened ≡ open_state least_blocks s (lengths_at s a)) where
  pub run-refused : (opened.refusal.number ≡ none → ⊥) →
      result_of a (record { state = opened; outcome = outcome.Refused opened.refusal; taken = 0 }) ≡ run_all s a bytes
  unfolding run_all
  run-refused h =
      let n : (open_refusal least_blocks s (lengths_at s a)).number ≡ none → ⊥ = λ z. h (rw o (open_free s (lengths_at s a) z)) in
      rw (ne_eqb (open_refusal least_blocks s (lengths_at s a)).number none n, o, open_refusal_lem s (lengths_at s a) n)

  pub run-accepted : opened.refusal.number ≡ none → {r : CallResult} → r ≡ past_stops s (terms_for s (lengths_at s a)) bytes (config_of a opened) →
      r ≡ run_all s a bytes
  unfolding run_all
  run-accepted z e =
      let k = claim.decided s a (rw o at z) in
      rw k (e ∙ rw o)

-- THE CLAIM, of a run of all the data
accepted-runs : (s : List ℕ) (a : Areas) → Accepted s a → (bytes : List ℕ) → run_all s a bytes ≡ past_stops s (terms_for s (lengths_at s a)) bytes (opened_config s a)
unfolding run_all
accepted-runs s a e bytes = rw e

pub run-claim : RunClaim
run-claim s a bytes e =
    let first = opened_config s a in
    let terms = running-terms s (lengths_at s a) (header s a e) first (starts-callable s a e).running in
    let m = sym (model-feeds s a e bytes) in
    subst (λ (r : CallResult). RunAgrees s a r (model least_blocks s a bytes))
    (sym (accepted-runs s a e bytes ∙ ap (λ (t : Terms). past_stops s t bytes first) terms))
    (record {
      areas = ap (λ (x : Model). x.areas) m;
      state = feeds-holds s a e bytes;
      outcome = ap (model_outcome s) m;
      taken = ap (λ (x : Model). x.taken) m;
    })

-- a result that is `run_all` meets the claim
pub with_claim : (s : List ℕ) (a : Areas) (bytes : List ℕ) {r : CallResult} → r ≡ run_all s a bytes → (r ≡ run_all s a bytes) × RunMeets s a bytes r
with_claim s a bytes e = (e, λ k. rw e (run-claim s a bytes k))
