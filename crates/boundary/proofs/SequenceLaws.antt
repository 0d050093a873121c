-- Sequences of calls through the exports are those of the claim, call by call.
-- Assumes nothing.
use Prim.Native.Nat.{ℕ, ◌+◌, ◌*◌, ◌<◌, ◌^◌}
use mathlib.Core.Path.{◌≡◌, refl, sym, ap, ◌∙◌}
use mathlib.Core.Bool.{Bool, true, false}
use mathlib.Core.List.{List, [], ◌∷◌, ◌++◌}
use native.Mathlib.Omega.{arith}
use borrow.Author.Tests.{ne_eqb}
use lib.Dec.{eqb}
use lib.ListN.{length, get_or, drop, replicate}
use Rattle.std.specs.Prelude.{Ok}
use Rattle.text.specs.Below.{AllBelow}
use Rattle.text.specs.Choice.{pick, both}
use Rattle.ranges.specs.Ranges.{least_blocks}
use Rattle.state.specs.Refusals.{none, state_impossible}
use Rattle.state.specs.States.{refusing}
use Rattle.state.specs.declared.State.{State}
use Rattle.possible.specs.Possible.{is_possible}
use Rattle.machine.specs.Pieces.{joined}
use Rattle.updater.specs.Areas.{Areas}
use Rattle.updater.specs.Run.{line_steps}
use Rattle.updater.specs.Calls.{outcome_of, lengths_at, is_run, leaves, takes, stops, says, call_of}
use Rattle.updater.specs.Steps.{Config, config_of}
use Rattle.updater.specs.declared.Outcome.{Outcome}
use Rattle.updater.specs.declared.Outcome.TheVariants.{Done, More, Stop, Refused}
use Rattle.saved.specs.Restored.{restored_of}
use Rattle.saved.specs.Saved.{saved_of}
use Rattle.saved.proofs.ClaimLaws.{claim as saved-claim}
use Rattle.sequence.specs.Claim.{opened_config, Accepted, NoStop}
use Rattle.sequence.specs.Model.{model}
use Rattle.sequence.specs.Sequence.{CallsMade, no_calls, piece_of, next_call, all_calls, last_says, last_takes}
use Rattle.sequence.proofs.SequenceLaws.{outcome-no-stop}
use Rattle.sequence.proofs.ClaimLaws.{claim}
use Rattle.restart.specs.Writes.{AreasOutside}
use Rattle.restart.specs.Restart.{writes, opening as stands-opening}
use Rattle.restart.proofs.ClaimLaws.{restart_claim}
use Rattle.muongrabi.specs.Answers.{outcome_number, outcome_numbers, answer_of, Opened, Answered, answered_as, answer_to, Calls}
use Rattle.muongrabi.proofs.AnswerLaws.{called-saved}
use Rattle.boundary.specs.Sequence.{Kept, keeping, outcome_in, IsStop, keeping_on, ExportedCalls, last, next, AcceptedOpening, Follows, EndsAs, KeptAlike, Stored}

-- ---- whether a call stopped is told by its answer

number-stop : (o : Outcome) → outcome_number o ≡ outcome_number Stop → o ≡ Stop
number-stop Done e = absurd (omega arith)
number-stop More e = absurd (omega arith)
number-stop Stop e = refl
number-stop (Refused refusal) e = absurd (omega arith)

module _ (s piece : List ℕ) (p : Config) where
  -- what is not a run does not stop
  no_run : is_run least_blocks s p ≡ false → stops least_blocks s piece p ≡ false
  unfolding stops
  no_run e = rw e

  stop-told : eqb (outcome_number (says least_blocks s piece p)) (outcome_number Stop) ≡ stops least_blocks s piece p
  unfolding says is_run
  stop-told =
      go (eqb p.state.refusal.number none) (is_possible least_blocks s (lengths_at s p.areas) p.state) (stops least_blocks s piece p) no_run
    where
      other : (t : State) → eqb (outcome_number (outcome_of s t)) (outcome_number Stop) ≡ false
      other t = ne_eqb (outcome_number (outcome_of s t)) (outcome_number Stop) (λ e. outcome-no-stop s t (number-stop (outcome_of s t) e))

      go : (a b c : Bool) → (both a b ≡ false → c ≡ false) →
          eqb
          (outcome_number
          (pick a (pick b (pick c Stop (outcome_of s (leaves least_blocks s piece p).state)) (Refused (refusing state_impossible 0))) (outcome_of s p.state)))
          (outcome_number Stop)
          ≡ c
      go true true true h = refl
      go true true false h = other (leaves least_blocks s piece p).state
      go true false c h = sym (h refl)
      go false b c h = other p.state ∙ sym (h refl)

-- ---- one call

-- what a caller keeps stands for what the calls of the claim made
record Stands (c : Kept) (m : CallsMade) : Type 0 where
  areas : c.areas ≡ m.config.areas
  read : restored_of c.state ≡ Ok m.config.state
  rest : c.rest ≡ m.rest
  taken : c.taken ≡ m.taken

module _ (s q : List ℕ) {c : Kept} {m : CallsMade} {areas : Areas} {state answer : List ℕ}
    (v : Stands c m) (h : Calls s (c.rest ++ q) c.areas c.state areas state answer) where
  abbrev piece : List ℕ
  piece = piece_of m q

  called : answered_as areas state answer ≡ answer_to (call_of least_blocks s piece m.config)
  called =
      h
      ∙ sym (called-saved s (c.rest ++ q) c.areas c.state m.config.state v.read (call_of least_blocks s piece m.config)
      (rw (v.areas, v.rest)))

  call-areas : areas ≡ (leaves least_blocks s piece m.config).areas
  unfolding call_of
  call-areas = ap (λ (x : Answered). x.areas) called

  call-state : state ≡ saved_of (leaves least_blocks s piece m.config).state
  unfolding call_of
  call-state = ap (λ (x : Answered). x.state) called

  call-read : restored_of state ≡ Ok (leaves least_blocks s piece m.config).state
  unfolding call_of
  call-read = ap (λ (x : Answered). x.read) called

  call-answer : answer ≡ answer_of (says least_blocks s piece m.config) (takes least_blocks s piece m.config)
  unfolding call_of
  call-answer = ap (λ (x : Answered). x.answer) called

  call-stands : Stands (keeping_on c (c.rest ++ q) areas state answer) (next_call least_blocks s q m)
  call-stands =
      record {
        areas = call-areas;
        read = call-read;
        rest = rw (call-answer, v.rest, stop-told s piece m.config);
        taken = rw (call-answer, v.taken);
      }

-- ---- all calls

record Ends (s : List ℕ) (m : CallsMade) (q : List ℕ) (qs : List (List ℕ)) (d : Kept) (said : List ℕ) : Type 0 where
  stands : Stands d (all_calls least_blocks s (q ∷ qs) m)
  state : d.state ≡ saved_of (all_calls least_blocks s (q ∷ qs) m).config.state
  answer : said ≡ answer_of (last_says least_blocks s q qs m) (last_takes least_blocks s q qs m)

all_end : (s : List ℕ) {c d : Kept} {q : List ℕ} {qs : List (List ℕ)} {said : List ℕ} (m : CallsMade) → Stands c m → ExportedCalls s c q qs d said → Ends s m q qs d said
unfolding all_calls last_says last_takes
all_end s {q = q} m v (last h) = record { stands = call-stands s q v h; state = call-state s q v h; answer = call-answer s q v h }
all_end s {q = q} m v (next h k) =
    let e = all_end s (next_call least_blocks s q m) (call-stands s q v h) k in
    record { stands = e.stands; state = e.state; answer = e.answer }

pub follows : (s : List ℕ) (p : Config) (state : List ℕ) → restored_of state ≡ Ok p.state →
    (q : List ℕ) (qs : List (List ℕ)) {d : Kept} {said : List ℕ} → ExportedCalls s (keeping p.areas state) q qs d said → Follows s p q qs d said
follows s p state r q qs k =
    let e = all_end s (no_calls p) (record { areas = refl; read = r; rest = refl; taken = refl }) k in
    record {
      areas = e.stands.areas;
      state = e.state;
      read = e.stands.read;
      rest = e.stands.rest;
      taken = e.stands.taken;
      answer = e.answer;
    }

-- ---- after an opening

module _ (s : List ℕ) (a : Areas) (state : List ℕ) (o : AcceptedOpening s a state) where
  opened-read : restored_of state ≡ Ok (opened_config s a).state
  opened-read = ap (λ (x : Opened). x.read) o.opens

  opened-accepted : Accepted s a
  opened-accepted = claim.decided s a (sym (ap (λ (x : Opened). get_or x.answer 0 0) o.opens) ∙ o.accepted)

-- an answer that is none of a stop
goes_on_lem : {s : List ℕ} {p : Config} {q : List ℕ} {qs : List (List ℕ)} {d : Kept} {said : List ℕ} → Follows s p q qs d said → (IsStop said → ⊥) →
    NoStop (last_says least_blocks s q qs (no_calls p))
goes_on_lem f g e = g (ap (λ (x : List ℕ). get_or x 0 0) f.answer ∙ ap outcome_number e)

pub agrees : (s : List ℕ) (a : Areas) (state : List ℕ) → AcceptedOpening s a state →
    (q : List ℕ) (qs : List (List ℕ)) {d : Kept} {said : List ℕ} → ExportedCalls s (keeping a state) q qs d said → (IsStop said → ⊥) →
    EndsAs s a d said (model least_blocks s a (joined (q ∷ qs)))
agrees s a state o q qs k g =
    let f = follows s (opened_config s a) state (opened-read s a state o) q qs k in
    let w = claim.agrees s a (opened-accepted s a state o) q qs (goes_on_lem f g) in
    record {
      areas = f.areas ∙ w.areas;
      left = (all_calls least_blocks s (q ∷ qs) (no_calls (opened_config s a))).config.state;
      read = f.read;
      state = w.state;
      outcome = ap outcome_in f.answer ∙ ap outcome_numbers w.outcome;
      taken = f.taken ∙ w.taken;
    }

-- ---- what is stored

module _ (s : List ℕ) (a : Areas) {all left : List ℕ} {areas : Areas} {state : List ℕ} (z : Stored s a all left areas state) where
  abbrev first : Config
  first = config_of areas z.held

  stored_follows : (q : List ℕ) (qs : List (List ℕ)) {d : Kept} {said : List ℕ} → ExportedCalls s (keeping areas state) q qs d said → Follows s first q qs d said
  stored_follows q qs k = follows s first state z.read q qs k

  -- an answer that says stop
  says-stop : {q : List ℕ} {qs : List (List ℕ)} {d : Kept} {said : List ℕ} → Follows s first q qs d said → IsStop said →
      last_says least_blocks s q qs (no_calls first) ≡ Stop
  says-stop {q} {qs} f e =
      number-stop (last_says least_blocks s q qs (no_calls first)) (sym (ap (λ (x : List ℕ). get_or x 0 0) f.answer) ∙ e)

  pub stop : (q : List ℕ) (qs : List (List ℕ)) (later : List ℕ) → joined (q ∷ qs) ++ later ≡ left →
      {d : Kept} {said : List ℕ} → ExportedCalls s (keeping areas state) q qs d said → IsStop said →
      Stored s a all (d.rest ++ later) d.areas d.state
  stop q qs later j {d} k e =
      let f = stored_follows q qs k in
      let w = restart_claim.stops s a z.stands q qs later j (says-stop f e) in
      record {
        held = (all_calls least_blocks s (q ∷ qs) (no_calls first)).config.state;
        read = f.read;
        stands = rw (f.rest, f.areas) w;
      }

  pub cut : (b : Areas) → AreasOutside (writes s left first) areas b → Stored s a all left b state
  cut b o = record { held = z.held; read = z.read; stands = restart_claim.cuts s a z.stands b o }

  module _ (opened : List ℕ) (o : AcceptedOpening s a opened) where
    pub onward : length all < 2 ^ 64 → left ≡ drop z.held.total all
    onward l = restart_claim.onward s a (opened-accepted s a opened o) z.stands l

    pub restarts : (q : List ℕ) (qs : List (List ℕ)) {d : Kept} {said : List ℕ} → joined (q ∷ qs) ≡ left →
        ExportedCalls s (keeping areas state) q qs d said → (IsStop said → ⊥) →
        (r : List ℕ) (rs : List (List ℕ)) {e : Kept} {other : List ℕ} → joined (r ∷ rs) ≡ all →
        ExportedCalls s (keeping a opened) r rs e other → (IsStop other → ⊥) → KeptAlike d e said other
    restarts q qs j k g r rs i l h =
        let f = stored_follows q qs k in
        let w = follows s (opened_config s a) opened (opened-read s a opened o) r rs l in
        let x = restart_claim.restarts s a (opened-accepted s a opened o) z.stands q qs j (goes_on_lem f g) r rs i (goes_on_lem w h) in
        record {
          areas = f.areas ∙ (ap (λ (c : Config). c.areas) x.config ∙ sym w.areas);
          state = f.state ∙ (ap (λ (c : Config). saved_of c.state) x.config ∙ sym w.state);
          outcome = ap outcome_in f.answer ∙ (ap outcome_numbers x.outcome ∙ sym (ap outcome_in w.answer));
        }

    pub ends : (q : List ℕ) (qs : List (List ℕ)) {d : Kept} {said : List ℕ} →
        ExportedCalls s (keeping areas state) q (qs ++ replicate (line_steps * (length s + 1)) []) d said → IsStop said → ⊥
    ends q qs k e =
        let f = stored_follows q (qs ++ replicate (line_steps * (length s + 1)) []) k in
        restart_claim.ends s a (opened-accepted s a opened o) z.stands q qs (says-stop f e)

pub opening : (s : List ℕ) (a : Areas) (state : List ℕ) → AcceptedOpening s a state → (all : List ℕ) → Stored s a all all a state
opening s a state o all =
    record { held = (opened_config s a).state; read = opened-read s a state o; stands = stands-opening }

-- ---- one call by itself

-- a call that is no run leaves the bytes of the state
pub stays : (s piece bytes : List ℕ) (lent areas : Areas) (state answer : List ℕ) → AllBelow 256 bytes → (t : State) → restored_of bytes ≡ Ok t →
    is_run least_blocks s (config_of lent t) ≡ false → Calls s piece lent bytes areas state answer → state ≡ bytes
unfolding call_of leaves
stays s piece bytes lent areas state answer l t e n h =
    let c = h ∙ sym (called-saved s piece lent bytes t e (call_of least_blocks s piece (config_of lent t)) refl) in
    ap (λ (x : Answered). x.state) c ∙ rw n (saved-claim.own-form bytes l t e).form
