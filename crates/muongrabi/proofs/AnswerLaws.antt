-- What a caller has after an export, put together from its parts: the bytes of the state are a saved form, and are read back as that state.
-- Assumes nothing.
use Prim.Native.Nat.{ℕ}
use mathlib.Core.Path.{◌≡◌, refl, sym, ap, ◌∙◌}
use mathlib.Core.List.{List}
use lib.Dec.{eqb}
use lib.ListN.{get_or}
use Rattle.std.specs.Prelude.{Ok, Err}
use Rattle.text.specs.Choice.{pick}
use Rattle.ranges.specs.Ranges.{least_blocks}
use Rattle.state.specs.Refusals.{number_of}
use Rattle.state.specs.States.{refusing}
use Rattle.state.specs.declared.Refusal.{Refusal}
use Rattle.state.specs.declared.State.{State}
use Rattle.state.specs.declared.refusals.Reason.{Reason}
use Rattle.updater.specs.Areas.{Areas}
use Rattle.updater.specs.Calls.{CallResult, call_of}
use Rattle.updater.specs.Steps.{config_of}
use Rattle.updater.specs.declared.Outcome.{Outcome}
use Rattle.updater.specs.declared.Outcome.TheVariants.{Done, More, Stop, Refused}
use Rattle.saved.specs.Restored.{restored_of}
use Rattle.saved.specs.Saved.{refusal_numbers, FormOf}
use Rattle.saved.proofs.ClaimLaws.{claim}
use Rattle.muongrabi.specs.Answers.{outcome_number, answer_of, Told, opened_as, opening_of, answered_as, answer_to, called_over}

-- the outcome that an answer tells
back : List ℕ → Outcome
back x =
    pick (eqb (get_or x 0 0) (outcome_number Done)) Done
    (pick (eqb (get_or x 0 0) (outcome_number More)) More
    (pick (eqb (get_or x 0 0) (outcome_number Stop)) Stop (Refused (record { number = get_or x 1 0; line = get_or x 2 0; byte = get_or x 3 0 }))))

back-of : (o : Outcome) (n : ℕ) → back (answer_of o n) ≡ o
unfolding back
back-of Done n = refl
back-of More n = refl
back-of Stop n = refl
back-of (Refused refusal) n = refl

pub told : Told
told o p n m e = (sym (back-of o n) ∙ (ap back e ∙ back-of p m), ap (λ (x : List ℕ). get_or x 4 0) e)

pub form-read : (b : List ℕ) (s : State) → FormOf b s → restored_of b ≡ Ok s
form-read b s f = rw f.form at (claim.read_back s f.typed)

pub opened-saved : (b answer : List ℕ) (s : State) → FormOf b s → answer ≡ refusal_numbers s.refusal → opened_as b answer ≡ opening_of s
opened-saved b answer s f e = rw (f.form, form-read b s f, e)

pub answered_saved : (areas : Areas) (b answer : List ℕ) (r : CallResult) → areas ≡ r.areas → FormOf b r.called.state →
    answer ≡ answer_of r.called.outcome r.called.taken → answered_as areas b answer ≡ answer_to r
answered_saved areas b answer r a f e = rw (f.form, form-read b r.called.state f, a, e)

module _ (s piece : List ℕ) (areas : Areas) (b : List ℕ) where
  -- a call from a saved form
  pub called-saved : (t : State) → restored_of b ≡ Ok t → (r : CallResult) → r ≡ call_of least_blocks s piece (config_of areas t) →
      answer_to r ≡ called_over s piece areas b
  unfolding called_over
  called-saved t e r j = rw (j, e)

  -- .. and from bytes that are none
  pub called_unsaved : (reason : Reason) → restored_of b ≡ Err reason → (refusal : Refusal) → refusal ≡ refusing (number_of reason) 0 →
      (answer : List ℕ) → answer ≡ answer_of (Refused refusal) 0 → answered_as areas b answer ≡ called_over s piece areas b
  unfolding called_over
  called_unsaved reason e refusal f answer g = rw (g, f, claim.one_number b reason e, e)
