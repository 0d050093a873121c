-- Answers that are the same, but for the byte that 6 reports (document 02, R-6).
-- Assumes nothing: these are definitions.
use Rattle.std.specs.Prelude.{◌≡◌}
use Rattle.state.specs.Refusals.{line_form}
use Rattle.state.specs.States.{no_refusal, with_refusal}
use Rattle.state.specs.declared.Refusal.{Refusal}
use Rattle.state.specs.declared.State.{State}
use Rattle.updater.specs.Steps.{Config}
use Rattle.updater.specs.declared.Outcome.{Outcome}
use Rattle.updater.specs.declared.Outcome.TheVariants.{Done, More, Stop, Refused}
use Rattle.sequence.specs.Sequence.{CallsMade}

-- number and line are the same, and so is the byte unless it is 6's
pub record MatchingRefusals (a b : Refusal) : Type 0 where
  pub number : a.number ≡ b.number
  pub line : a.line ≡ b.line
  pub byte : (a.number ≡ line_form → ⊥) → a.byte ≡ b.byte

-- all that a state holds beside its refusal is the same
pub record MatchingStates (a b : State) : Type 0 where
  pub refusal : MatchingRefusals a.refusal b.refusal
  pub rest : with_refusal a no_refusal ≡ with_refusal b no_refusal

pub record MatchingConfigs (p q : Config) : Type 0 where
  pub areas : p.areas ≡ q.areas
  pub state : MatchingStates p.state q.state

-- after calls: what stands matches; the bytes not taken, and the sum of those taken, are the same
pub record MatchingCalls (c d : CallsMade) : Type 0 where
  pub config : MatchingConfigs c.config d.config
  pub rest : c.rest ≡ d.rest
  pub taken : c.taken ≡ d.taken

abbrev pub MatchingOutcomes : Outcome → Outcome → Type 0
MatchingOutcomes Done Done = Unit {0}
MatchingOutcomes Done More = ⊥
MatchingOutcomes Done Stop = ⊥
MatchingOutcomes Done (Refused b) = ⊥
MatchingOutcomes More Done = ⊥
MatchingOutcomes More More = Unit {0}
MatchingOutcomes More Stop = ⊥
MatchingOutcomes More (Refused b) = ⊥
MatchingOutcomes Stop Done = ⊥
MatchingOutcomes Stop More = ⊥
MatchingOutcomes Stop Stop = Unit {0}
MatchingOutcomes Stop (Refused b) = ⊥
MatchingOutcomes (Refused a) Done = ⊥
MatchingOutcomes (Refused a) More = ⊥
MatchingOutcomes (Refused a) Stop = ⊥
MatchingOutcomes (Refused a) (Refused b) = MatchingRefusals a b
