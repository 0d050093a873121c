-- Document 02, R-6, in a run: the byte that a call reports of a list that was altered since opening.
-- Assumes nothing: these are definitions.
use Rattle.std.specs.Prelude.{◌≡◌, List, ℕ, ◌+◌, ◌<◌, length}
use Rattle.text.specs.Line.{line_at, line_number}
use Rattle.state.specs.Refusals.{none, header_form, line_form}
use Rattle.state.specs.declared.State.{State}
use Rattle.faults.specs.Lines.{CommandLine}
use Rattle.transfer_list.specs.Faults.{FaultAt}

-- good command lines stand from one position of the text up to another
pub data GoodLines (s : List ℕ) (from : ℕ) : ℕ → Type 0 where
  nothing_yet : GoodLines s from from
  one_more : {at : ℕ} → GoodLines s from at → CommandLine (line_at s at) → GoodLines s from (at + length (line_at s at))

-- the state stands at a line that is not good, to which good lines led from where the call began, and names that line and its first fault
pub record PinpointsHere (s : List ℕ) (from : ℕ) (t : State) : Type 0 where
  pub before : GoodLines s from t.at
  pub within : t.at < length s
  pub line : t.refusal.line ≡ line_number s t.at
  pub fault : FaultAt CommandLine s t.at t.refusal.byte

-- what the state after a run reports: 6 pinpoints a line; 3 is not given; no other refusal has a byte
pub record CallReports (s : List ℕ) (from : ℕ) (t : State) : Type 0 where
  pub line : t.refusal.number ≡ line_form → PinpointsHere s from t
  pub header : t.refusal.number ≡ header_form → ⊥
  pub other : (t.refusal.number ≡ none → ⊥) → (t.refusal.number ≡ line_form → ⊥) → t.refusal.byte ≡ 0
