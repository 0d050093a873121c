-- Every reason has a number, which is not that of none; and what a check says, by cases.
-- Assumes nothing.
use mathlib.Core.Path.{◌≡◌, ap}
use native.Mathlib.Omega.{arith}
use Rattle.std.specs.Prelude.{Result, Ok, Err, ⊤}
use Rattle.state.specs.Refusals.{none, number_of, checked_number, checked_refusal, refusal_from}
use Rattle.state.specs.declared.refusals.Reason.{Reason}
use Rattle.state.specs.declared.refusals.Reason.TheVariants as reason
use Rattle.state.specs.declared.refusals.Refused.{Refused}

pub number-some : (r : Reason) → number_of r ≡ none → ⊥
number-some reason.AreaSize e = absurd (omega arith)
number-some reason.ListLength e = absurd (omega arith)
number-some reason.HeaderForm e = absurd (omega arith)
number-some reason.OtherVersion e = absurd (omega arith)
number-some reason.HeaderLimit e = absurd (omega arith)
number-some reason.LineForm e = absurd (omega arith)
number-some reason.Unsupported e = absurd (omega arith)
number-some reason.PastImage e = absurd (omega arith)
number-some reason.PastArea e = absurd (omega arith)
number-some reason.NotHeld e = absurd (omega arith)
number-some reason.SizesDiffer e = absurd (omega arith)
number-some reason.Misplaced e = absurd (omega arith)
number-some reason.HeldAlready e = absurd (omega arith)
number-some reason.NoRoom e = absurd (omega arith)
number-some reason.TotalDiffers e = absurd (omega arith)
number-some reason.HashDiffers e = absurd (omega arith)
number-some reason.StateImpossible e = absurd (omega arith)
number-some reason.PastPatch e = absurd (omega arith)
number-some reason.PatchMalformed e = absurd (omega arith)
number-some reason.NoSavedForm e = absurd (omega arith)
number-some reason.SparseHeader e = absurd (omega arith)
number-some reason.SparseSizes e = absurd (omega arith)
number-some reason.SparseImage e = absurd (omega arith)
number-some reason.SparseChunk e = absurd (omega arith)
number-some reason.SparsePastImage e = absurd (omega arith)
number-some reason.SparseChecksum e = absurd (omega arith)
number-some reason.SparseEnd e = absurd (omega arith)

pub number-none : (x : Result ⊤ Reason) {u : ⊤} → x ≡ Ok u → checked_number x ≡ none
number-none x e = ap checked_number e

pub number-refused : (x : Result ⊤ Reason) {r : Reason} → x ≡ Err r → checked_number x ≡ number_of r
number-refused x e = ap checked_number e

pub refusal-none : (x : Result ⊤ Refused) {u : ⊤} → x ≡ Ok u → (checked_refusal x).number ≡ none
refusal-none x e = ap (λ (y : Result ⊤ Refused). (checked_refusal y).number) e

pub refusal-refused : (x : Result ⊤ Refused) {r : Refused} → x ≡ Err r → checked_refusal x ≡ refusal_from r
refusal-refused x e = ap checked_refusal e
