-- A state's fields in the open are all of it.
-- Assumes nothing.
use Prim.Native.Nat.{ℕ, zero, suc, ◌+◌}
use mathlib.Core.Path.{◌≡◌, refl, sym}
use mathlib.Core.List.{List, [], ◌∷◌}
use native.Mathlib.Omega.{arith}
use lib.ListN.{length, get_or, drop, drop_of_length-le}
use lib.Seq.{drop-cons}
use Rattle.std.specs.Prelude.{Result, Ok, Err}
use Rattle.text.specs.Below.{AllBelow}
use Rattle.text.specs.Read.{on_result}
use Rattle.state.specs.Refusals.{none, no_saved_form, number_of}
use Rattle.state.specs.declared.State.{State}
use Rattle.state.specs.declared.refusals.Reason.{Reason}
use Rattle.saved.specs.Restored.{restored_of}
use Rattle.saved.specs.Saved.{FormOf}
use Rattle.saved.proofs.ClaimLaws.{claim}
use Rattle.muongrabi.specs.Fields.{numbers_of, state_from, Fields, fields_as, fields_of, fields_over, number_count, FieldsClaim}
use Rattle.muongrabi.proofs.AnswerLaws.{form-read}

-- c numbers from place k on, one by one
abbrev row : ℕ → ℕ → List ℕ → List ℕ
row zero k n = []
row (suc c) k n = get_or n k 0 ∷ row c (suc k) n

row-all : (c k : ℕ) (n : List ℕ) → k + c ≡ length n → row c k n ≡ drop k n
row-all zero k n h = sym (drop_of_length-le n {i = k} (omega arith))
row-all (suc c) k n h = rw (row-all c (suc k) n (omega arith)) (sym (drop-cons n k 0 (omega arith)))

-- as many numbers as a state has are those of the state that is put together from them
numbers-back : (hashes sizes n : List ℕ) → length n ≡ number_count → numbers_of (state_from hashes sizes n) ≡ n
numbers-back hashes sizes n h = row-all number_count 0 n (sym h)

saved_read : (hashes sizes numbers b : List ℕ) → length numbers ≡ number_count → FormOf b (state_from hashes sizes numbers) →
    (h z n : List ℕ) → fields_over h z n b ≡ fields_as none hashes sizes numbers
unfolding fields_over
saved_read hashes sizes numbers b l f h z n = rw (form-read b (state_from hashes sizes numbers) f, numbers-back hashes sizes numbers l)

-- the fields of what is read back, or others
abbrev fields_or : Fields → Result State Reason → Fields
fields_or other r = on_result r fields_of (λ reason. other)

read-saved : (b h z n : List ℕ) → AllBelow 256 b → (fields_over h z n b).number ≡ none →
    FormOf b (state_from (fields_over h z n b).hashes (fields_over h z n b).sizes (fields_over h z n b).numbers)
unfolding fields_over
read-saved b h z n l e = go (restored_of b) refl e
  where
    go : (r : Result State Reason) → restored_of b ≡ r → (fields_or (fields_as no_saved_form h z n) r).number ≡ none →
        FormOf b
        (state_from (fields_or (fields_as no_saved_form h z n) r).hashes (fields_or (fields_as no_saved_form h z n) r).sizes
        (fields_or (fields_as no_saved_form h z n) r).numbers)
    go (Ok s) i e = claim.own-form b l s i
    go (Err reason) i e = absurd (omega arith)

-- ---- what reading answers

module _ (h z n b : List ℕ) where
  pub fields_read : (s : State) (numbers : List ℕ) → restored_of b ≡ Ok s → numbers ≡ numbers_of s →
      fields_as none s.table.hashes s.table.sizes numbers ≡ fields_over h z n b
  unfolding fields_over
  fields_read s numbers e f = rw (e, f)

  pub fields_unread : (reason : Reason) (number : ℕ) → restored_of b ≡ Err reason → number ≡ number_of reason →
      fields_as number h z n ≡ fields_over h z n b
  unfolding fields_over
  fields_unread reason number e f = rw (f, claim.one_number b reason e, e)

pub fields-claim : FieldsClaim
fields-claim = record { saved_read = saved_read; read-saved = read-saved }
