-- Reading a row of numbers one by one.
-- Assumes nothing.
use mathlib.Core.Path.{◌≡◌, sym, ap}
use mathlib.Core.Bool.{true}
use mathlib.Core.List.{List, [], ◌∷◌, ◌++◌}
use Prim.Native.Nat.{ℕ, zero, suc, ◌+◌, ◌*◌, ◌<◌}
use native.Mathlib.Numerals.{add-one}
use native.Mathlib.Omega.{arith}
use borrow.Author.Tests.{eqb-true}
use lib.ListN.{length, take, set}
use Rattle.std.proofs.lemmas.List.{take_more_set}
use Rattle.std.specs.Prelude.{Result, Ok, Err, ⊤}
use Rattle.text.specs.Read.{on_result}
use Rattle.text.proofs.ChoiceLaws.{both_true}
use Rattle.little_endian.specs.LittleEndian.{eight_at}
use Rattle.state.specs.declared.State.{State}
use Rattle.state.specs.declared.refusals.Reason.{Reason}
use Rattle.saved.specs.Layout.{word_bytes, saved_bytes}
use Rattle.saved.specs.Restored.{is_saved, numbers_at, restored_of, restores, state_after}

-- one number more
numbers_more : (b : List ℕ) (at n : ℕ) → numbers_at b at (n + 1) ≡ numbers_at b at n ++ (eight_at b (at + word_bytes * n) ∷ [])
unfolding numbers_at
numbers_more b at zero = let e : at + word_bytes * 0 ≡ at = omega arith in rw e
numbers_more b at (suc n) =
    let r : numbers_at b (at + word_bytes) (suc n) ≡ numbers_at b (at + word_bytes) n ++ (eight_at b (at + word_bytes + word_bytes * n) ∷ []) =
    rw add-one at (numbers_more b (at + word_bytes) n) in
    let e : at + word_bytes + word_bytes * n ≡ at + word_bytes * suc n = omega arith in
    rw (add-one, r, e)

pub row_read : (b to : List ℕ) (at i x : ℕ) → i < length to → x ≡ eight_at b (at + word_bytes * i) → take i to ≡ numbers_at b at i →
    take (i + 1) (set to i x) ≡ numbers_at b at (i + 1)
row_read b to at i x h e f = rw (take_more_set to i x h, f, e, numbers_more b at i)

-- bytes that are a saved form have its length
pub saved_length : (b : List ℕ) → is_saved b ≡ true → length b ≡ saved_bytes
unfolding is_saved
saved_length b h = eqb-true _ _ (both_true _ _ h).0

-- ---- over a state that is lent

module _ (b : List ℕ) where
  pub restored_same : (before t : State) (u : ⊤) → Ok u ≡ restores b → t ≡ state_after before b → restored_of b ≡ Ok t
  restored_same before t u e f = go (restored_of b) e f
    where
      go : (r : Result State Reason) → Ok u ≡ on_result r (λ s. Ok (tt {0})) Err → t ≡ on_result r (λ s. s) (λ reason. before) → r ≡ Ok t
      go (Ok s) e f = ap Ok (sym f)
      go (Err reason) e f = absurd (cc)

  pub restored_error : (reason : Reason) → Err reason ≡ restores b → restored_of b ≡ Err reason
  restored_error reason e = go (restored_of b) e
    where
      go : (r : Result State Reason) → Err reason ≡ on_result r (λ s. Ok (tt {0})) Err → r ≡ Err reason
      go (Ok s) e = absurd (cc)
      go (Err other) e = cc
