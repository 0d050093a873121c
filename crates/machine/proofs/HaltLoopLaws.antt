-- What the loop of a call that may stop for saving keeps, for any machine: `LoopLaws` over the machine with stops. At the loop's head no
-- stop has come; where one comes, the loop is left.
-- Assumes nothing.
use mathlib.Core.Path.{◌≡◌, refl}
use mathlib.Core.Bool.{Bool, true, false}
use mathlib.Core.List.{List, [], ◌∷◌}
use Prim.Native.Nat.{ℕ, ◌+◌, ◌≤◌}
use native.Mathlib.Omega.{arith}
use lib.ListN.{length, take, drop}
use Rattle.machine.specs.Machine.{Machine}
use Rattle.machine.specs.Stops.{Halted, going_on, halting, call_ends, call_takes}
use Rattle.machine.proofs.MachineLaws.{Sound}
use Rattle.machine.proofs.LoopLaws.{puts, Eats, Same, Ends, same, by_quiet, by_puts, at-stop, at-end}
use Rattle.machine.proofs.StopLaws.{AtConfig, halting-sound}

-- a call with the piece from m₀ ends at c and takes i bytes
pub record CallEnds (k : Machine) (halts : k.Config → Bool) (piece : List ℕ) (m₀ : k.Config) (c : Halted k.Config) (i : ℕ) : Type 0 where
  pub at_last : call_ends k halts piece m₀ ≡ c
  pub taken : call_takes k halts piece m₀ ≡ i

-- what the loop keeps: from m at the i-th byte of the piece the call ends as from m₀ at its start, and takes the bytes in between
abbrev pub GoesOn : (k : Machine) → (k.Config → Bool) → (k.Config → Type 0) → List ℕ → k.Config → k.Config → ℕ → Type 0
GoesOn k halts Inv piece m₀ m i = Same (halting k halts) (AtConfig Inv) piece (going_on m₀) 0 (going_on m) i

module _ (k : Machine) (halts : k.Config → Bool) where
  -- bytes bring no stop
  eats_on : (xs : List ℕ) (m : k.Config) → Eats k xs m → Eats (halting k halts) xs (going_on m)
  unfolding Eats
  eats_on [] m e = e
  eats_on (x ∷ xs) m e = (e.0, e.1, eats_on xs (k.put x m) e.2)

  puts-goes : (xs : List ℕ) (m : k.Config) → puts (halting k halts) xs (going_on m) ≡ going_on (puts k xs m)
  unfolding puts
  puts-goes [] m = refl
  puts-goes (x ∷ xs) m = puts-goes xs (k.put x m)

module _ (k : Machine) (halts : k.Config → Bool) (Inv : k.Config → Type 0) (g : Sound k Inv) (piece : List ℕ) where
  sound : Sound (halting k halts) (AtConfig Inv)
  sound = halting-sound k halts Inv g

  call_ends_lem : (m₀ : k.Config) (c : Halted k.Config) (i : ℕ) → Ends (halting k halts) piece (going_on m₀) c i → CallEnds k halts piece m₀ c i
  unfolding call_ends call_takes
  call_ends_lem m₀ c i e = record { at_last = e.at_last; taken = e.taken }

  -- a step, whether a stop follows it or not
  stepped : (m₀ m m' : k.Config) (i : ℕ) (b : Bool) → GoesOn k halts Inv piece m₀ m i → k.waits m ≡ false → halts m ≡ b → k.quiet m ≡ m'
      → Same (halting k halts) (AtConfig Inv) piece (going_on m₀) 0 (record { config = m'; halted = b }) i
  stepped m₀ m m' i b a w h e =
      rw (← h, ← e) (by_quiet (halting k halts) (AtConfig Inv) sound piece (going_on m₀) (going_on m) 0 i a w)

  -- where the loop starts
  pub goes_on_lem : (m : k.Config) → Inv m → GoesOn k halts Inv piece m m 0
  goes_on_lem m v = same (halting k halts) (AtConfig Inv) sound piece (going_on m) 0 v (omega arith)

  -- a step that no stop follows: the loop goes on
  pub step-on : (m₀ m m' : k.Config) (i : ℕ) → GoesOn k halts Inv piece m₀ m i → k.waits m ≡ false → halts m ≡ false → k.quiet m ≡ m'
      → GoesOn k halts Inv piece m₀ m' i
  step-on m₀ m m' i a w h e = stepped m₀ m m' i false a w h e

  -- a step that a stop follows: the call ends there
  pub step-stops : (m₀ m m' : k.Config) (i : ℕ) → GoesOn k halts Inv piece m₀ m i → k.waits m ≡ false → halts m ≡ true → k.quiet m ≡ m'
      → CallEnds k halts piece m₀ (record { config = m'; halted = true }) i
  step-stops m₀ m m' i a w h e =
      let c : Halted k.Config = record { config = m'; halted = true } in
      call_ends_lem m₀ c i (at-stop (halting k halts) (AtConfig Inv) sound piece (going_on m₀) c i (stepped m₀ m m' i true a w h e) refl)

  -- n bytes of the piece: the loop goes on
  pub puts-on : (m₀ m : k.Config) (i n : ℕ) → GoesOn k halts Inv piece m₀ m i → i + n ≤ length piece → Eats k (take n (drop i piece)) m
      → GoesOn k halts Inv piece m₀ (puts k (take n (drop i piece)) m) (i + n)
  puts-on m₀ m i n a l e =
      rw (puts-goes k halts) at
      (by_puts (halting k halts) (AtConfig Inv) sound piece (going_on m₀) (going_on m) 0 i n a l (eats_on k halts (take n (drop i piece)) m e))

  -- the machine has stopped, or the piece is at its end: the call ends without a stop
  pub stopped-ends : (m₀ m : k.Config) (i : ℕ) → GoesOn k halts Inv piece m₀ m i → k.stopped m ≡ true → CallEnds k halts piece m₀ (going_on m) i
  stopped-ends m₀ m i a s =
      call_ends_lem m₀ (going_on m) i (at-stop (halting k halts) (AtConfig Inv) sound piece (going_on m₀) (going_on m) i a s)

  pub waiting_ends : (m₀ m : k.Config) (i : ℕ) → GoesOn k halts Inv piece m₀ m i → k.waits m ≡ true → i ≡ length piece
      → CallEnds k halts piece m₀ (going_on m) i
  waiting_ends m₀ m i a w l =
      call_ends_lem m₀ (going_on m) i (at-end (halting k halts) (AtConfig Inv) sound piece (going_on m₀) (going_on m) i a w l)
