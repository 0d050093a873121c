-- What the loop of a call keeps, for any machine that is sound where an invariant holds: what is left to do gives the same.
-- Assumes nothing.
use mathlib.Core.Path.{◌≡◌, refl, sym, ap, ◌∙◌}
use mathlib.Core.Bool.{true, false}
use mathlib.Core.List.{List, [], ◌∷◌, ◌++◌}
use Prim.Native.Nat.{ℕ, ◌+◌, ◌≤◌}
use native.Mathlib.Nat.{zero-add}
use native.Mathlib.Omega.{arith}
use lib.ListN.{length, take, drop, length-take, length-drop, take-append-drop, drop_of_length-le}
use lib.Seq.{drop-drop}
use Rattle.machine.specs.Machine.{Machine, feeds, counts}
use Rattle.machine.proofs.MachineLaws.{Sound, feeds-quiet, counts-quiet, feeds-put, counts-put}
use Rattle.machine.proofs.MachineLaws.{feeds-stopped, counts-stopped, feeds-end, counts_end}

-- the bytes xs, one after the other, with no quiet step between
unfoldable pub puts : (k : Machine) → List ℕ → k.Config → k.Config
puts k [] m = m
puts k (x ∷ xs) m = puts k xs (k.put x m)

-- at each of them the machine waits and has not stopped
unfoldable pub Eats : (k : Machine) → List ℕ → k.Config → Type 0
Eats k [] m = Unit {0}
Eats k (x ∷ xs) m = (k.waits m ≡ true) × (k.stopped m ≡ false) × Eats k xs (k.put x m)

-- from m at the i-th byte of the piece the machine ends as from m₀ at the i₀-th, and takes the bytes in between
pub record Same (k : Machine) (Inv : k.Config → Type 0) (piece : List ℕ) (m₀ : k.Config) (i₀ : ℕ) (m : k.Config) (i : ℕ) : Type 0 where
  pub keeps : Inv m
  pub within : i ≤ length piece
  pub ends : feeds k (drop i piece) m ≡ feeds k (drop i₀ piece) m₀
  pub takes : i + counts k (drop i piece) m ≡ i₀ + counts k (drop i₀ piece) m₀

-- a call with the piece ends at m and takes i bytes
pub record Ends (k : Machine) (piece : List ℕ) (m₀ : k.Config) (m : k.Config) (i : ℕ) : Type 0 where
  pub at_last : feeds k piece m₀ ≡ m
  pub taken : counts k piece m₀ ≡ i

module _ (k : Machine) (Inv : k.Config → Type 0) (g : Sound k Inv) where
  pub puts-keeps : (xs : List ℕ) (m : k.Config) → Inv m → Eats k xs m → Inv (puts k xs m)
  unfolding puts Eats
  puts-keeps [] m v e = v
  puts-keeps (x ∷ xs) m v e = puts-keeps xs (k.put x m) (g.put_keeps m x v e.0 e.1) e.2

  pub feeds-puts : (xs ys : List ℕ) (m : k.Config) → Inv m → Eats k xs m → feeds k (xs ++ ys) m ≡ feeds k ys (puts k xs m)
  unfolding puts Eats
  feeds-puts [] ys m v e = refl
  feeds-puts (x ∷ xs) ys m v e =
      feeds-put k Inv g x (xs ++ ys) m v e.0 e.1 ∙ feeds-puts xs ys (k.put x m) (g.put_keeps m x v e.0 e.1) e.2

  pub counts-puts : (xs ys : List ℕ) (m : k.Config) → Inv m → Eats k xs m → counts k (xs ++ ys) m ≡ length xs + counts k ys (puts k xs m)
  unfolding puts Eats
  counts-puts [] ys m v e = sym (zero-add (counts k ys m))
  counts-puts (x ∷ xs) ys m v e =
      let a = counts-put k Inv g x (xs ++ ys) m v e.0 e.1 in
      let b = counts-puts xs ys (k.put x m) (g.put_keeps m x v e.0 e.1) e.2 in
      omega arith

  module _ (piece : List ℕ) where
    pub same : (m : k.Config) (i : ℕ) → Inv m → i ≤ length piece → Same k Inv piece m i m i
    same m i v h = record { keeps = v; within = h; ends = refl; takes = refl }

    -- an inner loop's part, after what went before it
    pub join : (m₀ m₁ m : k.Config) (i₀ i₁ i : ℕ) → Same k Inv piece m₀ i₀ m₁ i₁ → Same k Inv piece m₁ i₁ m i → Same k Inv piece m₀ i₀ m i
    join m₀ m₁ m i₀ i₁ i a b = record { keeps = b.keeps; within = b.within; ends = b.ends ∙ a.ends; takes = b.takes ∙ a.takes }

    pub by_quiet : (m₀ m : k.Config) (i₀ i : ℕ) → Same k Inv piece m₀ i₀ m i → k.waits m ≡ false → Same k Inv piece m₀ i₀ (k.quiet m) i
    by_quiet m₀ m i₀ i a w =
        record {
          keeps = g.quiet_keeps m a.keeps w;
          within = a.within;
          ends = sym (feeds-quiet k Inv g (drop i piece) m a.keeps w) ∙ a.ends;
          takes = ap (λ (n : ℕ). i + n) (sym (counts-quiet k Inv g (drop i piece) m a.keeps w)) ∙ a.takes;
        }

    pub by_puts : (m₀ m : k.Config) (i₀ i n : ℕ) → Same k Inv piece m₀ i₀ m i → i + n ≤ length piece → Eats k (take n (drop i piece)) m
        → Same k Inv piece m₀ i₀ (puts k (take n (drop i piece)) m) (i + n)
    by_puts m₀ m i₀ i n a h e =
        let s : take n (drop i piece) ++ drop (i + n) piece ≡ drop i piece = rw (← (drop-drop n i piece), take-append-drop) in
        let l : length (take n (drop i piece)) ≡ n = simp (length-take, length-drop) (omega arith) in
        let q = counts-puts (take n (drop i piece)) (drop (i + n) piece) m a.keeps e in
        let r = ap (λ (x : List ℕ). counts k x m) s in
        let t = a.takes in
        record {
          keeps = puts-keeps (take n (drop i piece)) m a.keeps e;
          within = h;
          ends =
              sym (feeds-puts (take n (drop i piece)) (drop (i + n) piece) m a.keeps e) ∙ ap (λ (x : List ℕ). feeds k x m) s ∙ a.ends;
          takes = omega arith;
        }

    pub at-stop : (m₀ m : k.Config) (i : ℕ) → Same k Inv piece m₀ 0 m i → k.stopped m ≡ true → Ends k piece m₀ m i
    at-stop m₀ m i a s =
        let n = counts-stopped k Inv g (drop i piece) m a.keeps s in
        let t = a.takes in
        record { at_last = sym a.ends ∙ feeds-stopped k Inv g (drop i piece) m a.keeps s; taken = omega arith }

    pub at-end : (m₀ m : k.Config) (i : ℕ) → Same k Inv piece m₀ 0 m i → k.waits m ≡ true → i ≡ length piece → Ends k piece m₀ m i
    at-end m₀ m i a w h =
        let d : drop i piece ≡ [] = drop_of_length-le piece {i = i} (omega arith) in
        let r = ap (λ (l : List ℕ). counts k l m) d in
        let z = counts_end k Inv g m in
        let t = a.takes in
        record { at_last = sym a.ends ∙ ap (λ (l : List ℕ). feeds k l m) d ∙ feeds-end k Inv g m a.keeps w; taken = omega arith }
