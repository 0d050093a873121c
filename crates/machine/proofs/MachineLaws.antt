-- Laws of any machine that is sound where an invariant holds: what a call does with a piece can be told step by step, and a piece that is
-- cut in two, or in many, is taken as the whole is.
-- Assumes nothing.
use mathlib.Core.Path.{◌≡◌, refl, sym, ap, ◌∙◌}
use mathlib.Core.Bool.{Bool, true, false}
use mathlib.Core.List.{List, [], ◌∷◌, ◌++◌, append-nil}
use mathlib.Core.Logic.{⊎_elim}
use Prim.Native.Nat.{ℕ, zero, suc, ◌+◌, ◌≤◌, ◌<◌}
use native.Mathlib.Nat.{zero-add, add-zero, add-suc, suc-add}
use native.Mathlib.Omega.{arith}
use lib.ListN.{length, drop}
use Rattle.text.specs.Choice.{pick}
use Rattle.text.proofs.ChoiceLaws.{bool, picks}
use Rattle.machine.specs.Machine.{Machine, run, advance, feeds, counts}
use Rattle.machine.specs.Pieces.{joined, calls, totals}

pub never : true ≡ false → ⊥
never e = let z : ◌≡◌ {A = ℕ} 0 1 = cc in omega arith

-- ---- sound machines

-- A quiet step burns fuel, a machine that has stopped waits, and each step that a call may do keeps the invariant.
pub record Sound (k : Machine) (Inv : k.Config → Type 0) : Type 0 where
  pub falls : (m : k.Config) → Inv m → k.waits m ≡ false → k.fuel (k.quiet m) < k.fuel m
  pub rests : (m : k.Config) → Inv m → k.stopped m ≡ true → k.waits m ≡ true
  pub quiet_keeps : (m : k.Config) → Inv m → k.waits m ≡ false → Inv (k.quiet m)
  pub put_keeps : (m : k.Config) (x : ℕ) → Inv m → k.waits m ≡ true → k.stopped m ≡ false → Inv (k.put x m)

module _ (k : Machine) (Inv : k.Config → Type 0) (g : Sound k Inv) where
  -- ---- a run, with fuel enough

  pub run_waiting : (f : ℕ) (m : k.Config) → k.waits m ≡ true → run k f m ≡ m
  unfolding run
  run_waiting zero m w = refl
  run_waiting (suc f) m w = rw w

  run-quiet : (f : ℕ) (m : k.Config) → k.waits m ≡ false → run k (suc f) m ≡ run k f (k.quiet m)
  unfolding run
  run-quiet f m w = rw w

  -- with no fuel there is no quiet step to do
  spent_waits : (m : k.Config) → Inv m → k.fuel m ≤ 0 → k.waits m ≡ true
  spent_waits m v a = ⊎_elim (λ w. w) (λ w. absurd (let l = g.falls m v w in omega arith)) (bool (k.waits m))

  run-enough : (f h : ℕ) (m : k.Config) → Inv m → k.fuel m ≤ f → k.fuel m ≤ h → run k f m ≡ run k h m
  unfolding run
  run-enough zero h m v a b = sym (run_waiting h m (spent_waits m v a))
  run-enough (suc f) zero m v a b = run_waiting (suc f) m (spent_waits m v b)
  run-enough (suc f) (suc h) m v a b =
      ⊎_elim
      (λ w. rw w)
      (λ w. let l = g.falls m v w in rw w (run-enough f h (k.quiet m) (g.quiet_keeps m v w) (omega arith) (omega arith)))
      (bool (k.waits m))

  run-waits : (f : ℕ) (m : k.Config) → Inv m → k.fuel m ≤ f → k.waits (run k f m) ≡ true
  unfolding run
  run-waits zero m v a = spent_waits m v a
  run-waits (suc f) m v a =
      ⊎_elim
      (λ w. rw w w)
      (λ w. let l = g.falls m v w in rw w (run-waits f (k.quiet m) (g.quiet_keeps m v w) (omega arith)))
      (bool (k.waits m))

  run-keeps : (f : ℕ) (m : k.Config) → Inv m → Inv (run k f m)
  unfolding run
  run-keeps zero m v = v
  run-keeps (suc f) m v =
      picks Inv (k.waits m) m (run k f (k.quiet m)) (λ w. v) (λ w. run-keeps f (k.quiet m) (g.quiet_keeps m v w))

  -- ---- every step that needs no byte

  pub advance_waiting : (m : k.Config) → Inv m → k.waits m ≡ true → advance k m ≡ m
  unfolding advance
  advance_waiting m v w = run_waiting (k.fuel m) m w

  pub advance-quiet : (m : k.Config) → Inv m → k.waits m ≡ false → advance k m ≡ advance k (k.quiet m)
  unfolding advance
  advance-quiet m v w =
      let l = g.falls m v w in
      run-enough (k.fuel m) (suc (k.fuel m)) m v (omega arith) (omega arith)
      ∙ run-quiet (k.fuel m) m w
      ∙ run-enough (k.fuel m) (k.fuel (k.quiet m)) (k.quiet m) (g.quiet_keeps m v w) (omega arith) (omega arith)

  pub advance-keeps : (m : k.Config) → Inv m → Inv (advance k m)
  unfolding advance
  advance-keeps m v = run-keeps (k.fuel m) m v

  pub advance-waits : (m : k.Config) → Inv m → k.waits (advance k m) ≡ true
  unfolding advance
  advance-waits m v = run-waits (k.fuel m) m v (omega arith)

  pub advance-advance : (m : k.Config) → Inv m → advance k (advance k m) ≡ advance k m
  advance-advance m v = advance_waiting (advance k m) (advance-keeps m v) (advance-waits m v)

  -- a byte's step where every quiet step is done
  next-keeps : (x : ℕ) (m : k.Config) → Inv m → k.stopped (advance k m) ≡ false → Inv (k.put x (advance k m))
  next-keeps x m v s = g.put_keeps (advance k m) x (advance-keeps m v) (advance-waits m v) s

  -- ---- the steps of a loop that does what a call does

  pub feeds-quiet : (xs : List ℕ) (m : k.Config) → Inv m → k.waits m ≡ false → feeds k xs m ≡ feeds k xs (k.quiet m)
  unfolding feeds
  feeds-quiet [] m v w = advance-quiet m v w
  feeds-quiet (x ∷ xs) m v w = rw (advance-quiet m v w)

  pub counts-quiet : (xs : List ℕ) (m : k.Config) → Inv m → k.waits m ≡ false → counts k xs m ≡ counts k xs (k.quiet m)
  unfolding counts
  counts-quiet [] m v w = refl
  counts-quiet (x ∷ xs) m v w = rw (advance-quiet m v w)

  pub feeds-put : (x : ℕ) (xs : List ℕ) (m : k.Config) → Inv m → k.waits m ≡ true → k.stopped m ≡ false
      → feeds k (x ∷ xs) m ≡ feeds k xs (k.put x m)
  unfolding feeds
  feeds-put x xs m v w s = rw (advance_waiting m v w, s)

  pub counts-put : (x : ℕ) (xs : List ℕ) (m : k.Config) → Inv m → k.waits m ≡ true → k.stopped m ≡ false
      → counts k (x ∷ xs) m ≡ suc (counts k xs (k.put x m))
  unfolding counts
  counts-put x xs m v w s = rw (advance_waiting m v w, s)

  pub feeds-stopped : (xs : List ℕ) (m : k.Config) → Inv m → k.stopped m ≡ true → feeds k xs m ≡ m
  unfolding feeds
  feeds-stopped [] m v s = advance_waiting m v (g.rests m v s)
  feeds-stopped (x ∷ xs) m v s = rw (advance_waiting m v (g.rests m v s), s)

  pub counts-stopped : (xs : List ℕ) (m : k.Config) → Inv m → k.stopped m ≡ true → counts k xs m ≡ 0
  unfolding counts
  counts-stopped [] m v s = refl
  counts-stopped (x ∷ xs) m v s = rw (advance_waiting m v (g.rests m v s), s)

  pub feeds-end : (m : k.Config) → Inv m → k.waits m ≡ true → feeds k [] m ≡ m
  unfolding feeds
  feeds-end m v w = advance_waiting m v w

  pub counts_end : (m : k.Config) → counts k [] m ≡ 0
  unfolding counts
  counts_end m = refl

  -- ---- where a call ends

  pub feeds-keeps : (xs : List ℕ) (m : k.Config) → Inv m → Inv (feeds k xs m)
  unfolding feeds
  feeds-keeps [] m v = advance-keeps m v
  feeds-keeps (x ∷ xs) m v =
      picks Inv (k.stopped (advance k m)) (advance k m) (feeds k xs (k.put x (advance k m)))
      (λ s. advance-keeps m v)
      (λ s. feeds-keeps xs (k.put x (advance k m)) (next-keeps x m v s))

  -- a call ends where it can go no further
  pub feeds-waits : (xs : List ℕ) (m : k.Config) → Inv m → k.waits (feeds k xs m) ≡ true
  unfolding feeds
  feeds-waits [] m v = advance-waits m v
  feeds-waits (x ∷ xs) m v =
      picks (λ (n : k.Config). k.waits n ≡ true) (k.stopped (advance k m)) (advance k m) (feeds k xs (k.put x (advance k m)))
      (λ s. advance-waits m v)
      (λ s. feeds-waits xs (k.put x (advance k m)) (next-keeps x m v s))

  pub counts-most : (xs : List ℕ) (m : k.Config) → counts k xs m ≤ length xs
  unfolding counts
  counts-most [] m = omega arith
  counts-most (x ∷ xs) m =
      let h = counts-most xs (k.put x (advance k m)) in
      picks (λ (n : ℕ). n ≤ suc (length xs)) (k.stopped (advance k m)) zero (suc (counts k xs (k.put x (advance k m))))
      (λ s. omega arith)
      (λ s. omega arith)

  -- a call that ends with more to do took its whole piece
  pub counts_all : (xs : List ℕ) (m : k.Config) → Inv m → k.stopped (feeds k xs m) ≡ false → counts k xs m ≡ length xs
  unfolding feeds counts
  counts_all [] m v h = refl
  counts_all (x ∷ xs) m v h =
      go (k.stopped (advance k m)) refl h (λ s. counts_all xs (k.put x (advance k m)) (next-keeps x m v s))
    where
      go : (b : Bool) → k.stopped (advance k m) ≡ b → k.stopped (pick b (advance k m) (feeds k xs (k.put x (advance k m)))) ≡ false
          → (k.stopped (advance k m) ≡ false → k.stopped (feeds k xs (k.put x (advance k m))) ≡ false
          → counts k xs (k.put x (advance k m)) ≡ length xs)
          → pick b zero (suc (counts k xs (k.put x (advance k m)))) ≡ suc (length xs)
      go true s e rest = absurd (never (sym s ∙ e))
      go false s e rest = ap suc (rest s e)

  -- ---- a piece cut in two

  feeds-advance : (ys : List ℕ) (m : k.Config) → Inv m → feeds k ys (advance k m) ≡ feeds k ys m
  unfolding feeds
  feeds-advance [] m v = advance-advance m v
  feeds-advance (y ∷ ys) m v = rw (advance-advance m v)

  counts-advance : (ys : List ℕ) (m : k.Config) → Inv m → counts k ys (advance k m) ≡ counts k ys m
  unfolding counts
  counts-advance [] m v = refl
  counts-advance (y ∷ ys) m v = rw (advance-advance m v)

  pub feeds-append : (xs ys : List ℕ) (m : k.Config) → Inv m → feeds k (xs ++ ys) m ≡ feeds k ys (feeds k xs m)
  unfolding feeds
  feeds-append [] ys m v = sym (feeds-advance ys m v)
  feeds-append (x ∷ xs) ys m v =
      ⊎_elim
      (λ s. rw s (sym (feeds-stopped ys (advance k m) (advance-keeps m v) s)))
      (λ s. rw s (feeds-append xs ys (k.put x (advance k m)) (next-keeps x m v s)))
      (bool (k.stopped (advance k m)))

  pub counts-append : (xs ys : List ℕ) (m : k.Config) → Inv m → counts k (xs ++ ys) m ≡ counts k xs m + counts k ys (feeds k xs m)
  unfolding counts feeds
  counts-append [] ys m v = sym (zero-add (counts k ys (advance k m)) ∙ counts-advance ys m v)
  counts-append (x ∷ xs) ys m v =
      ⊎_elim
      (λ s. rw s (sym (zero-add (counts k ys (advance k m)) ∙ counts-stopped ys (advance k m) (advance-keeps m v) s)))
      (λ s. let h = counts-append xs ys (k.put x (advance k m)) (next-keeps x m v s) in rw s (omega arith))
      (bool (k.stopped (advance k m)))

  -- ---- what each step of a call keeps, told of the bytes left, the number of those taken, and the config

  module _ (R : List ℕ → ℕ → k.Config → Type 0)
      (quiet : (xs : List ℕ) (n : ℕ) (m : k.Config) → Inv m → k.waits m ≡ false → R xs n m → R xs n (k.quiet m))
      (put : (x : ℕ) (xs : List ℕ) (n : ℕ) (m : k.Config) → Inv m → k.waits m ≡ true → k.stopped m ≡ false → R (x ∷ xs) n m
      → R xs (suc n) (k.put x m)) where
    run-follows : (f : ℕ) (xs : List ℕ) (n : ℕ) (m : k.Config) → Inv m → R xs n m → R xs n (run k f m)
    unfolding run
    run-follows zero xs n m v r = r
    run-follows (suc f) xs n m v r =
        picks (R xs n) (k.waits m) m (run k f (k.quiet m))
        (λ w. r)
        (λ w. run-follows f xs n (k.quiet m) (g.quiet_keeps m v w) (quiet xs n m v w r))

    advance-follows : (xs : List ℕ) (n : ℕ) (m : k.Config) → Inv m → R xs n m → R xs n (advance k m)
    unfolding advance
    advance-follows xs n m v r = run-follows (k.fuel m) xs n m v r

    pub feeds-follows : (xs : List ℕ) (n : ℕ) (m : k.Config) → Inv m → R xs n m
        → R (drop (counts k xs m) xs) (n + counts k xs m) (feeds k xs m)
    unfolding feeds counts
    feeds-follows [] n m v r = rw add-zero (advance-follows [] n m v r)
    feeds-follows (x ∷ xs) n m v r =
        let a = advance-follows (x ∷ xs) n m v r in
        ⊎_elim
        (λ s. rw s (rw add-zero a))
        (λ s.
        let kept = next-keeps x m v s in
        let later = feeds-follows xs (suc n) (k.put x (advance k m)) kept (put x xs n (advance k m) (advance-keeps m v) (advance-waits m v) s a) in
        rw s (rw (add-suc, ← suc-add) later))
        (bool (k.stopped (advance k m)))

  -- ---- one call or more end as one call over all the bytes does, and take as many

  pub calls-joined : (ps : List (List ℕ)) (p : List ℕ) (m : k.Config) → Inv m → calls k (p ∷ ps) m ≡ feeds k (joined (p ∷ ps)) m
  unfolding calls joined
  calls-joined [] p m v = ap (λ (l : List ℕ). feeds k l m) (sym (append-nil p))
  calls-joined (q ∷ ps) p m v = calls-joined ps q (feeds k p m) (feeds-keeps p m v) ∙ sym (feeds-append p (joined (q ∷ ps)) m v)

  pub totals-joined : (ps : List (List ℕ)) (m : k.Config) → Inv m → totals k ps m ≡ counts k (joined ps) m
  unfolding totals joined
  totals-joined [] m v = sym (counts_end m)
  totals-joined (p ∷ ps) m v =
      ap (λ (n : ℕ). counts k p m + n) (totals-joined ps (feeds k p m) (feeds-keeps p m v)) ∙ sym (counts-append p (joined ps) m v)
