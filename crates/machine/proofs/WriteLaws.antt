-- A cut between two stops, for any machine: where two configs agree outside what the run writes from one of them to the next stop or its
-- end, the run from the other comes to the same. A step that reads bytes is the last one before a stop or the end, and reads none that it
-- writes; so what stood there does not matter.
-- Assumes nothing.
use mathlib.Core.Path.{◌≡◌, refl, sym, ap, subst, ◌∙◌}
use mathlib.Core.Bool.{Bool, true, false}
use mathlib.Core.List.{List, [], ◌∷◌, ◌++◌, append-nil}
use mathlib.Core.Logic.{⊎_elim}
use Prim.Native.Nat.{ℕ, zero, suc}
use Rattle.text.specs.Choice.{pick, either}
use Rattle.text.proofs.ChoiceLaws.{bool, either_false}
use Rattle.machine.specs.Machine.{Machine, run, advance, feeds, counts}
use Rattle.machine.specs.Stops.{Halted, going_on, halting, call_ends, call_takes}
use Rattle.machine.specs.Writes.{Spots, spots_of, run_writes, feeds_writes, writes_to_stop, Stands, saved, stop, cut}
use Rattle.machine.proofs.MachineLaws.{Sound, run_waiting, advance-keeps, advance-waits}
use Rattle.machine.proofs.StopLaws.{other-of, AtConfig, halting-sound, call-keeps, call_part}

-- What is asked of a machine's steps. `reads` says of a config that its quiet step reads bytes.
pub record Restarts (k : Machine) (halts : k.Config → Bool) (w : Spots k.Config) (Inv : k.Config → Type 0) (reads : k.Config → Bool)
    : Type 0 where
  pub itself : (W : w.Spot → Bool) (p : k.Config) → w.Agree W p p
  pub wider : (L W : w.Spot → Bool) (p q : k.Config) → ((i : w.Spot) → W i ≡ false → L i ≡ false) → w.Agree L p q → w.Agree W p q
  pub nowhere : (p q : k.Config) → w.Agree (λ i. false) p q → p ≡ q
  pub keeps : (W : w.Spot → Bool) (p q : k.Config) → w.Agree W p q → Inv p → Inv q
  pub waits : (W : w.Spot → Bool) (p q : k.Config) → w.Agree W p q → k.waits q ≡ k.waits p
  pub stopped : (W : w.Spot → Bool) (p q : k.Config) → w.Agree W p q → k.stopped q ≡ k.stopped p
  pub fuel : (W : w.Spot → Bool) (p q : k.Config) → w.Agree W p q → k.fuel q ≡ k.fuel p
  -- a step that reads nothing makes the spots that it writes agree
  pub plain : (L : w.Spot → Bool) (p q : k.Config) → Inv p → k.waits p ≡ false → reads p ≡ false
      → w.Agree (λ i. either (w.quiet_writes p i) (L i)) p q → (halts p ≡ halts q) × w.Agree L (k.quiet p) (k.quiet q)
  -- a step that reads makes equal what differs only where it writes; a stop follows, or the end
  pub reading : (p q : k.Config) → Inv p → k.waits p ≡ false → reads p ≡ true → w.Agree (w.quiet_writes p) p q
      → (halts p ≡ halts q) × (k.quiet p ≡ k.quiet q)
  pub last : (p : k.Config) → Inv p → k.waits p ≡ false → reads p ≡ true → either (halts p) (k.stopped (k.quiet p)) ≡ true
  -- a byte's step reads nothing
  pub put : (L : w.Spot → Bool) (x : ℕ) (p q : k.Config) → Inv p → k.waits p ≡ true → k.stopped p ≡ false
      → w.Agree (λ i. either (w.put_writes p i) (L i)) p q → w.Agree L (k.put x p) (k.put x q)

-- ---- a machine whose only stop is its end

module _ (k : Machine) (w : Spots k.Config) (Inv : k.Config → Type 0) (reads : k.Config → Bool) (g : Sound k Inv)
    (r : Restarts k (λ p. false) w Inv reads) where
  waiting_writes : (f : ℕ) (m : k.Config) (i : w.Spot) → k.waits m ≡ true → run_writes k w f m i ≡ false
  unfolding run_writes
  waiting_writes zero m i h = refl
  waiting_writes (suc f) m i h = rw h

  -- L is what is written later: nothing, where the machine has stopped
  run-agrees : (f : ℕ) (L : w.Spot → Bool) (m q : k.Config) → Inv m → (k.stopped (run k f m) ≡ true → (i : w.Spot) → L i ≡ false)
      → w.Agree (λ i. either (run_writes k w f m i) (L i)) m q → w.Agree L (run k f m) (run k f q)
  unfolding run run_writes
  run-agrees zero L m q v none a = a
  run-agrees (suc f) L m q v none a =
      go (k.waits m) refl (reads m) refl none a (λ n v'. run-agrees f L (k.quiet m) (k.quiet q) v' n)
    where
      go : (b : Bool) → k.waits m ≡ b → (d : Bool) → reads m ≡ d
          → (k.stopped (pick (k.waits m) m (run k f (k.quiet m))) ≡ true → (i : w.Spot) → L i ≡ false)
          → w.Agree (λ i. either (pick (k.waits m) false (either (w.quiet_writes m i) (run_writes k w f (k.quiet m) i))) (L i)) m q
          → ((k.stopped (run k f (k.quiet m)) ≡ true → (i : w.Spot) → L i ≡ false) → Inv (k.quiet m)
          → w.Agree (λ i. either (run_writes k w f (k.quiet m) i) (L i)) (k.quiet m) (k.quiet q)
          → w.Agree L (run k f (k.quiet m)) (run k f (k.quiet q)))
          → w.Agree L (pick (k.waits m) m (run k f (k.quiet m))) (pick (k.waits q) q (run k f (k.quiet q)))
      go true e d t none a later =
          let n = r.waits _ m q a ∙ e in
          rw (e, n) (r.wider _ L m q (λ i h. rw (e, h)) a)
      go false e true t none a later =
          let n = r.waits _ m q a ∙ e in
          let s = r.last m v e t in
          let u = g.rests (k.quiet m) (g.quiet_keeps m v e) s in
          let empty : (i : w.Spot) → L i ≡ false = none (rw (e, run_waiting k Inv g f (k.quiet m) u) s) in
          let same : k.quiet m ≡ k.quiet q =
          (r.reading m q v e t (r.wider _ (w.quiet_writes m) m q (λ i h. rw (e, h, empty i, waiting_writes f (k.quiet m) i u)) a)).1 in
          rw (e, n, ← same) (r.itself L (run k f (k.quiet m)))
      go false e false t none a later =
          let n = r.waits _ m q a ∙ e in
          rw (e, n)
          (later (λ s. none (rw e s)) (g.quiet_keeps m v e)
          (r.plain (λ i. either (run_writes k w f (k.quiet m) i) (L i)) m q v e t
          (r.wider _ _ m q
          (λ i h.
          let x = either_false (w.quiet_writes m i) (either (run_writes k w f (k.quiet m) i) (L i)) h in
          let y = either_false (run_writes k w f (k.quiet m) i) (L i) x.1 in
          rw (e, x.0, y.0) y.1)
          a)).1)

  advance-agrees : (L : w.Spot → Bool) (m q : k.Config) → Inv m → (k.stopped (advance k m) ≡ true → (i : w.Spot) → L i ≡ false)
      → w.Agree (λ i. either (run_writes k w (k.fuel m) m i) (L i)) m q → w.Agree L (advance k m) (advance k q)
  unfolding advance
  advance-agrees L m q v none a = rw (r.fuel _ m q a) (run-agrees (k.fuel m) L m q v none a)

  -- a byte, where no quiet step is left to do
  byte-agrees : (x : ℕ) (xs : List ℕ) (p q : k.Config) → Inv p → k.waits p ≡ true
      → w.Agree (λ i. pick (k.stopped p) false (either (w.put_writes p i) (feeds_writes k w xs (k.put x p) i))) p q
      → (k.stopped p ≡ false → w.Agree (feeds_writes k w xs (k.put x p)) (k.put x p) (k.put x q)
      → (feeds k xs (k.put x p) ≡ feeds k xs (k.put x q)) × (counts k xs (k.put x p) ≡ counts k xs (k.put x q)))
      → (pick (k.stopped p) p (feeds k xs (k.put x p)) ≡ pick (k.stopped q) q (feeds k xs (k.put x q)))
      × (pick (k.stopped p) zero (suc (counts k xs (k.put x p))) ≡ pick (k.stopped q) zero (suc (counts k xs (k.put x q))))
  byte-agrees x xs p q v u a later =
      ⊎_elim
      (λ s. rw (← (r.nowhere p q (r.wider _ (λ i. false) p q (λ i h. rw s) a))) (refl, refl))
      (λ s.
      let t = r.stopped _ p q a ∙ s in
      let e = later s (r.put (feeds_writes k w xs (k.put x p)) x p q v u s (r.wider _ _ p q (λ i h. rw s h) a)) in
      rw (s, t) (e.0, ap suc e.1))
      (bool (k.stopped p))

  -- a call comes to the same from configs that agree outside what it writes
  pub feeds-agrees : (xs : List ℕ) (m q : k.Config) → Inv m → w.Agree (feeds_writes k w xs m) m q
      → (feeds k xs m ≡ feeds k xs q) × (counts k xs m ≡ counts k xs q)
  unfolding feeds counts feeds_writes
  feeds-agrees [] m q v a = (
    r.nowhere (advance k m) (advance k q)
        (advance-agrees (λ i. false) m q v (λ s i. refl) (r.wider _ _ m q (λ i h. (either_false (run_writes k w (k.fuel m) m i) false h).0) a)),
    refl,
  )
  feeds-agrees (x ∷ xs) m q v a =
      let kept = advance-keeps k Inv g m v in
      let waits = advance-waits k Inv g m v in
      byte-agrees x xs (advance k m) (advance k q) kept waits
      (advance-agrees
      (λ i. pick (k.stopped (advance k m)) false (either (w.put_writes (advance k m) i) (feeds_writes k w xs (k.put x (advance k m)) i)))
      m q v (λ s i. rw s) a)
      (λ s b. feeds-agrees xs (k.put x (advance k m)) (k.put x (advance k q)) (g.put_keeps (advance k m) x kept waits s) b)

-- ---- with stops

module _ (k : Machine) (halts : k.Config → Bool) (w : Spots k.Config) (Inv : k.Config → Type 0) (reads : k.Config → Bool) (g : Sound k Inv)
    (r : Restarts k halts w Inv reads) where
  halted_eq : {p q : k.Config} {a b : Bool} → a ≡ b → p ≡ q
      → ◌≡◌ {A = Halted k.Config} (record { config = p; halted = a }) (record { config = q; halted = b })
  halted_eq e f = rw (e, f)

  -- a stop is an end of the machine with stops
  halting-restarts : Restarts (halting k halts) (λ c. false) (spots_of w) (AtConfig Inv) (λ c. reads c.config)
  halting-restarts =
      record {
        itself = λ W c. (refl, r.itself W c.config);
        wider = λ L W c d h a. (a.0, r.wider L W c.config d.config h a.1);
        nowhere = λ c d a. halted_eq a.0 (r.nowhere c.config d.config a.1);
        keeps = λ W c d a v. r.keeps W c.config d.config a.1 v;
        waits = λ W c d a. rw (a.0, r.waits W c.config d.config a.1);
        stopped = λ W c d a. rw (a.0, r.stopped W c.config d.config a.1);
        fuel = λ W c d a. r.fuel W c.config d.config a.1;
        plain = λ L c d v n t a.
            (refl, r.plain L c.config d.config v (either_false c.halted (k.waits c.config) n).1 t a.1);
        reading = λ c d v n t a.
            let e = r.reading c.config d.config v (either_false c.halted (k.waits c.config) n).1 t a.1 in
            (refl, halted_eq e.0 e.1);
        last = λ c v n t. r.last c.config v (either_false c.halted (k.waits c.config) n).1 t;
        put = λ L x c d v n s a.
            let e = either_false c.halted (k.stopped c.config) s in
            (refl, r.put L x c.config d.config v (other-of e.0 n) e.1 a.1);
      }

  -- a cut between two stops: the run comes to the same next stop, or end
  pub cut-call : (xs : List ℕ) (p q : k.Config) → Inv p → w.Agree (writes_to_stop k halts w xs p) p q
      → (call_ends k halts xs p ≡ call_ends k halts xs q) × (call_takes k halts xs p ≡ call_takes k halts xs q)
  unfolding call_ends call_takes writes_to_stop
  cut-call xs p q v a =
      feeds-agrees (halting k halts) (spots_of w) (AtConfig Inv) (λ c. reads c.config) (halting-sound k halts Inv g) halting-restarts
      xs (going_on p) (going_on q) v (refl, a)

  -- .. and, after calling on, to the same end
  pub cut-ends : (xs : List ℕ) (p q : k.Config) → Inv p → w.Agree (writes_to_stop k halts w xs p) p q
      → (feeds k xs q ≡ feeds k xs p) × (counts k xs q ≡ counts k xs p)
  cut-ends xs p q v a =
      let e = cut-call xs p q v a in
      let f = call_part k halts Inv g xs [] p v in
      let h = call_part k halts Inv g xs [] q (r.keeps _ p q a v) in
      let n = append-nil xs in (
        subst (λ (l : List ℕ). feeds k l q ≡ feeds k l p) n (h.0 ∙ rw (← e.0, ← e.1) (sym f.0)),
        subst (λ (l : List ℕ). counts k l q ≡ counts k l p) n (h.1 ∙ rw (← e.0, ← e.1) (sym f.1)),
      )

  -- ---- any number of stops and cuts

  pub stands-keeps : {xs : List ℕ} {m : k.Config} {ys : List ℕ} {p : k.Config} → Inv m → Stands k halts w xs m ys p → Inv p
  stands-keeps v saved = v
  stands-keeps v (stop {ys} {p} s h) = call-keeps k halts Inv g ys p (stands-keeps v s)
  stands-keeps v (cut {ys} {p} {q} s a) = r.keeps _ p q a (stands-keeps v s)

  -- the saved state, with the new data from there on, ends as the uncut run does
  pub stands-ends : {xs : List ℕ} {m : k.Config} {ys : List ℕ} {p : k.Config} → Inv m → Stands k halts w xs m ys p → feeds k ys p ≡ feeds k xs m
  stands-ends v saved = refl
  stands-ends v (stop {ys} {p} s h) =
      subst (λ (l : List ℕ). feeds k l (call_ends k halts ys p).config ≡ feeds k ys p) (append-nil _)
      (sym (call_part k halts Inv g ys [] p (stands-keeps v s)).0 ∙ ap (λ (l : List ℕ). feeds k l p) (append-nil ys))
      ∙ stands-ends v s
  stands-ends v (cut {ys} {p} {q} s a) = (cut-ends ys p q (stands-keeps v s) a).0 ∙ stands-ends v s

-- ---- no more is written than is said

-- What is asked of a machine's steps for it. `Only W p q` says that q differs from p at the spots W at the most.
pub record Covers (k : Machine) (w : Spots k.Config) (Inv : k.Config → Type 0) (Only : (w.Spot → Bool) → k.Config → k.Config → Type 0)
    : Type 0 where
  pub itself : (p : k.Config) → Only (λ i. false) p p
  pub wider : (L W : w.Spot → Bool) (p q : k.Config) → ((i : w.Spot) → W i ≡ false → L i ≡ false) → Only L p q → Only W p q
  pub then : (W : w.Spot → Bool) (p q r : k.Config) → Only W p q → Only W q r → Only W p r
  pub quiet : (p : k.Config) → Inv p → k.waits p ≡ false → Only (w.quiet_writes p) p (k.quiet p)
  pub put : (x : ℕ) (p : k.Config) → Inv p → k.waits p ≡ true → k.stopped p ≡ false → Only (w.put_writes p) p (k.put x p)

module _ (k : Machine) (w : Spots k.Config) (Inv : k.Config → Type 0) (Only : (w.Spot → Bool) → k.Config → k.Config → Type 0)
    (g : Sound k Inv) (r : Covers k w Inv Only) where
  after_that : (L W : w.Spot → Bool) (p q m : k.Config) → Only L p q → Only W q m → Only (λ i. either (L i) (W i)) p m
  after_that L W p q m a b =
      r.then (λ i. either (L i) (W i)) p q m
      (r.wider L (λ i. either (L i) (W i)) p q (λ i h. (either_false (L i) (W i) h).0) a)
      (r.wider W (λ i. either (L i) (W i)) q m (λ i h. (either_false (L i) (W i) h).1) b)

  run-covers : (f : ℕ) (m : k.Config) → Inv m → Only (run_writes k w f m) m (run k f m)
  unfolding run run_writes
  run-covers zero m v = r.itself m
  run-covers (suc f) m v = go (k.waits m) refl (λ e. run-covers f (k.quiet m) (g.quiet_keeps m v e))
    where
      go : (b : Bool) → k.waits m ≡ b → (k.waits m ≡ false → Only (run_writes k w f (k.quiet m)) (k.quiet m) (run k f (k.quiet m)))
          → Only (λ i. pick b false (either (w.quiet_writes m i) (run_writes k w f (k.quiet m) i))) m (pick b m (run k f (k.quiet m)))
      go true e later = r.itself m
      go false e later =
          after_that (w.quiet_writes m) (run_writes k w f (k.quiet m)) m (k.quiet m) (run k f (k.quiet m)) (r.quiet m v e) (later e)

  pub feeds-covers : (xs : List ℕ) (m : k.Config) → Inv m → Only (feeds_writes k w xs m) m (feeds k xs m)
  unfolding feeds feeds_writes advance
  feeds-covers [] m v = run-covers (k.fuel m) m v
  feeds-covers (x ∷ xs) m v =
      after_that (run_writes k w (k.fuel m) m) _ m (advance k m) _ (run-covers (k.fuel m) m v)
      (go (k.stopped (advance k m)) refl (λ s. feeds-covers xs (k.put x (advance k m)) (g.put_keeps (advance k m) x kept waits s)))
    where
      p : k.Config
      p = advance k m

      next : k.Config
      next = k.put x p

      kept : Inv p
      kept = advance-keeps k Inv g m v

      waits : k.waits p ≡ true
      waits = advance-waits k Inv g m v

      go : (b : Bool) → k.stopped p ≡ b → (k.stopped p ≡ false → Only (feeds_writes k w xs next) next (feeds k xs next))
          → Only (λ i. pick b false (either (w.put_writes p i) (feeds_writes k w xs next i))) p (pick b p (feeds k xs next))
      go true s later = r.itself p
      go false s later =
          after_that (w.put_writes p) (feeds_writes k w xs next) p next (feeds k xs next) (r.put x p kept waits s) (later s)

module _ (k : Machine) (halts : k.Config → Bool) (w : Spots k.Config) (Inv : k.Config → Type 0)
    (Only : (w.Spot → Bool) → k.Config → k.Config → Type 0) (g : Sound k Inv) (r : Covers k w Inv Only) where
  halting-covers : Covers (halting k halts) (spots_of w) (AtConfig Inv) (λ W c d. Only W c.config d.config)
  halting-covers =
      record {
        itself = λ c. r.itself c.config;
        wider = λ L W c d h a. r.wider L W c.config d.config h a;
        then = λ W c d e a b. r.then W c.config d.config e.config a b;
        quiet = λ c v n. r.quiet c.config v (either_false c.halted (k.waits c.config) n).1;
        put = λ x c v n s.
            let e = either_false c.halted (k.stopped c.config) s in
            r.put x c.config v (other-of e.0 n) e.1;
      }

  -- from a config to the next stop, or the end, nothing else is written
  pub call-covers : (xs : List ℕ) (p : k.Config) → Inv p → Only (writes_to_stop k halts w xs p) p (call_ends k halts xs p).config
  unfolding call_ends writes_to_stop
  call-covers xs p v =
      feeds-covers (halting k halts) (spots_of w) (AtConfig Inv) (λ W c d. Only W c.config d.config) (halting-sound k halts Inv g)
      halting-covers xs (going_on p) v

-- ---- the first part of the bytes

-- what is written over some bytes is written over them and more
module _ (k : Machine) (w : Spots k.Config) where
  feeds-less : (xs ys : List ℕ) (m : k.Config) (i : w.Spot) → feeds_writes k w (xs ++ ys) m i ≡ false → feeds_writes k w xs m i ≡ false
  unfolding feeds_writes
  feeds-less [] [] m i e = e
  feeds-less [] (y ∷ ys) m i e = (either_false (run_writes k w (k.fuel m) m i) _ e).0
  feeds-less (x ∷ xs) ys m i e =
      let a = either_false (run_writes k w (k.fuel m) m i) _ e in
      rw a.0 (go (k.stopped (advance k m)) (feeds-less xs ys (k.put x (advance k m)) i) a.1)
    where
      next : k.Config
      next = k.put x (advance k m)

      go : (b : Bool) → (feeds_writes k w (xs ++ ys) next i ≡ false → feeds_writes k w xs next i ≡ false) →
          pick b false (either (w.put_writes (advance k m) i) (feeds_writes k w (xs ++ ys) next i)) ≡ false →
          pick b false (either (w.put_writes (advance k m) i) (feeds_writes k w xs next i)) ≡ false
      go true later f = refl
      go false later f = let b = either_false (w.put_writes (advance k m) i) _ f in rw b.0 (later b.1)

pub writes-less : (k : Machine) (halts : k.Config → Bool) (w : Spots k.Config) (xs ys : List ℕ) (p : k.Config) (i : w.Spot) →
    writes_to_stop k halts w (xs ++ ys) p i ≡ false → writes_to_stop k halts w xs p i ≡ false
unfolding writes_to_stop
writes-less k halts w xs ys p i e = feeds-less (halting k halts) (spots_of w) xs ys (going_on p) i e
