-- Two machines that go together: where their configs are related, they wait, stop and burn alike, and each step leads to related configs. Then
-- a call does the same on both, with stops for saving too.
-- Assumes nothing.
use mathlib.Core.Path.{◌≡◌, refl, ap}
use mathlib.Core.Bool.{Bool, true, false}
use mathlib.Core.List.{List, [], ◌∷◌}
use Prim.Native.Nat.{ℕ, zero, suc}
use Rattle.text.specs.Choice.{pick}
use Rattle.text.proofs.ChoiceLaws.{either_false}
use Rattle.machine.specs.Machine.{Machine, run, advance, feeds, counts}
use Rattle.machine.specs.Stops.{Halted, going_on, halting, call_ends, call_takes}

pub record Alike (k j : Machine) (R : k.Config → j.Config → Type 0) : Type 0 where
  pub waits : (p : k.Config) (q : j.Config) → R p q → k.waits p ≡ j.waits q
  pub stopped : (p : k.Config) (q : j.Config) → R p q → k.stopped p ≡ j.stopped q
  pub fuel : (p : k.Config) (q : j.Config) → R p q → k.fuel p ≡ j.fuel q
  pub quiet : (p : k.Config) (q : j.Config) → R p q → k.waits p ≡ false → R (k.quiet p) (j.quiet q)
  pub put : (x : ℕ) (p : k.Config) (q : j.Config) → R p q → k.stopped p ≡ false → R (k.put x p) (j.put x q)

module _ (k j : Machine) (R : k.Config → j.Config → Type 0) (g : Alike k j R) where
  run-alike : (f : ℕ) (p : k.Config) (q : j.Config) → R p q → R (run k f p) (run j f q)
  unfolding run
  run-alike zero p q r = r
  run-alike (suc f) p q r = rw (← (g.waits p q r)) (go (k.waits p) refl (run-alike f (k.quiet p) (j.quiet q)))
    where
      go : (t : Bool) → k.waits p ≡ t → (R (k.quiet p) (j.quiet q) → R (run k f (k.quiet p)) (run j f (j.quiet q))) →
          R (pick t p (run k f (k.quiet p))) (pick t q (run j f (j.quiet q)))
      go true e later = r
      go false e later = later (g.quiet p q r e)

  advance-alike : (p : k.Config) (q : j.Config) → R p q → R (advance k p) (advance j q)
  unfolding advance
  advance-alike p q r = rw (← (g.fuel p q r)) (run-alike (k.fuel p) p q r)

  feeds-alike : (xs : List ℕ) (p : k.Config) (q : j.Config) → R p q → R (feeds k xs p) (feeds j xs q)
  unfolding feeds
  feeds-alike [] p q r = advance-alike p q r
  feeds-alike (x ∷ xs) p q r = at_byte (advance k p) (advance j q) (advance-alike p q r) (λ a b. feeds-alike xs (k.put x a) (j.put x b))
    where
      at_byte : (a : k.Config) (b : j.Config) → R a b →
          ((a : k.Config) (b : j.Config) → R (k.put x a) (j.put x b) → R (feeds k xs (k.put x a)) (feeds j xs (j.put x b))) →
          R (pick (k.stopped a) a (feeds k xs (k.put x a))) (pick (j.stopped b) b (feeds j xs (j.put x b)))
      at_byte a b r later = rw (← (g.stopped a b r)) (go (k.stopped a) refl)
        where
          go : (t : Bool) → k.stopped a ≡ t → R (pick t a (feeds k xs (k.put x a))) (pick t b (feeds j xs (j.put x b)))
          go true e = r
          go false e = later a b (g.put x a b r e)

  counts-alike : (xs : List ℕ) (p : k.Config) (q : j.Config) → R p q → counts k xs p ≡ counts j xs q
  unfolding counts
  counts-alike [] p q r = refl
  counts-alike (x ∷ xs) p q r = at_byte (advance k p) (advance j q) (advance-alike p q r) (λ a b. counts-alike xs (k.put x a) (j.put x b))
    where
      at_byte : (a : k.Config) (b : j.Config) → R a b →
          ((a : k.Config) (b : j.Config) → R (k.put x a) (j.put x b) → counts k xs (k.put x a) ≡ counts j xs (j.put x b)) →
          pick (k.stopped a) zero (suc (counts k xs (k.put x a))) ≡ pick (j.stopped b) zero (suc (counts j xs (j.put x b)))
      at_byte a b r later = rw (← (g.stopped a b r)) (go (k.stopped a) refl)
        where
          go : (t : Bool) → k.stopped a ≡ t → pick t zero (suc (counts k xs (k.put x a))) ≡ pick t zero (suc (counts j xs (j.put x b)))
          go true e = refl
          go false e = ap suc (later a b (g.put x a b r e))

-- ---- with stops

-- configs that are related, and a stop has come on both or on neither
pub record SameHalt {A B : Type 0} (R : A → B → Type 0) (c : Halted A) (d : Halted B) : Type 0 where
  pub config : R c.config d.config
  pub halted : c.halted ≡ d.halted

module _ (k j : Machine) (R : k.Config → j.Config → Type 0) (g : Alike k j R) (halts : k.Config → Bool) (stops : j.Config → Bool)
    (same : (p : k.Config) (q : j.Config) → R p q → k.waits p ≡ false → halts p ≡ stops q) where
  halting-alike : Alike (halting k halts) (halting j stops) (SameHalt R)
  halting-alike =
      record {
        waits = λ c d r. rw (r.halted, g.waits c.config d.config r.config);
        stopped = λ c d r. rw (r.halted, g.stopped c.config d.config r.config);
        fuel = λ c d r. g.fuel c.config d.config r.config;
        quiet = λ c d r w.
            let n = (either_false c.halted (k.waits c.config) w).1 in
            record { config = g.quiet c.config d.config r.config n; halted = same c.config d.config r.config n };
        put = λ x c d r s.
            record { config = g.put x c.config d.config r.config (either_false c.halted (k.stopped c.config) s).1; halted = refl };
      }

  pub ends-alike : (xs : List ℕ) (p : k.Config) (q : j.Config) → R p q → SameHalt R (call_ends k halts xs p) (call_ends j stops xs q)
  unfolding call_ends
  ends-alike xs p q r =
      feeds-alike (halting k halts) (halting j stops) (SameHalt R) halting-alike xs (going_on p) (going_on q) (record { config = r; halted = refl })

  pub takes-alike : (xs : List ℕ) (p : k.Config) (q : j.Config) → R p q → call_takes k halts xs p ≡ call_takes j stops xs q
  unfolding call_takes
  takes-alike xs p q r =
      counts-alike (halting k halts) (halting j stops) (SameHalt R) halting-alike xs (going_on p) (going_on q) (record { config = r; halted = refl })
