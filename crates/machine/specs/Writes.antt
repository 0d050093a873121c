-- Document 02, R-9: which bytes a run writes, and what storage may hold after a cut, for any machine whose configs hold bytes at spots.
-- Assumes nothing: these are definitions.
use Rattle.std.specs.Prelude.{ℕ, zero, suc, ◌≡◌, Bool, true, false, List, [], ◌∷◌, drop}
use Rattle.text.specs.Choice.{pick, either}
use Rattle.machine.specs.Machine.{Machine, advance}
use Rattle.machine.specs.Stops.{Halted, going_on, halting, call_ends, call_takes}

-- where bytes are held; which of them the quiet step, and the step by a byte, write from a config; and that two configs agree outside some
-- spots: they have the same state, and the same bytes at all others
pub record Spots (A : Type 0) : Type 1 where
  pub Spot : Type 0
  pub quiet_writes : A → Spot → Bool
  pub put_writes : A → Spot → Bool
  pub Agree : (Spot → Bool) → A → A → Type 0

-- the same spots, with stops
abbrev pub spots_of : {A : Type 0} → Spots A → Spots (Halted A)
spots_of w =
    record {
      Spot = w.Spot;
      quiet_writes = λ c. w.quiet_writes c.config;
      put_writes = λ c. w.put_writes c.config;
      Agree = λ W c d. (c.halted ≡ d.halted) × w.Agree W c.config d.config;
    }

-- what quiet steps write, one after the other
unfoldable pub run_writes : (k : Machine) (w : Spots k.Config) → ℕ → k.Config → w.Spot → Bool
run_writes k w zero m i = false
run_writes k w (suc f) m i = pick (k.waits m) false (either (w.quiet_writes m i) (run_writes k w f (k.quiet m) i))

-- what a call writes
unfoldable pub feeds_writes : (k : Machine) (w : Spots k.Config) → List ℕ → k.Config → w.Spot → Bool
feeds_writes k w [] m i = run_writes k w (k.fuel m) m i
feeds_writes k w (x ∷ xs) m i =
    either (run_writes k w (k.fuel m) m i)
    (pick (k.stopped (advance k m)) false
    (either (w.put_writes (advance k m) i) (feeds_writes k w xs (k.put x (advance k m)) i)))

-- what the run writes from a config to the next stop or its end, where xs is all the new data from there on
unfoldable pub writes_to_stop : (k : Machine) → (k.Config → Bool) → (w : Spots k.Config) → List ℕ → k.Config → w.Spot → Bool
writes_to_stop k halts w xs m = feeds_writes (halting k halts) (spots_of w) xs (going_on m)

-- Where a run from m over the new data xs may stand, and what is left of them, after any number of stops, each of them saved, and cuts. At
-- a cut all that the run writes from the saved stop to the next one, or its end, may hold anything.
pub data Stands (k : Machine) (halts : k.Config → Bool) (w : Spots k.Config) (xs : List ℕ) (m : k.Config)
    : List ℕ → k.Config → Type 0 where
  saved : Stands k halts w xs m xs m
  stop : {ys : List ℕ} {p : k.Config} → Stands k halts w xs m ys p → (call_ends k halts ys p).halted ≡ true
      → Stands k halts w xs m (drop (call_takes k halts ys p) ys) (call_ends k halts ys p).config
  cut : {ys : List ℕ} {p q : k.Config} → Stands k halts w xs m ys p → w.Agree (writes_to_stop k halts w ys p) p q
      → Stands k halts w xs m ys q
