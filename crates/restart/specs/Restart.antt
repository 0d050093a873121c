-- Document 02, R-9: finishing after a cut. Image and areas are kept in storage, and the state is saved after opening and at every stop. At a cut
-- the bytes that the rules have the run write from the saved stop, or the opening, to the next stop or its end may hold anything.
-- Assumes nothing: these are definitions.
use Rattle.std.specs.Prelude.{◌≡◌, Bool, ◌⊎◌, List, [], ◌∷◌, ◌++◌, ℕ, ◌+◌, ◌*◌, ◌<◌, ◌^◌, length, drop, replicate}
use Rattle.text.specs.Choice.{either}
use Rattle.ranges.specs.Ranges.{least_blocks}
use Rattle.machine.specs.Pieces.{joined}
use Rattle.machine.specs.Writes.{writes_to_stop}
use Rattle.state.specs.Stashes.{Stash}
use Rattle.command.specs.Filling.{fills}
use Rattle.command.specs.declared.Command.{Command}
use Rattle.possible.specs.Possible.{frees_on, terms_for}
use Rattle.updater.specs.Areas.{Areas}
use Rattle.updater.specs.Steps.{Config, config_of, stops_after, step_of}
use Rattle.updater.specs.declared.commands.StepEnd.TheVariants.{Refused}
use Rattle.updater.specs.Run.{line_steps, halts_at, machine}
use Rattle.updater.specs.Calls.{lengths_at, leaves}
use Rattle.restart.specs.Writes.{Spot, AreasOutside, Agree, spots}
use Rattle.updater.specs.declared.Outcome.{Outcome}
use Rattle.updater.specs.declared.Outcome.TheVariants as outcome
use Rattle.sequence.specs.Sequence.{no_calls, all_calls, last_says}
use Rattle.sequence.specs.Claim.{opened_config, Accepted, NoStop}

-- the bytes that the rules have the run write from p to the next stop or its end, xs being all the new data from there on
abbrev pub writes : List ℕ → List ℕ → Config → Spot → Bool
writes s xs p =
    writes_to_stop (machine least_blocks s (terms_for s (lengths_at s p.areas))) (halts_at least_blocks s (terms_for s (lengths_at s p.areas)))
    (spots least_blocks s (terms_for s (lengths_at s p.areas))) xs p

-- a call after which the state is saved: at a stop R-9 wants it, and where more is wanted it does no harm
abbrev pub Saves : Outcome → Type 0
Saves o = (o ≡ outcome.Stop) ⊎ (o ≡ outcome.More)

-- where storage and the saved state may stand when calling begins, and the new data from the state's total onward: after an opening; saved after
-- calls over a part of the data; and after a cut. Any number of times
pub data Standing (s : List ℕ) (a : Areas) (bytes : List ℕ) : List ℕ → Config → Type 0 where
  opening : Standing s a bytes bytes (opened_config s a)
  saved : {xs : List ℕ} {p : Config} → Standing s a bytes xs p → (q : List ℕ) (qs : List (List ℕ)) (later : List ℕ) →
      joined (q ∷ qs) ++ later ≡ xs → Saves (last_says least_blocks s q qs (no_calls p)) →
      Standing s a bytes ((all_calls least_blocks s (q ∷ qs) (no_calls p)).rest ++ later) (all_calls least_blocks s (q ∷ qs) (no_calls p)).config
  cut : {xs : List ℕ} {p q : Config} → Standing s a bytes xs p → Agree (writes s xs p) p q → Standing s a bytes xs q

-- the calls over xs from p end as those over all the data from the opening do: in image, areas and all of the state, and in what the last says
pub record EndsAlike (s : List ℕ) (a : Areas) (p : Config) (q r : List ℕ) (qs rs : List (List ℕ)) : Type 0 where
  pub config : (all_calls least_blocks s (q ∷ qs) (no_calls p)).config ≡ (all_calls least_blocks s (r ∷ rs) (no_calls (opened_config s a))).config
  pub outcome : last_says least_blocks s q qs (no_calls p) ≡ last_says least_blocks s r rs (no_calls (opened_config s a))

-- where a run stops: after a step of a `move`, `stash` or `bsdiff` that is not refused, passed over or not, and after each stretch of a `free`; after
-- no other step
abbrev pub StopsThere : Type 0
StopsThere =
    (l : List ℕ) (held : List Stash) (hash : List ℕ) (c : Command) (ready k : ℕ) (a : Areas) →
    ((number : ℕ) → (step_of l held hash c ready k a).end ≡ Refused number → ⊥) →
    stops_after (step_of l held hash c ready k a).end ≡ either (fills c) (frees_on held k hash c)

-- THE CLAIM, with cuts
pub record RestartClaim : Type 0 where
  pub stops-there : StopsThere
  -- what may stand: every stop that calls come to, saved, and after it whatever the bytes hold that the run writes from there on
  pub stops : (s : List ℕ) (a : Areas) {bytes xs : List ℕ} {p : Config} → Standing s a bytes xs p →
      (q : List ℕ) (qs : List (List ℕ)) (later : List ℕ) → joined (q ∷ qs) ++ later ≡ xs →
      last_says least_blocks s q qs (no_calls p) ≡ outcome.Stop →
      Standing s a bytes ((all_calls least_blocks s (q ∷ qs) (no_calls p)).rest ++ later) (all_calls least_blocks s (q ∷ qs) (no_calls p)).config
  pub cuts : (s : List ℕ) (a : Areas) {bytes xs : List ℕ} {p : Config} → Standing s a bytes xs p →
      (b : Areas) → AreasOutside (writes s xs p) p.areas b → Standing s a bytes xs (config_of b p.state)
  -- the saved state, with the new data that is left, ends as an uncut run does
  pub restarts : (s : List ℕ) (a : Areas) → Accepted s a → {bytes xs : List ℕ} {p : Config} → Standing s a bytes xs p →
      (q : List ℕ) (qs : List (List ℕ)) → joined (q ∷ qs) ≡ xs → NoStop (last_says least_blocks s q qs (no_calls p)) →
      (r : List ℕ) (rs : List (List ℕ)) → joined (r ∷ rs) ≡ bytes → NoStop (last_says least_blocks s r rs (no_calls (opened_config s a))) →
      EndsAlike s a p q r qs rs
  -- and calling on comes to that end
  pub ends : (s : List ℕ) (a : Areas) → Accepted s a → {bytes xs : List ℕ} {p : Config} → Standing s a bytes xs p →
      (q : List ℕ) (qs : List (List ℕ)) → NoStop (last_says least_blocks s q (qs ++ replicate (line_steps * (length s + 1)) []) (no_calls p))
  -- what is left is the new data from the state's total onward
  pub onward : (s : List ℕ) (a : Areas) → Accepted s a → {bytes xs : List ℕ} {p : Config} → Standing s a bytes xs p →
      length bytes < 2 ^ 64 → xs ≡ drop p.state.total bytes
  -- a call over the data that is left, or the first part of it, writes no other bytes than those
  pub only_those : (s : List ℕ) (a : Areas) → Accepted s a → {bytes xs : List ℕ} {p : Config} → Standing s a bytes xs p →
      (piece later : List ℕ) → piece ++ later ≡ xs → AreasOutside (writes s xs p) p.areas (leaves least_blocks s piece p).areas
