-- The machine at a line that is not refused: whether it waits, what its step without a byte is and whether a stop follows it, and bytes of new
-- data in one go.
-- Assumes nothing.
use Rattle.std.proofs.Common.{◌≡◌, ℕ, suc, ◌+◌, ◌-◌, ◌%◌, ◌^◌, ◌<◌, ◌≤◌, true, false, List, [], ◌∷◌, length, refl, ap, ◌∙◌, add-zero, mod-lt, mod-eq_of_lt, arith, le-ltb, lt-ltb, eq-eqb, ne_eqb}
use native.Mathlib.Nat.{mod-add-mod}
use borrow.Author.Tests.{lt-leb}
use Rattle.ranges.specs.Ranges.{least_blocks}
use Rattle.state.specs.Refusals.{none}
use Rattle.command.specs.Commands.{command_of}
use Rattle.rules.specs.declared.Terms.{Terms}
use Rattle.machine.proofs.LoopLaws.{puts, Eats}
use Rattle.updater.specs.Areas.{with_image}
use Rattle.updater.specs.Bytes.{put_bytes}
use Rattle.updater.specs.Steps.{Config, config_of, further_into, stops_after, step_at, after}
use Rattle.updater.specs.Run.{current_line, current_command, refusal_here, fault_here, refused_at, quiet_step, new_blocks, new_bytes, put_byte}
use Rattle.updater.specs.Run.{is_stopped, needs_byte, halts_at, machine}
use Rattle.updater.specs.declared.commands.StepEnd.{StepEnd}
use Rattle.updater.proofs.FitLaws.{NotStopped}

-- how the next step of the current line ends, and where it leads
abbrev pub end_here : List ℕ → Config → StepEnd
end_here s p = (step_at (current_line s p) (command_of least_blocks (current_line s p)).hash (current_command least_blocks s p) p).end

abbrev pub step_here : List ℕ → Config → Config
step_here s p = after (current_line s p) (command_of least_blocks (current_line s p)).hash (current_command least_blocks s p) p

module _ (s : List ℕ) (terms : Terms) (p : Config) (g : NotStopped s p) where
  pub goes_on_lem : is_stopped s p ≡ false
  unfolding is_stopped
  goes_on_lem = rw (eq-eqb p.state.refusal.number none g.unrefused, lt-leb (length s) p.state.at g.within)

  -- a line that is refused
  module _ (n : refusal_here least_blocks s terms p ≡ none → ⊥) where
    pub refused-moves : (machine least_blocks s terms).waits p ≡ false
    unfolding needs_byte
    refused-moves = rw (goes_on_lem, ne_eqb (refusal_here least_blocks s terms p) none n)

    pub refused-step : quiet_step least_blocks s terms p ≡ refused_at (refusal_here least_blocks s terms p) (fault_here least_blocks s p) p
    unfolding quiet_step
    refused-step = rw (ne_eqb (refusal_here least_blocks s terms p) none n)

  -- .. and one that is not
  module _ (e : refusal_here least_blocks s terms p ≡ none) where
    pub moves : new_bytes (current_command least_blocks s p) ≤ p.state.into → (machine least_blocks s terms).waits p ≡ false
    unfolding needs_byte
    moves h = rw (goes_on_lem, eq-eqb (refusal_here least_blocks s terms p) none e, le-ltb p.state.into (new_bytes (current_command least_blocks s p)) h)

    pub waits : p.state.into < new_bytes (current_command least_blocks s p) → (machine least_blocks s terms).waits p ≡ true
    unfolding needs_byte
    waits h = rw (goes_on_lem, eq-eqb (refusal_here least_blocks s terms p) none e, lt-ltb p.state.into (new_bytes (current_command least_blocks s p)) h)

    pub step : quiet_step least_blocks s terms p ≡ step_here s p
    unfolding quiet_step
    step = rw (eq-eqb (refusal_here least_blocks s terms p) none e)

-- a stop follows by how the line's step ends, and none follows a refused line
module _ (s : List ℕ) (terms : Terms) (p : Config) where
  pub halts_here_lem : refusal_here least_blocks s terms p ≡ none → halts_at least_blocks s terms p ≡ stops_after (end_here s p)
  unfolding halts_at
  halts_here_lem e = rw (eq-eqb (refusal_here least_blocks s terms p) none e)

  pub halts-not : (refusal_here least_blocks s terms p ≡ none → ⊥) → halts_at least_blocks s terms p ≡ false
  unfolding halts_at
  halts-not n = rw (ne_eqb (refusal_here least_blocks s terms p) none n)

-- ---- bytes of a `new`

-- the bytes xs go to the blocks' bytes, from the byte that is next
unfoldable pub fed : List ℕ → List ℕ → Config → Config
fed blocks xs p =
    config_of (with_image p.areas (put_bytes blocks p.state.into xs p.areas.image)) (further_into p.state (length xs))

module _ (s : List ℕ) (terms : Terms) where
  pub fed-goes : (blocks xs : List ℕ) (p : Config) → NotStopped s p → NotStopped s (fed blocks xs p)
  unfolding fed further_into
  fed-goes blocks xs p g = record { unrefused = g.unrefused; within = g.within }

  -- .. at the same line
  pub fed-refusal : (blocks xs : List ℕ) (p : Config) → refusal_here least_blocks s terms (fed blocks xs p) ≡ refusal_here least_blocks s terms p
  unfolding fed further_into
  fed-refusal blocks xs p = refl

  -- the machine takes as many bytes as the `new` still wants
  pub eats_new : (xs : List ℕ) (p : Config) → NotStopped s p → refusal_here least_blocks s terms p ≡ none →
      length xs ≤ new_bytes (current_command least_blocks s p) - p.state.into → Eats (machine least_blocks s terms) xs p
  unfolding Eats put_byte further_into
  eats_new [] p g e h = tt
  eats_new (x ∷ xs) p g e h = (
    waits s terms p g e (omega arith),
    goes_on_lem s terms p g,
    eats_new xs (put_byte least_blocks s x p) (record { unrefused = g.unrefused; within = g.within }) e (omega arith),
  )

  pub puts_new : (blocks xs : List ℕ) (p : Config) → new_blocks (current_line s p) (current_command least_blocks s p) ≡ blocks →
      p.state.total < 2 ^ 64 → puts (machine least_blocks s terms) xs p ≡ fed blocks xs p
  unfolding puts fed put_bytes put_byte further_into
  puts_new blocks [] p e h = rw (add-zero p.state.into, add-zero p.state.total, mod-eq_of_lt h)
  puts_new blocks (x ∷ xs) p e h =
      let n : p.state.into + 1 + length xs ≡ p.state.into + suc (length xs) = omega arith in
      let t : ((p.state.total + 1) % 2 ^ 64 + length xs) % 2 ^ 64 ≡ (p.state.total + suc (length xs)) % 2 ^ 64 =
      mod-add-mod (p.state.total + 1) (2 ^ 64) (length xs) ∙ ap (λ (i : ℕ). i % 2 ^ 64) (omega arith) in
      puts_new blocks xs (put_byte least_blocks s x p) e (mod-lt (p.state.total + 1) (omega arith)) ∙ rw (e, n, t)
