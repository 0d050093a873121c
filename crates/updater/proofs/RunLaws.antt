-- The loop of a run, turn by turn as the code takes them: a line that is refused, a step of a command that needs no byte, with a stop after it
-- or none, and the bytes of a `new`.
-- Assumes nothing.
use Rattle.std.proofs.Common.{◌≡◌, ℕ, ◌+◌, ◌-◌, ◌*◌, ◌/◌, ◌^◌, ◌<◌, ◌≤◌, min, Bool, true, false, eqb, List, length, take, drop, sym, ap, ◌∙◌, arith, length-drop, length-take, ne_eqb, le-leb}
use Rattle.text.specs.Choice.{either, no}
use Rattle.text.proofs.ChoiceLaws.{either_or_true}
use Rattle.ranges.specs.Ranges.{least_blocks}
use Rattle.ranges.specs.Walk.{blocks_at}
use Rattle.ranges.specs.declared.RangeSet.{RangeSet}
use Rattle.state.specs.Limits.{block_bytes}
use Rattle.state.specs.Refusals.{none}
use Rattle.state.specs.Stashes.{held}
use Rattle.state.specs.declared.State.{State}
use Rattle.command.specs.Commands.{command_of}
use Rattle.command.specs.Faults.{fault_byte}
use Rattle.faults.proofs.Faults.{fault-within}
use Rattle.command.specs.Targets.{new_target}
use Rattle.command.specs.declared.Command.{Command}
use Rattle.command.specs.declared.Line.{Line}
use Rattle.command.specs.declared.Command.TheVariants as command
use Rattle.rules.specs.Held.{table_after}
use Rattle.rules.specs.Rules.{CheckedLine, checked_of}
use Rattle.rules.specs.declared.Terms.{Terms}
use Rattle.machine.proofs.LoopLaws.{puts}
use Rattle.machine.proofs.HaltLoopLaws.{CallEnds, GoesOn, goes_on_lem, step-on, step-stops, puts-on, stopped-ends, waiting_ends}
use Rattle.possible.specs.Possible.{frees_on, can_be_stretched}
use Rattle.updater.specs.Areas.{Areas, with_image}
use Rattle.updater.specs.Bytes.{put_bytes}
use Rattle.updater.specs.Steps.{Config, config_of, passed, refused_with, further_into, Stepped, stepped, step_of, state_after, stops_after}
use Rattle.updater.specs.Steps.{step_at, after}
use Rattle.updater.specs.Runnable.{InImage, Runnable}
use Rattle.updater.specs.Run.{current_line, current_command, refusal_here, refused_at, quiet_step, new_blocks, new_bytes, is_stopped, machine}
use Rattle.updater.specs.Run.{halts_at, reached, run_of}
use Rattle.updater.specs.declared.commands.StepEnd.{StepEnd}
use Rattle.updater.specs.Fits.{Fits}
use Rattle.updater.proofs.RunnableLaws.{runnable, next-at, new_bytes-most}
use Rattle.updater.proofs.FitLaws.{NotStopped, fits-sound}
use Rattle.updater.proofs.AtLineLaws.{refused-moves, refused-step, moves, waits, step, halts_here_lem, halts-not}
use Rattle.updater.proofs.AtLineLaws.{fed, fed-goes, fed-refusal, eats_new, puts_new}
use Rattle.std.specs.Prelude.{Some, None}

-- ---- what a command wants

pub is_new : (c : Command) {set : RangeSet} → new_target c ≡ Some set → c ≡ command.New set
unfolding new_target
is_new (command.Zero set) e = absurd (let z : ◌≡◌ {A = ℕ} 0 1 = cc in omega arith)
is_new (command.Erase set) e = absurd (let z : ◌≡◌ {A = ℕ} 0 1 = cc in omega arith)
is_new (command.New set) e = cc
is_new (command.Move target n source) e = absurd (let z : ◌≡◌ {A = ℕ} 0 1 = cc in omega arith)
is_new (command.Bsdiff target n source) e = absurd (let z : ◌≡◌ {A = ℕ} 0 1 = cc in omega arith)
is_new (command.Stash set) e = absurd (let z : ◌≡◌ {A = ℕ} 0 1 = cc in omega arith)
is_new command.Free e = absurd (let z : ◌≡◌ {A = ℕ} 0 1 = cc in omega arith)
is_new command.Unsupported e = absurd (let z : ◌≡◌ {A = ℕ} 0 1 = cc in omega arith)
is_new (command.Bad p) e = absurd (let z : ◌≡◌ {A = ℕ} 0 1 = cc in omega arith)

-- ---- what a state keeps of another

-- bytes into a `new` leave the line, and what was refused, also when it is then passed
module _ (s : State) (n : ℕ) {t : State} (e : t ≡ further_into s n) where
  pub further-at : t.at ≡ s.at
  unfolding further_into
  further-at = ap (λ (z : State). z.at) e

  pub further-line : t.line ≡ s.line
  unfolding further_into
  further-line = ap (λ (z : State). z.line) e

  pub further-refusal : (m : ℕ) {u : State} → u ≡ passed t m → u.refusal.number ≡ s.refusal.number
  unfolding further_into passed
  further-refusal m f = ap (λ (z : State). z.refusal.number) f ∙ ap (λ (z : State). z.refusal.number) e

-- ---- where the machine stops

module _ (s : List ℕ) (p : Config) where
  refused-stops : (p.state.refusal.number ≡ none → ⊥) → is_stopped s p ≡ true
  unfolding is_stopped
  refused-stops n = rw (ne_eqb p.state.refusal.number none n)

  finished-stops : length s ≤ p.state.at → is_stopped s p ≡ true
  unfolding is_stopped
  finished-stops h = rw (le-leb (length s) p.state.at h) (sym (either_or_true (no (eqb p.state.refusal.number none))))

-- ---- the turns of the loop

-- the run goes on, and the line at hand was read and checked
pub record Checks (s : List ℕ) (terms : Terms) (p : Config) (l : List ℕ) (checked : CheckedLine) : Type 0 where
  pub going : NotStopped s p
  pub line : l ≡ current_line s p
  pub result : checked ≡ checked_of least_blocks l terms (held p.state)

-- from p at byte i of the piece the run goes on as from p₀ at its start, with no stop yet
abbrev pub Runs : List ℕ → Terms → List ℕ → Config → Config → ℕ → Type 0
Runs s terms piece p₀ p i = GoesOn (machine least_blocks s terms) (halts_at least_blocks s terms) (Fits s terms) piece p₀ p i

-- it ends at p, with a stop or with none, and took i bytes
abbrev pub RunEnds : List ℕ → Terms → List ℕ → Config → Config → Bool → ℕ → Type 0
RunEnds s terms piece p₀ p stop i =
    CallEnds (machine least_blocks s terms) (halts_at least_blocks s terms) piece p₀ (record { config = p; halted = stop }) i

pub run-starts : (s : List ℕ) (terms : Terms) (piece : List ℕ) (p : Config) → Fits s terms p → Runs s terms piece p p 0
run-starts s terms piece p f =
    goes_on_lem (machine least_blocks s terms) (halts_at least_blocks s terms) (Fits s terms) (fits-sound s terms) piece p f

-- a turn of the loop leads from p to q and to byte i of the piece, and leaves less to do
pub record Turned (s : List ℕ) (terms : Terms) (piece : List ℕ) (p₀ p q : Config) (i : ℕ) : Type 0 where
  pub same : Runs s terms piece p₀ q i
  pub less : (machine least_blocks s terms).fuel q < (machine least_blocks s terms).fuel p

module _ {s piece : List ℕ} {terms : Terms} {p₀ p : Config} {i : ℕ} (a : Runs s terms piece p₀ p i) where
  turned : {q : Config} → (machine least_blocks s terms).waits p ≡ false → halts_at least_blocks s terms p ≡ false →
      quiet_step least_blocks s terms p ≡ q → Turned s terms piece p₀ p q i
  turned {q} w h e =
      let k = machine least_blocks s terms in
      let g = fits-sound s terms in
      record {
        same = step-on k (halts_at least_blocks s terms) (Fits s terms) g piece p₀ p q i a w h e;
        less = rw (← e) (g.falls p a.keeps w);
      }

  ends : is_stopped s p ≡ true → RunEnds s terms piece p₀ p false i
  ends e = stopped-ends (machine least_blocks s terms) (halts_at least_blocks s terms) (Fits s terms) (fits-sound s terms) piece p₀ p i a e

  -- the text ends
  pub stops-finished : length s ≤ p.state.at → RunEnds s terms piece p₀ p false i
  stops-finished h = ends (finished-stops s p h)

module _ {s : List ℕ} {terms : Terms} {p : Config} {l : List ℕ} {checked : CheckedLine} (c : Checks s terms p l checked) where
  checked-refusal : checked.refusal ≡ refusal_here least_blocks s terms p
  unfolding checked_of
  checked-refusal = rw (c.result, c.line)

  checked-line : checked.line ≡ command_of least_blocks (current_line s p)
  unfolding checked_of
  checked-line = rw (c.result, c.line)

  checked-command : current_command least_blocks s p ≡ checked.line.command
  checked-command = sym (ap (λ (k : Line). k.command) checked-line)

module _ {s : List ℕ} {terms : Terms} {p : Config} {l : List ℕ} {checked : CheckedLine}
    (f : Fits s terms p) (c : Checks s terms p l checked) where
  -- the numbers of the next line fit
  pub checked-at : p.state.at + length l < 2 ^ 64
  checked-at = rw c.line (next-at s terms p f c.going.within)

  -- a fault lies within its line
  pub checked-fault : (q : ℕ) → checked.line.command ≡ command.Bad q → p.state.at + q < 2 ^ 64
  checked-fault q e =
      omega (arith, fault-within (current_line s p) (checked-command c ∙ e), next-at s terms p f c.going.within)

  -- the stretches that are moved are those of this line
  pub checked-stretches : either (eqb p.state.stretches 0) (frees_on (held p.state) p.state.stretches checked.line.hash checked.line.command) ≡ true
  unfolding can_be_stretched
  checked-stretches = rw (checked-line c) f.stretches

  module _ (e : checked.refusal ≡ none) where
    unrefused : refusal_here least_blocks s terms p ≡ none
    unrefused = sym (checked-refusal c) ∙ e

    pub checked-runs : Runnable l (held p.state) p.areas checked.line.command
    checked-runs = rw (c.line, checked-line c) (runnable s terms p f unrefused)

    module _ {set : RangeSet} (w : new_target checked.line.command ≡ Some set) where
      new_here : current_command least_blocks s p ≡ command.New set
      new_here = checked-command c ∙ is_new checked.line.command w

      pub new_in_image : InImage l p.areas.image set
      unfolding Runnable
      new_in_image = rw (is_new checked.line.command w) at checked-runs

      -- the bytes into a `new` can be counted
      pub new_counts : (n : ℕ) → p.state.into < 2 ^ 64 →
          p.state.into + min n (block_bytes * length (blocks_at l set.at) - p.state.into) < 2 ^ 64
      new_counts n h = let m = new_bytes-most s terms p f unrefused new_here in let k = new_in_image.size in omega arith

module _ {s piece l : List ℕ} {terms : Terms} {p₀ p : Config} {i : ℕ} {checked : CheckedLine}
    (a : Runs s terms piece p₀ p i) (c : Checks s terms p l checked) where
  -- the line is refused
  pub refuses : {byte : ℕ} {t : State} → (checked.refusal ≡ none → ⊥) → byte ≡ fault_byte p.state.at checked.line.command →
      t ≡ refused_with p.state checked.refusal byte → RunEnds s terms piece p₀ (config_of p.areas t) false i
  unfolding refused_at refused_with
  refuses n b t =
      let m : refusal_here least_blocks s terms p ≡ none → ⊥ = λ z. n (checked-refusal c ∙ z) in
      let q = turned a (refused-moves s terms p c.going m) (halts-not s terms p m) (refused-step s terms p c.going m) in
      rw (t, b, checked-refusal c, sym (checked-command c)) (ends q.same (refused-stops s _ m))

  module _ (e : checked.refusal ≡ none) where
    -- a step of a command that needs no byte, with what it leaves of the areas and of the state, and how it ends
    module _ (w : new_target checked.line.command ≡ None) {b : Areas} {x : StepEnd} {t : State}
        (step_is : stepped b x
        ≡ step_of l (held p.state) checked.line.hash checked.line.command p.state.ready p.state.stretches p.areas)
        (state-is : t ≡ state_after l checked.line.hash checked.line.command p.state x) where
      no_bytes : new_bytes (current_command least_blocks s p) ≡ 0
      unfolding new_bytes
      no_bytes = ap new_bytes (checked-command c) ∙ rw w

      step-moves : (machine least_blocks s terms).waits p ≡ false
      step-moves = let z = no_bytes in moves s terms p c.going (unrefused a.keeps c e) (omega arith)

      step_here_lem : stepped b x ≡ step_at (current_line s p) (command_of least_blocks (current_line s p)).hash (current_command least_blocks s p) p
      step_here_lem = rw (c.line, checked-line c) at step_is

      state-here : t ≡ state_after (current_line s p) (command_of least_blocks (current_line s p)).hash (current_command least_blocks s p) p.state x
      state-here = rw (c.line, checked-line c) at state-is

      step_leads : quiet_step least_blocks s terms p ≡ config_of b t
      unfolding after
      step_leads = step s terms p c.going (unrefused a.keeps c e) ∙ rw (← step_here_lem) (ap (config_of b) (sym state-here))

      step-halts : halts_at least_blocks s terms p ≡ stops_after x
      step-halts = halts_here_lem s terms p (unrefused a.keeps c e) ∙ sym (ap (λ (k : Stepped). stops_after k.end) step_here_lem)

      -- a stop follows
      pub stops : stops_after x ≡ true → RunEnds s terms piece p₀ (config_of b t) true i
      stops h =
          step-stops (machine least_blocks s terms) (halts_at least_blocks s terms) (Fits s terms) (fits-sound s terms) piece p₀ p (config_of b t) i a
          step-moves (step-halts ∙ h) step_leads

      -- none does
      pub runs : stops_after x ≡ false → Turned s terms piece p₀ p (config_of b t) i
      runs h = turned a step-moves (step-halts ∙ h) step_leads

      -- .. and the line is refused
      pub halts : stops_after x ≡ false → (t.refusal.number ≡ none → ⊥) → RunEnds s terms piece p₀ (config_of b t) false i
      halts h n = ends (runs h).same (refused-stops s (config_of b t) n)

    -- the bytes of a `new`, up to its last one or the piece's last one
    module _ {set : RangeSet} {image : List ℕ} {r : ℕ} {t : State} (w : new_target checked.line.command ≡ Some set)
        (took : r ≡ i + min (length piece - i) (block_bytes * length (blocks_at l set.at) - p.state.into))
        (put : image ≡ put_bytes (blocks_at l set.at) p.state.into (take (r - i) (drop i piece)) p.areas.image)
        (state-is : t ≡ further_into p.state (r - i)) where
      new_bytes_lem : new_bytes (current_command least_blocks s p) ≡ block_bytes * set.blocks
      unfolding new_bytes new_target
      new_bytes_lem = rw (new_here a.keeps c e w)

      new_blocks_lem : new_blocks (current_line s p) (current_command least_blocks s p) ≡ blocks_at l set.at
      unfolding new_blocks new_target
      new_blocks_lem = rw (new_here a.keeps c e w, c.line)

      -- where they lead
      mid : Config
      mid = config_of (with_image p.areas image) (further_into p.state (r - i))

      len : length (take (r - i) (drop i piece)) ≡ r - i
      len = let h = a.within in simp (length-take, length-drop) (omega arith)

      fed-mid : fed (blocks_at l set.at) (take (r - i) (drop i piece)) p ≡ mid
      unfolding fed mid
      fed-mid = rw (len, put)

      mid-goes : NotStopped s mid
      mid-goes = rw fed-mid at (fed-goes s terms (blocks_at l set.at) (take (r - i) (drop i piece)) p c.going)

      mid-good : refusal_here least_blocks s terms mid ≡ none
      mid-good = rw fed-mid at (fed-refusal s terms (blocks_at l set.at) (take (r - i) (drop i piece)) p) ∙ unrefused a.keeps c e

      -- they are put and counted
      takes : Runs s terms piece p₀ mid r
      takes =
          let n = r - i in
          let xs = take n (drop i piece) in
          let h = a.within in
          let size = (new_in_image a.keeps c e w).size in
          let b = new_bytes_lem in
          let k = len in
          let all : i + n ≡ r = omega arith in
          let eats = eats_new s terms xs p c.going (unrefused a.keeps c e) (omega arith) in
          let z : puts (machine least_blocks s terms) xs p ≡ mid =
          puts_new s terms (blocks_at l set.at) xs p new_blocks_lem a.keeps.total ∙ fed-mid in
          rw (z, all) at
          (puts-on (machine least_blocks s terms) (halts_at least_blocks s terms) (Fits s terms) (fits-sound s terms) piece p₀ p i n a (omega arith) eats)

      -- the piece ends first
      pub lacks : t.into / block_bytes < set.blocks → RunEnds s terms piece p₀ (config_of (with_image p.areas image) t) false r
      unfolding further_into mid
      lacks h =
          let size = (new_in_image a.keeps c e w).size in
          let within = a.within in
          let b = new_bytes_lem in
          let n : t.into ≡ p.state.into + (r - i) = ap (λ (z : State). z.into) state-is in
          rw state-is
          (waiting_ends (machine least_blocks s terms) (halts_at least_blocks s terms) (Fits s terms) (fits-sound s terms) piece p₀ mid r takes
          (waits s terms mid mid-goes mid-good (omega arith))
          (omega arith))

      -- the `new` is done
      pub fills : set.blocks ≤ t.into / block_bytes → {u : State} → u ≡ passed t (length l) →
          Turned s terms piece p₀ p (config_of (with_image p.areas image) u) r
      unfolding further_into mid after step_of state_after stops_after table_after
      fills h {u} g =
          let b = new_bytes_lem in
          let n : t.into ≡ p.state.into + (r - i) = ap (λ (z : State). z.into) state-is in
          let k : quiet_step least_blocks s terms mid ≡ config_of (with_image p.areas image) u =
          step s terms mid mid-goes mid-good ∙ rw (new_here a.keeps c e w, g, state-is, c.line) in
          let o : halts_at least_blocks s terms mid ≡ false =
          halts_here_lem s terms mid mid-good
          ∙ ap (λ (y : Command). stops_after (step_at (current_line s p) (command_of least_blocks (current_line s p)).hash y mid).end)
          (new_here a.keeps c e w) in
          let z = turned takes (moves s terms mid mid-goes mid-good (omega arith)) o k in
          record { same = z.same; less = z.less }

-- ---- what a call comes to

pub came : (s : List ℕ) (terms : Terms) {piece : List ℕ} {p₀ p : Config} {stop : Bool} {i : ℕ} → RunEnds s terms piece p₀ p stop i →
    reached p i stop ≡ run_of least_blocks s terms piece p₀
unfolding run_of
came s terms e = rw (e.at_last, e.taken)
