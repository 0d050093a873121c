-- The steps of a line come to what the model has the whole line do (`effect`): filling and then writing, and the stretches of a `free` one
-- after the other.
-- Assumes nothing.
use mathlib.Core.Path.{◌≡◌, refl, sym, ap, subst, ◌∙◌}
use mathlib.Core.Bool.{Bool, true, false}
use mathlib.Core.List.{List, ◌++◌, append_assoc}
use mathlib.Core.Logic.{⊎_elim}
use Prim.Native.Nat.{ℕ, zero, suc, ◌+◌, ◌-◌, ◌*◌, ◌≤◌}
use native.Mathlib.Nat.{suc-mul, zero-mul}
use native.Mathlib.Numerals.{add-one}
use native.Mathlib.Omega.{arith}
use lib.Dec.{eqb}
use lib.ListN.{length, take, drop, length-drop, take-append-drop}
use lib.Seq.{paste, paste-zero, take-paste, drop-paste, drop-drop, take-add}
use Rattle.text.specs.Choice.{pick}
use Rattle.text.proofs.ChoiceLaws.{bool}
use Rattle.ranges.specs.Ranges.{least_blocks}
use Rattle.state.specs.Limits.{block_bytes}
use Rattle.state.specs.Refusals.{none}
use Rattle.state.specs.States.{with_table}
use Rattle.state.specs.Stashes.{Stash, table_of, held, find_in, size_at, blocks_held, stash_start, younger}
use Rattle.state.specs.Stretches.{is_stretch, stretch_blocks}
use Rattle.state.specs.declared.State.{State}
use Rattle.state.proofs.StashLaws.{blocks_held-before}
use Rattle.state.proofs.StretchLaws.{stretch_some, stretch_none, stretch_few}
use Rattle.command.specs.Commands.{command_of}
use Rattle.command.specs.Filling.{fills}
use Rattle.command.specs.declared.Command.{Command}
use Rattle.command.specs.declared.Command.TheVariants as command
use Rattle.rules.specs.Held.{table_after}
use Rattle.rules.specs.declared.Terms.{Terms}
use Rattle.machine.specs.Machine.{feeds, counts}
use Rattle.machine.proofs.MachineLaws.{Sound, never, feeds-quiet, counts-quiet}
use Rattle.updater.specs.Areas.{Areas, with_stash}
use Rattle.updater.specs.Bytes.{moved_down}
use Rattle.updater.specs.Source.{closed_up, stretch_start, stretched}
use Rattle.updater.specs.Effect.{Effect, effect_of, filled, written_from, is_finished, filled_written, closed_found, unfinished_effect, effect}
use Rattle.updater.specs.Steps.{Config, config_of, passed, refused_with, marked_with, Stepped, stepped, after_filling, fill_step, free_step, step_of}
use Rattle.updater.specs.Steps.{state_after, after}
use Rattle.updater.specs.declared.commands.StepEnd.TheVariants.{Passed, Ended}
use Rattle.updater.specs.Run.{machine, current_line, current_command, refusal_here, quiet_step, new_bytes}
use Rattle.updater.specs.Fits.{Fits}
use Rattle.updater.proofs.FitLaws.{NotStopped}
use Rattle.updater.proofs.AtLineLaws.{moves, step}
use Rattle.std.specs.Prelude.{Option, Some, None}

-- ---- bytes that move down

pub moved_down-none : (area : List ℕ) (to from : ℕ) → moved_down area to from 0 ≡ area
unfolding moved_down
moved_down-none area to from = sym (paste-zero area to (drop from area))

-- some, and then those after them
moved_down-more : (area : List ℕ) (to from m k : ℕ) → to ≤ from → from + (m + k) ≤ length area →
    moved_down (moved_down area to from m) (to + m) (from + m) k ≡ moved_down area to from (m + k)
unfolding moved_down
moved_down-more area to from m k h l =
    let d = paste area to (drop from area) m in
    let room : m ≤ length (drop from area) = simp length-drop (omega arith) in
    let a : take (to + m) d ≡ take to area ++ take m (drop from area) = take-paste area to (drop from area) m (omega arith) room in
    let b : drop (to + m) d ≡ drop (to + m) area = drop-paste area to (drop from area) m (omega arith) room in
    let i : from + m ≡ (to + m) + (from - to) = omega arith in
    let c : drop (from + m) d ≡ drop (from + m) area =
    rw (i, ← drop-drop (from - to) (to + m) d, b, drop-drop (from - to) (to + m) area) in
    let e : drop ((to + m) + k) d ≡ drop ((to + m) + k) area = rw (← drop-drop k (to + m) d, b, drop-drop k (to + m) area) in
    let j : to + (m + k) ≡ (to + m) + k = omega arith in
    rw (a, c, e, take-add m k (drop from area), drop-drop m from area, j) (simp append_assoc)

-- over no gap
moved_down-same : (area : List ℕ) (to n : ℕ) → moved_down area to to n ≡ area
unfolding moved_down
moved_down-same area to n = rw (← drop-drop n to area, append_assoc, take-append-drop n (drop to area), take-append-drop to area)

-- ---- the stretches of a `free`

module _ (xs : List Stash) (j : ℕ) (area : List ℕ) (room : block_bytes * blocks_held xs ≤ length area) where
  -- the stash area `area` with n blocks moved down over the gap
  abbrev moved_blocks : ℕ → List ℕ
  moved_blocks n =
      moved_down area (block_bytes * stash_start xs j) (block_bytes * (stash_start xs j + size_at xs j)) (block_bytes * n)

  -- k stretches moved as many blocks
  abbrev Moved : ℕ → List ℕ → Type 0
  Moved k stash = (stash ≡ moved_blocks (k * size_at xs j)) × (k * size_at xs j ≤ younger xs j)

  -- the next one
  stretch_next : (k : ℕ) (stash : List ℕ) → Moved k stash →
      stretched xs j k stash ≡ moved_blocks (k * size_at xs j + stretch_blocks (size_at xs j) (younger xs j) k)
  unfolding stretched stretch_blocks
  stretch_next k stash (e, m) =
      let older = blocks_held-before xs j in
      let gap = size_at xs j in
      let moved = k * gap in
      let n = stretch_blocks gap (younger xs j) k in
      let to = block_bytes * stash_start xs j in
      let from = block_bytes * (stash_start xs j + gap) in
      let a : block_bytes * stretch_start xs j k ≡ to + block_bytes * moved = omega arith in
      let b : block_bytes * (stretch_start xs j k + gap) ≡ from + block_bytes * moved = omega arith in
      let c : block_bytes * (moved + n) ≡ block_bytes * moved + block_bytes * n = omega arith in
      rw (e, a, b, c) (moved_down-more area to from (block_bytes * moved) (block_bytes * n) (omega arith) (omega arith))

  -- .. with another behind it
  stretch_more_lem : (k : ℕ) (stash : List ℕ) → Moved k stash → is_stretch (size_at xs j) (younger xs j) (k + 1) ≡ true →
      Moved (k + 1) (stretched xs j k stash)
  unfolding stretch_blocks
  stretch_more_lem k stash m t =
      let s = stretch_some (size_at xs j) (younger xs j) (k + 1) t in
      let i : (k + 1) * size_at xs j ≡ k * size_at xs j + size_at xs j = rw (add-one, suc-mul) in
      let n : k * size_at xs j + stretch_blocks (size_at xs j) (younger xs j) k ≡ (k + 1) * size_at xs j = omega arith in
      (stretch_next k stash m ∙ ap moved_blocks n, omega arith)

  -- .. with none: the gap is closed
  stretch_last : (k : ℕ) (stash : List ℕ) → Moved k stash → is_stretch (size_at xs j) (younger xs j) (k + 1) ≡ false →
      stretched xs j k stash ≡ closed_up xs j area
  unfolding stretch_blocks closed_up
  stretch_last k stash m t =
      stretch_next k stash m
      ∙ ⊎_elim
      (λ (z : size_at xs j ≡ 0).
      let same : stash_start xs j + size_at xs j ≡ stash_start xs j = omega arith in
      rw same (moved_down-same area (block_bytes * stash_start xs j) _ ∙ sym (moved_down-same area (block_bytes * stash_start xs j) _)))
      (λ (z : younger xs j ≤ (k + 1) * size_at xs j).
      let i : (k + 1) * size_at xs j ≡ k * size_at xs j + size_at xs j = rw (add-one, suc-mul) in
      let n : k * size_at xs j + stretch_blocks (size_at xs j) (younger xs j) k ≡ younger xs j = let l = m.1 in omega arith in
      ap moved_blocks n)
      (stretch_none (size_at xs j) (younger xs j) (k + 1) t)

-- ---- where a line ends

-- the current line's hash
abbrev hash_here : List ℕ → Config → List ℕ
hash_here s p = (command_of least_blocks (current_line s p)).hash

-- past the line, or refused, as an effect of its command has it
abbrev pub line_end : List ℕ → List ℕ → Command → State → Effect → Config
line_end l hash c t e =
    config_of e.areas
    (pick (eqb e.refusal none) (passed (with_table t (table_after (table_of t) hash c)) (length l)) (refused_with t e.refusal 0))

-- where a command on the line l ends, from its start
abbrev pub whole_command : List ℕ → List ℕ → Command → Config → Config
whole_command l hash c p = line_end l hash c p.state (effect l (held p.state) hash c p.areas)

-- .. the current line's
abbrev pub whole_line : List ℕ → Config → Config
whole_line s p = whole_command (current_line s p) (hash_here s p) (current_command least_blocks s p) p

-- the config after a step
abbrev step_to : List ℕ → List ℕ → Command → State → Stepped → Config
step_to l hash c t x = config_of x.areas (state_after l hash c t x.end)

-- ---- commands that fill an area

module _ (l : List ℕ) (xs : List Stash) (hash : List ℕ) (a : Areas) where
  fills-step : (ready k : ℕ) (c : Command) → fills c ≡ true → step_of l xs hash c ready k a ≡ fill_step l xs hash c ready a
  unfolding fills step_of
  fills-step ready k (command.Move target n source) e = refl
  fills-step ready k (command.Bsdiff target n source) e = refl
  fills-step ready k (command.Stash set) e = refl
  fills-step ready k (command.Zero set) e = absurd (never (sym e))
  fills-step ready k (command.Erase set) e = absurd (never (sym e))
  fills-step ready k (command.New set) e = absurd (never (sym e))
  fills-step ready k command.Free e = absurd (never (sym e))
  fills-step ready k command.Unsupported e = absurd (never (sym e))
  fills-step ready k (command.Bad p) e = absurd (never (sym e))

  fills-effect : (c : Command) → fills c ≡ true → unfinished_effect l xs hash c a ≡ filled_written l xs hash c a
  unfolding fills unfinished_effect
  fills-effect (command.Move target n source) e = refl
  fills-effect (command.Bsdiff target n source) e = refl
  fills-effect (command.Stash set) e = refl
  fills-effect (command.Zero set) e = absurd (never (sym e))
  fills-effect (command.Erase set) e = absurd (never (sym e))
  fills-effect (command.New set) e = absurd (never (sym e))
  fills-effect command.Free e = absurd (never (sym e))
  fills-effect command.Unsupported e = absurd (never (sym e))
  fills-effect (command.Bad p) e = absurd (never (sym e))

module _ (l hash : List ℕ) (c : Command) (fill : fills c ≡ true) (p : Config) where
  abbrev finished : Bool
  finished = is_finished l hash c p.areas.image

  -- the areas that filling leaves, and its refusal
  abbrev fill_effect : Effect
  fill_effect = filled l (held p.state) hash c p.areas

  abbrev good : Bool
  good = eqb fill_effect.refusal none

  -- filled: what is ready is to be written
  abbrev ready : Config
  ready = config_of fill_effect.areas (marked_with p.state 1 p.state.stretches)

  fill_leads : p.state.ready ≡ 0 →
      after l hash c p ≡ step_to l hash c p.state (pick finished (stepped p.areas Ended) (after_filling fill_effect))
  unfolding after fill_step
  fill_leads z =
      ap (step_to l hash c p.state) (fills-step l (held p.state) hash p.areas p.state.ready p.state.stretches c fill)
      ∙ ap (λ (r : ℕ). step_to l hash c p.state (fill_step l (held p.state) hash c r p.areas)) z

  fill_effect_lem : effect l (held p.state) hash c p.areas
      ≡ pick finished (effect_of p.areas none)
      (pick good (effect_of (written_from l (held p.state) c fill_effect.areas) none) fill_effect)
  unfolding effect filled_written
  fill_effect_lem = rw (fills-effect l (held p.state) hash p.areas c fill)

  fill_finished : p.state.ready ≡ 0 → finished ≡ true → after l hash c p ≡ whole_command l hash c p
  unfolding state_after
  fill_finished z t = fill_leads z ∙ rw (fill_effect_lem, t)

  fill_refused : p.state.ready ≡ 0 → finished ≡ false → good ≡ false → after l hash c p ≡ whole_command l hash c p
  unfolding state_after
  fill_refused z t g = fill_leads z ∙ rw (fill_effect_lem, t, g, g)

  fill_ready : p.state.ready ≡ 0 → finished ≡ false → good ≡ true → after l hash c p ≡ ready
  unfolding state_after
  fill_ready z t g = fill_leads z ∙ rw (t, g)

  -- what is ready is written
  ready-written : finished ≡ false → good ≡ true → after l hash c ready ≡ whole_command l hash c p
  unfolding after fill_step state_after marked_with passed
  ready-written t g =
      ap (step_to l hash c ready.state) (fills-step l (held p.state) hash fill_effect.areas 1 p.state.stretches c fill)
      ∙ rw (fill_effect_lem, t, g)

-- ---- `free`

free_leads : (l hash : List ℕ) (p : Config) (f : Option ℕ) → find_in (held p.state) hash ≡ f →
    after l hash command.Free p ≡ step_to l hash command.Free p.state (free_step (held p.state) p.state.stretches p.areas f)
unfolding after step_of
free_leads l hash p f e =
    ap (λ (g : Option ℕ). step_to l hash command.Free p.state (free_step (held p.state) p.state.stretches p.areas g)) e

module _ (l hash : List ℕ) (p : Config) (j : ℕ) (found : find_in (held p.state) hash ≡ Some j) where
  -- the stash area after the next stretch
  abbrev next_stash : List ℕ
  next_stash = stretched (held p.state) j p.state.stretches p.areas.stash

  abbrev more : Bool
  more = is_stretch (size_at (held p.state) j) (younger (held p.state) j) (p.state.stretches + 1)

  abbrev stretch_more : Config
  stretch_more = config_of (with_stash p.areas next_stash) (marked_with p.state p.state.ready (p.state.stretches + 1))

  -- where it ends, with that stash area
  abbrev freed : List ℕ → Config
  freed stash =
      config_of (with_stash p.areas stash) (passed (with_table p.state (table_after (table_of p.state) hash command.Free)) (length l))

  free_more : more ≡ true → after l hash command.Free p ≡ stretch_more
  unfolding free_step state_after
  free_more t = free_leads l hash p (Some j) found ∙ rw t

  -- the last one, with a stop or with none
  free_last : more ≡ false → after l hash command.Free p ≡ freed next_stash
  unfolding free_step state_after
  free_last t =
      free_leads l hash p (Some j) found
      ∙ rw t (go (is_stretch (size_at (held p.state) j) (younger (held p.state) j) p.state.stretches))
    where
      go : (b : Bool) → config_of (with_stash p.areas next_stash) (state_after l hash command.Free p.state (pick b Ended Passed)) ≡ freed next_stash
      go true = refl
      go false = refl

-- of a stash that is not held there is none to move
free_nothing : (l hash : List ℕ) (p : Config) → find_in (held p.state) hash ≡ None →
    after l hash command.Free p
    ≡ config_of p.areas (passed (with_table p.state (table_after (table_of p.state) hash command.Free)) (length l))
unfolding free_step state_after
free_nothing l hash p e = free_leads l hash p None e

-- ---- the steps of the machine

-- two configs that calls over the same bytes end alike from, and take as many of
pub record Alike (s : List ℕ) (terms : Terms) (Inv : Config → Type 0) (p q : Config) : Type 0 where
  pub ends : (xs : List ℕ) → feeds (machine least_blocks s terms) xs p ≡ feeds (machine least_blocks s terms) xs q
  pub takes : (xs : List ℕ) → counts (machine least_blocks s terms) xs p ≡ counts (machine least_blocks s terms) xs q
  pub kept : Inv q

alike_then : {s : List ℕ} {terms : Terms} {Inv : Config → Type 0} {p q r : Config} →
    Alike s terms Inv p q → Alike s terms Inv q r → Alike s terms Inv p r
alike_then a b = record { ends = λ xs. a.ends xs ∙ b.ends xs; takes = λ xs. a.takes xs ∙ b.takes xs; kept = b.kept }

module _ (s : List ℕ) (terms : Terms) (Inv : Config → Type 0) (sound : Sound (machine least_blocks s terms) Inv) where
  -- at a line of command c that runs, with no byte to wait for
  record RunsHere (c : Command) (p : Config) : Type 0 where
    keeps : Inv p
    goes : NotStopped s p
    unrefused : refusal_here least_blocks s terms p ≡ none
    bytes : new_bytes (current_command least_blocks s p) ≤ p.state.into
    reads : current_command least_blocks s p ≡ c

  -- a step of it
  alike-step : (c : Command) (p q : Config) → RunsHere c p → after (current_line s p) (hash_here s p) c p ≡ q →
      Alike s terms Inv p q
  alike-step c p q r e =
      let w = moves s terms p r.goes r.unrefused r.bytes in
      let d : quiet_step least_blocks s terms p ≡ q = step s terms p r.goes r.unrefused ∙ rw r.reads e in
      record {
        ends = λ xs. feeds-quiet (machine least_blocks s terms) Inv sound xs p r.keeps w ∙ ap (feeds (machine least_blocks s terms) xs) d;
        takes = λ xs. counts-quiet (machine least_blocks s terms) Inv sound xs p r.keeps w ∙ ap (counts (machine least_blocks s terms) xs) d;
        kept = subst Inv d (sound.quiet_keeps p r.keeps w);
      }

  -- the line still runs once an area is ready or a stretch is moved
  at-marked : (c : Command) (p : Config) (a : Areas) (ready stretches : ℕ) → RunsHere c p →
      Inv (config_of a (marked_with p.state ready stretches)) → RunsHere c (config_of a (marked_with p.state ready stretches))
  unfolding marked_with
  at-marked c p a ready stretches r v =
      record {
        keeps = v;
        goes = record { unrefused = r.goes.unrefused; within = r.goes.within };
        unrefused = r.unrefused;
        bytes = r.bytes;
        reads = r.reads;
      }

  fill_whole : (c : Command) → fills c ≡ true → (p : Config) → p.state.ready ≡ 0 → RunsHere c p →
      Alike s terms Inv p (whole_command (current_line s p) (hash_here s p) c p)
  unfolding marked_with
  fill_whole c f p z r =
      ⊎_elim
      (λ (t : finished l hash c f p ≡ true). alike-step c p (whole_command l hash c p) r (fill_finished l hash c f p z t))
      (λ (t : finished l hash c f p ≡ false).
      ⊎_elim
      (λ (g : good l hash c f p ≡ true).
      let first = alike-step c p (ready l hash c f p) r (fill_ready l hash c f p z t g) in
      alike_then first
      (alike-step c (ready l hash c f p) (whole_command l hash c p) (at-marked c p _ 1 p.state.stretches r first.kept)
      (ready-written l hash c f p t g)))
      (λ (g : good l hash c f p ≡ false). alike-step c p (whole_command l hash c p) r (fill_refused l hash c f p z t g))
      (bool (good l hash c f p)))
      (bool (finished l hash c f p))
    where
      l : List ℕ
      l = current_line s p

      hash : List ℕ
      hash = hash_here s p

  module _ (j : ℕ) (area : List ℕ) where
    -- the last stretch of a `free` of stash j, over the stash area as the line found it
    free_ends : (p : Config) (found : find_in (held p.state) (hash_here s p) ≡ Some j) → RunsHere command.Free p →
        (room : block_bytes * blocks_held (held p.state) ≤ length area) →
        Moved (held p.state) j area room p.state.stretches p.areas.stash →
        more (current_line s p) (hash_here s p) p j found ≡ false →
        Alike s terms Inv p (freed (current_line s p) (hash_here s p) p j found (closed_up (held p.state) j area))
    free_ends p found r room moved t =
        let l = current_line s p in
        let hash = hash_here s p in
        let e = stretch_last (held p.state) j area room p.state.stretches p.areas.stash moved t in
        alike-step command.Free p _ r (free_last l hash p j found t ∙ ap (freed l hash p j found) e)

    -- the stretches that are left, no more than m
    free_steps : (m : ℕ) (p : Config) (found : find_in (held p.state) (hash_here s p) ≡ Some j) →
        RunsHere command.Free p → (room : block_bytes * blocks_held (held p.state) ≤ length area) →
        younger (held p.state) j ≤ p.state.stretches + m →
        Moved (held p.state) j area room p.state.stretches p.areas.stash →
        Alike s terms Inv p (freed (current_line s p) (hash_here s p) p j found (closed_up (held p.state) j area))
    unfolding marked_with passed
    free_steps zero p found r room n moved =
        ⊎_elim
        (λ t. absurd (omega (arith, stretch_few (size_at (held p.state) j) (younger (held p.state) j) (p.state.stretches + 1) t)))
        (λ t. free_ends p found r room moved t)
        (bool (more (current_line s p) (hash_here s p) p j found))
    free_steps (suc m) p found r room n moved =
        let l = current_line s p in
        let hash = hash_here s p in
        ⊎_elim
        (λ t.
        let next = stretch_more l hash p j found in
        let first = alike-step command.Free p next r (free_more l hash p j found t) in
        alike_then first
        (free_steps m next found (at-marked command.Free p _ p.state.ready (p.state.stretches + 1) r first.kept) room (omega arith)
        (stretch_more_lem (held p.state) j area room p.state.stretches p.areas.stash moved t)))
        (λ t. free_ends p found r room moved t)
        (bool (more l hash p j found))

  free_whole : (p : Config) → Fits s terms p → p.state.stretches ≡ 0 → RunsHere command.Free p →
      Alike s terms Inv p (whole_command (current_line s p) (hash_here s p) command.Free p)
  unfolding effect is_finished unfinished_effect
  free_whole p f z r = go (find_in (held p.state) (hash_here s p)) refl
    where
      go : (x : Option ℕ) → find_in (held p.state) (hash_here s p) ≡ x →
          Alike s terms Inv p
          (line_end (current_line s p) (hash_here s p) command.Free p.state
          (effect_of (with_stash p.areas (closed_found (held p.state) p.areas.stash x)) none))
      go (Some j) e =
          let xs = held p.state in
          let k = p.state.stretches in
          let room : block_bytes * blocks_held xs ≤ length p.areas.stash = omega (arith, f.blocks, f.stash) in
          let unmoved : k * size_at xs j ≡ 0 = rw z (zero-mul (size_at xs j)) in
          free_steps j p.areas.stash (younger xs j) p e r room (omega arith)
          (rw unmoved (sym (moved_down-none p.areas.stash _ _)), omega arith)
      go None e = alike-step command.Free p _ r (free_nothing (current_line s p) (hash_here s p) p e)

  -- THE LAW: from the start of a line, its steps come to what the whole line does
  pub line-whole : (p : Config) → Inv p → Fits s terms p → NotStopped s p → refusal_here least_blocks s terms p ≡ none →
      new_bytes (current_command least_blocks s p) ≤ p.state.into → p.state.ready ≡ 0 → p.state.stretches ≡ 0 →
      Alike s terms Inv p (whole_line s p)
  unfolding after step_of state_after effect is_finished unfinished_effect fills
  line-whole p v f l e b y z = go (current_command least_blocks s p) refl
    where
      here : (c : Command) → current_command least_blocks s p ≡ c → RunsHere c p
      here c i = record { keeps = v; goes = l; unrefused = e; bytes = b; reads = i }

      go : (c : Command) → current_command least_blocks s p ≡ c → Alike s terms Inv p (whole_command (current_line s p) (hash_here s p) c p)
      go (command.Zero set) i = alike-step (command.Zero set) p _ (here _ i) refl
      go (command.Erase set) i = alike-step (command.Erase set) p _ (here _ i) refl
      go (command.New set) i = alike-step (command.New set) p _ (here _ i) refl
      go (command.Move target n source) i = fill_whole (command.Move target n source) refl p y (here _ i)
      go (command.Bsdiff target n source) i = fill_whole (command.Bsdiff target n source) refl p y (here _ i)
      go (command.Stash set) i = fill_whole (command.Stash set) refl p y (here _ i)
      go command.Free i = free_whole p f z (here _ i)
      go command.Unsupported i = alike-step command.Unsupported p _ (here _ i) refl
      go (command.Bad q) i = alike-step (command.Bad q) p _ (here _ i) refl
