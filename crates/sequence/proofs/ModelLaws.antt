-- The model goes line by line where the machine goes byte by byte: over the same bytes they come to the same.
-- Assumes nothing.
use mathlib.Core.Path.{◌≡◌, refl, sym, ap, subst, ◌∙◌}
use mathlib.Core.Bool.{true, false}
use mathlib.Core.Logic.{⊎_elim}
use mathlib.Core.List.{List, [], ◌++◌, append-nil}
use Prim.Native.Nat.{ℕ, zero, suc, ◌+◌, ◌*◌, ◌≤◌, ◌<◌}
use native.Mathlib.Nat.{zero-add}
use native.Mathlib.Omega.{arith}
use lib.ListN.{length, take, drop, take-append-drop}
use lib.Seq.{length-take-le}
use lib.Dec.{leb, eqb}
use borrow.Author.Tests.{leb-true, leb-false}
use Rattle.text.specs.Choice.{no}
use Rattle.text.proofs.ChoiceLaws.{bool, either_or_true}
use Rattle.text.proofs.LineLaws.{line_some}
use Rattle.text.specs.Read.{on_option}
use Rattle.ranges.specs.Ranges.{least_blocks}
use Rattle.ranges.specs.Walk.{blocks_at}
use Rattle.ranges.specs.declared.RangeSet.{RangeSet}
use Rattle.state.specs.Limits.{block_bytes}
use Rattle.state.specs.Refusals.{none}
use Rattle.state.specs.Stashes.{table_of, held}
use Rattle.command.specs.Commands.{command_of}
use Rattle.command.specs.Targets.{new_target}
use Rattle.command.proofs.CommandLaws.{command-hash}
use Rattle.rules.specs.Held.{table_after}
use Rattle.rules.specs.Rules.{refusal_of}
use Rattle.rules.specs.declared.Terms.{Terms}
use Rattle.rules.proofs.HeldLaws.{held_after_lem}
use Rattle.machine.specs.Machine.{feeds, counts}
use Rattle.machine.proofs.MachineLaws.{Sound, feeds-stopped, counts-stopped, feeds-end, counts_end}
use Rattle.machine.proofs.LoopLaws.{puts-keeps, feeds-puts, counts-puts}
use Rattle.updater.specs.Effect.{Effect, unfinished_effect, is_finished, effect}
use Rattle.updater.specs.Steps.{Config, config_of, passed, refused_with, further_into}
use Rattle.updater.specs.Fits.{Fits}
use Rattle.updater.specs.Run.{machine, current_line, current_command, refusal_here, is_stopped, new_bytes, new_blocks}
use Rattle.updater.proofs.FitLaws.{NotStopped}
use Rattle.updater.proofs.AtLineLaws.{waits, fed, fed-goes, fed-refusal, eats_new, puts_new}
use Rattle.updater.proofs.RunLaws.{is_new}
use Rattle.sequence.proofs.WholeLineLaws.{whole_line, line-whole}
use Rattle.sequence.specs.Model.{Model, line_ends, with_bytes, do_new, do_effect, do_line, run_lines}
use Rattle.std.specs.Prelude.{Option, Some, None}

-- a configuration, and the bytes taken so far, as the model has them
abbrev pub model_of : Config → ℕ → Model
model_of p k =
    record {
      areas = p.areas;
      stashes = held p.state;
      line = p.state.line;
      at = p.state.at;
      into = p.state.into;
      taken = k;
      refusal = p.state.refusal;
    }

pub model_eq : (a b : Config) (n m : ℕ) → a ≡ b → n ≡ m → model_of a n ≡ model_of b m
model_eq a b n m e f = rw (e, f)

-- what a run has at each of its configurations: they fit, and no line of an accepted list is refused
pub record Runs (s : List ℕ) (terms : Terms) (Inv : Config → Type 0) : Type 0 where
  pub sound : Sound (machine least_blocks s terms) Inv
  pub fits : (p : Config) → Inv p → Fits s terms p
  pub unrefused : (p : Config) → Inv p → p.state.refusal.number ≡ none → p.state.at < length s → refusal_here least_blocks s terms p ≡ none

-- nothing is ready and no stretch is moved
pub record Fresh (p : Config) : Type 0 where
  pub ready : p.state.ready ≡ 0
  pub stretches : p.state.stretches ≡ 0

-- a model is what the machine comes to, from p with k bytes taken, and nothing is left there of a line's steps
record Is (s : List ℕ) (terms : Terms) (p : Config) (xs : List ℕ) (k : ℕ) (m : Model) : Type 0 where
  model : m ≡ model_of (feeds (machine least_blocks s terms) xs p) (k + counts (machine least_blocks s terms) xs p)
  fresh : Fresh (feeds (machine least_blocks s terms) xs p)

-- .. as it is where the machine comes to the same
is-from : {s : List ℕ} {terms : Terms} {p q : Config} {xs ys : List ℕ} {k j : ℕ} {m : Model} →
    feeds (machine least_blocks s terms) xs p ≡ feeds (machine least_blocks s terms) ys q →
    k + counts (machine least_blocks s terms) xs p ≡ j + counts (machine least_blocks s terms) ys q → Is s terms q ys j m → Is s terms p xs k m
is-from e f i = record { model = i.model ∙ model_eq _ _ _ _ (sym e) (sym f); fresh = subst Fresh (sym e) i.fresh }

-- .. and where it goes no further
is-here : {s : List ℕ} {terms : Terms} {p q : Config} {xs : List ℕ} {k n : ℕ} {m : Model} →
    feeds (machine least_blocks s terms) xs p ≡ q → k + counts (machine least_blocks s terms) xs p ≡ n → Fresh q → m ≡ model_of q n →
    Is s terms p xs k m
is-here e f y i = record { model = i ∙ model_eq _ _ _ _ (sym e) (sym f); fresh = subst Fresh (sym e) y }

-- from every line's start, where n is more than the lines left
abbrev pub FromStarts : List ℕ → (Config → Type 0) → ℕ → (Config → List ℕ → ℕ → Type 0) → Type 0
FromStarts s Inv n P =
    (p : Config) (xs : List ℕ) (k : ℕ) → Inv p → p.state.refusal.number ≡ none → p.state.into ≡ 0 → Fresh p → 0 < n →
    length s < n + p.state.at → P p xs k

-- n lines of the model are right
abbrev Lines : List ℕ → Terms → (Config → Type 0) → ℕ → Type 0
Lines s terms Inv n = FromStarts s Inv n (λ p xs k. Is s terms p xs k (run_lines least_blocks n s (model_of p k) xs))

-- q is past the line of p
record Next (s : List ℕ) (p q : Config) : Type 0 where
  unrefused : q.state.refusal.number ≡ none
  into : q.state.into ≡ 0
  fresh : Fresh q
  at : q.state.at ≡ p.state.at + length (current_line s p)

-- past the line l, the areas as they are
passed_line : Config → List ℕ → Config
passed_line p l = config_of p.areas (passed p.state (length l))

module _ (blocks xs : List ℕ) (p : Config) (k : ℕ) (i : p.state.into ≡ 0) where
  model-fed : with_bytes blocks xs (model_of p k) ≡ model_of (fed blocks xs p) (k + length xs)
  unfolding fed further_into
  model-fed = rw (i, zero-add)

module _ (s : List ℕ) (terms : Terms) (Inv : Config → Type 0) (g : Runs s terms Inv) where
  module _ (p : Config) (xs : List ℕ) (k : ℕ) (m : Model) (v : Inv p) (y : Fresh p) (l : NotStopped s p)
      (r : refusal_here least_blocks s terms p ≡ none) (h : new_bytes (current_command least_blocks s p) ≤ p.state.into) where
    -- the line ends, and the lines after it go on
    onward : (n : ℕ) → Lines s terms Inv n → Next s p (whole_line s p) → length s < suc n + p.state.at → m ≡ model_of (whole_line s p) k →
        Is s terms p xs k (run_lines least_blocks n s m xs)
    onward n ih t f a =
        let z = line-whole s terms Inv g.sound p v (g.fits p v) l r h y.ready y.stretches in
        let b = line_some s p.state.at l.within in
        let c = l.within in
        let d = t.at in
        is-from (z.ends xs) (ap (λ (j : ℕ). k + j) (z.takes xs))
        (subst (λ (x : Model). Is s terms (whole_line s p) xs k (run_lines least_blocks n s x xs)) (sym a)
        (ih (whole_line s p) xs k z.kept t.unrefused t.into t.fresh (omega arith) (omega arith)))

    -- a command stops the run: the machine has stopped
    halts : is_stopped s (whole_line s p) ≡ true → Fresh (whole_line s p) → m ≡ model_of (whole_line s p) k → Is s terms p xs k m
    halts t u a =
        let z = line-whole s terms Inv g.sound p v (g.fits p v) l r h y.ready y.stretches in
        let c = counts-stopped (machine least_blocks s terms) Inv g.sound xs (whole_line s p) z.kept t in
        let d = z.takes xs in
        is-here (z.ends xs ∙ feeds-stopped (machine least_blocks s terms) Inv g.sound xs (whole_line s p) z.kept t) (omega arith) u a

  module _ (n : ℕ) (ih : Lines s terms Inv n) (p : Config) (xs : List ℕ) (k : ℕ) (v : Inv p) (y : Fresh p) (l : NotStopped s p)
      (f : length s < suc n + p.state.at) where
    good : refusal_here least_blocks s terms p ≡ none
    good = g.unrefused p v l.unrefused l.within

    abbrev line : List ℕ
    line = current_line s p

    -- what its command does to the areas
    abbrev done : Effect
    done = effect line (held p.state) (command_of least_blocks line).hash (current_command least_blocks s p) p.areas

    stopped-after : eqb done.refusal none ≡ false → is_stopped s (whole_line s p) ≡ true
    unfolding refused_with is_stopped
    stopped-after h = rw (h, h)

    -- a command that takes no new data
    effect-line : new_bytes (current_command least_blocks s p) ≡ 0 → Is s terms p xs k (do_effect (run_lines least_blocks n s) line (command_of least_blocks line) (model_of p k) xs done)
    unfolding passed refused_with refusal_of
    effect-line b =
        ⊎_elim
        (λ (h : eqb done.refusal none ≡ true).
        rw h
        (onward p xs k _ v y l good (omega arith) n ih
        (rw h (record { unrefused = l.unrefused; into = refl; fresh = record { ready = refl; stretches = refl }; at = refl }))
        f
        (rw (
          h,
          ← (held_after_lem line terms (table_of p.state) (command_of least_blocks line).hash (g.fits p v).whole (g.fits p v).most-stashes
              (command-hash line) (current_command least_blocks s p) good),
        ))))
        (λ (h : eqb done.refusal none ≡ false).
        rw h
        (halts p xs k _ v y l good (omega arith) (stopped-after h) (rw h (record { ready = y.ready; stretches = y.stretches })) (rw h)))
        (bool (eqb done.refusal none))

    -- bytes of a `new`, as many as it still takes or fewer
    bytes-go : (blocks ys zs : List ℕ) → new_blocks line (current_command least_blocks s p) ≡ blocks → p.state.into + length ys ≤ new_bytes (current_command least_blocks s p) →
        (feeds (machine least_blocks s terms) (ys ++ zs) p ≡ feeds (machine least_blocks s terms) zs (fed blocks ys p))
        × (counts (machine least_blocks s terms) (ys ++ zs) p ≡ length ys + counts (machine least_blocks s terms) zs (fed blocks ys p))
        × Inv (fed blocks ys p)
    bytes-go blocks ys zs e h =
        let a = eats_new s terms ys p l good (omega arith) in
        let q = puts_new s terms blocks ys p e (g.fits p v).total in (
          feeds-puts (machine least_blocks s terms) Inv g.sound ys zs p v a ∙ ap (feeds (machine least_blocks s terms) zs) q,
          counts-puts (machine least_blocks s terms) Inv g.sound ys zs p v a ∙ ap (λ (m : Config). length ys + counts (machine least_blocks s terms) zs m) q,
          subst Inv q (puts-keeps (machine least_blocks s terms) Inv g.sound ys p v a),
        )

    module _ (set : RangeSet) (i : p.state.into ≡ 0) (e : new_target (current_command least_blocks s p) ≡ Some set) where
      abbrev target : List ℕ
      target = blocks_at line set.at

      abbrev need : ℕ
      need = block_bytes * set.blocks

      blocks_are : new_blocks line (current_command least_blocks s p) ≡ target
      unfolding new_blocks
      blocks_are = rw e

      bytes_are : new_bytes (current_command least_blocks s p) ≡ need
      unfolding new_bytes
      bytes_are = rw e

      -- the same at the line once bytes are in
      fed-bytes : (ys : List ℕ) → new_bytes (current_command least_blocks s (fed target ys p)) ≡ need
      unfolding fed further_into
      fed-bytes ys = bytes_are

      fed-into : (ys : List ℕ) → (fed target ys p).state.into ≡ length ys
      unfolding fed further_into
      fed-into ys = omega arith

      -- after its last byte
      ended : (ys : List ℕ) → whole_line s (fed target ys p) ≡ passed_line (fed target ys p) line
      unfolding effect is_finished unfinished_effect table_after fed further_into passed_line
      ended ys = rw (is_new (current_command least_blocks s p) e)

      past_next : (ys : List ℕ) → Next s (fed target ys p) (passed_line (fed target ys p) line)
      unfolding fed further_into passed_line passed
      past_next ys = record { unrefused = l.unrefused; into = refl; fresh = record { ready = refl; stretches = refl }; at = refl }

      fed-fresh : (ys : List ℕ) → Fresh (fed target ys p)
      unfolding fed further_into
      fed-fresh ys = record { ready = y.ready; stretches = y.stretches }

      later : (ys : List ℕ) → length s < suc n + (fed target ys p).state.at
      unfolding fed further_into
      later ys = f

      model-past : (ys : List ℕ) →
          line_ends line (model_of (fed target ys p) (k + length ys)) ≡ model_of (passed_line (fed target ys p) line) (k + length ys)
      unfolding passed_line passed
      model-past ys = refl

      -- all the bytes that the line takes are there
      new_whole : need ≤ length xs →
          Is s terms p xs k (run_lines least_blocks n s (line_ends line (with_bytes target (take need xs) (model_of p k))) (drop need xs))
      new_whole h =
          let ys = take need xs in
          let zs = drop need xs in
          let m : length ys ≡ need = length-take-le need xs h in
          let b₀ = bytes_are in
          let a = bytes-go target ys zs blocks_are (omega arith) in
          let c : ys ++ zs ≡ xs = take-append-drop need xs in
          let d = ap (λ (y : List ℕ). counts (machine least_blocks s terms) y p) c in
          let b = a.1 in
          let x = fed-bytes ys in
          let y = fed-into ys in
          is-from (ap (λ (y : List ℕ). feeds (machine least_blocks s terms) y p) (sym c) ∙ a.0) (omega arith)
          (onward (fed target ys p) zs (k + length ys) _ a.2 (fed-fresh ys) (fed-goes s terms target ys p l)
          (fed-refusal s terms target ys p ∙ good) (omega arith) n ih (subst (Next s (fed target ys p)) (sym (ended ys)) (past_next ys)) (later ys)
          (ap (line_ends line) (model-fed target ys p k i) ∙ model-past ys ∙ ap (λ (q : Config). model_of q (k + length ys)) (sym (ended ys))))

      -- they are not
      new_part : length xs < need → Is s terms p xs k (with_bytes target xs (model_of p k))
      new_part h =
          let b₀ = bytes_are in
          let a = bytes-go target xs [] blocks_are (omega arith) in
          let c = append-nil xs in
          let d = ap (λ (y : List ℕ). counts (machine least_blocks s terms) y p) c in
          let b = a.1 in
          let z = counts_end (machine least_blocks s terms) Inv g.sound (fed target xs p) in
          let x = fed-bytes xs in
          let y = fed-into xs in
          let w =
          waits s terms (fed target xs p) (fed-goes s terms target xs p l) (fed-refusal s terms target xs p ∙ good) (omega arith) in
          is-here
          (ap (λ (y : List ℕ). feeds (machine least_blocks s terms) y p) (sym c)
          ∙ a.0
          ∙ feeds-end (machine least_blocks s terms) Inv g.sound (fed target xs p) a.2 w)
          (omega arith)
          (fed-fresh xs)
          (model-fed target xs p k i)

      new_line : Is s terms p xs k (do_new (run_lines least_blocks n s) line set (model_of p k) xs)
      new_line =
          ⊎_elim
          (λ (h : leb need (length xs) ≡ true). rw h (new_whole (leb-true need (length xs) h)))
          (λ (h : leb need (length xs) ≡ false). rw h (new_part (leb-false need (length xs) h)))
          (bool (leb need (length xs)))

    one_line : p.state.into ≡ 0 → Is s terms p xs k (do_line (run_lines least_blocks n s) line (command_of least_blocks line) (model_of p k) xs)
    unfolding new_bytes
    one_line i = go (new_target (current_command least_blocks s p)) refl
      where
        go : (t : Option RangeSet) → new_target (current_command least_blocks s p) ≡ t →
            Is s terms p xs k
            (on_option t (λ set. do_new (run_lines least_blocks n s) line set (model_of p k) xs)
            (do_effect (run_lines least_blocks n s) line (command_of least_blocks line) (model_of p k) xs done))
        go (Some set) e = new_line set i e
        go None e = effect-line (rw e)

  ended-stops : (p : Config) → leb (length s) p.state.at ≡ true → is_stopped s p ≡ true
  unfolding is_stopped
  ended-stops p a = rw a (sym (either_or_true (no (eqb p.state.refusal.number none))))

  lines_are : (n : ℕ) → Lines s terms Inv n
  unfolding run_lines
  lines_are zero p xs k v e i y h f = absurd (omega arith)
  lines_are (suc n) p xs k v e i y h f =
      ⊎_elim
      (λ (a : leb (length s) p.state.at ≡ true).
      let z = ended-stops p a in
      let c = counts-stopped (machine least_blocks s terms) Inv g.sound xs p v z in
      rw a (is-here (feeds-stopped (machine least_blocks s terms) Inv g.sound xs p v z) (omega arith) y refl))
      (λ (a : leb (length s) p.state.at ≡ false).
      rw a
      (one_line n (lines_are n) p xs k v y (record { unrefused = e; within = leb-false (length s) p.state.at a }) f i))
      (bool (leb (length s) p.state.at))

  -- n lines of the model, from a line's start, are a call over all the bytes
  pub lines : (n : ℕ) →
      FromStarts s Inv n
      (λ p xs k. run_lines least_blocks n s (model_of p k) xs
      ≡ model_of (feeds (machine least_blocks s terms) xs p) (k + counts (machine least_blocks s terms) xs p))
  lines n p xs k v e i y h f = (lines_are n p xs k v e i y h f).model

  -- .. which leaves nothing ready and no stretch moved
  pub lines-fresh : (n : ℕ) → FromStarts s Inv n (λ p xs k. Fresh (feeds (machine least_blocks s terms) xs p))
  lines-fresh n p xs k v e i y h f = (lines_are n p xs k v e i y h f).fresh
