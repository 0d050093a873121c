-- The model by the two readings: the same over a list without an empty range.
-- Assumes nothing.
use mathlib.Core.Path.{◌≡◌, refl, ◌∙◌, ap}
use mathlib.Core.Bool.{Bool, true, false}
use Prim.Native.Nat.{ℕ, zero, suc, ◌+◌, ◌*◌}
use mathlib.Core.List.{List}
use lib.ListN.{length, take, drop}
use lib.Dec.{leb, eqb}
use Rattle.text.specs.Choice.{pick}
use Rattle.text.specs.Line.{line_at}
use Rattle.text.specs.Read.{on_option}
use Rattle.ranges.specs.Ranges.{least_blocks}
use Rattle.ranges.specs.Walk.{blocks_at}
use Rattle.ranges.specs.declared.RangeSet.{RangeSet}
use Rattle.state.specs.Limits.{block_bytes}
use Rattle.state.specs.Refusals.{none}
use Rattle.command.specs.Commands.{command_of}
use Rattle.command.specs.Targets.{new_target}
use Rattle.command.specs.declared.Line.{Line}
use Rattle.rules.specs.Held.{held_after}
use Rattle.transfer_list.specs.Header.{header_of}
use Rattle.transfer_list.specs.Opening.{first_at}
use Rattle.transfer_list.specs.declared.header.Header.{Header}
use Rattle.updater.specs.Areas.{Areas}
use Rattle.updater.specs.Effect.{Effect, unfinished_effect, is_finished, effect}
use Rattle.sequence.specs.Model.{Model, with_areas, with_answer, line_ends, with_bytes, do_new, do_effect, do_line, run_lines, model_start, model}
use Rattle.compatibility.specs.EmptyRanges.{least_before, WithoutEmpty}
use Rattle.compatibility.proofs.Lines.{IllCommand, SameLine, same, ill, line_same}
use Rattle.compatibility.proofs.Starts.{StartsAt, next-starts, first-starts}
use Rattle.std.specs.Prelude.{Ok, Option, Some, None}

-- what the lines behind one do, where they do the same from every model that stands there
module _ (at : ℕ) (next other : Model → List ℕ → Model) (equal : (m : Model) (xs : List ℕ) → m.at ≡ at → next m xs ≡ other m xs) where
  module _ (l : List ℕ) (m : Model) (xs : List ℕ) (here : m.at + length l ≡ at) where
    new_same : (set : RangeSet) → do_new next l set m xs ≡ do_new other l set m xs
    new_same set = go (leb (block_bytes * set.blocks) (length xs))
      where
        go : (t : Bool) →
            pick t (next (line_ends l (with_bytes (blocks_at l set.at) (take (block_bytes * set.blocks) xs) m)) (drop (block_bytes * set.blocks) xs))
            (with_bytes (blocks_at l set.at) xs m)
            ≡ pick t (other (line_ends l (with_bytes (blocks_at l set.at) (take (block_bytes * set.blocks) xs) m)) (drop (block_bytes * set.blocks) xs))
            (with_bytes (blocks_at l set.at) xs m)
        go true = equal _ _ here
        go false = refl

    effect-same : (a : Line) (e : Effect) → do_effect next l a m xs e ≡ do_effect other l a m xs e
    effect-same a e = go (eqb e.refusal none)
      where
        go : (t : Bool) →
            pick t (next (line_ends l (with_areas m e.areas (held_after m.stashes a.hash a.command))) xs)
            (with_answer (with_areas m e.areas m.stashes) m.taken (record { number = e.refusal; line = m.line; byte = 0 }))
            ≡ pick t (other (line_ends l (with_areas m e.areas (held_after m.stashes a.hash a.command))) xs)
            (with_answer (with_areas m e.areas m.stashes) m.taken (record { number = e.refusal; line = m.line; byte = 0 }))
        go true = equal _ _ here
        go false = refl

    doing_same : (a : Line) → do_line next l a m xs ≡ do_line other l a m xs
    doing_same a = go (new_target a.command)
      where
        go : (t : Option RangeSet) →
            on_option t (λ set. do_new next l set m xs) (do_effect next l a m xs (effect l m.stashes a.hash a.command m.areas))
            ≡ on_option t (λ set. do_new other l set m xs) (do_effect other l a m xs (effect l m.stashes a.hash a.command m.areas))
        go (Some set) = new_same set
        go None = effect-same a (effect l m.stashes a.hash a.command m.areas)

-- an ill formed line does nothing, whatever its fault
ill-same : (next : Model → List ℕ → Model) (l : List ℕ) (a b : Line) (m : Model) (xs : List ℕ) → IllCommand l a.command → IllCommand l b.command →
    do_line next l a m xs ≡ do_line next l b m xs
unfolding new_target effect is_finished unfinished_effect held_after
ill-same next l a b m xs i j = rw (i.1, j.1)

module _ (s : List ℕ) (w : WithoutEmpty s) where
  lines_same : (n : ℕ) (m : Model) (xs : List ℕ) → StartsAt s m.at → run_lines least_before n s m xs ≡ run_lines least_blocks n s m xs
  unfolding run_lines
  lines_same zero m xs x = refl
  lines_same (suc n) m xs x =
      go (leb (length s) m.at) (command_of least_before (line_at s m.at)) (command_of least_blocks (line_at s m.at))
      (line_same (line_at s m.at) (rw x.place (w x.line x.command)))
      (λ k ys e. lines_same n k ys (rw e (next-starts x)))
    where
      go : (t : Bool) (a b : Line) → SameLine (line_at s m.at) a b →
          ((k : Model) (ys : List ℕ) → k.at ≡ m.at + length (line_at s m.at) → run_lines least_before n s k ys ≡ run_lines least_blocks n s k ys) →
          pick t m (do_line (run_lines least_before n s) (line_at s m.at) a m xs) ≡ pick t m (do_line (run_lines least_blocks n s) (line_at s m.at) b m xs)
      go true a b k rest = refl
      go false a b (same e) rest =
          doing_same (m.at + length (line_at s m.at)) (run_lines least_before n s) (run_lines least_blocks n s) rest (line_at s m.at) m xs refl a
          ∙ ap (λ (a : Line). do_line (run_lines least_blocks n s) (line_at s m.at) a m xs) e
      go false a b (ill e i j) rest =
          doing_same (m.at + length (line_at s m.at)) (run_lines least_before n s) (run_lines least_blocks n s) rest (line_at s m.at) m xs refl a
          ∙ ill-same (run_lines least_blocks n s) (line_at s m.at) a b m xs i j

  pub model-same : {h : Header} → header_of s ≡ Ok h → (areas : Areas) (joined : List ℕ) →
      model least_before s areas joined ≡ model least_blocks s areas joined
  unfolding model model_start first_at
  model-same e areas joined = lines_same (suc (length s)) (model_start s areas) joined (rw e (first-starts s e))
