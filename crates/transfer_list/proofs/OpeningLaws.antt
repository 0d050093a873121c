-- Laws of the walk over the command lines: what a line is refused for, by cases, and the walk that goes on after a line that is not.
-- Assumes nothing.
use mathlib.Core.Path.{◌≡◌, refl, sym, ap, ◌∙◌}
use mathlib.Core.Bool.{true, false}
use mathlib.Core.List.{List}
use mathlib.Core.Logic.{⊎_elim}
use Prim.Native.Nat.{ℕ, zero, suc, ◌+◌, ◌-◌, ◌≤◌, ◌<◌}
use native.Mathlib.Omega.{arith}
use borrow.Author.Tests.{le-leb, lt-leb, ne_eqb, eqb-true, eqb-false}
use lib.Dec.{eqb}
use lib.ListN.{length}
use Rattle.text.specs.Line.{line_at}
use Rattle.text.proofs.ChoiceLaws.{bool}
use Rattle.ranges.specs.Ranges.{least_blocks}
use Rattle.state.specs.Refusals.{none}
use Rattle.state.specs.States.{no_refusal}
use Rattle.state.specs.Stashes.{Stash}
use Rattle.state.specs.declared.Refusal.{Refusal}
use Rattle.command.specs.Commands.{command_of}
use Rattle.rules.specs.Held.{held_after}
use Rattle.rules.specs.Rules.{refusal_of}
use Rattle.rules.specs.declared.Terms.{Terms}
use Rattle.transfer_list.specs.Opening.{counted_blocks, total_refusal, line_refusal, lines_refusal}
use Rattle.transfer_list.specs.declared.header.Header.{Header}

-- the walk goes on after the line that starts at a position
abbrev pub lines_after : ℕ → List ℕ → Terms → Header → ℕ → ℕ → List Stash → ℕ → Refusal
lines_after n s terms h line at stashes counted =
    lines_refusal least_blocks n s terms h (line + 1) (at + length (line_at s at))
    (held_after stashes (command_of least_blocks (line_at s at)).hash (command_of least_blocks (line_at s at)).command)
    (counted + counted_blocks (command_of least_blocks (line_at s at)).command)

-- a line passes its checks, and so do all after it
pub record Passed (n : ℕ) (s : List ℕ) (terms : Terms) (h : Header) (line at : ℕ) (stashes : List Stash) (counted : ℕ) : Type 0 where
  pub good : refusal_of least_blocks (line_at s at) terms stashes ≡ none
  pub rest : lines_after n s terms h line at stashes counted ≡ no_refusal

module _ (n : ℕ) (s : List ℕ) (terms : Terms) (h : Header) (line at : ℕ) (stashes : List Stash) (counted : ℕ) where
  pub lines_end : length s ≤ at → lines_refusal least_blocks n s terms h line at stashes counted ≡ total_refusal h counted
  unfolding lines_refusal
  lines_end l = go n
    where
      go : (n : ℕ) → lines_refusal least_blocks n s terms h line at stashes counted ≡ total_refusal h counted
      go zero = refl
      go (suc n) = rw (le-leb (length s) at l)

  module _ (w : 0 < n) (l : at < length s) where
    pub lines-refused : (refusal_of least_blocks (line_at s at) terms stashes ≡ none → ⊥) →
        lines_refusal least_blocks n s terms h line at stashes counted ≡ line_refusal least_blocks s terms line at stashes
    unfolding lines_refusal
    lines-refused e = go n w
      where
        go : (n : ℕ) → 0 < n → lines_refusal least_blocks n s terms h line at stashes counted ≡ line_refusal least_blocks s terms line at stashes
        go zero w = absurd (omega arith)
        go (suc m) w = rw (lt-leb (length s) at l, ne_eqb (refusal_of least_blocks (line_at s at) terms stashes) none e)

    pub lines-go-on : refusal_of least_blocks (line_at s at) terms stashes ≡ none →
        lines_refusal least_blocks n s terms h line at stashes counted ≡ lines_after (n - 1) s terms h line at stashes counted
    unfolding lines_refusal
    lines-go-on e = go n w
      where
        go : (n : ℕ) → 0 < n → lines_refusal least_blocks n s terms h line at stashes counted ≡ lines_after (n - 1) s terms h line at stashes counted
        go zero w = absurd (omega arith)
        go (suc m) w =
            let k : suc m - 1 ≡ m = omega arith in
            rw (k, lt-leb (length s) at l, e)

    -- of a walk that refuses nothing
    pub lines_next : lines_refusal least_blocks n s terms h line at stashes counted ≡ no_refusal → Passed (n - 1) s terms h line at stashes counted
    lines_next e =
        let r = refusal_of least_blocks (line_at s at) terms stashes in
        ⊎_elim
        (λ (t : eqb r none ≡ true).
        let z = eqb-true r none t in
        record { good = z; rest = sym (lines-go-on z) ∙ e })
        (λ (t : eqb r none ≡ false).
        absurd (eqb-false r none t (ap (λ (x : Refusal). x.number) (sym (lines-refused (eqb-false r none t)) ∙ e))))
        (bool (eqb r none))
