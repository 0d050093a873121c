-- `check_lines` meets its contract.
use mathlib.Core.Path.{◌≡◌, refl, sym, ap, ◌∙◌}
use mathlib.Core.List.{List}
use Prim.Native.Nat.{ℕ, suc, ◌+◌, ◌-◌, ◌≤◌, ◌<◌}
use native.Mathlib.Omega.{arith}
use borrow.Author.Tests.{eq-eqb, ne_eqb}
use lib.ListN.{length, length-replicate}
use Rattle.text.specs.Hash.{hash_bytes}
use Rattle.text.specs.Line.{line_at}
use Rattle.text.proofs.LineLaws.{line_some, line-within}
use Rattle.ranges.specs.Ranges.{least_blocks}
use Rattle.state.specs.Limits.{most_stashes, table_bytes}
use Rattle.state.specs.Refusals.{none, total_differs}
use Rattle.state.specs.declared.stashes.Table.{Table}
use Rattle.state.specs.Stashes.{empty_table, held_in}
use Rattle.state.specs.States.{refusing, refusing_at, no_refusal}
use Rattle.state.specs.Sums.{bound, bounded}
use Rattle.state.proofs.ReasonLaws.{number-some, number-none, number-refused}
use Rattle.state.proofs.TableLaws.{none-held}
use Rattle.command.specs.Commands.{command_of}
use Rattle.command.specs.Faults.{fault_of, fault_byte}
use Rattle.command.specs.declared.Command.TheVariants.{Bad}
use Rattle.command.proofs.CommandLaws.{command-hash}
use Rattle.command.proofs.FaultLaws.{byte_at, byte-none, fault-bad}
use Rattle.faults.proofs.Faults.{fault-within}
use Rattle.rules.specs.Held.{held_after, table_after}
use Rattle.rules.specs.Rules.{CheckedLine, refusal_of, checked_of}
use Rattle.rules.specs.declared.Terms.{Terms}
use Rattle.rules.proofs.HeldLaws.{held_after_lem, table-whole}
use Rattle.transfer_list.specs.Header.{first_line}
use Rattle.transfer_list.specs.Opening.{counted_blocks, total_refusal}
use Rattle.transfer_list.specs.declared.header.Header.{Header}
use Rattle.transfer_list.proofs.OpeningLaws.{lines_end, lines-refused, lines-go-on}
use Rattle.transfer_list.proofs.check_lines.Invariants.{Checking, whole}
use Rattle.transfer_list.proofs.check_lines.Goals as goal
use Rattle.std.specs.Prelude.{Option, Some}

-- a line that was read has a byte or more, and ends within the text
length-is : (list : List ℕ) {at : ℕ} {l : List ℕ} → at < length list → l ≡ line_at list at → (0 < length l) × (at + length l ≤ length list)
length-is list {at} w e = rw e (line_some list at w, line-within list at w)

module _ {list : List ℕ} {terms : Terms} {h : Header} {t : Table} {line at counted : ℕ} (v : Checking list terms h t line at counted) where
  -- 15
  module _ (l : length list ≤ at) (w : h.total < bound) where
    ended : total_refusal h v.total ≡ whole list terms h
    ended = sym (lines_end v.n list terms h line at (held_in t) v.total l) ∙ v.same

    total_differs_lem : (counted ≡ h.total → ⊥) → refusing total_differs 2 ≡ whole list terms h
    unfolding total_refusal
    total_differs_lem e = rw (ne_eqb v.total h.total (λ q. e (omega (arith, v.sum)))) at ended

    none-refused : counted ≡ h.total → no_refusal ≡ whole list terms h
    unfolding total_refusal
    none-refused e = rw (eq-eqb v.total h.total (omega (arith, v.sum))) at ended

  module _ {l : List ℕ} {k : CheckedLine} (w : at < length list) (e : l ≡ line_at list at) (f : k ≡ checked_of least_blocks l terms (held_in t)) where
    left : 0 < v.n
    left = omega (arith, v.enough)

    number_is : k.refusal ≡ refusal_of least_blocks (line_at list at) terms (held_in t)
    unfolding checked_of
    number_is = ap (λ (c : CheckedLine). c.refusal) f ∙ rw e

    line-is : k.line ≡ command_of least_blocks (line_at list at)
    unfolding checked_of
    line-is = ap (λ (c : CheckedLine). c.line) f ∙ rw e

    line_refused : {byte : ℕ} → (k.refusal ≡ none → ⊥) → byte ≡ fault_byte at k.line.command →
        refusing_at k.refusal line byte ≡ whole list terms h
    line_refused r q =
        rw (q, number_is, line-is)
        (sym (lines-refused v.n list terms h line at (held_in t) v.total left w (λ z. r (number_is ∙ z))) ∙ v.same)

    -- a fault lies within its line
    fault-room : {f : Option ℕ} {p : ℕ} → f ≡ fault_of k.line.command → f ≡ Some p → at + p ≤ length list
    fault-room {f} {p} q g =
        let z : (command_of least_blocks (line_at list at)).command ≡ Bad p = fault-bad (command_of least_blocks (line_at list at)).command (rw (sym line-is) (sym q ∙ g)) in
        omega (arith, fault-within (line_at list at) z, line-within list at w)

    module _ (most : terms.stashes ≤ most_stashes) (z : k.refusal ≡ none) where
      passes : refusal_of least_blocks (line_at list at) terms (held_in t) ≡ none
      passes = sym number_is ∙ z

      hash-size : length k.line.hash ≡ hash_bytes
      hash-size = rw line-is (command-hash (line_at list at))

      held_next : held_in (table_after t k.line.hash k.line.command) ≡ held_after (held_in t) k.line.hash k.line.command
      unfolding refusal_of
      held_next =
          held_after_lem (line_at list at) terms t k.line.hash v.table most hash-size k.line.command
          (rw line-is passes)

      checking_next : {u : Table} {n m : ℕ} → u ≡ table_after t k.line.hash k.line.command →
          n ≡ counted_blocks k.line.command → m ≡ bounded (counted + n) → Checking list terms h u (line + 1) (at + length l) m
      checking_next {u} {n} {m} a b c =
          record {
            n = v.n - 1;
            total = v.total + n;
            enough = omega (arith, v.enough, (length-is list w e).0);
            sum = omega (arith, v.sum);
            table = rw a (table-whole (line_at list at) terms t k.line.hash v.table hash-size k.line.command);
            lines = omega (arith, v.lines, (length-is list w e).0);
            same =
                rw (a, held_next, b, line-is, e)
                (sym (lines-go-on v.n list terms h line at (held_in t) v.total left w passes) ∙ v.same);
          }

checking_start : (list : List ℕ) (terms : Terms) (h : Header) → Checking list terms h empty_table first_line h.first 0
checking_start list terms h =
    record {
      n = suc (length list);
      total = 0;
      enough = omega arith;
      sum = refl;
      table = record { hashes = length-replicate {A = ℕ} table_bytes 0; sizes = length-replicate {A = ℕ} most_stashes 0; count = omega arith };
      lines = omega arith;
      same = rw none-held;
    }

pub loop-at-init : goal.loop-at-init
loop-at-init c = rw c.new-table.ensures (checking_start _ _ _)

pub overflow_add-byte : goal.overflow_add-byte
overflow_add-byte c =
    let w = fault-room c.loop-at.invariant (omega arith) c.line_at-l.ensures c.check_line-checked.ensures c.fault_of.ensures c.in-Some.is in
    omega arith

pub returns-in-Some : goal.returns-in-Some
returns-in-Some c =
    let n = number-refused _ c.in-Err.is in
    ap (λ (m : ℕ). refusing_at m c.loop-at.line (c.loop-at.at + c.in-Some.p)) (sym n)
    ∙ line_refused c.loop-at.invariant (omega arith) c.line_at-l.ensures c.check_line-checked.ensures (λ z. number-some _ (sym n ∙ z))
    (byte_at _ _ c.fault_of.ensures c.in-Some.is)

pub returns-in-None : goal.returns-in-None
returns-in-None c =
    let n = number-refused _ c.in-Err.is in
    ap (λ (m : ℕ). refusing_at m c.loop-at.line 0) (sym n)
    ∙ line_refused c.loop-at.invariant (omega arith) c.line_at-l.ensures c.check_line-checked.ensures (λ z. number-some _ (sym n ∙ z))
    (byte-none _ _ c.fault_of.ensures c.in-None.is)

pub overflow_add-at : goal.overflow_add-at
overflow_add-at c = let w = length-is _ c.loop-at-test.true c.line_at-l.ensures in omega arith

pub overflow_add-line : goal.overflow_add-line
overflow_add-line c = omega (arith, c.loop-at.invariant.lines)

pub loop-at-smaller : goal.loop-at-smaller
loop-at-smaller c = let w = length-is _ c.loop-at-test.true c.line_at-l.ensures in omega arith

pub loop-at-preserved : goal.loop-at-preserved
loop-at-preserved c =
    checking_next c.loop-at.invariant (omega arith) c.line_at-l.ensures c.check_line-checked.ensures (omega arith)
    (number-none _ c.in_default.is) c.hold_after.ensures c.counted_blocks.ensures c.bounded_sum-counted.ensures

pub returns-then-counted-h : goal.returns-then-counted-h
returns-then-counted-h c = total_differs_lem c.loop-at.invariant (omega arith) (omega arith) (omega arith)

pub returns : goal.returns
returns c = none-refused c.loop-at.invariant (omega arith) (omega arith) (omega arith)
