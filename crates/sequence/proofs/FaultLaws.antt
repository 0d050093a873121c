-- What a call reports of a line that is ill formed: `call-reports` is the theorem of document 02, R-6, for a run.
-- Assumes nothing.
use mathlib.Core.Path.{◌≡◌, refl, sym, subst}
use mathlib.Core.Bool.{true, false}
use mathlib.Core.List.{List}
use mathlib.Core.Logic.{⊎_elim}
use Prim.Native.Nat.{ℕ, suc, ◌+◌, ◌-◌, ◌^◌, ◌<◌}
use native.Mathlib.Omega.{arith}
use lib.ListN.{length, get_or}
use lib.Dec.{leb, eqb}
use borrow.Author.Tests.{eqb-true}
use Rattle.text.specs.Expected.{lf}
use Rattle.text.specs.Line.{line_number}
use Rattle.text.proofs.LineLaws.{line-mark}
use Rattle.text.proofs.ChoiceLaws.{picks, both_true, either_false}
use Rattle.ranges.specs.Ranges.{least_blocks}
use Rattle.state.specs.Limits.{most_stashes, table_bytes}
use Rattle.state.specs.Refusals.{none, header_form, line_form, has_byte}
use Rattle.state.specs.Stashes.{held}
use Rattle.state.specs.declared.Lengths.{Lengths}
use Rattle.state.specs.declared.State.{State}
use Rattle.command.specs.Commands.{command_of}
use Rattle.command.proofs.CommandLaws.{command-ended}
use Rattle.command.proofs.FaultLaws.{byte-none}
use Rattle.rules.specs.Rules.{refusal_of}
use Rattle.rules.specs.declared.Terms.{Terms}
use Rattle.rules.proofs.HeldLaws.{good-command}
use Rattle.rules.proofs.FormLaws.{form-is, form_or_none}
use Rattle.transfer_list.specs.Header.{header_of, start_refusal}
use Rattle.transfer_list.proofs.FaultLaws.{line-fault, command-line-good}
use Rattle.possible.specs.Possible.{same_lengths, at_line, possible_under, is_possible, terms_for}
use Rattle.machine.proofs.MachineLaws.{Sound}
use Rattle.machine.proofs.StopLaws.{call-keeps}
use Rattle.updater.specs.Effect.{InRun}
use Rattle.updater.specs.Steps.{Config, passed, refused_with, further_into, marked_with, state_after, step_at, after}
use Rattle.updater.specs.declared.commands.StepEnd.{StepEnd}
use Rattle.updater.specs.declared.commands.StepEnd.TheVariants.{Passed, Ended, Filled, Stretched, Refused}
use Rattle.updater.specs.Run.{current_line, current_command, refusal_here, fault_here, refused_at, quiet_step, put_byte, is_stopped, needs_byte, halts_at, machine, run_of}
use Rattle.updater.specs.Fits.{Fits}
use Rattle.updater.specs.Calls.{lengths_at, is_run, leaves}
use Rattle.updater.proofs.StepLaws.{step-refuses}
use Rattle.updater.proofs.FitLaws.{NotStopped, not_stopped, fits-sound}
use Rattle.updater.proofs.CallLaws.{possible-fits}
use Rattle.sequence.specs.Faults.{GoodLines, nothing_yet, one_more, CallReports}
use Rattle.std.specs.Prelude.{Result, Ok, Err}
use Rattle.transfer_list.specs.declared.header.Header.{Header}
use Rattle.transfer_list.specs.declared.header.BadHeader.{BadHeader}

-- where a run stands: the line's number is its position's, and good lines led there from where the call began
record Follows (s : List ℕ) (from : ℕ) (t : State) : Type 0 where
  line : t.line ≡ line_number s t.at
  before : GoodLines s from t.at

-- a possible state has the number of its line
possible-line : (s : List ℕ) (lengths : Lengths) (t : State) → is_possible least_blocks s lengths t ≡ true → t.line ≡ line_number s t.at
unfolding is_possible possible_under at_line
possible-line s lengths t e =
    let a = both_true (same_lengths t.lengths lengths) _ e in
    let b = both_true (eqb (start_refusal s lengths).number none) _ a.1 in
    go (header_of s) b.1
  where
    go : (read : Result Header BadHeader) → possible_under least_blocks s lengths read t ≡ true → t.line ≡ line_number s t.at
    go (Err bad) f = absurd (let z : ◌≡◌ {A = ℕ} 0 1 = cc in omega arith)
    go (Ok h) f =
        let at_line_lem = (both_true (at_line s h t.line t.at) _ f).0 in
        let first = both_true (leb h.first t.at) _ at_line_lem in
        let within = both_true (leb t.at (length s)) _ first.1 in
        eqb-true t.line (line_number s t.at) (both_true (eqb (get_or s (t.at - 1) 0) lf) _ within.1).1

module _ (s : List ℕ) (from : ℕ) where
  -- nothing refused
  none-reports : (t : State) → t.refusal.number ≡ none → CallReports s from t
  none-reports t e =
      record { line = λ h. absurd (omega (arith, e, h)); header = λ h. omega (arith, e, h); other = λ n m. absurd (n e) }

  -- a command that stopped
  stopped-reports : (t : State) (number : ℕ) → InRun number → CallReports s from (refused_with t number 0)
  unfolding refused_with
  stopped-reports t number r =
      record {
        line = λ h. absurd (⊎_elim (λ z. omega (arith, z, h)) (λ z. omega (arith, z, h)) r);
        header = λ h. ⊎_elim (λ z. omega (arith, z, h)) (λ z. omega (arith, z, h)) r;
        other = λ n m. refl;
      }

  module _ (terms : Terms) (p : Config) where
    -- a line that was refused
    refused-reports : p.state.at < length s → Follows s from p.state →
        CallReports s from (refused_with p.state (refusal_here least_blocks s terms p) (fault_here least_blocks s p))
    unfolding refused_with refusal_of
    refused-reports w v =
        let l = current_line s p in
        let hash = (command_of least_blocks l).hash in
        let c = current_command least_blocks s p in
        ⊎_elim
        (λ b.
        let number = form-is l terms (held p.state) hash b.1 in
        record {
          line = λ h. record { before = v.before; within = w; line = v.line; fault = line-fault s p.state.at (omega (arith, w)) b.1 };
          header = λ h. omega (arith, number, h);
          other = λ n m. absurd (m number);
        })
        (λ k.
        record {
          line = λ h. absurd (reports line_form refl (subst (λ (n : ℕ). has_byte n ≡ false) h k.number));
          header = λ h. reports header_form refl (subst (λ (n : ℕ). has_byte n ≡ false) h k.number);
          other = λ n m. sym (byte-none p.state.at c refl k.none);
        })
        (form_or_none l terms (held p.state) hash c)
      where
        reports : (n : ℕ) → has_byte n ≡ true → has_byte n ≡ false → ⊥
        reports n e f = let z : ◌≡◌ {A = ℕ} 0 1 = cc in omega arith

    after-reports : p.state.refusal.number ≡ none →
        CallReports s from (after (current_line s p) (command_of least_blocks (current_line s p)).hash (current_command least_blocks s p) p).state
    unfolding after state_after passed marked_with
    after-reports e =
        let l = current_line s p in
        let hash = (command_of least_blocks l).hash in
        let c = current_command least_blocks s p in
        go (step_at l hash c p).end (λ n r. step-refuses l (held p.state) hash c p.state.ready p.state.stretches p.areas r)
      where
        go : (x : StepEnd) → ((n : ℕ) → x ≡ Refused n → InRun n) →
            CallReports s from (state_after (current_line s p) (command_of least_blocks (current_line s p)).hash (current_command least_blocks s p) p.state x)
        go Passed r = none-reports _ e
        go Ended r = none-reports _ e
        go Filled r = none-reports _ e
        go Stretched r = none-reports _ e
        go (Refused number) r = stopped-reports p.state number (r number refl)

    -- the next line is reached, or the run stays at this one
    after-follows : refusal_here least_blocks s terms p ≡ none → Follows s from p.state →
        Follows s from (after (current_line s p) (command_of least_blocks (current_line s p)).hash (current_command least_blocks s p) p).state
    unfolding after state_after passed marked_with refused_with refusal_of
    after-follows e v =
        let l = current_line s p in
        let hash = (command_of least_blocks l).hash in
        let c = current_command least_blocks s p in
        let end = command-ended l (good-command l terms (held p.state) hash c e) in
        go (step_at l hash c p).end (line-mark s p.state.at end.place end.text).1
      where
        go : (x : StepEnd) → line_number s (p.state.at + length (current_line s p)) ≡ suc (line_number s p.state.at) →
            Follows s from (state_after (current_line s p) (command_of least_blocks (current_line s p)).hash (current_command least_blocks s p) p.state x)
        go Passed m =
            record { line = omega (arith, v.line, m); before = one_more v.before (command-line-good s p.state.at terms (held p.state) e) }
        go Ended m =
            record { line = omega (arith, v.line, m); before = one_more v.before (command-line-good s p.state.at terms (held p.state) e) }
        go Filled m = record { line = v.line; before = v.before }
        go Stretched m = record { line = v.line; before = v.before }
        go (Refused number) m = record { line = v.line; before = v.before }

    quiet-follows : Follows s from p.state → Follows s from (quiet_step least_blocks s terms p).state
    unfolding quiet_step refused_at refused_with
    quiet-follows v =
        picks (λ (q : Config). Follows s from q.state) (eqb (refusal_here least_blocks s terms p) none)
        (after (current_line s p) (command_of least_blocks (current_line s p)).hash (current_command least_blocks s p) p)
        (refused_at (refusal_here least_blocks s terms p) (fault_here least_blocks s p) p)
        (λ t. after-follows (eqb-true (refusal_here least_blocks s terms p) none t) v)
        (λ t. record { line = v.line; before = v.before })

    quiet-reports : NotStopped s p → Follows s from p.state → CallReports s from (quiet_step least_blocks s terms p).state
    unfolding quiet_step refused_at
    quiet-reports g v =
        picks (λ (q : Config). CallReports s from q.state) (eqb (refusal_here least_blocks s terms p) none)
        (after (current_line s p) (command_of least_blocks (current_line s p)).hash (current_command least_blocks s p) p)
        (refused_at (refusal_here least_blocks s terms p) (fault_here least_blocks s p) p)
        (λ t. after-reports g.unrefused)
        (λ t. refused-reports g.within v)

  put-reports : (x : ℕ) (p : Config) → CallReports s from p.state → CallReports s from (put_byte least_blocks s x p).state
  unfolding put_byte further_into
  put-reports x p r =
      record {
        line = λ h. let k = r.line h in record { before = k.before; within = k.within; line = k.line; fault = k.fault };
        header = r.header;
        other = r.other;
      }

  put-follows : (x : ℕ) (p : Config) → Follows s from p.state → Follows s from (put_byte least_blocks s x p).state
  unfolding put_byte further_into
  put-follows x p v = record { line = v.line; before = v.before }

  abbrev Reporting : Terms → Config → Type 0
  Reporting terms p = Fits s terms p × Follows s from p.state × CallReports s from p.state

  reports-sound : (terms : Terms) → Sound (machine least_blocks s terms) (Reporting terms)
  reports-sound terms =
      let f = fits-sound s terms in
      record {
        falls = λ p i w. f.falls p i.0 w;
        rests = λ p i e. f.rests p i.0 e;
        quiet_keeps = λ p i w. (
          f.quiet_keeps p i.0 w,
          quiet-follows terms p i.1,
          quiet-reports terms p (not_stopped s p (either_false (is_stopped s p) (needs_byte least_blocks s terms p) w).0) i.1,
        );
        put_keeps = λ p x i w n. (f.put_keeps p x i.0 w n, put-follows x p i.1, put-reports x p i.2);
      }

-- a call that is a run, over a state whose two tables have their lengths and whose total is a word, whatever the list is by then
pub call-reports : (s piece : List ℕ) (p : Config) → is_run least_blocks s p ≡ true → length p.state.table.hashes ≡ table_bytes →
    length p.state.table.sizes ≡ most_stashes → p.state.total < 2 ^ 64 → CallReports s p.state.at (leaves least_blocks s piece p).state
unfolding is_run leaves run_of
call-reports s piece p r a b c =
    let k = both_true (eqb p.state.refusal.number none) (is_possible least_blocks s (lengths_at s p.areas) p.state) r in
    let from = p.state.at in
    let terms = terms_for s (lengths_at s p.areas) in
    rw r
    (call-keeps (machine least_blocks s terms) (halts_at least_blocks s terms) (Reporting s from terms) (reports-sound s from terms) piece p (
      possible-fits s p k.1 (record { hashes = a; sizes = b; total = c }),
      record { line = possible-line s (lengths_at s p.areas) p.state k.1; before = nothing_yet },
      none-reports s from p.state (eqb-true p.state.refusal.number none k.0),
    )).2
