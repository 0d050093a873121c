-- `check_list` meets its contract: a start that is not refused keeps the list and line 3 within what `check_lines` asks.
use mathlib.Core.Path.{sym, ap, ◌∙◌}
use native.Mathlib.Omega.{arith}
use Rattle.state.specs.declared.Refusal.{Refusal}
use Rattle.state.proofs.ReasonLaws.{refusal-none}
use Rattle.rules.specs.declared.Terms.{Terms}
use Rattle.transfer_list.specs.declared.header.Header.{Header}
use Rattle.transfer_list.proofs.HeaderLaws.{same-header, start_none}
use Rattle.transfer_list.proofs.check_list.Goals as goal

pub check_lines-requires : goal.check_lines-requires
check_lines-requires c =
    let o = start_none c.args.list.now c.args.lengths (sym (ap (λ (r : Refusal). r.number) c.check_start.ensures) ∙ refusal-none _ c.in_ok-check_start.was) in
    let q = same-header (sym o.read ∙ sym c.read_header.ensures ∙ c.in-Ok.is) in
    (o.list, omega (arith, o.stashes, ap (λ (h : Header). h.stashes) q, ap (λ (t : Terms). t.stashes) c.terms_of.ensures))
