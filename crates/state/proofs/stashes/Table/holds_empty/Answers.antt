-- `Table::holds_empty` meets its contract.
use mathlib.Core.Path.{◌∙◌}
use native.Mathlib.Omega.{arith}
use Rattle.state.proofs.TableLaws.{empty_sizes}
use Rattle.state.proofs.stashes.Table.holds_empty.Goals as goal

pub returns : goal.returns
returns c = c.contains.ensures.value ∙ empty_sizes c.args.self.now c.held_count.result c.held_count.ensures (omega arith)
