-- `updater::run::fault_byte` meets its contract: a fault is counted from where its line starts.
use Rattle.std.proofs.Common.{sym, ◌∙◌, arith}
use Rattle.command.proofs.FaultLaws.{byte_at, byte-none, fault-bad}
use Rattle.updater.proofs.run.fault_byte.Goals as goal

pub overflow_add-result : goal.overflow_add-result
overflow_add-result c =
    let w = c.requires _ (fault-bad _ (sym c.fault_of.ensures ∙ c.in-Some.is)) in
    omega arith

pub returns-in-Some : goal.returns-in-Some
returns-in-Some c = byte_at _ _ c.fault_of.ensures c.in-Some.is

pub returns-in-None : goal.returns-in-None
returns-in-None c = byte-none _ _ c.fault_of.ensures c.in-None.is
