-- `apply` meets its contract: a result of the size that was checked has room for what the records make.
use Rattle.std.proofs.Common.{sym, ◌∙◌}
use Rattle.patch.proofs.PatchLaws.{patch-size}
use Rattle.patch.proofs.apply.Goals as goal

pub write_records-requires : goal.write_records-requires
write_records-requires c = sym (patch-size _ _ (sym c.is_patch.ensures ∙ c.if-not-is_patch.false))
