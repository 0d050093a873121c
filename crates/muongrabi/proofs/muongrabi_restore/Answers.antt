-- `muongrabi_restore` meets its contract: the fields of what is read back, or nothing.
use Rattle.saved.proofs.ReadLaws.{restored_same, restored_error}
use Rattle.muongrabi.proofs.FieldLaws.{fields_read, fields_unread}
use Rattle.muongrabi.proofs.muongrabi_restore.Goals as goal

pub returns : goal.returns
returns c =
    let e = restored_same c.args.bytes.now _ _ _ c.in_default.ensures.value c.in_default.ensures.state_after in
    fields_read _ _ _ _ _ _ e c.numbers_of.ensures

pub returns-in-Err : goal.returns-in-Err
returns-in-Err c = fields_unread _ _ _ _ _ _ (restored_error c.args.bytes.now _ c.in-Err.ensures.value) c.number.ensures
