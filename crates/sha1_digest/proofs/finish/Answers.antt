-- `sha1_digest::finish` meets its contract.
use Rattle.std.proofs.Common.{sym, ◌∙◌}
use Rattle.sha1_digest.specs.Pieces.{finished-is}
use Rattle.sha1_digest.proofs.finish.Goals as goal

pub returns : goal.returns
returns c = c.close.ensures ∙ sym (finished-is c.args.h)
