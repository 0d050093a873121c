-- `sha1_digest::start` meets its contract.
use Rattle.std.proofs.Common.{sym}
use Rattle.sha1_digest.specs.Pieces.{started-is}
use Rattle.sha1_digest.proofs.start.Goals as goal

pub returns : goal.returns
returns c = sym started-is
