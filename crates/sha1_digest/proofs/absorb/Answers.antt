-- `sha1_digest::absorb` meets its contract.
use Rattle.std.proofs.Common.{sym}
use Rattle.sha1_digest.specs.Pieces.{absorbed-is}
use Rattle.sha1_digest.proofs.absorb.Goals as goal

pub returns : goal.returns
returns c =
    let a = c.args in
    rw c.hash.ensures (sym (absorbed-is a.h a.s.now))
