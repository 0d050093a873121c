-- `source_block` meets its contract.
use Rattle.updater.proofs.ByteLaws.{lent_block}
use Rattle.updater.proofs.areas.source_block.Goals as goal

pub returns-then-stashed : goal.returns-then-stashed
returns-then-stashed c = rw c.if-stashed.true (lent_block c.args.stash.now c.args.k)

pub returns : goal.returns
returns c = rw c.if-stashed.false (lent_block c.args.image.now c.args.k)
