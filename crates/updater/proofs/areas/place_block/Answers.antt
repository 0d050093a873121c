-- `place_block` meets its contract.
use Rattle.std.proofs.Common.{length, ap, arith}
use Rattle.updater.proofs.ByteLaws.{length_block}
use Rattle.updater.proofs.areas.place_block.Goals as goal

pub copy_over-requires : goal.copy_over-requires
copy_over-requires c =
    let b = c.source_block-block.ensures in
    omega (arith, ap length b, length_block _ c.args.k c.requires.block_within, c.requires.place_within)

pub returns : goal.returns
returns c = rw c.source_block-block.ensures at c.copy_over.ensures
