-- `write_chunk` meets its contract: the lent part, written, is back in the image.
use Rattle.sparse.proofs.LoadingLaws.{raw_back, fill_sizes, fill_back, kept}
use Rattle.sparse.proofs.write.write_chunk.Goals as goal

pub fill_in-requires : goal.fill_in-requires
fill_in-requires c =
    fill_sizes c.args.file.now c.args.chunk c.requires.body_in_file.0 c.requires.body_in_file.1 c.args.image.now c.requires.blocks_in_image c.in-Fill.is

pub returns-in-Raw : goal.returns-in-Raw
returns-in-Raw c =
    raw_back c.args.file.now c.args.chunk c.requires.body_in_file.0 c.requires.body_in_file.1 c.args.image.now c.requires.blocks_in_image c.in-Raw.is
    c.copy_in.new.to c.copy_in.ensures

pub returns-in-Fill : goal.returns-in-Fill
returns-in-Fill c =
    fill_back c.args.file.now c.args.chunk c.requires.body_in_file.0 c.requires.body_in_file.1 c.args.image.now c.requires.blocks_in_image c.in-Fill.is
    c.fill_in.new.part c.fill_in.ensures

pub returns-in-DontCare : goal.returns-in-DontCare
returns-in-DontCare c =
    kept c.args.file.now c.args.chunk c.requires.body_in_file.0 c.requires.body_in_file.1 c.args.image.now c.requires.blocks_in_image c.in-DontCare.is
