-- `text::line::line_feeds` meets its contract: a part and what is left of the text have the LFs of the rest.
use mathlib.Core.Path.{ap}
use native.Mathlib.Omega.{arith}
use Rattle.text.specs.Line.{lfs_in}
use Rattle.text.proofs.LineLaws.{lfs_split}
use Rattle.text.proofs.line.line_feeds.Goals as goal

pub loop-part-preserved : goal.loop-part-preserved
loop-part-preserved c =
    let h = c.in-Some.ensures.cases in
    omega (arith, ap lfs_in h.1, ap lfs_in h.2, lfs_split c.loop-part.rest.now 128)
