-- `step_stash` meets its contract: what is ready goes past the last stash; else the work area is filled.
use Rattle.std.proofs.Common.{◌≡◌, arith, length-take}
use Rattle.state.specs.Stashes.{held_in, blocks_held}
use Rattle.state.proofs.TableLaws.{blocks-all}
use Rattle.updater.proofs.StepLaws.{stash-writes}
use Rattle.updater.proofs.commands.step_stash.Goals as goal
use Rattle.updater.proofs.commands.step_stash.Goals.{After-blocks_before-start}

-- all blocks held
all : (c : After-blocks_before-start) → c.blocks_before-start.result ≡ blocks_held (held_in c.args.table.now)
all c = blocks-all c.args.table.now c.blocks_before-start.ensures (omega (arith, c.requires.most))

pub copy_over-requires : goal.copy_over-requires
copy_over-requires c =
    let r = c.requires in
    let held = all (goal.at.copy_over-requires c).After-blocks_before-start in
    simp length-take (omega (arith, r.fits, r.room))

pub returns-then-ready-ne0 : goal.returns-then-ready-ne0
returns-then-ready-ne0 c res patch =
    stash-writes _ _ _ _ _ c.if-ready-ne0.true (all (goal.at.returns-then-ready-ne0 c).After-blocks_before-start) c.copy_over.ensures
