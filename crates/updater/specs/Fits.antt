-- What the code of a run rests on while it goes: the areas hold what the lines are checked against, and the state is within its bounds.
-- No reader of the rules needs this page.
-- Assumes nothing: these are definitions.
use Rattle.std.specs.Prelude.{◌≡◌, ℕ, ◌+◌, ◌*◌, ◌^◌, ◌<◌, ◌≤◌, true, List, length}
use Rattle.ranges.specs.Ranges.{least_blocks}
use Rattle.state.specs.Limits.{block_bytes, most_image_blocks, most_area_blocks, most_list_bytes, most_stashes, table_bytes}
use Rattle.state.specs.Stashes.{Whole, table_of, held, blocks_held}
use Rattle.state.specs.declared.State.{State}
use Rattle.rules.specs.declared.Terms.{Terms}
use Rattle.possible.specs.Possible.{can_be_stretched}
use Rattle.updater.specs.Steps.{Config}
use Rattle.updater.specs.Runnable.{blocks_in}

-- what every value of the state's type has: tables of their lengths, and a total of 64 bits
pub record Typed (state : State) : Type 0 where
  pub hashes : length state.table.hashes ≡ table_bytes
  pub sizes : length state.table.sizes ≡ most_stashes
  pub total : state.total < 2 ^ 64

pub record Fits (s : List ℕ) (terms : Terms) (p : Config) : Type 0 where
  pub list : length s ≤ most_list_bytes
  pub at : p.state.at ≤ length s
  pub line : p.state.line ≤ p.state.at + 1
  pub image : terms.image ≡ blocks_in p.areas.image
  pub most-image : terms.image ≤ most_image_blocks
  pub work : terms.work ≡ blocks_in p.areas.work
  pub result : terms.result ≡ blocks_in p.areas.result
  pub patch : terms.patch ≡ length p.areas.patch
  pub stash : block_bytes * terms.blocks ≤ length p.areas.stash
  pub most-blocks : terms.blocks ≤ most_area_blocks
  pub most-stashes : terms.stashes ≤ most_stashes
  pub whole : Whole (table_of p.state)
  pub blocks : blocks_held (held p.state) ≤ terms.blocks
  pub total : p.state.total < 2 ^ 64
  pub stretches : can_be_stretched least_blocks s p.state.at (held p.state) p.state.stretches ≡ true
