-- Document 02, R-9: a `free` moves the younger stashes down over the gap in stretches as long as the gap; the last may be shorter.
-- Assumes nothing: these are definitions.
use Rattle.std.specs.Prelude.{ℕ, ◌-◌, ◌*◌, min, Bool, ltb}
use Rattle.text.specs.Choice.{both}

-- stretch k, counted from 0, is there to be moved, over a gap of `gap` blocks below `younger` blocks. A gap of no blocks leaves nothing to move
unfoldable pub is_stretch : ℕ → ℕ → ℕ → Bool
is_stretch gap younger k = both (ltb 0 gap) (ltb (k * gap) younger)

-- its blocks
unfoldable pub stretch_blocks : ℕ → ℕ → ℕ → ℕ
stretch_blocks gap younger k = min gap (younger - k * gap)
