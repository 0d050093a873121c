-- Document 02, R-9: which commands fill an area before they write from it.
-- Assumes nothing: these are definitions.
use Rattle.std.specs.Prelude.{Bool, true, false}
use Rattle.command.specs.declared.Command.{Command}
use Rattle.command.specs.declared.Command.TheVariants.{Zero, Erase, New, Move, Bsdiff, Stash, Free, Unsupported, Bad}

-- `move` and `stash` fill the work area, `bsdiff` the result area too
unfoldable pub fills : Command → Bool
fills (Move target n source) = true
fills (Bsdiff target n source) = true
fills (Stash set) = true
fills (Zero set) = false
fills (Erase set) = false
fills (New set) = false
fills Free = false
fills Unsupported = false
fills (Bad p) = false
