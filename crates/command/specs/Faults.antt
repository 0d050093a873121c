-- Document 02, R-6: 6 reports the byte of the text at which a line is at fault.
-- Assumes nothing: these are definitions.
use Rattle.std.specs.Prelude.{ℕ, ◌+◌, Option, Some, None}
use Rattle.text.specs.Read.{on_option}
use Rattle.command.specs.declared.Command.{Command}
use Rattle.command.specs.declared.Command.TheVariants.{Zero, Erase, New, Move, Bsdiff, Stash, Free, Unsupported, Bad}

-- the fault of a line that is ill formed; 7 has none
unfoldable pub fault_of : Command → Option ℕ
fault_of (Bad p) = Some p
fault_of (Zero set) = None
fault_of (Erase set) = None
fault_of (New set) = None
fault_of (Move target n source) = None
fault_of (Bsdiff target n source) = None
fault_of (Stash set) = None
fault_of Free = None
fault_of Unsupported = None

-- the byte that is reported of a line that starts at position `at` of the text: 0 where nothing is ill formed
unfoldable pub fault_byte : ℕ → Command → ℕ
fault_byte at c = on_option (fault_of c) (λ p. at + p) 0
