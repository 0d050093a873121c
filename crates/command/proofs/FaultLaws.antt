-- The fault of a command that was asked for it: the byte that is reported, and which line has one.
-- Assumes nothing.
use mathlib.Core.Path.{◌≡◌, sym, ◌∙◌}
use Prim.Native.Nat.{ℕ, ◌+◌}
use Rattle.command.specs.declared.Command.{Command}
use Rattle.command.specs.declared.Command.TheVariants.{Zero, Erase, New, Move, Bsdiff, Stash, Free, Unsupported, Bad}
use Rattle.command.specs.Faults.{fault_of, fault_byte}
use Rattle.std.specs.Prelude.{Option, Some, None}

module _ (at : ℕ) (c : Command) {f : Option ℕ} (e : f ≡ fault_of c) where
  pub byte_at : {p : ℕ} → f ≡ Some p → at + p ≡ fault_byte at c
  unfolding fault_byte
  byte_at g = rw (sym e ∙ g)

  pub byte-none : f ≡ None → 0 ≡ fault_byte at c
  unfolding fault_byte
  byte-none g = rw (sym e ∙ g)

-- only an ill formed line has a fault
pub fault-bad : (c : Command) {p : ℕ} → fault_of c ≡ Some p → c ≡ Bad p
unfolding fault_of
fault-bad (Bad q) e = cc
fault-bad (Zero set) e = cc
fault-bad (Erase set) e = cc
fault-bad (New set) e = cc
fault-bad (Move target n source) e = cc
fault-bad (Bsdiff target n source) e = cc
fault-bad (Stash set) e = cc
fault-bad Free e = cc
fault-bad Unsupported e = cc
