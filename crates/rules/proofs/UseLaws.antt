-- The steps of a loop over the stashes that a source names.
-- Assumes nothing.
use Prim.Native.Nat.{ℕ, suc, ◌-◌, ◌<◌}
use mathlib.Core.Path.{◌≡◌, refl, sym, ◌∙◌}
use mathlib.Core.List.{List}
use native.Mathlib.Omega.{arith}
use lib.ListN.{length}
use Rattle.std.specs.Prelude.{Option, Some, None, Result, Ok}
use Rattle.ranges.specs.Ranges.{least_again}
use Rattle.command.specs.declared.parts.Part.{Part}
use Rattle.command.specs.declared.parts.BadPart.{BadPart}
use Rattle.command.specs.Parts.{part_at}
use Rattle.command.proofs.PartLaws.{part_next}

-- what is left of the line from the next P on; a P that is read ends further on
abbrev pub unread : List ℕ → Option ℕ → ℕ
unread l (Some at) = suc (length l - at)
unread l None = 0

module _ (l : List ℕ) {at : ℕ} {r : Result Part BadPart} (read : r ≡ part_at least_again l at) {next : Option ℕ} (here : next ≡ Some at) where
  pub unread-less : {p : Part} → r ≡ Ok p → unread l p.next < unread l next
  unread-less {p} e = rw here (go p.next refl)
    where
      go : (n : Option ℕ) → p.next ≡ n → unread l n < suc (length l - at)
      go (Some n) f = let h = part_next least_again l at (sym read ∙ e) f in omega arith
      go None f = omega arith
