-- `text::line::line_at` meets its contract.
use mathlib.Core.Path.{◌≡◌, refl, sym, ap, ◌∙◌}
use mathlib.Core.List.{List}
use Prim.Native.Nat.{ℕ, ◌-◌, min}
use lib.ListN.{length, take, drop}
use Rattle.text.specs.Line.{line_of, line_at}
use Rattle.text.proofs.LineLaws.{rest_of, line_of-lf, line_of-none}
use Rattle.text.proofs.line.line_at.Goals as goal

-- the bytes from `i` on, where i is the position or the text's end
from_rest : (s : List ℕ) (at i : ℕ) {l m : List ℕ} → i ≡ min at (length s) → l ≡ take (length s - i) (drop i s) → line_of l ≡ m → line_at s at ≡ m
unfolding line_at
from_rest s at i e f g = ap line_of (sym (f ∙ rest_of s at i e)) ∙ g

pub returns-in-Some : goal.returns-in-Some
returns-in-Some c =
    sym (from_rest _ _ _ c.min.ensures refl (line_of-lf _ (sym c.first_feed.ensures ∙ c.in-Some.is)))

pub returns-in-None : goal.returns-in-None
returns-in-None c =
    sym (from_rest _ _ _ c.min.ensures refl (line_of-none _ (sym c.first_feed.ensures ∙ c.in-None.is)))
