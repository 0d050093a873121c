-- What a reader sees of a text: all up to the first stop, with it. Where an LF is a stop that is the line, where nothing is the whole text.
-- Assumes nothing.
use mathlib.Core.Path.{◌≡◌, refl, ap}
use mathlib.Core.Bool.{Bool, false}
use Prim.Native.Nat.{ℕ, suc, ◌≤◌}
use native.Mathlib.Omega.{arith}
use mathlib.Core.List.{List, [], ◌∷◌}
use lib.ListN.{length, drop}
use lib.Dec.{eqb}
use Rattle.text.specs.Choice.{pick}
use Rattle.text.specs.Expected.{lf}
use Rattle.text.specs.Line.{line_of}
use Rattle.text.proofs.ChoiceLaws.{picks}
use Rattle.faults.specs.Language.{Language, Finding}
use Rattle.faults.proofs.LanguageLaws.{Reads}

abbrev pub seen : (ℕ → Bool) → List ℕ → List ℕ
seen stop [] = []
seen stop (b ∷ s) = b ∷ pick (stop b) [] (seen stop s)

-- nothing but an LF is a stop
abbrev pub OnlyLf : (ℕ → Bool) → Type 0
OnlyLf stop = (b : ℕ) → eqb b lf ≡ false → stop b ≡ false

-- nothing is one
abbrev pub never : ℕ → Bool
never b = false

pub all_seen : (s : List ℕ) → seen never s ≡ s
all_seen [] = refl
all_seen (b ∷ s) = ap (λ (t : List ℕ). b ∷ t) (all_seen s)

abbrev pub is_lf : ℕ → Bool
is_lf b = eqb b lf

-- what is found of a line from a position on
abbrev pub At : List ℕ → Language → ℕ → Finding → Type 0
At l K at r = Reads K at (seen is_lf (drop at l)) r

pub line-seen : (s : List ℕ) → line_of s ≡ seen is_lf s
unfolding line_of
line-seen [] = refl
line-seen (b ∷ s) =
    picks (λ l. l ≡ b ∷ pick (is_lf b) [] (seen is_lf s)) (is_lf b) (b ∷ []) (b ∷ line_of s) (λ e. rw e) (λ e. rw (e, line-seen s))

-- a line is its own line
pub line-line : (s : List ℕ) → line_of (line_of s) ≡ line_of s
unfolding line_of
line-line [] = refl
line-line (b ∷ s) = picks (λ l. line_of l ≡ l) (is_lf b) (b ∷ []) (b ∷ line_of s) (λ e. rw e) (λ e. rw (e, line-line s))

pub seen-length : (stop : ℕ → Bool) (s : List ℕ) → length (seen stop s) ≤ length s
seen-length stop [] = omega arith
seen-length stop (b ∷ s) =
    picks (λ l. suc (length l) ≤ suc (length s)) (stop b) [] (seen stop s) (λ e. omega arith) (λ e. omega (arith, seen-length stop s))
