-- Document 02, R-6: the first byte at which no good text could go on, whatever texts are good.
-- Assumes nothing: these are definitions.
use Rattle.std.specs.Prelude.{ℕ, suc, ◌+◌, ◌≤◌, ◌<◌, ◌≡◌, ◌⊎◌, List, [], ◌∷◌, ◌++◌, length, take}

-- a language: which texts are good
abbrev pub Language : Type 1
Language = List ℕ → Type 0

-- some good text begins with these bytes
abbrev pub GoesOn : Language → List ℕ → Type 0
GoesOn L bytes = (rest : List ℕ) × L (bytes ++ rest)

-- the text s, whose first byte is at position i, is not good, and its first fault is at position p: some good text begins with the bytes
-- before p, and none with those up to and including p; or p is where s ends
pub record FirstFault (L : Language) (i : ℕ) (s : List ℕ) (p : ℕ) : Type 0 where
  pub before : ℕ
  pub place : p ≡ i + before
  pub within : before ≤ length s
  pub goes : GoesOn L (take before s)
  pub stops : before < length s → GoesOn L (take (suc before) s) → ⊥
  pub ill : L s → ⊥

-- what a reader of a whole text finds: that it is good, or a fault at a position
pub data Finding : Type 0 where
  good : Finding
  fault : ℕ → Finding

-- what is found is so
abbrev pub Found : Language → ℕ → List ℕ → Finding → Type 0
Found L i s good = L s
Found L i s (fault p) = FirstFault L i s p

-- ---- ways to say which texts are good: each says what comes first, and takes what may follow it

-- nothing
unfoldable pub End : Language
End [] = Unit {0}
End (b ∷ s) = ⊥

-- the character m
unfoldable pub Byte : ℕ → Language → Language
Byte m K [] = ⊥
Byte m K (b ∷ s) = (b ≡ m) × K s

-- one or the other
abbrev pub Or : Language → Language → Language
Or K L s = K s ⊎ L s
