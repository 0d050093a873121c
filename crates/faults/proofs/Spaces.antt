-- What follows each word starts with a space.
-- Assumes nothing.
use mathlib.Core.List.{List, [], ◌∷◌}
use Prim.Native.Nat.{ℕ}
use Rattle.text.specs.Expected.{space}
use Rattle.command.specs.declared.word.HashWord.TheVariants as hash
use Rattle.command.specs.declared.word.Word.{Word}
use Rattle.command.specs.declared.word.Word.TheVariants as word
use Rattle.faults.specs.Language.{Language, Byte}
use Rattle.faults.specs.Lines.{LastSet, Rest}
use Rattle.faults.proofs.LanguageLaws.{Starts}

pub byte-starts : (m : ℕ) (K : Language) (t : List ℕ) → Byte m K t → Starts t m
unfolding Byte
byte-starts m K [] d = d
byte-starts m K (b ∷ t) d = d.0

-- every text starts with a space
abbrev pub Spaced : Language → Type 0
Spaced K = (t : List ℕ) → K t → Starts t space

pub rest_spaced : (w : Word) → Spaced (Rest w)
unfolding Rest LastSet
rest_spaced (word.Ranges w) = byte-starts space _
rest_spaced (word.Hash hash.Move) = byte-starts space _
rest_spaced (word.Hash hash.Stash) = byte-starts space _
rest_spaced (word.Hash hash.Free) = byte-starts space _
rest_spaced word.Bsdiff = byte-starts space _
rest_spaced word.Imgdiff = λ t d. absurd d
rest_spaced word.Unknown = λ t d. absurd d
