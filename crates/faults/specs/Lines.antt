-- Document 01, "The list text", and document 02, R-4, R-6 and R-7: which lines are good. Nothing here speaks of positions or of how a line is read. Length
-- limits, and refusals other than 3, 6 and 7, do not matter: a line of `imgdiff` is not good, a target past the image is.
-- Assumes nothing: these are definitions.
use Rattle.std.specs.Prelude.{ℕ, zero, suc, ◌-◌, ◌/◌, ◌≤◌, ◌<◌, ◌≡◌, Bool, true, ◌⊎◌, List, [], ◌∷◌, leb, ltb}
use Rattle.text.specs.Choice.{both, either}
use Rattle.text.specs.Expected.{space, lf, comma, colon, dash}
use Rattle.text.specs.Number.{largest, is_digit, then, is_count}
use Rattle.text.specs.Hash.{hash_bytes}
use Rattle.command.specs.Words.{spelling}
use Rattle.command.specs.declared.word.HashWord.TheVariants as hash
use Rattle.command.specs.declared.word.Word.{Word}
use Rattle.command.specs.declared.word.Word.TheVariants as word
use Rattle.faults.specs.Language.{Language, End, Byte, Or}

-- ---- numbers: decimal, at most 4,294,967,295, no leading zero

-- after the digits of v: the number is v, and passes the test; or there is another digit, not after a leading zero and not past the largest
-- number
unfoldable pub Digits : (ℕ → Bool) → (ℕ → Language) → ℕ → Language
Digits test K v [] = (test v ≡ true) × K v []
Digits test K v (b ∷ s) =
    ((test v ≡ true) × K v (b ∷ s)) ⊎ ((is_digit b ≡ true) × (0 < v) × (then v b ≤ largest) × Digits test K (then v b) s)

-- a number that passes a test; what follows may depend on it
unfoldable pub NumberThat : (ℕ → Bool) → (ℕ → Language) → Language
NumberThat test K [] = ⊥
NumberThat test K (b ∷ s) = (is_digit b ≡ true) × Digits test K (b - 48) s

abbrev pub any : ℕ → Bool
any v = true

abbrev pub Number : Language → Language
Number K = NumberThat any (λ v. K)

-- ---- hashes: 40 characters, each one of the digits 0 to 9 or the letters a to f

abbrev pub is_hex_digit : ℕ → Bool
is_hex_digit b = either (both (leb 48 b) (leb b 57)) (both (leb 97 b) (leb b 102))

unfoldable pub HexDigit : Language → Language
HexDigit K [] = ⊥
HexDigit K (b ∷ s) = (is_hex_digit b ≡ true) × K s

-- n bytes, each two digits
unfoldable pub Octets : ℕ → Language → Language
Octets zero K = K
Octets (suc n) K = HexDigit (HexDigit (Octets n K))

abbrev pub Hash : Language → Language
Hash = Octets hash_bytes

-- ---- range sets: a count, even and at least 2, then that many numbers, all joined by commas; an end is above its start

abbrev pub Pair : Language → Language
Pair K = Byte comma (NumberThat any (λ start. Byte comma (NumberThat (λ end. ltb start end) (λ end. K))))

unfoldable pub Pairs : ℕ → Language → Language
Pairs zero K = K
Pairs (suc n) K = Pair (Pairs n K)

unfoldable pub RangeSet : Language → Language
RangeSet K = NumberThat is_count (λ count. Pairs (count / 2) K)

-- ---- sources: `S`; `- P ..`; `S L P ..`, with at least one P; P is `H:L`

abbrev pub LineEnd : Language
LineEnd = Byte lf End

abbrev pub Part : Language → Language
Part K = Hash (Byte colon (RangeSet K))

-- up to n Ps, one at least, and the line's end
unfoldable pub PartsOf : ℕ → Language
PartsOf zero = λ s. ⊥
PartsOf (suc n) = Part (Or LineEnd (Byte space (PartsOf n)))

-- one P or more, and the line's end
unfoldable pub Parts : Language
Parts s = (n : ℕ) × PartsOf n s

unfoldable pub Source : Language
Source =
    Or (Byte dash (Byte space Parts))
    (RangeSet (Or LineEnd (Byte space (RangeSet (Byte space Parts)))))

-- ---- lines: fields are parted by one space

-- ` R`, to the line's end
unfoldable pub LastSet : Language
LastSet = Byte space (RangeSet LineEnd)

-- ` R N ` and a source
unfoldable pub Sourced : Language
Sourced = Byte space (RangeSet (Byte space (Number (Byte space Source))))

-- ` H` and what follows it
abbrev pub Hashed : Language → Language
Hashed K = Byte space (Hash K)

-- what follows a word: `zero R`, `erase R`, `new R`; `move H R N ..`, `stash H S`, `free H`; `bsdiff O B H T R N ..`
unfoldable pub Rest : Word → Language
Rest (word.Ranges w) = LastSet
Rest (word.Hash hash.Move) = Hashed Sourced
Rest (word.Hash hash.Stash) = Hashed LastSet
Rest (word.Hash hash.Free) = Hashed LineEnd
Rest word.Bsdiff = Byte space (Number (Byte space (Number (Hashed (Hashed Sourced)))))
-- no good line begins with one of these
Rest word.Imgdiff = λ s. ⊥
Rest word.Unknown = λ s. ⊥

-- the bytes of a word
unfoldable pub Bytes : List ℕ → Language → Language
Bytes [] K = K
Bytes (c ∷ bytes) K = Byte c (Bytes bytes K)

-- a good command line: a word and what follows it
unfoldable pub CommandLine : Language
CommandLine s = (w : Word) × Bytes (spelling w) (Rest w) s

-- a good header line: a number
unfoldable pub HeaderLine : Language
HeaderLine = Number LineEnd
