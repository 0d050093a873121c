-- Document 01, "Calls", last paragraph, and document 02, R-6: the line that the program prints.
-- Assumes nothing: these are definitions.
use Rattle.std.specs.Prelude.{ℕ, zero, suc, ◌/◌, ◌%◌, ◌≡◌, refl, List, [], ◌∷◌, ◌++◌, length, drop, replicate, ltb}
use Rattle.io.specs.Digits.{hex_digit_ascii}
use Rattle.text.specs.Choice.{pick}
use Rattle.state.specs.Refusals.{has_byte}
use Rattle.state.specs.declared.Refusal.{Refusal}
use Rattle.updater.specs.declared.Outcome.{Outcome}
use Rattle.updater.specs.declared.Outcome.TheVariants.{Done, More, Stop, Refused}
use Rattle.decisions.specs.declared.answer.Line.{Line}

-- n / 10 in decimal, unless it is 0, and then n's last digit; each turn makes n smaller, so n + 1 turns are enough
unfoldable pub decimal_in : ℕ → ℕ → List ℕ
decimal_in zero n = []
decimal_in (suc turns) n = pick (ltb n 10) [] (decimal_in turns (n / 10)) ++ (hex_digit_ascii (n % 10) ∷ [])

-- a number in decimal, with no leading zero
unfoldable pub decimal : ℕ → List ℕ
decimal n = decimal_in (suc n) n

-- `done `
abbrev pub done_word : List ℕ
done_word = 100 ∷ 111 ∷ 110 ∷ 101 ∷ 32 ∷ []

-- `more `
abbrev pub more_word : List ℕ
more_word = 109 ∷ 111 ∷ 114 ∷ 101 ∷ 32 ∷ []

-- `stop `
abbrev pub stop_word : List ℕ
stop_word = 115 ∷ 116 ∷ 111 ∷ 112 ∷ 32 ∷ []

-- `refused `
abbrev pub refused_word : List ℕ
refused_word = 114 ∷ 101 ∷ 102 ∷ 117 ∷ 115 ∷ 101 ∷ 100 ∷ 32 ∷ []

-- a word, a number and an LF
abbrev pub number_line : List ℕ → ℕ → List ℕ
number_line word n = word ++ (decimal n ++ (10 ∷ []))

-- `refused`, the number, the line and an LF
abbrev pub refused_line : ℕ → ℕ → List ℕ
refused_line number line = refused_word ++ (decimal number ++ ((32 ∷ []) ++ (decimal line ++ (10 ∷ []))))

-- R-6: 3 and 6 have the byte of their fault as a last field
abbrev pub fault_line : ℕ → ℕ → ℕ → List ℕ
fault_line number line byte =
    refused_word ++ (decimal number ++ ((32 ∷ []) ++ (decimal line ++ ((32 ∷ []) ++ (decimal byte ++ (10 ∷ []))))))

-- `refused K L P` or `refused K L`
unfoldable pub refusal_line : Refusal → List ℕ
refusal_line refusal =
    pick (has_byte refusal.number) (fault_line refusal.number refusal.line refusal.byte)
    (refused_line refusal.number refusal.line)

-- `done T`, `more T` or a refusal; the program calls on at a stop, so that `stop T` is never its last word
abbrev pub answer_line : Outcome → ℕ → List ℕ
answer_line Done taken = number_line done_word taken
answer_line More taken = number_line more_word taken
answer_line Stop taken = number_line stop_word taken
answer_line (Refused refusal) taken = refusal_line refusal

-- the most digits of a 64-bit number
abbrev pub most_digits : ℕ
most_digits = 20

-- a text at the start of a buffer, and past it what stood there
abbrev pub starting_with : List ℕ → List ℕ → List ℕ
starting_with text buf = text ++ drop (length text) buf

-- no line is longer than 71 bytes
abbrev pub zeros : List ℕ
zeros = replicate 71 0

-- a line at the start of zeros
unfoldable pub line_of : List ℕ → Line
line_of text = record { bytes = starting_with text zeros; length = length text }

-- case 14 prints exactly `done 0`
pub prints_done_0 : answer_line Done 0 ≡ 100 ∷ 111 ∷ 110 ∷ 101 ∷ 32 ∷ 48 ∷ 10 ∷ []
unfolding decimal decimal_in
prints_done_0 = refl
