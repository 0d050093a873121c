-- Where tricky lines are at fault, worked out apart from these definitions.
-- Assumes nothing.
use Prim.Native.Nat.{ℕ}
use Prim.Native.Char.{code}
use Prim.Native.String.{String, [] as []ˢ, ◌∷◌ as ◌∷ˢ◌}
use mathlib.Core.Path.{◌≡◌, refl}
use mathlib.Core.List.{List, [], ◌∷◌, ◌++◌}
use lib.Dec.{eqb}
use Rattle.text.specs.Choice.{pick}
use Rattle.text.specs.Expected.{expected_at, lf}
use Rattle.text.specs.Number.{meets, reaches, can_meet, end_of, digits, number_from, number_for, number_at}
use Rattle.text.specs.Hash.{digit_of, digit_at, octet_at, octets_at, hash_at}
use Rattle.text.specs.Word.{bytes, is_first_word}
use Rattle.text.specs.Read.{on_read, on_result}
use Rattle.ranges.specs.Ranges.{least_blocks, item_at, pair_at, pairs_at, set_at, summary, ranges_at}
use Rattle.command.specs.Words.{word_in, shared, shared_most}
use Rattle.command.specs.Fields.{number_field, hash_field, set_field, last_set}
use Rattle.command.specs.Parts.{part_end, places_from, part_at, parts_in, parts_at, parts_field}
use Rattle.command.specs.Commands.{after_dash, with_places, after_blocks, source_from, source_field, length_from, target_from, stash_from, free_from}
use Rattle.command.specs.Commands.{range_line, hashed_line, digest_from, patched_line, length_line, bsdiff_line, command_of}
use Rattle.faults.specs.Language.{Finding, good, fault}
use Rattle.faults.specs.Findings.{finding_at}

-- a line, and what is found of it
record Example : Type 0 where
  line : String
  finding : Finding

infix 68 ◌⇒◌
abbrev ◌⇒◌ : String → Finding → Example
◌⇒◌ line finding = record { line = line; finding = finding }

-- the bytes of a line, with 40 digits for each `H`
abbrev line_bytes : String → List ℕ
line_bytes []ˢ = []
line_bytes (c ∷ˢ s) = pick (eqb (code c) 72) (bytes "0123456789abcdef0123456789abcdef01234567" ++ line_bytes s) (code c ∷ line_bytes s)

abbrev expected : List Example → List Finding
expected [] = []
expected (e ∷ es) = e.finding ∷ expected es

abbrev commands : List Example → List Finding
commands [] = []
commands (e ∷ es) = finding_at 0 (command_of least_blocks (line_bytes e.line)).command ∷ commands es

-- ---- range sets

abbrev sets : List Example
sets =
    "zero 0\n" ⇒ fault 5
    ∷ "zero 00\n" ⇒ fault 5
    ∷ "zero 0,1\n" ⇒ fault 5
    ∷ "zero 1\n" ⇒ fault 6
    ∷ "zero 1,2\n" ⇒ fault 6
    ∷ "zero 3,1,2,3\n" ⇒ fault 6
    ∷ "zero 2\n" ⇒ fault 6
    ∷ "zero 2,\n" ⇒ fault 7
    ∷ "zero 2,x\n" ⇒ fault 7
    ∷ "zero 2,1 ,2\n" ⇒ fault 8
    ∷ "zero 2,01,2\n" ⇒ fault 8
    ∷ "zero 2,1,02\n" ⇒ fault 9
    ∷ "zero 2,1,2,\n" ⇒ fault 10
    ∷ "zero 2,1,2,3\n" ⇒ fault 10
    ∷ "zero 4,1,2\n" ⇒ fault 10
    ∷ "zero 4,1,2,\n" ⇒ fault 11
    ∷ "zero 10,1,2\n" ⇒ fault 11
    ∷ "zero 2,0,1\n" ⇒ good
    -- a count that can still become even, or not
    ∷ "zero 429496729,\n" ⇒ fault 14
    ∷ "zero 429496731\n" ⇒ fault 13
    ∷ "zero 500000000\n" ⇒ fault 14
    ∷ "zero 500000001\n" ⇒ fault 13
    ∷ "zero 2147483649,1\n" ⇒ fault 14
    ∷ "zero 4294967294,1\n" ⇒ fault 17
    ∷ "zero 4294967295\n" ⇒ fault 14
    ∷ "zero 4294967296,1\n" ⇒ fault 14
    -- an end equal to its start, which can still grow, or not
    ∷ "zero 2,0,0\n" ⇒ fault 9
    ∷ "zero 2,8,8\n" ⇒ fault 10
    ∷ "zero 2,8,80\n" ⇒ good
    ∷ "zero 4,0,1,5,5\n" ⇒ fault 14
    ∷ "zero 4,5,5,0,1\n" ⇒ fault 10
    ∷ "zero 2,429496729,429496729\n" ⇒ fault 26
    ∷ "zero 2,429496730,429496730\n" ⇒ fault 25
    ∷ "zero 2,4294967294,4294967294\n" ⇒ fault 27
    ∷ "zero 2,4294967294,4294967295\n" ⇒ good
    -- a start that no end can follow
    ∷ "zero 2,4294967295" ⇒ fault 16
    ∷ "zero 2,4294967295,3\n" ⇒ fault 16
    ∷ "zero 2,4294967295,4294967295\n" ⇒ fault 16
    -- an end that can still pass its start, or not
    ∷ "zero 2,5,0\n" ⇒ fault 9
    ∷ "zero 2,5,05\n" ⇒ fault 9
    ∷ "zero 2,5,3\n" ⇒ fault 10
    ∷ "zero 2,7,6,\n" ⇒ fault 10
    ∷ "zero 2,7,71\n" ⇒ good
    ∷ "zero 2,500,49\n" ⇒ fault 13
    ∷ "zero 2,5,4294967296\n" ⇒ fault 18
    ∷ "zero 2,42949673,42949672\n" ⇒ fault 24
    ∷ "zero 2,429496730,42949672\n" ⇒ fault 25
    ∷ "zero 2,500000000,49\n" ⇒ fault 18
    ∷ "zero 2,1000000000,99\n" ⇒ fault 18
    ∷ "zero 2,4000000000,399\n" ⇒ fault 18
    ∷ "zero 2,4200000000,41\n" ⇒ fault 19
    ∷ "zero 2,4294967290,42949671\n" ⇒ fault 25
    ∷ "zero 2,4294967290,42949672895\n" ⇒ fault 26
    ∷ "zero 2,4294967290,4294967299\n" ⇒ fault 27
    ∷ []

-- ---- lines

abbrev lines : List Example
lines =
    "\n" ⇒ fault 0
    ∷ "x" ⇒ fault 0
    ∷ "z" ⇒ fault 1
    ∷ "zap\n" ⇒ fault 1
    ∷ "zer\n" ⇒ fault 3
    ∷ "zero\n" ⇒ fault 4
    ∷ "zero" ⇒ fault 4
    ∷ "zeros 2,0,1\n" ⇒ fault 4
    ∷ "Zero 2,0,1\n" ⇒ fault 0
    ∷ "era 2,1,2\n" ⇒ fault 3
    ∷ "bs\n" ⇒ fault 2
    ∷ "bsdiff\n" ⇒ fault 6
    ∷ "i\n" ⇒ fault 0
    ∷ "imgdif 1\n" ⇒ fault 0
    ∷ "imgdiff 1\n" ⇒ fault 0
    ∷ "imgdiffs 0\n" ⇒ fault 0
    -- spaces and the line's end
    ∷ "zero  2,0,1\n" ⇒ fault 5
    ∷ "zero 2,0,1 \n" ⇒ fault 10
    ∷ "zero 2,0,1\r\n" ⇒ fault 10
    ∷ "zero 2,0,1" ⇒ fault 10
    -- hashes: of 40 digits, 39, 41, in upper case, without LF
    ∷ "free\n" ⇒ fault 4
    ∷ "free H\n" ⇒ good
    ∷ "free 0123456789abcdef0123456789abcdef0123456\n" ⇒ fault 44
    ∷ "free H0\n" ⇒ fault 45
    ∷ "free 0123456789ABCDEF0123456789ABCDEF01234567\n" ⇒ fault 15
    ∷ "free H" ⇒ fault 45
    ∷ "stash H 2,0,1\n" ⇒ good
    ∷ "stash H\n" ⇒ fault 46
    ∷ "stash H 2,0,0\n" ⇒ fault 51
    -- sources
    ∷ "move H 2,0,1 1\n" ⇒ fault 53
    ∷ "move H 2,0,1 00 2,0,1\n" ⇒ fault 53
    ∷ "move H 2,0,1 1 x\n" ⇒ fault 54
    ∷ "move H 2,0,1 1 -\n" ⇒ fault 55
    ∷ "move H 2,0,1 1 - \n" ⇒ fault 56
    ∷ "move H 2,0,1 1 - 2,0,1\n" ⇒ fault 57
    ∷ "move H 2,0,1 1 2,0,1\n" ⇒ good
    ∷ "move H 2,0,1 1 2,0,1 \n" ⇒ fault 60
    ∷ "move H 2,0,1 1 2,0,1 2,0,1\n" ⇒ fault 65
    ∷ "move H 2,0,1 1 2,0,1 2,0,1 \n" ⇒ fault 66
    ∷ "move H 2,0,1 1 2,0,1 2,0,1 H:2,0,1\n" ⇒ good
    ∷ "move H 2,0,1 1 2,0,1 2,3,3 H:2,0,1\n" ⇒ fault 65
    ∷ "move H 2,0,1 1 - H:2,0,0\n" ⇒ fault 101
    ∷ "move H 2,0,1 1 - H 2,0,1\n" ⇒ fault 96
    ∷ "move H 2,0,1 1 - H:2,0,1\n" ⇒ good
    ∷ "move H 2,0,1 1 - H:2,0,1 \n" ⇒ fault 103
    ∷ "bsdiff 1 2 H H 2,0,1 1 2,0,1\n" ⇒ good
    ∷ "bsdiff 01 2\n" ⇒ fault 8
    ∷ "bsdiff 4294967296\n" ⇒ fault 16
    ∷ "bsdiff 99999999999\n" ⇒ fault 16
    ∷ []

commands-found : (commands sets ≡ expected sets) × (commands lines ≡ expected lines)
unfolding meets reaches can_meet end_of digits number_from number_for expected_at digit_of digit_at octet_at octets_at hash_at is_first_word
    item_at pair_at pairs_at set_at summary ranges_at word_in shared shared_most number_field hash_field set_field last_set part_end places_from part_at
    parts_in parts_at parts_field after_dash with_places after_blocks source_from source_field length_from target_from stash_from free_from range_line
    hashed_line digest_from patched_line length_line bsdiff_line command_of finding_at
commands-found = (refl, refl)

-- ---- header lines, the second at position 2

abbrev header : String → ℕ → Finding
header text at =
    on_read (number_at (bytes text) at) (λ v i. on_result (expected_at (bytes text) i lf) (λ next. good) fault) fault

headers-found :
    (header "" 0 ≡ fault 0)
    × (header "3\n" 0 ≡ good)
    × (header "3\n" 2 ≡ fault 2)
    × (header "3 \n" 0 ≡ fault 1)
    × (header "03\n" 0 ≡ fault 1)
    × (header "3" 0 ≡ fault 1)
    × (header "4294967295\n" 0 ≡ good)
    × (header "4294967296\n" 0 ≡ fault 9)
unfolding meets can_meet end_of digits number_from number_for expected_at
headers-found = (refl, refl, refl, refl, refl, refl, refl, refl)
