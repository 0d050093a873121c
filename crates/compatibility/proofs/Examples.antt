-- Lines with and without an empty range; what an opening and a call said of such a list before, and say now, which states were possible (17), and how
-- many bytes the model took; a line without an empty range whose byte is another now.
-- Assumes nothing: these are computed.
use mathlib.Core.Path.{◌≡◌, refl, ap}
use mathlib.Core.Bool.{Bool, true, false}
use mathlib.Core.List.{List, [], ◌∷◌, ◌++◌}
use Prim.Native.Nat.{ℕ, zero, suc}
use Prim.Native.Char.{code}
use Prim.Native.String.{String, [] as []ˢ, ◌∷◌ as ◌∷ˢ◌}
use lib.Dec.{eqb}
use Rattle.text.specs.Choice.{pick}
use Rattle.text.specs.Expected.{expected_at}
use Rattle.text.specs.Hash.{digit_of, digit_at, octet_at, octets_at, hash_at}
use Rattle.text.specs.Line.{line_of, line_at, lfs_in, line_number}
use Rattle.text.specs.Number.{meets, reaches, can_meet, end_of, digits, number_from, number_for}
use Rattle.text.specs.Word.{bytes, is_first_word}
use Rattle.ranges.specs.Ranges.{least_blocks, item_at, pair_at, pairs_at, set_at, size_of, summary, ranges_at}
use Rattle.ranges.specs.Ranges as sets
use Rattle.ranges.specs.Walk.{pairs_of, ranges_of}
use Rattle.state.specs.Stashes.{empty_table, entries, held_in, held_twice, holds_empty, blocks_held}
use Rattle.state.specs.States.{refusing, refusing_at, no_refusal, state_of}
use Rattle.state.specs.declared.State.{State}
use Rattle.command.specs.Faults.{fault_of, fault_byte}
use Rattle.command.specs.Words.{word_in, shared, shared_most}
use Rattle.command.specs.Fields.{number_field, hash_field, set_field, last_set}
use Rattle.command.specs.Parts.{part_end, places_from, part_at, parts_in, parts_at, parts_field, uses_in, uses_at}
use Rattle.command.specs.Commands.{range_line, after_dash, with_places, after_blocks, source_from, source_field, length_from, target_from, stash_from, free_from, hashed_line, digest_from, patched_line, length_line, bsdiff_line, command_of}
use Rattle.command.specs.Filling.{fills}
use Rattle.command.specs.declared.Command.TheVariants.{Bad}
use Rattle.command.specs.Targets.{new_target}
use Rattle.rules.specs.Held.{held_after, table_after}
use Rattle.rules.specs.Move.{source_past, source_over, uses_by, some_missing, source_differs, places_by, some_misplaced, sourced_refusal, move_refusal}
use Rattle.rules.specs.Rules.{refusal_for, refusal_of}
use Rattle.rules.specs.declared.Terms.{Terms}
use Rattle.transfer_list.specs.Header.{header_line_at, header_of, are_areas, start_refusal}
use Rattle.transfer_list.specs.Opening.{lengths_of, counted_blocks, total_refusal, lines_refusal, commands_refusal, open_refusal, first_at, accepted_state, open_state}
use Rattle.possible.specs.Possible.{same_lengths, at_line, can_hold, has_more, can_be_into, can_be_ready, can_be_stretched, possible_under, is_possible, terms_under, terms_for}
use Rattle.machine.specs.Machine.{Machine, run, advance, feeds}
use Rattle.machine.specs.Stops.{Halted, going_on, halting, call_ends}
use Rattle.updater.specs.Areas.{areas_of}
use Rattle.updater.specs.Effect.{unfinished_effect, is_finished, effect}
use Rattle.updater.specs.Steps.{Config, config_of, passed, refused_with, fill_step, step_of, state_after, stops_after, after}
use Rattle.updater.specs.Run.{quiet_step, halts_at, refused_at, new_bytes, is_stopped, needs_byte, machine, run_of}
use Rattle.updater.specs.Calls.{outcome_at, outcome_of, is_run, leaves, stops, says}
use Rattle.updater.specs.declared.Outcome.{Outcome}
use Rattle.updater.specs.declared.Outcome.TheVariants as outcome
use Rattle.sequence.specs.Model.{run_lines, model_start, model}
use Rattle.compatibility.specs.EmptyRanges.{least_before, some_empty, empty_in_set, empty_in_uses, empty_in_source, empty_in_command, has_empty}
use Rattle.compatibility.proofs.Lines.{clash}

-- the bytes of a text, with 40 digits for each `H`
abbrev text : String → List ℕ
text []ˢ = []
text (c ∷ˢ s) = pick (eqb (code c) 72) (bytes "0123456789abcdef0123456789abcdef01234567" ++ text s) (code c ∷ text s)

-- a line, and whether it has an empty range
record Example : Type 0 where
  line : String
  empty : Bool

infix 68 ◌⇒◌
abbrev ◌⇒◌ : String → Bool → Example
◌⇒◌ line empty = record { line = line; empty = empty }

abbrev expected : List Example → List Bool
expected [] = []
expected (e ∷ es) = e.empty ∷ expected es

abbrev found : List Example → List Bool
found [] = []
found (e ∷ es) = has_empty (text e.line) ∷ found es

abbrev lines : List Example
lines =
    "zero 2,8,9\n" ⇒ false
    ∷ "zero 2,8,8\n" ⇒ true
    ∷ "erase 4,0,1,5,5\n" ⇒ true
    ∷ "new 6,0,1,5,5,7,8\n" ⇒ true
    ∷ "stash H 2,0,0\n" ⇒ true
    ∷ "free H\n" ⇒ false
    ∷ "move H 2,0,1 1 2,0,1\n" ⇒ false
    ∷ "move H 2,3,3 0 2,0,1\n" ⇒ true
    ∷ "move H 2,0,1 1 2,4,4\n" ⇒ true
    ∷ "move H 2,0,1 1 2,0,1 2,0,1 H:2,0,1\n" ⇒ false
    ∷ "move H 2,0,1 1 2,0,1 2,9,9 H:2,0,1\n" ⇒ true
    ∷ "move H 2,0,1 1 2,0,1 2,0,1 H:2,0,1 H:2,7,7\n" ⇒ true
    ∷ "move H 2,0,1 1 - H:2,0,0\n" ⇒ true
    ∷ "bsdiff 0 0 H H 2,0,0 0 2,0,1\n" ⇒ true
    ∷ "bsdiff 0 0 H H 2,0,1 0 - H:2,0,1\n" ⇒ false
    -- a line that is ill formed for another reason has none, and an `imgdiff` is not read
    ∷ "zero 4,8,8,2,1\n" ⇒ false
    ∷ "zero 2,8,8 \n" ⇒ false
    ∷ "imgdiff 2,8,8\n" ⇒ false
    ∷ []

lines-found : found lines ≡ expected lines
unfolding meets reaches can_meet end_of digits number_from number_for expected_at digit_of digit_at octet_at octets_at hash_at is_first_word
    item_at pair_at pairs_at set_at summary ranges_at word_in shared shared_most number_field hash_field set_field last_set part_end places_from part_at
    parts_in parts_at parts_field uses_in uses_at after_dash with_places after_blocks source_from source_field length_from target_from stash_from free_from range_line
    hashed_line digest_from patched_line length_line bsdiff_line command_of pairs_of ranges_of
    some_empty empty_in_set empty_in_uses empty_in_source empty_in_command has_empty
lines-found = refl

-- ---- a call without new data that does one step: by a law, since the fuel is too much to be counted down

module _ (k : Machine) (halts : k.Config → Bool) (m : k.Config) where
  -- where it ends: there a stop has come, or no quiet step is left
  abbrev left : Halted k.Config
  left = record { config = k.quiet m; halted = halts m }

  stays : (n : ℕ) → (halting k halts).waits left ≡ true → run (halting k halts) n left ≡ left
  unfolding run
  stays zero w = refl
  stays (suc n) w = rw w

  one-step : k.waits m ≡ false → (halting k halts).waits left ≡ true → eqb (k.fuel m) 0 ≡ false → call_ends k halts [] m ≡ left
  unfolding run advance feeds call_ends
  one-step w e f = go (k.fuel m) f
    where
      go : (n : ℕ) → eqb n 0 ≡ false → run (halting k halts) n (going_on m) ≡ left
      go zero f = absurd (clash refl f)
      go (suc n) f = rw w (stays n e)

-- what is said of it
abbrev said : List ℕ → Halted Config → Outcome
said s c = pick c.halted outcome.Stop (outcome_of s c.config.state)

-- ---- a list that opened, over areas of no blocks, and no longer does: 6 at its fifth line, and the byte of the end's 0

abbrev erased : List ℕ
erased = text "3\n0\n0\n0\nerase 2,0,0\n"

opened-before :
    (open_refusal least_before erased (lengths_of erased 0 0 0 0 0) ≡ no_refusal)
    × (open_refusal least_blocks erased (lengths_of erased 0 0 0 0 0) ≡ refusing_at 6 5 18)
unfolding meets reaches can_meet end_of digits number_from number_for expected_at is_first_word item_at pair_at pairs_at set_at size_of sets.end_of summary ranges_at
    word_in shared shared_most set_field last_set range_line command_of fault_of fault_byte line_of line_at held_after refusal_for refusal_of
    header_line_at header_of are_areas start_refusal counted_blocks total_refusal lines_refusal commands_refusal open_refusal
opened-before = (refl, refl)

-- a call with the state that it was opened with was done, and is refused now
abbrev opened : Config
opened = config_of (areas_of [] [] [] [] []) (open_state least_before erased (lengths_of erased 0 0 0 0 0))

abbrev terms : List ℕ → Terms
terms s = terms_for s (lengths_of s 0 0 0 0 0)

called-before : (says least_before erased [] opened ≡ outcome.Done) × (says least_blocks erased [] opened ≡ outcome.Refused (refusing_at 6 5 18))
unfolding meets reaches can_meet end_of digits number_from number_for expected_at is_first_word item_at pair_at pairs_at set_at size_of sets.end_of summary ranges_at
    word_in shared shared_most set_field last_set range_line command_of fault_of fault_byte line_of line_at held_after refusal_for refusal_of
    header_line_at header_of are_areas start_refusal counted_blocks total_refusal lines_refusal commands_refusal open_refusal
    lfs_in line_number entries held_in held_twice holds_empty blocks_held table_after first_at accepted_state open_state
    same_lengths at_line can_hold has_more can_be_into can_be_ready can_be_stretched possible_under is_possible terms_under terms_for
    passed refused_with step_of state_after stops_after after quiet_step halts_at refused_at new_bytes is_stopped needs_byte run_of new_target outcome_at is_run
    leaves stops says
called-before = (
  ap (said erased) (one-step (machine least_before erased (terms erased)) (halts_at least_before erased (terms erased)) opened refl refl refl),
  ap (said erased) (one-step (machine least_blocks erased (terms erased)) (halts_at least_blocks erased (terms erased)) opened refl refl refl),
)

-- by the rule before R-7, and R-9's, a state that is ready at a `move` of no blocks is possible, and a call with it stops; now it is 17
abbrev moving : List ℕ
moving = text "3\n0\n0\n0\nmove H 2,0,0 0 2,0,0\n"

abbrev ready : Config
ready =
    config_of (areas_of [] [] [] [] [])
    (state_of empty_table (record { line = 5; at = 8; into = 0; total = 0; ready = 1; stretches = 0 }) no_refusal (lengths_of moving 0 0 0 0 0))

stopped-before : (says least_before moving [] ready ≡ outcome.Stop) × (says least_blocks moving [] ready ≡ outcome.Refused (refusing 17 0))
unfolding meets reaches can_meet end_of digits number_from number_for expected_at digit_of digit_at octet_at octets_at hash_at is_first_word item_at pair_at pairs_at
    set_at size_of sets.end_of summary ranges_at word_in shared shared_most number_field hash_field set_field last_set after_blocks source_from source_field length_from
    target_from hashed_line command_of fault_of fault_byte fills line_of line_at lfs_in line_number source_past source_over uses_by some_missing source_differs places_by some_misplaced
    sourced_refusal move_refusal refusal_for refusal_of header_line_at header_of are_areas start_refusal entries held_in held_twice holds_empty blocks_held
    same_lengths at_line can_hold has_more can_be_into can_be_ready can_be_stretched possible_under is_possible terms_under terms_for
    fill_step step_of stops_after halts_at new_bytes is_stopped needs_byte run_of new_target is_run leaves stops says
stopped-before = (
  ap (said moving) (one-step (machine least_before moving (terms moving)) (halts_at least_before moving (terms moving)) ready refl refl refl),
  refl,
)

-- the model took a byte into a `new` with an empty range, and does not now; a state that stands there was possible, and is not (17)
abbrev fresh : List ℕ
fresh = text "3\n1\n0\n0\nnew 4,0,1,5,5\n"

model-before :
    ((model least_before fresh (areas_of [] [] [] [] []) (7 ∷ [])).taken ≡ 1)
    × ((model least_blocks fresh (areas_of [] [] [] [] []) (7 ∷ [])).taken ≡ 0)
unfolding meets reaches can_meet end_of digits number_from number_for expected_at is_first_word item_at pair_at pairs_at set_at size_of sets.end_of summary ranges_at
    word_in shared shared_most set_field last_set range_line command_of line_of line_at held_after header_line_at header_of first_at unfinished_effect is_finished effect new_target
    run_lines model_start model
model-before = (refl, refl)

-- over an image of 8 blocks, at line 5, which starts at byte 8, with one byte in
abbrev within : State
within =
    state_of empty_table (record { line = 5; at = 8; into = 1; total = 1; ready = 0; stretches = 0 }) no_refusal (lengths_of fresh 32768 0 0 0 0)

possible-before :
    (is_possible least_before fresh (lengths_of fresh 32768 0 0 0 0) within ≡ true)
    × (is_possible least_blocks fresh (lengths_of fresh 32768 0 0 0 0) within ≡ false)
unfolding meets reaches can_meet end_of digits number_from number_for expected_at is_first_word item_at pair_at pairs_at set_at size_of sets.end_of summary ranges_at
    word_in shared shared_most set_field last_set range_line command_of line_of line_at header_line_at header_of are_areas start_refusal lfs_in line_number
    entries held_in held_twice holds_empty blocks_held new_target same_lengths at_line can_hold has_more can_be_into can_be_ready can_be_stretched possible_under
    is_possible
possible-before = (refl, refl)

-- ---- a start that no end can follow: ill formed before and now, at another byte
byte-moved :
    (has_empty (text "zero 2,4294967295,x\n") ≡ false)
    × ((command_of least_before (text "zero 2,4294967295,x\n")).command ≡ Bad 18)
    × ((command_of least_blocks (text "zero 2,4294967295,x\n")).command ≡ Bad 16)
unfolding meets reaches can_meet end_of digits number_from number_for expected_at is_first_word item_at pair_at pairs_at set_at summary ranges_at
    word_in shared shared_most set_field last_set range_line command_of empty_in_command has_empty
byte-moved = (refl, refl, refl)
