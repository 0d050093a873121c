-- Document 01, "Calls", last paragraph, and document 02, R-4 and R-9: what the program decides about its files.
-- Assumes nothing: these are definitions.
use Rattle.std.specs.Prelude.{ℕ, ◌*◌, ◌%◌, min, Bool, true, false, List, eqb, leb}
use Rattle.text.specs.Choice.{pick, both, no}
use Rattle.ranges.specs.Ranges.{least_blocks}
use Rattle.state.specs.Limits.{block_bytes}
use Rattle.state.specs.Refusals.{area_size, list_length}
use Rattle.state.specs.States.{refusing, no_refusal}
use Rattle.state.specs.declared.Refusal.{Refusal}
use Rattle.state.specs.declared.State.{State}
use Rattle.transfer_list.specs.Opening.{lengths_of, open_state}
use Rattle.updater.specs.declared.Outcome.{Outcome}
use Rattle.updater.specs.declared.Outcome.TheVariants.{Done, More, Stop, Refused}

-- a list of at most 4,096 bytes
abbrev pub most_list : ℕ
most_list = 4096

-- an image of at most 8 blocks
abbrev pub most_blocks : ℕ
most_blocks = 8

abbrev pub most_image : ℕ
most_image = most_blocks * block_bytes

-- areas of 3 blocks each
abbrev pub area_bytes : ℕ
area_bytes = 3 * block_bytes

-- new data in pieces of 4,096 bytes
abbrev pub piece_bytes : ℕ
piece_bytes = 4096

-- the first 4,096 bytes of a patch file
abbrev pub most_patch : ℕ
most_patch = 4096

-- the bytes of patch data that a file of that length gives
abbrev pub patch_length : ℕ → ℕ
patch_length bytes = min bytes most_patch

-- whole blocks, at most 8
abbrev pub is_image : ℕ → Bool
is_image bytes = both (eqb (bytes % block_bytes) 0) (leb bytes most_image)

-- 1 for an image that is larger or not whole blocks, else 2 for a list that is longer, each with line 0; else none
abbrev pub size_refusal : ℕ → ℕ → Refusal
size_refusal list image =
    pick (no (is_image image)) (refusing area_size 0)
    (pick (no (leb list most_list)) (refusing list_length 0)
    no_refusal)

-- the list is opened over areas of 3 blocks each, and patch data
abbrev pub opened_with : List ℕ → ℕ → ℕ → State
opened_with s image patch = open_state least_blocks s (lengths_of s image area_bytes area_bytes area_bytes patch)

-- after a stop the program calls on, with what is left of the piece
abbrev pub is_stop : Outcome → Bool
is_stop Stop = true
is_stop More = false
is_stop Done = false
is_stop (Refused refusal) = false

-- after a call the next piece is read where the list wants more, unless the one that was read last, of n bytes, was the data's end
abbrev pub calls_on : Outcome → ℕ → Bool
calls_on More n = no (eqb n 0)
calls_on Stop n = false
calls_on Done n = false
calls_on (Refused refusal) n = false
