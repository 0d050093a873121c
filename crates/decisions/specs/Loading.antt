-- The program that reads a sparse file over an image, within the sizes of document 01's program: what it decides about its files, and the
-- line that it prints.
-- Assumes nothing: these are definitions.
use Rattle.std.specs.Prelude.{ℕ, ◌+◌, ◌*◌, List, [], ◌∷◌, length, ltb, eqb, Option, Result, Ok, Err}
use Rattle.text.specs.Choice.{pick}
use Rattle.state.specs.Limits.{block_bytes}
use Rattle.text.specs.Read.{on_option}
use Rattle.state.specs.Refusals.{none, number_of}
use Rattle.state.specs.declared.refusals.Reason.{Reason}
use Rattle.sparse_file.specs.Header.{total_blocks}
use Rattle.decisions.specs.Program.{most_blocks, most_image}
use Rattle.decisions.specs.Answer.{refused_word, number_line}

-- a file of at most 65,536 bytes: twice what an image of 8 blocks has, and more than any file that is read over one
abbrev pub most_sparse : ℕ
most_sparse = 2 * most_image

-- no header has the blocks of such an image: with a good header it is refused with 32
abbrev pub too_large : ℕ
too_large = most_image + 1

-- how long an image the file is read over: as long as the image that was found, else as the header says; too large where the file, or what
-- the header says, is
unfoldable pub image_bytes : List ℕ → Option ℕ → ℕ
image_bytes file found =
    pick (ltb most_sparse (length file)) too_large
    (on_option found (λ image. image)
    (pick (ltb most_blocks (total_blocks file)) too_large
    (block_bytes * total_blocks file)))

-- `loaded `
abbrev pub loaded_word : List ℕ
loaded_word = 108 ∷ 111 ∷ 97 ∷ 100 ∷ 101 ∷ 100 ∷ 32 ∷ []

-- `loaded B`, its blocks, or `refused K`, its number
abbrev pub load_line : ℕ → ℕ → List ℕ
load_line number blocks = pick (eqb number none) (number_line loaded_word blocks) (number_line refused_word number)

-- the same by what a load came to: the image's blocks, or why it was refused
abbrev pub loading_line : Result ℕ Reason → List ℕ
loading_line (Ok blocks) = load_line none blocks
loading_line (Err reason) = load_line (number_of reason) 0
