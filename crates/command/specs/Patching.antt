-- Document 02, R-4: O, B and T of a line `bsdiff O B H T R N ..`. A line that is no such line has zeros here, and nobody asks for them.
-- Assumes nothing: these are definitions.
use Rattle.std.specs.Prelude.{ℕ, List, length}
use Rattle.text.specs.Hash.{no_hash}
use Rattle.text.specs.Read.{on_read}
use Rattle.command.specs.Words.{spelling}
use Rattle.command.specs.Fields.{number_field, hash_field}
use Rattle.command.specs.declared.word.Word.TheVariants.{Bsdiff}
use Rattle.command.specs.declared.patching.Patching.{Patching}

abbrev pub no_patching : Patching
no_patching = record { start = 0; length = 0; hashes = 0 }

-- B, after O; behind it stand the hashes
unfoldable pub patching_from : List ℕ → ℕ → ℕ → Patching
patching_from l start at =
    on_read (number_field l at) (λ size i. record { start = start; length = size; hashes = i }) (λ p. no_patching)

-- O and B, after the word
unfoldable pub patching_of : List ℕ → Patching
patching_of l = on_read (number_field l (length (spelling Bsdiff))) (patching_from l) (λ p. no_patching)

-- T, after H
unfoldable pub result_hash : List ℕ → ℕ → List ℕ
result_hash l at = on_read (hash_field l at) (λ hash i. on_read (hash_field l i) (λ digest next. digest) (λ p. no_hash)) (λ p. no_hash)
