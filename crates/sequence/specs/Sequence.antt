-- Document 01, "The model", and document 02, R-9: a sequence of calls, one piece to each. After a stop the next call's piece begins with the
-- bytes not taken, so a sequence is told by the fresh bytes of each call; calling on is a call with no fresh bytes. These fold the definitions
-- that the contract of a call cites.
-- Assumes nothing: these are definitions.
use Rattle.std.specs.Prelude.{List, [], ◌∷◌, ◌++◌, ℕ, ◌+◌, drop}
use Rattle.text.specs.Choice.{pick}
use Rattle.updater.specs.Steps.{Config}
use Rattle.updater.specs.Calls.{leaves, takes, stops, says}
use Rattle.updater.specs.declared.Outcome.{Outcome}

-- after some calls: what stands; the bytes that the last one was handed and did not take, if it stopped; and the sum of bytes taken
pub record CallsMade : Type 0 where
  pub config : Config
  pub rest : List ℕ
  pub taken : ℕ

-- before the first call
abbrev pub no_calls : Config → CallsMade
no_calls p = record { config = p; rest = []; taken = 0 }

-- the next call's piece, with fresh bytes q
abbrev pub piece_of : CallsMade → List ℕ → List ℕ
piece_of c q = c.rest ++ q

-- one call more
abbrev pub next_call : ℕ → List ℕ → List ℕ → CallsMade → CallsMade
next_call least s q c =
    record {
      config = leaves least s (piece_of c q) c.config;
      rest =
          pick (stops least s (piece_of c q) c.config)
          (drop (takes least s (piece_of c q) c.config) (piece_of c q))
          [];
      taken = c.taken + takes least s (piece_of c q) c.config;
    }

-- after all calls
unfoldable pub all_calls : ℕ → List ℕ → List (List ℕ) → CallsMade → CallsMade
all_calls least s [] c = c
all_calls least s (q ∷ qs) c = all_calls least s qs (next_call least s q c)

-- what the last call says, of q and those after it
unfoldable pub last_says : ℕ → List ℕ → List ℕ → List (List ℕ) → CallsMade → Outcome
last_says least s q [] c = says least s (piece_of c q) c.config
last_says least s q (r ∷ qs) c = last_says least s r qs (next_call least s q c)

-- what the last call takes
unfoldable pub last_takes : ℕ → List ℕ → List ℕ → List (List ℕ) → CallsMade → ℕ
last_takes least s q [] c = takes least s (piece_of c q) c.config
last_takes least s q (r ∷ qs) c = last_takes least s r qs (next_call least s q c)

-- the last call's piece
unfoldable pub last_piece : ℕ → List ℕ → List ℕ → List (List ℕ) → CallsMade → List ℕ
last_piece least s q [] c = piece_of c q
last_piece least s q (r ∷ qs) c = last_piece least s r qs (next_call least s q c)
