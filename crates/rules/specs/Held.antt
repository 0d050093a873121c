-- Document 01, "The list text" and "The stash area": the stashes that are held after a command.
-- Assumes nothing: these are definitions.
use Rattle.std.specs.Prelude.{ℕ, List, [], ◌∷◌, ◌++◌, Option, Some, None}
use Rattle.state.specs.Stashes.{Stash, held_in, find_in, without, holding, releasing}
use Rattle.state.specs.declared.stashes.Table.{Table}
use Rattle.command.specs.declared.Command.{Command}
use Rattle.command.specs.declared.Command.TheVariants as command

abbrev pub drop_found : List Stash → Option ℕ → List Stash
drop_found held (Some j) = without held j
drop_found held None = held

-- `stash` holds its hash, last; `free` drops its own
unfoldable pub held_after : List Stash → List ℕ → Command → List Stash
held_after held hash (command.Zero set) = held
held_after held hash (command.Erase set) = held
held_after held hash (command.New set) = held
held_after held hash (command.Move target n source) = held
held_after held hash (command.Bsdiff target n source) = held
held_after held hash (command.Stash set) = held ++ (record { hash = hash; blocks = set.blocks } ∷ [])
held_after held hash command.Free = drop_found held (find_in held hash)
held_after held hash command.Unsupported = held
held_after held hash (command.Bad p) = held

abbrev pub release_found : Table → Option ℕ → Table
release_found t (Some j) = releasing t j
release_found t None = t

-- the same in the table that a state keeps
unfoldable pub table_after : Table → List ℕ → Command → Table
table_after t hash (command.Zero set) = t
table_after t hash (command.Erase set) = t
table_after t hash (command.New set) = t
table_after t hash (command.Move target n source) = t
table_after t hash (command.Bsdiff target n source) = t
table_after t hash (command.Stash set) = holding t hash set.blocks
table_after t hash command.Free = release_found t (find_in (held_in t) hash)
table_after t hash command.Unsupported = t
table_after t hash (command.Bad p) = t
