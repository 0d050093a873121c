-- Document 01, "The stash area" and "Calls", and document 02, R-9: the stashes that are held, oldest first, each with its hash and its number of blocks.
-- Assumes nothing: these are definitions.
use Rattle.std.specs.Prelude.{ℕ, zero, suc, ◌+◌, ◌-◌, ◌*◌, ◌≤◌, min, ◌≡◌, Bool, true, false, List, [], ◌∷◌, length, take, drop, get_or, set, replicate, eqb, ltb, leb, Option, Some, None}
use Rattle.std.proofs.Math.Seq.{paste}
use Rattle.text.specs.Choice.{pick, both, either}
use Rattle.text.specs.Hash.{hash_bytes}
use Rattle.state.specs.Limits.{most_stashes, table_bytes}
use Rattle.state.specs.declared.State.{State}
pub use Rattle.state.specs.declared.stashes.Table.{Table}

pub record Stash : Type 0 where
  pub hash : List ℕ
  pub blocks : ℕ

-- the table of stashes as a state keeps it, `Table`: a flat array of hash bytes, one of sizes, and how many entries are in use
abbrev pub table_at : List ℕ → List ℕ → ℕ → Table
table_at hashes sizes count = record { hashes = hashes; sizes = sizes; count = count }

-- a state's own
abbrev pub table_of : State → Table
table_of s = s.table

-- the table that a run starts with
abbrev pub empty_table : Table
empty_table = table_at (replicate table_bytes 0) (replicate most_stashes 0) 0

-- the hash of entry k
abbrev pub entry_hash : List ℕ → ℕ → List ℕ
entry_hash hashes k = take hash_bytes (drop (hash_bytes * k) hashes)

-- both arrays have room for the most stashes, and the count is in them
pub record Whole (t : Table) : Type 0 where
  pub hashes : length t.hashes ≡ table_bytes
  pub sizes : length t.sizes ≡ most_stashes
  pub count : t.count ≤ most_stashes

-- entry k of the two arrays
abbrev pub entry_at : List ℕ → List ℕ → ℕ → Stash
entry_at hashes sizes k = record { hash = entry_hash hashes k; blocks = get_or sizes k 0 }

-- n entries from k on
unfoldable pub entries : List ℕ → List ℕ → ℕ → ℕ → List Stash
entries hashes sizes k zero = []
entries hashes sizes k (suc n) = entry_at hashes sizes k ∷ entries hashes sizes (k + 1) n

-- the stashes of a table, oldest first; a count past the arrays counts as all of them
unfoldable pub held_in : Table → List Stash
held_in t = entries t.hashes t.sizes 0 (min t.count most_stashes)

-- the stashes that a state holds
abbrev pub held : State → List Stash
held s = held_in (table_of s)

-- two hashes are the same
unfoldable pub same : List ℕ → List ℕ → Bool
same [] [] = true
same [] (y ∷ ys) = false
same (x ∷ xs) [] = false
same (x ∷ xs) (y ∷ ys) = both (eqb x y) (same xs ys)

-- found one entry further on
abbrev pub shift : Option ℕ → Option ℕ
shift (Some j) = Some (j + 1)
shift None = None

-- where the stash of a hash is among those held
unfoldable pub find_in : List Stash → List ℕ → Option ℕ
find_in [] hash = None
find_in (x ∷ xs) hash = pick (same x.hash hash) (Some 0) (shift (find_in xs hash))

-- a hash is held
unfoldable pub is_held : List Stash → List ℕ → Bool
is_held [] hash = false
is_held (x ∷ xs) hash = either (same x.hash hash) (is_held xs hash)

-- some hash is held twice
unfoldable pub held_twice : List Stash → Bool
held_twice [] = false
held_twice (x ∷ xs) = either (is_held xs x.hash) (held_twice xs)

-- the blocks of entry j, none past the end
unfoldable pub size_at : List Stash → ℕ → ℕ
size_at [] j = 0
size_at (x ∷ xs) zero = x.blocks
size_at (x ∷ xs) (suc j) = size_at xs j

-- the blocks of all of them together
unfoldable pub blocks_held : List Stash → ℕ
blocks_held [] = 0
blocks_held (x ∷ xs) = x.blocks + blocks_held xs

-- some stash has no blocks
unfoldable pub holds_empty : List Stash → Bool
holds_empty [] = false
holds_empty (x ∷ xs) = either (eqb x.blocks 0) (holds_empty xs)

-- the block of the stash area where entry j starts: stashes lie back to back from the front, oldest first
abbrev pub stash_start : List Stash → ℕ → ℕ
stash_start xs j = blocks_held (take j xs)

-- the blocks of the stashes that are younger than entry j
abbrev pub younger : List Stash → ℕ → ℕ
younger xs j = blocks_held xs - (stash_start xs j + size_at xs j)

-- without entry j
unfoldable pub without : List Stash → ℕ → List Stash
without [] j = []
without (x ∷ xs) zero = xs
without (x ∷ xs) (suc j) = x ∷ without xs j

-- one stash more, where there is room for it
unfoldable pub holding : Table → List ℕ → ℕ → Table
holding t hash blocks =
    pick (ltb t.count most_stashes)
    (table_at (paste t.hashes (hash_bytes * t.count) hash hash_bytes) (set t.sizes t.count blocks) (t.count + 1))
    t

-- without the stash at j, the younger ones moved down; as it was where there is no such stash or the count is past the arrays
unfoldable pub releasing : Table → ℕ → Table
releasing t j =
    pick (both (ltb j t.count) (leb t.count most_stashes))
    (table_at
    (paste t.hashes (hash_bytes * j) (drop (hash_bytes * (j + 1)) t.hashes) (hash_bytes * (t.count - (j + 1))))
    (paste t.sizes j (drop (j + 1) t.sizes) (t.count - (j + 1)))
    (t.count - 1))
    t
