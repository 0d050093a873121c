-- Document 01, "Calls", and document 02, R-4 and R-9: 17, the states that a list can have with its areas and its patch data.
-- Assumes nothing: these are definitions.
use Rattle.std.specs.Prelude.{ℕ, ◌-◌, ◌*◌, Bool, false, List, length, get_or, leb, ltb, eqb, Result, Ok, Err, Option, Some, None}
use Rattle.text.specs.Choice.{both, either, no}
use Rattle.text.specs.Line.{line_at, line_number}
use Rattle.text.specs.Expected.{lf}
use Rattle.text.specs.Read.{on_option}
use Rattle.state.specs.Limits.{block_bytes, most_stashes}
use Rattle.state.specs.Refusals.{none}
use Rattle.state.specs.Stashes.{Stash, table_of, held_in, held, held_twice, holds_empty, blocks_held, find_in, size_at, younger}
use Rattle.state.specs.declared.stashes.Table.{Table}
use Rattle.state.specs.States.{is_ready}
use Rattle.state.specs.Stretches.{is_stretch}
use Rattle.state.specs.declared.Lengths.{Lengths}
use Rattle.state.specs.declared.State.{State}
use Rattle.command.specs.Commands.{command_of}
use Rattle.rules.specs.Rules.{target_refusal, refusal_of}
use Rattle.rules.specs.declared.Terms.{Terms}
use Rattle.command.specs.Filling.{fills}
use Rattle.command.specs.declared.Command.{Command}
use Rattle.command.specs.declared.Command.TheVariants as command
use Rattle.command.specs.Targets.{new_target}
use Rattle.transfer_list.specs.Header.{fault_at, header_of, start_refusal}
use Rattle.transfer_list.specs.Opening.{terms_of}
use Rattle.transfer_list.specs.declared.header.Header.{Header}
use Rattle.transfer_list.specs.declared.header.BadHeader.{BadHeader}

-- the lengths of list, image, areas and patch data are those at opening
unfoldable pub same_lengths : Lengths → Lengths → Bool
same_lengths a b =
    both (eqb a.list b.list)
    (both (eqb a.image b.image)
    (both (eqb a.stash b.stash)
    (both (eqb a.work b.work)
    (both (eqb a.result b.result)
    (eqb a.patch b.patch)))))

-- a position `at` is at the start of a command line, and the line number is that position's; the text's end after an LF is a line start
unfoldable pub at_line : List ℕ → Header → ℕ → ℕ → Bool
at_line s h line at =
    both (leb h.first at)
    (both (leb at (length s))
    (both (eqb (get_or s (at - 1) 0) lf)
    (eqb line (line_number s at))))

-- a table of no more than the most stashes, no hash twice, no stash of no blocks (R-9), no more blocks than line 4; line 4 is not over the area
-- where 5 is out
unfoldable pub can_hold : Header → Table → Bool
can_hold h t =
    both (leb t.count most_stashes)
    (both (no (held_twice (held_in t)))
    (both (no (holds_empty (held_in t)))
    (leb (blocks_held (held_in t)) h.blocks)))

-- a good `new` (6, 8) with more bytes than n
unfoldable pub has_more : Terms → ℕ → Command → Bool
has_more terms n c =
    on_option (new_target c) (λ set. both (eqb (target_refusal terms set) none) (ltb n (block_bytes * set.blocks))) false

-- bytes into a `new` are 0, or the line is a good `new` with more bytes than that
unfoldable pub can_be_into : ℕ → List ℕ → Terms → ℕ → ℕ → Bool
can_be_into least s terms at into = either (eqb into 0) (has_more terms into (command_of least (line_at s at)).command)

-- R-9: there is no ready mark, or the line is a `move`, `stash` or `bsdiff` free of 6 to 14 and 18
unfoldable pub can_be_ready : ℕ → List ℕ → Terms → ℕ → List Stash → ℕ → Bool
can_be_ready least s terms at held ready =
    either (no (is_ready ready))
    (both (eqb (refusal_of least (line_at s at) terms held) none) (fills (command_of least (line_at s at)).command))

-- stretch k of a stash that was found is there to be moved
unfoldable pub found_stretch : List Stash → ℕ → Option ℕ → Bool
found_stretch held k (Some j) = is_stretch (size_at held j) (younger held j) k
found_stretch held k None = false

-- a `free` of a held stash, with stretch k to be moved
unfoldable pub frees_on : List Stash → ℕ → List ℕ → Command → Bool
frees_on held k hash command.Free = found_stretch held k (find_in held hash)
frees_on held k hash (command.Zero set) = false
frees_on held k hash (command.Erase set) = false
frees_on held k hash (command.New set) = false
frees_on held k hash (command.Move target n source) = false
frees_on held k hash (command.Bsdiff target n source) = false
frees_on held k hash (command.Stash set) = false
frees_on held k hash command.Unsupported = false
frees_on held k hash (command.Bad p) = false

-- R-9: no stretch is moved, or the line is a `free` of a held stash with more of them to do
unfoldable pub can_be_stretched : ℕ → List ℕ → ℕ → List Stash → ℕ → Bool
can_be_stretched least s at held stretches =
    either (eqb stretches 0)
    (frees_on held stretches (command_of least (line_at s at)).hash (command_of least (line_at s at)).command)

unfoldable pub possible_under : ℕ → List ℕ → Lengths → Result Header BadHeader → State → Bool
possible_under least s lengths (Err bad) state = false
possible_under least s lengths (Ok h) state =
    both (at_line s h state.line state.at)
    (both (can_hold h (table_of state))
    (both (can_be_into least s (terms_of lengths h) state.at state.into)
    (both (can_be_ready least s (terms_of lengths h) state.at (held state) state.ready)
    (can_be_stretched least s state.at (held state) state.stretches))))

-- 17: a state is possible for this list and these lengths
unfoldable pub is_possible : ℕ → List ℕ → Lengths → State → Bool
is_possible least s lengths state =
    both (same_lengths state.lengths lengths)
    (both (eqb (start_refusal s lengths).number none)
    (possible_under least s lengths (header_of s) state))

unfoldable pub terms_under : Lengths → Result Header BadHeader → Terms
terms_under lengths (Ok h) = terms_of lengths h
terms_under lengths (Err bad) = record { image = 0; work = 0; result = 0; patch = 0; stashes = 0; blocks = 0 }

-- what lines are checked against in a run
unfoldable pub terms_for : List ℕ → Lengths → Terms
terms_for s lengths = terms_under lengths (header_of s)
