-- Document 01, "Sample lists": cases 1 to 13, in one table, and what R-8 and R-9 of document 02 add to them. They are about the rules
-- themselves: how range sets and lines are read, what a line is refused for, and what the model does with it. Document 02, R-7: 3 and 6 are
-- refusals. In 7 and 8 the hash is taken to match, whatever it is; R-8: and the target's to differ from it.
-- Assumes nothing: these are definitions.
use Rattle.std.specs.Prelude.{◌≡◌, false, List, [], ◌∷◌, ◌++◌, ℕ, length, take, drop, replicate, eqb, Ok, Err}
use Prim.Native.Char.{code}
use Prim.Native.String.{String, [] as []ˢ, ◌∷◌ as ◌∷ˢ◌}
use Rattle.std.proofs.lemmas.List.{length-replicate}
use Rattle.sha1_digest.specs.Sha1.{sha1}
use Rattle.text.specs.Choice.{pick}
use Rattle.text.specs.Hash.{hash_bytes}
use Rattle.text.specs.Hex.{hex_of}
use Rattle.ranges.specs.Ranges.{least_blocks, ranges_at}
use Rattle.ranges.specs.Walk.{blocks_at, AllBelow}
use Rattle.state.specs.Limits.{block_bytes}
use Rattle.state.specs.Refusals.{none, line_form}
use Rattle.state.specs.Stashes.{Stash, blocks_held}
use Rattle.command.specs.Commands.{command_of}
use Rattle.command.specs.Faults.{fault_byte}
use Rattle.rules.specs.Rules.{refusal_of}
use Rattle.rules.specs.declared.Terms.{Terms}
use Rattle.state.specs.States.{no_refusal}
use Rattle.transfer_list.specs.Header.{first_line}
use Rattle.updater.specs.Areas.{areas_of}
use Rattle.updater.specs.Source.{stretched}
use Rattle.updater.specs.Effect.{is_finished}
use Rattle.updater.specs.Steps.{free_end}
use Rattle.updater.specs.declared.commands.StepEnd.{StepEnd}
use Rattle.updater.specs.declared.commands.StepEnd.TheVariants.{Passed, Ended, Stretched}
use Rattle.sequence.specs.Model.{Model, do_line, line_ends}

-- the bytes of a text of plain characters
abbrev pub text : String → List ℕ
text []ˢ = []
text (c ∷ˢ s) = code c ∷ text s

-- a block: 4,096 bytes
pub record Block : Type 0 where
  pub bytes : List ℕ
  pub whole : length bytes ≡ block_bytes

-- a block of zeros
abbrev pub zeros : Block
zeros = record { bytes = replicate block_bytes 0; whole = length-replicate {A = ℕ} block_bytes 0 }

-- the bytes of blocks, one after the other
unfoldable pub bytes_of : List Block → List ℕ
bytes_of [] = []
bytes_of (b ∷ bs) = b.bytes ++ bytes_of bs

-- a hash: 20 bytes
pub record Digest : Type 0 where
  pub bytes : List ℕ
  pub whole : length bytes ≡ hash_bytes
  pub each : AllBelow 256 bytes

-- a hash as a line has it: 40 characters
abbrev pub hex : Digest → List ℕ
hex h = hex_of hash_bytes h.bytes

-- the whole text is a range set of n blocks
pub record Sized (t : List ℕ) (n : ℕ) : Type 0 where
  pub end : ℕ
  pub read : ranges_at least_blocks t 0 ≡ Ok (record { at = 0; blocks = n; end = end }, (length t))

-- the whole text is a range set of these blocks
pub record Names (t blocks : List ℕ) : Type 0 where
  pub sized : Sized t (length blocks)
  pub order : blocks_at t 0 ≡ blocks

-- no range set stands at the text's start, and its fault is at that position (document 02, R-6)
abbrev pub IllFormed : List ℕ → ℕ → Type 0
IllFormed t fault = ranges_at least_blocks t 0 ≡ Err fault

-- the line is ill formed, and its fault is at that position
pub record IllFormedLine (l : List ℕ) (terms : Terms) (fault : ℕ) : Type 0 where
  pub number : refusal_of least_blocks l terms [] ≡ line_form
  pub byte : fault_byte 0 (command_of least_blocks l).command ≡ fault

-- what lines are checked against: an image of 8 blocks, a stash area and a work area of 3, no result area and no patch data
abbrev pub terms : Terms
terms = record { image = 8; work = 3; result = 0; patch = 0; stashes = 3; blocks = 3 }

-- what a line leaves, with those bytes of new data not yet taken: it is checked, then the model does it; a refused one changes nothing
abbrev pub done : List ℕ → Model → List ℕ → Model
done l m new =
    pick (eqb (refusal_of least_blocks l terms m.stashes) none) (do_line (λ left rest. left) l (command_of least_blocks l) m new) m

-- a patch of no bytes over blocks 1 and 2, of block 0
abbrev pub patch_line : Digest → Digest → List ℕ
patch_line h t = text "bsdiff 0 0 " ++ hex h ++ text " " ++ hex t ++ text " 2,1,3 1 2,0,1\n"

-- a stash of n blocks, held under a hash
abbrev pub stash_of : Digest → ℕ → Stash
stash_of h n = record { hash = h.bytes; blocks = n }

-- stretch k of the `free` of the oldest stash leaves the stash area so, and ends so (document 02, R-9)
pub record Stretch (stashes : List Stash) (k : ℕ) (before after : List Block) (end : StepEnd) : Type 0 where
  pub area : stretched stashes 0 k (bytes_of before) ≡ bytes_of after
  pub ends : free_end stashes 0 k ≡ end

-- an image of 8 blocks A to H; the stash area's blocks are T1 T2 T3, the work area's W1 W2 W3. Each may hold any bytes, its letter or others.
module _ (A B C D E F G H T1 T2 T3 W1 W2 W3 : Block) where
  -- before a line, with that stash area and those stashes
  abbrev pub holding : List Block → List Stash → Model
  holding area stashes =
      record {
        areas = areas_of (bytes_of (A ∷ B ∷ C ∷ D ∷ E ∷ F ∷ G ∷ H ∷ [])) (bytes_of area) (bytes_of (W1 ∷ W2 ∷ W3 ∷ [])) [] [];
        stashes = stashes;
        line = first_line;
        at = 0;
        into = 0;
        taken = 0;
        refusal = no_refusal;
      }

  -- .. with no stash
  abbrev pub start : Model
  start = holding (T1 ∷ T2 ∷ T3 ∷ []) []

  pub record Table : Type 0 where
    -- 1. `2,3,5` is 3, 4.
    pub case_1 : Names (text "2,3,5") (3 ∷ 4 ∷ [])
    -- 2. `4,6,7,1,3` is 6, 1, 2.
    pub case_2 : Names (text "4,6,7,1,3") (6 ∷ 1 ∷ 2 ∷ [])
    -- 3. `6,247114,247116,247150,247155,247156,247156`: ill formed, at its end; a further digit could still follow.
    pub case_3 : IllFormed (text "6,247114,247116,247150,247155,247156,247156") 43
    -- 4. `2,5,3`, `3,1,2,3`, `0`, `4,1,2`, `2,01,2`: ill formed.
    pub case-4 :
        IllFormed (text "2,5,3") 5
        × IllFormed (text "3,1,2,3") 1
        × IllFormed (text "0") 0
        × IllFormed (text "4,1,2") 5
        × IllFormed (text "2,01,2") 3
    -- 5. `zero 2,7,8` good; `2,7,9` gives 8.
    pub case_5 : (refusal_of least_blocks (text "zero 2,7,8\n") terms [] ≡ none) × (refusal_of least_blocks (text "zero 2,7,9\n") terms [] ≡ 8)
    -- 6. `zero 2,8,8` and `zero 2,9,9`: ill formed, at the LF; nothing changes.
    pub case-6 :
        IllFormedLine (text "zero 2,8,8\n") terms 10
        × (done (text "zero 2,8,8\n") start [] ≡ start)
        × IllFormedLine (text "zero 2,9,9\n") terms 10
        × (done (text "zero 2,9,9\n") start [] ≡ start)
    -- 7. `move` to `2,1,4` of `3 2,0,3`: A A B C E F G H.
    pub case_7 : (h : Digest) → sha1 (bytes_of (A ∷ B ∷ C ∷ [])) ≡ h.bytes → (sha1 (bytes_of (B ∷ C ∷ D ∷ [])) ≡ h.bytes → ⊥) →
        (done (text "move " ++ hex h ++ text " 2,1,4 3 2,0,3\n") start []).areas.image ≡ bytes_of (A ∷ A ∷ B ∷ C ∷ E ∷ F ∷ G ∷ H ∷ [])
    -- .. and where the target has that hash, as after the line has run once: the line ends and nothing else changes, whatever the source.
    pub case_7_finished : (h : Digest) → sha1 (bytes_of (B ∷ C ∷ D ∷ [])) ≡ h.bytes →
        let l = text "move " ++ hex h ++ text " 2,1,4 3 2,0,3\n" in done l start [] ≡ line_ends l start
    -- .. a `bsdiff` goes by T, whatever H is, and over R's two blocks where N is 1. Its line is not checked here, where there is no room for a
    -- result.
    pub patch-finished : (h t : Digest) → sha1 (bytes_of (B ∷ C ∷ [])) ≡ t.bytes →
        let l = patch_line h t in do_line (λ left rest. left) l (command_of least_blocks l) start [] ≡ line_ends l start
    pub patch_unfinished : (h t : Digest) → (sha1 (bytes_of (B ∷ C ∷ [])) ≡ t.bytes → ⊥) →
        let read = command_of least_blocks (patch_line h t) in is_finished (patch_line h t) read.hash read.command start.areas.image ≡ false
    -- 8. Stash X is one block S. `move` to `2,5,8`, `3 2,0,2 4,0,1,2,3 X:2,1,2`: A B C D E A S B.
    pub case_8 : (h x : Digest) (S : Block) → sha1 (bytes_of (A ∷ S ∷ B ∷ [])) ≡ h.bytes → (sha1 (bytes_of (F ∷ G ∷ H ∷ [])) ≡ h.bytes → ⊥) →
        (done (text "move " ++ hex h ++ text " 2,5,8 3 2,0,2 4,0,1,2,3 " ++ hex x ++ text ":2,1,2\n")
        (holding (S ∷ T2 ∷ T3 ∷ []) (stash_of x 1 ∷ [])) []).areas.image
        ≡ bytes_of (A ∷ B ∷ C ∷ D ∷ E ∷ A ∷ S ∷ B ∷ [])
    -- 9. As 8 with `X:2,0,1`: 12.
    pub case_9 : (h x : Digest) →
        refusal_of least_blocks (text "move " ++ hex h ++ text " 2,5,8 3 2,0,2 4,0,1,2,3 " ++ hex x ++ text ":2,0,1\n") terms (stash_of x 1 ∷ []) ≡ 12
    -- 10. `zero 4,0,1,7,8`: 0 B C D E F G 0.
    pub case_10 : (done (text "zero 4,0,1,7,8\n") start []).areas.image ≡ bytes_of (zeros ∷ B ∷ C ∷ D ∷ E ∷ F ∷ G ∷ zeros ∷ [])
    -- 11. `new 4,2,3,6,7` after 5,000 bytes: block 2 full, 904 bytes of block 6 new, the rest still G.
    pub case_11 : (new : List ℕ) → length new ≡ 5000 →
        (done (text "new 4,2,3,6,7\n") start new).areas.image
        ≡ bytes_of (A ∷ B ∷ []) ++ take block_bytes new ++ bytes_of (D ∷ E ∷ F ∷ []) ++ drop block_bytes new ++ drop 904 G.bytes ++ H.bytes
    -- 12. `new 4,2,4,3,5` with p q r s: blocks 2, 3, 4 are p, r, s.
    pub case_12 : (p q r s : Block) →
        (done (text "new 4,2,4,3,5\n") start (bytes_of (p ∷ q ∷ r ∷ s ∷ []))).areas.image ≡ bytes_of (A ∷ B ∷ p ∷ r ∷ s ∷ F ∷ G ∷ H ∷ [])
    -- 13. Stash area X Y1 Y2, then `free X`: Y1 Y2 Y2, two blocks held.
    pub case_13 : (x y : Digest) (X Y1 Y2 : Block) →
        let left = done (text "free " ++ hex x ++ text "\n") (holding (X ∷ Y1 ∷ Y2 ∷ []) (stash_of x 1 ∷ stash_of y 2 ∷ [])) [] in
        (left.areas.stash ≡ bytes_of (Y1 ∷ Y2 ∷ Y2 ∷ [])) × (blocks_held left.stashes ≡ 2)
    -- .. R-9: stash area A B | C D E | F G, then `free` of the first in three stretches: C D C D E F G, C D E F E F G, C D E F G F G.
    pub stretches : (x y z : Digest) →
        let stashes = stash_of x 2 ∷ stash_of y 3 ∷ stash_of z 2 ∷ [] in
        Stretch stashes 0 (A ∷ B ∷ C ∷ D ∷ E ∷ F ∷ G ∷ []) (C ∷ D ∷ C ∷ D ∷ E ∷ F ∷ G ∷ []) Stretched
        × Stretch stashes 1 (C ∷ D ∷ C ∷ D ∷ E ∷ F ∷ G ∷ []) (C ∷ D ∷ E ∷ F ∷ E ∷ F ∷ G ∷ []) Stretched
        × Stretch stashes 2 (C ∷ D ∷ E ∷ F ∷ E ∷ F ∷ G ∷ []) (C ∷ D ∷ E ∷ F ∷ G ∷ F ∷ G ∷ []) Ended
    -- .. how a `free` ends after each: of the youngest stash nothing moves and no stop follows; younger blocks that come out even take two stretches,
    -- fewer than the gap one; and a stash that is not the oldest goes the same way.
    pub stretch_ends : (x y z : Digest) →
        (free_end (stash_of x 2 ∷ stash_of y 3 ∷ []) 1 0 ≡ Passed)
        × (free_end (stash_of x 2 ∷ stash_of y 4 ∷ []) 0 0 ≡ Stretched)
        × (free_end (stash_of x 2 ∷ stash_of y 4 ∷ []) 0 1 ≡ Ended)
        × (free_end (stash_of x 3 ∷ stash_of y 1 ∷ []) 0 0 ≡ Ended)
        × (free_end (stash_of x 5 ∷ stash_of y 1 ∷ stash_of z 2 ∷ []) 1 0 ≡ Stretched)
        × (free_end (stash_of x 5 ∷ stash_of y 1 ∷ stash_of z 2 ∷ []) 1 1 ≡ Ended)

-- THE TABLE, whatever the blocks hold
abbrev pub Samples : Type 0
Samples = (A B C D E F G H T1 T2 T3 W1 W2 W3 : Block) → Table A B C D E F G H T1 T2 T3 W1 W2 W3
