-- The table of samples holds: the lines are read by computation, and what they do to the areas is by the laws of rows.
-- Assumes nothing.
use mathlib.Core.Path.{◌≡◌, refl, sym, ap, ◌∙◌}
use mathlib.Core.Bool.{Bool, true, false}
use mathlib.Core.List.{List, [], ◌∷◌, ◌++◌, append_assoc, append-nil}
use Prim.Native.Nat.{ℕ}
use native.Mathlib.Omega.{arith}
use lib.ListN.{length, drop, take, length-drop, length-take, take-append-drop}
use Rattle.text.specs.Number.{meets, reaches, can_meet, end_of as end_of_number, digits, number_from, number_for}
use Rattle.text.specs.Expected.{expected_at}
use Rattle.text.specs.Word.{is_first_word}
use Rattle.ranges.specs.Ranges.{item_at, pair_at, pairs_at, set_at, size_of, end_of, summary, ranges_at, span, blocks_of}
use Rattle.ranges.specs.Walk.{pairs_of, ranges_of, blocks_at, AllBelow}
use Rattle.text.specs.Hash.{no_hash, hash_at}
use Rattle.text.specs.Hex.{hex_of}
use Rattle.state.specs.Limits.{block_bytes}
use Rattle.state.specs.Stashes.{same, find_in, is_held, size_at, blocks_held, without}
use Rattle.state.specs.Stretches.{is_stretch, stretch_blocks}
use Rattle.state.proofs.StashLaws.{same_refl, same_eq}
use Rattle.command.specs.Words.{word_in}
use Rattle.command.specs.Fields.{number_field, hash_field, set_field, last_set}
use Rattle.command.specs.Parts.{part_end, places_from, part_at, parts_in, parts_at, parts_field, uses_in, uses_at}
use Rattle.command.specs.Commands.{range_line, with_places, after_blocks, source_from, source_field, length_from, target_from, free_from, hashed_line, digest_from}
use Rattle.command.specs.Commands.{patched_line, length_line, bsdiff_line, command_of}
use Rattle.command.specs.Patching.{patching_from, patching_of, result_hash}
use Rattle.command.specs.Faults.{fault_of, fault_byte}
use Rattle.command.specs.Targets.{new_target}
use Rattle.rules.specs.Held.{held_after}
use Rattle.rules.specs.Move.{source_past, source_over, uses_by, some_missing, stash_blocks, some_differ, places_named, source_differs, places_of}
use Rattle.rules.specs.Move.{places_by, is_in, some_misplaced, sourced_refusal, move_refusal}
use Rattle.rules.specs.Rules.{free_refusal, refusal_for, refusal_of}
use Rattle.updater.specs.Bytes.{zeroed, put_bytes}
use Rattle.updater.specs.Source.{stash_bytes, spread, supplied, together, hashes_to, blocks_hash_to, closed_up, stretched}
use Rattle.updater.specs.Effect.{move_filled, filled, written_from, filled_written, unfinished_effect, is_finished, effect}
use Rattle.sequence.specs.Samples.{text, Block, Digest, hex, bytes_of, patch_line, Table, Samples}
use Rattle.updater.proofs.NewLaws.{put_bytes-append}
use Rattle.text.proofs.HexLaws.{hash-written}
use Rattle.text.specs.Read.{Read, on_read}
use Rattle.sequence.proofs.RowLaws.{length-row, take_row, over-front, over_block, gathered-row, written_row, zeroed-row, put_front}
use Rattle.sequence.proofs.RowLaws.{put-row, moved_row, picked_of, put_at}
use Rattle.std.specs.Prelude.{Ok}

-- ---- the hashes that the lines name

hash_7 : (h : Digest) (rest : List ℕ) → hash_at (text "move " ++ (hex h ++ rest)) 5 ≡ Ok (h.bytes, 45)
hash_7 h rest = hash-written (text "move ") h.bytes rest 5 h.whole h.each refl

module _ (h x : Digest) (places : List ℕ) where
  -- the line of 8 and 9, but for the stash's places
  abbrev line_8 : List ℕ
  line_8 = text "move " ++ hex h ++ text " 2,5,8 3 2,0,2 4,0,1,2,3 " ++ hex x ++ places

  hash_8 : hash_at line_8 5 ≡ Ok (h.bytes, 45)
  unfolding hex_of
  hash_8 = hash-written (text "move ") h.bytes (text " 2,5,8 3 2,0,2 4,0,1,2,3 " ++ (hex x ++ places)) 5 h.whole h.each refl

  stash_8 : hash_at line_8 70 ≡ Ok (x.bytes, 110)
  unfolding hex_of
  stash_8 = hash-written (text "move " ++ hex h ++ text " 2,5,8 3 2,0,2 4,0,1,2,3 ") x.bytes places 70 x.whole x.each refl

-- H and T of a `bsdiff`
hash_bsdiff : (h t : Digest) → hash_at (patch_line h t) 11 ≡ Ok (h.bytes, 51)
unfolding hex_of
hash_bsdiff h t = hash-written (text "bsdiff 0 0 ") h.bytes (text " " ++ (hex t ++ text " 2,1,3 1 2,0,1\n")) 11 h.whole h.each refl

result_bsdiff : (h t : Digest) → hash_at (patch_line h t) 52 ≡ Ok (t.bytes, 92)
unfolding hex_of
result_bsdiff h t = hash-written (text "bsdiff 0 0 " ++ hex h ++ text " ") t.bytes (text " 2,1,3 1 2,0,1\n") 52 t.whole t.each refl

hashes_bsdiff : (h t : Digest) → (patching_of (patch_line h t)).hashes ≡ 10
unfolding meets can_meet end_of_number digits number_from number_for expected_at hex_of number_field patching_from patching_of
hashes_bsdiff h t = refl

wanted_bsdiff : (h t : Digest) → result_hash (patch_line h t) (patching_of (patch_line h t)).hashes ≡ t.bytes
unfolding expected_at hex_of hash_field result_hash
wanted_bsdiff h t =
    ap (result_hash (patch_line h t)) (hashes_bsdiff h t)
    ∙ ap (λ (r : Read (List ℕ)). on_read r (λ hash i. on_read (hash_field (patch_line h t) i) (λ digest next. digest) (λ p. no_hash)) (λ p. no_hash))
    (hash_bsdiff h t)
    ∙ ap (λ (r : Read (List ℕ)). on_read r (λ digest next. digest) (λ p. no_hash)) (result_bsdiff h t)

hash_13 : (x : Digest) → hash_at (text "free " ++ hex x ++ text "\n") 5 ≡ Ok (x.bytes, 45)
hash_13 x = hash-written (text "free ") x.bytes (text "\n") 5 x.whole x.each refl

-- ---- the table

-- digests that are taken to differ
same_not : {a b : List ℕ} → (a ≡ b → ⊥) → same a b ≡ false
same_not {a} {b} d = go (same a b) refl
  where
    go : (t : Bool) → same a b ≡ t → t ≡ false
    go true e = absurd (d (same_eq a b e))
    go false e = refl

-- the bytes of 11, block by block
parted : (a b p d e f q r h : List ℕ) →
    (a ++ (b ++ (p ++ (d ++ (e ++ (f ++ [])))))) ++ (q ++ (r ++ (h ++ []))) ≡ (a ++ (b ++ [])) ++ p ++ (d ++ (e ++ (f ++ []))) ++ q ++ r ++ h
parted a b p d e f q r h = simp (append_assoc, append-nil)

module _ (A B C D E F G H T1 T2 T3 W1 W2 W3 : Block) where
  abbrev image : List Block
  image = A ∷ B ∷ C ∷ D ∷ E ∷ F ∷ G ∷ H ∷ []

  abbrev work : List Block
  work = W1 ∷ W2 ∷ W3 ∷ []

  -- 5,000 bytes over blocks 2 and 6
  put_5000 : (new : List ℕ) → length new ≡ 5000 →
      put_bytes (2 ∷ 6 ∷ []) 0 new (bytes_of image)
      ≡ bytes_of (A ∷ B ∷ []) ++ take block_bytes new ++ bytes_of (D ∷ E ∷ F ∷ []) ++ drop block_bytes new ++ drop 904 G.bytes ++ H.bytes
  unfolding bytes_of
  put_5000 new n =
      let P : Block = record { bytes = take block_bytes new; whole = rw (length-take block_bytes new, n) } in
      let row : List Block = A ∷ B ∷ P ∷ D ∷ E ∷ F ∷ G ∷ H ∷ [] in
      let l : length (drop block_bytes new) ≡ 904 = rw (length-drop block_bytes new, n) in
      let first : put_bytes (2 ∷ 6 ∷ []) 0 (take block_bytes new) (bytes_of image) ≡ bytes_of row =
      put_front [] (6 ∷ []) 2 P.bytes (bytes_of image) (omega arith) (omega (arith, length-row image)) ∙ over_block image 2 (omega arith) P in
      ap (λ (bytes : List ℕ). put_bytes (2 ∷ 6 ∷ []) 0 bytes (bytes_of image)) (sym (take-append-drop block_bytes new))
      ∙ put_bytes-append (2 ∷ 6 ∷ []) 0 (take block_bytes new) (drop block_bytes new) (bytes_of image)
      ∙ rw (P.whole, first)
      (put_front (2 ∷ []) [] 6 (drop block_bytes new) (bytes_of row) (omega arith) (omega (arith, length-row row))
      ∙ over-front row 6 (omega arith) (drop block_bytes new) (omega arith)
      ∙ rw l
      (parted A.bytes B.bytes P.bytes D.bytes E.bytes F.bytes (drop block_bytes new) (drop 904 G.bytes) H.bytes))

  table : Table A B C D E F G H T1 T2 T3 W1 W2 W3
  unfolding meets reaches can_meet end_of_number digits number_from number_for expected_at is_first_word item_at pair_at pairs_at set_at size_of end_of summary ranges_at span blocks_of pairs_of
      ranges_of blocks_at AllBelow hex_of word_in number_field hash_field set_field last_set range_line with_places after_blocks source_from source_field
      length_from target_from free_from hashed_line digest_from patched_line length_line bsdiff_line command_of part_end places_from part_at parts_in parts_at parts_field uses_in uses_at find_in is_held size_at blocks_held without source_past source_over uses_by some_missing stash_blocks
      some_differ places_named source_differs places_of places_by is_in some_misplaced sourced_refusal move_refusal free_refusal refusal_for refusal_of stash_bytes
      fault_of fault_byte spread supplied together closed_up hashes_to new_target held_after move_filled filled written_from filled_written unfinished_effect blocks_hash_to is_finished effect picked_of put_at zeroed is_stretch stretch_blocks stretched
  table =
      record {
        case_1 = record { sized = record { end = 5; read = refl }; order = refl };
        case_2 = record { sized = record { end = 7; read = refl }; order = refl };
        case_3 = refl;
        case-4 = (refl, refl, refl, refl, refl);
        case_5 = (refl, refl);
        case-6 = (record { number = refl; byte = refl }, refl, record { number = refl; byte = refl }, refl);
        case_7 = λ h s d.
            rw (
              hash_7 h (text " 2,1,4 3 2,0,3\n"),
              gathered-row (1 ∷ 2 ∷ 3 ∷ []) image (omega arith),
              same_not d,
              gathered-row (0 ∷ 1 ∷ 2 ∷ []) image (omega arith),
              written_row (0 ∷ 1 ∷ 2 ∷ []) (A ∷ B ∷ C ∷ []) work (omega arith) refl,
              take_row 3 (A ∷ B ∷ C ∷ []),
              s,
              same_refl h.bytes,
            )
            (written_row (1 ∷ 2 ∷ 3 ∷ []) (A ∷ B ∷ C ∷ []) image (omega arith) refl);
        case_7_finished = λ h s.
            rw (hash_7 h (text " 2,1,4 3 2,0,3\n"), gathered-row (1 ∷ 2 ∷ 3 ∷ []) image (omega arith), s, same_refl h.bytes);
        patch-finished = λ h t s.
            rw (hash_bsdiff h t, result_bsdiff h t, wanted_bsdiff h t, gathered-row (1 ∷ 2 ∷ []) image (omega arith), s, same_refl t.bytes);
        patch_unfinished = λ h t d.
            rw (hash_bsdiff h t, result_bsdiff h t, wanted_bsdiff h t, gathered-row (1 ∷ 2 ∷ []) image (omega arith), same_not d);
        case_8 = λ h x S s d.
            rw (hash_8 h x (text ":2,1,2\n"), stash_8 h x (text ":2,1,2\n"), stash_8 h x (text ":2,1,2\n"), same_refl x.bytes)
            (rw (
              gathered-row (5 ∷ 6 ∷ 7 ∷ []) image (omega arith),
              same_not d,
              gathered-row (0 ∷ 1 ∷ []) image (omega arith),
              written_row (0 ∷ 2 ∷ []) (A ∷ B ∷ []) work (omega arith) refl,
              take_row 1 (S ∷ T2 ∷ T3 ∷ []),
              written_row (1 ∷ []) (S ∷ []) (A ∷ W2 ∷ B ∷ []) (omega arith) refl,
              take_row 3 (A ∷ S ∷ B ∷ []),
              s,
              same_refl h.bytes,
            )
            (written_row (5 ∷ 6 ∷ 7 ∷ []) (A ∷ S ∷ B ∷ []) image (omega arith) refl));
        case_9 = λ h x.
            rw (hash_8 h x (text ":2,0,1\n"), stash_8 h x (text ":2,0,1\n"), stash_8 h x (text ":2,0,1\n"), same_refl x.bytes);
        case_10 = zeroed-row (0 ∷ 7 ∷ []) image (omega arith);
        case_11 = λ new n. rw n (put_5000 new n);
        case_12 = λ p q r s.
            rw (length-row (p ∷ q ∷ r ∷ s ∷ []), take_row 4 (p ∷ q ∷ r ∷ s ∷ []))
            (put-row [] (2 ∷ 3 ∷ 3 ∷ 4 ∷ []) (p ∷ q ∷ r ∷ s ∷ []) image (omega arith) refl);
        case_13 = λ x y X Y1 Y2. (
          rw (hash_13 x, same_refl x.bytes) (moved_row (X ∷ Y1 ∷ Y2 ∷ []) 0 1 2),
          rw (hash_13 x, same_refl x.bytes),
        );
        stretches = λ x y z. (
          record { area = moved_row (A ∷ B ∷ C ∷ D ∷ E ∷ F ∷ G ∷ []) 0 2 2; ends = refl },
          record { area = moved_row (C ∷ D ∷ C ∷ D ∷ E ∷ F ∷ G ∷ []) 2 4 2; ends = refl },
          record { area = moved_row (C ∷ D ∷ E ∷ F ∷ E ∷ F ∷ G ∷ []) 4 6 1; ends = refl },
        );
        stretch_ends = λ x y z. (refl, refl, refl, refl, refl, refl);
      }

pub samples : Samples
samples = table
