-- What is saved is read back, and what is read back was saved: `specs/Claim.antt`.
-- Assumes nothing.
use mathlib.Core.Path.{◌≡◌, refl, sym, ap, subst, ◌∙◌}
use mathlib.Core.Bool.{Bool, true, false}
use mathlib.Core.List.{List, [], ◌∷◌, ◌++◌, append_assoc, append-nil}
use Rattle.std.specs.Prelude.{Ok, Err}
use Prim.Native.Nat.{ℕ, suc, ◌+◌, ◌*◌, ◌≤◌}
use native.Mathlib.Omega.{arith}
use borrow.Author.Tests.{eqb-true, eq-eqb}
use lib.Dec.{eqb}
use lib.ListN.{length, get_or, take, drop, length-append, length-take, length-drop, take-append-drop, drop_of_length-le}
use lib.Seq.{drop-cons, drop-drop, take_at, drop-append-add, get_or-append-add, get_or_at}
use Rattle.text.specs.Below.{AllBelow}
use Rattle.text.specs.Choice.{pick}
use Rattle.text.proofs.ChoiceLaws.{both_true, both_is}
use Rattle.state.specs.Limits.{table_bytes, most_stashes}
use Rattle.state.specs.Refusals.{no_saved_form, number_of}
use Rattle.state.specs.declared.State.{State}
use Rattle.state.specs.declared.refusals.Reason.{Reason}
use Rattle.state.specs.declared.refusals.Reason.TheVariants.{NoSavedForm}
use Rattle.saved.specs.Layout.{mark_bytes, letter_s, letter_h, letter_b, letter_p, letter_r, letter_l, word_bytes, word_bound}
use Rattle.saved.specs.Layout.{progress_count, refusal_count, length_count}
use Rattle.saved.specs.Layout.{hashes_at, sizes_at, progress_at, refusal_at, lengths_at, saved_bytes}
use Rattle.saved.specs.Saved.{words_of, record_of, progress_numbers, refusal_numbers, length_numbers, Typed, FormOf}
use Rattle.saved.specs.Saved.{hashes_record, sizes_record, progress_record, refusal_record, lengths_record, saved_of}
use Rattle.saved.specs.Restored.{has_mark, is_saved, numbers_at, state_in, restored_of}
use Rattle.saved.specs.Claim.{SavedClaim}
use Rattle.saved.proofs.WordLaws.{length-words, numbers-words, words-numbers, below_part}
use Rattle.saved.proofs.ReadLaws.{saved_length}

-- ---- what is saved is read back

module _ (pre : List ℕ) (at letter : ℕ) (bytes rest : List ℕ) (l : length pre ≡ at) where
  mark-stands : has_mark (pre ++ (record_of letter bytes ++ rest)) at letter ≡ true
  unfolding has_mark
  mark-stands =
      let e = get_or-append-add pre (record_of letter bytes ++ rest) 1 0 in
      both_is (eq-eqb _ _ (get_or_at pre letter_s (letter ∷ (bytes ++ rest)) 0 at l)) (eq-eqb _ _ (rw l at e))

  bytes_stand : (n : ℕ) → length bytes ≡ n → take n (drop (at + mark_bytes) (pre ++ (record_of letter bytes ++ rest))) ≡ bytes
  bytes_stand n h =
      let e = drop-append-add pre (record_of letter bytes ++ rest) mark_bytes in
      let d : drop (at + mark_bytes) (pre ++ (record_of letter bytes ++ rest)) ≡ bytes ++ rest = rw l at e in
      rw d (take_at bytes rest n h)

-- a record of numbers stands in some bytes
record Stands (b : List ℕ) (at letter n : ℕ) (xs : List ℕ) : Type 0 where
  mark : has_mark b at letter ≡ true
  numbers : numbers_at b (at + mark_bytes) n ≡ xs

stands : (pre : List ℕ) (at letter : ℕ) (xs rest : List ℕ) (n : ℕ) → length pre ≡ at → length xs ≡ n → AllBelow word_bound xs →
    Stands (pre ++ (record_of letter (words_of xs) ++ rest)) at letter n xs
stands pre at letter xs rest n l k h =
    let e : pre ++ (record_of letter (words_of xs) ++ rest) ≡ (pre ++ record_of letter []) ++ (words_of xs ++ rest) = simp append_assoc in
    record {
      mark = mark-stands pre at letter (words_of xs) rest l;
      numbers = rw e (numbers-words (pre ++ record_of letter []) xs rest (at + mark_bytes) n (simp length-append (omega arith)) k h);
    }

-- five records, and what stands before the third, the fourth and the fifth
module _ (h b p r l : List ℕ) where
  third : (h ++ b) ++ (p ++ (r ++ l)) ≡ h ++ (b ++ (p ++ (r ++ l)))
  third = simp append_assoc

  fourth : (h ++ (b ++ p)) ++ (r ++ l) ≡ h ++ (b ++ (p ++ (r ++ l)))
  fourth = simp append_assoc

  fifth : (h ++ (b ++ (p ++ r))) ++ (l ++ []) ≡ h ++ (b ++ (p ++ (r ++ l)))
  fifth = rw append-nil (simp append_assoc)

module _ (s : State) (t : Typed s) where
  -- how long each record is after its mark
  widths :
      (length s.table.hashes ≡ table_bytes)
      × (length (words_of s.table.sizes) ≡ word_bytes * most_stashes)
      × (length (words_of (progress_numbers s)) ≡ word_bytes * progress_count)
      × (length (words_of (refusal_numbers s.refusal)) ≡ word_bytes * refusal_count)
      × (length (words_of (length_numbers s.lengths)) ≡ word_bytes * length_count)
  widths =
      let w = length-words s.table.sizes in
      let n = t.sizes-length in (
        t.hashes-length,
        omega arith,
        length-words (progress_numbers s),
        length-words (refusal_numbers s.refusal),
        length-words (length_numbers s.lengths),
      )

  hashes-marked : has_mark (saved_of s) hashes_at letter_h ≡ true
  unfolding saved_of
  hashes-marked = mark-stands [] hashes_at letter_h s.table.hashes (sizes_record s ++ (progress_record s ++ (refusal_record s ++ lengths_record s))) refl

  hashes_stand : take table_bytes (drop (hashes_at + mark_bytes) (saved_of s)) ≡ s.table.hashes
  unfolding saved_of
  hashes_stand =
      bytes_stand [] hashes_at letter_h s.table.hashes (sizes_record s ++ (progress_record s ++ (refusal_record s ++ lengths_record s))) refl
      table_bytes t.hashes-length

  sizes_stand : Stands (saved_of s) sizes_at letter_b most_stashes s.table.sizes
  unfolding saved_of
  sizes_stand =
      let n = widths in
      stands (hashes_record s) sizes_at letter_b s.table.sizes (progress_record s ++ (refusal_record s ++ lengths_record s)) most_stashes
      (omega arith) t.sizes-length t.sizes

  progress-stands : Stands (saved_of s) progress_at letter_p progress_count (progress_numbers s)
  unfolding saved_of
  progress-stands =
      let n = widths in
      subst (λ (b : List ℕ). Stands b progress_at letter_p progress_count (progress_numbers s))
      (third (hashes_record s) (sizes_record s) (progress_record s) (refusal_record s) (lengths_record s))
      (stands (hashes_record s ++ sizes_record s) progress_at letter_p (progress_numbers s) (refusal_record s ++ lengths_record s) progress_count
      (simp length-append (omega arith)) refl t.progress)

  refusal-stands : Stands (saved_of s) refusal_at letter_r refusal_count (refusal_numbers s.refusal)
  unfolding saved_of
  refusal-stands =
      let n = widths in
      subst (λ (b : List ℕ). Stands b refusal_at letter_r refusal_count (refusal_numbers s.refusal))
      (fourth (hashes_record s) (sizes_record s) (progress_record s) (refusal_record s) (lengths_record s))
      (stands (hashes_record s ++ (sizes_record s ++ progress_record s)) refusal_at letter_r (refusal_numbers s.refusal) (lengths_record s) refusal_count
      (simp length-append (omega arith)) refl t.refusal)

  lengths_stand : Stands (saved_of s) lengths_at letter_l length_count (length_numbers s.lengths)
  unfolding saved_of
  lengths_stand =
      let n = widths in
      subst (λ (b : List ℕ). Stands b lengths_at letter_l length_count (length_numbers s.lengths))
      (fifth (hashes_record s) (sizes_record s) (progress_record s) (refusal_record s) (lengths_record s))
      (stands (hashes_record s ++ (sizes_record s ++ (progress_record s ++ refusal_record s))) lengths_at letter_l (length_numbers s.lengths) [] length_count
      (simp length-append (omega arith)) refl t.lengths)

  length-saved : length (saved_of s) ≡ saved_bytes
  unfolding saved_of
  length-saved =
      let n = widths in
      simp length-append (omega arith)

  saved-is : is_saved (saved_of s) ≡ true
  unfolding is_saved
  saved-is =
      rw (
        eq-eqb _ _ length-saved,
        hashes-marked,
        sizes_stand.mark,
        progress-stands.mark,
        refusal-stands.mark,
        lengths_stand.mark,
      )

  state-back : state_in (saved_of s) ≡ s
  unfolding state_in numbers_at
  state-back =
      let p = progress-stands.numbers in
      let r = refusal-stands.numbers in
      let l = lengths_stand.numbers in
      let at : ℕ → List ℕ → ℕ = λ k xs. get_or xs k 0 in
      rw (
        hashes_stand,
        sizes_stand.numbers,
        ap (at 0) p,
        ap (at 1) p,
        ap (at 2) p,
        ap (at 3) p,
        ap (at 4) p,
        ap (at 5) p,
        ap (at 6) p,
        ap (at 0) r,
        ap (at 1) r,
        ap (at 2) r,
        ap (at 0) l,
        ap (at 1) l,
        ap (at 2) l,
        ap (at 3) l,
        ap (at 4) l,
        ap (at 5) l,
      )

  read_back : restored_of (saved_of s) ≡ Ok s
  unfolding restored_of
  read_back = rw (saved-is, state-back)

-- ---- what is read back was saved

-- a marked record, and what follows it
piece : (b : List ℕ) (at letter n : ℕ) → at + (mark_bytes + n) ≤ length b → has_mark b at letter ≡ true →
    drop at b ≡ record_of letter (take n (drop (at + mark_bytes) b)) ++ drop (at + (mark_bytes + n)) b
unfolding has_mark
piece b at letter n l m =
    let t = both_true (eqb (get_or b at 0) letter_s) (eqb (get_or b (at + 1) 0) letter) m in
    let one : suc at ≡ at + 1 = omega arith in
    let two : suc (at + 1) ≡ at + mark_bytes = omega arith in
    let next : at + (mark_bytes + n) ≡ at + mark_bytes + n = omega arith in
    let first : drop at b ≡ letter_s ∷ drop (at + 1) b = drop-cons b at 0 (omega arith) ∙ rw (eqb-true (get_or b at 0) letter_s t.0, one) in
    let second : drop (at + 1) b ≡ letter ∷ drop (at + mark_bytes) b = drop-cons b (at + 1) 0 (omega arith) ∙ rw (eqb-true (get_or b (at + 1) 0) letter t.1, two) in
    first ∙ rw (second, next, ← drop-drop n (at + mark_bytes) b, take-append-drop n (drop (at + mark_bytes) b))

-- .. of numbers
number-piece : (b : List ℕ) (at letter n : ℕ) → at + (mark_bytes + word_bytes * n) ≤ length b → AllBelow 256 b → has_mark b at letter ≡ true →
    drop at b ≡ record_of letter (words_of (numbers_at b (at + mark_bytes) n)) ++ drop (at + (mark_bytes + word_bytes * n)) b
number-piece b at letter n l h m =
    let r = words-numbers b (at + mark_bytes) n (omega arith) h in
    rw r.again (piece b at letter (word_bytes * n) l m)

five_pieces : (b : List ℕ) (i j k l n : ℕ) (p q r s t : List ℕ) → b ≡ p ++ drop i b → drop i b ≡ q ++ drop j b → drop j b ≡ r ++ drop k b →
    drop k b ≡ s ++ drop l b → drop l b ≡ t ++ drop n b → length b ≡ n → p ++ (q ++ (r ++ (s ++ t))) ≡ b
five_pieces b i j k l n p q r s t ep eq er es et h =
    let e : drop n b ≡ [] = drop_of_length-le b {i = n} (omega arith) in
    sym (ep ∙ rw (eq, er, es, et, e, append-nil))

module _ (b : List ℕ) (h : AllBelow 256 b) (is : is_saved b ≡ true) where
  is_long : length b ≡ saved_bytes
  is_long = saved_length b is

  -- the marks, one by one
  marks : (has_mark b hashes_at letter_h ≡ true) × (has_mark b sizes_at letter_b ≡ true) × (has_mark b progress_at letter_p ≡ true)
      × (has_mark b refusal_at letter_r ≡ true) × (has_mark b lengths_at letter_l ≡ true)
  unfolding is_saved
  marks =
      let l = both_true (eqb (length b) saved_bytes) _ is in
      let h = both_true (has_mark b hashes_at letter_h) _ l.1 in
      let z = both_true (has_mark b sizes_at letter_b) _ h.1 in
      let p = both_true (has_mark b progress_at letter_p) _ z.1 in
      let r = both_true (has_mark b refusal_at letter_r) _ p.1 in
      (h.0, z.0, p.0, r.0, r.1)

  saved-again : saved_of (state_in b) ≡ b
  unfolding saved_of state_in numbers_at
  saved-again =
      let l = is_long in
      five_pieces b sizes_at progress_at refusal_at lengths_at saved_bytes
      (record_of letter_h (take table_bytes (drop (hashes_at + mark_bytes) b)))
      (record_of letter_b (words_of (numbers_at b (sizes_at + mark_bytes) most_stashes)))
      (record_of letter_p (words_of (numbers_at b (progress_at + mark_bytes) progress_count)))
      (record_of letter_r (words_of (numbers_at b (refusal_at + mark_bytes) refusal_count)))
      (record_of letter_l (words_of (numbers_at b (lengths_at + mark_bytes) length_count)))
      (piece b hashes_at letter_h table_bytes (omega arith) marks.0)
      (number-piece b sizes_at letter_b most_stashes (omega arith) h marks.1)
      (number-piece b progress_at letter_p progress_count (omega arith) h marks.2)
      (number-piece b refusal_at letter_r refusal_count (omega arith) h marks.3)
      (number-piece b lengths_at letter_l length_count (omega arith) h marks.4)
      l

  typed : Typed (state_in b)
  unfolding state_in numbers_at
  typed =
      let l = is_long in
      let z = words-numbers b (sizes_at + mark_bytes) most_stashes (omega arith) h in
      let p = words-numbers b (progress_at + mark_bytes) progress_count (omega arith) h in
      let r = words-numbers b (refusal_at + mark_bytes) refusal_count (omega arith) h in
      let n = words-numbers b (lengths_at + mark_bytes) length_count (omega arith) h in
      record {
        hashes-length = simp (length-take, length-drop) (omega arith);
        sizes-length = z.count;
        hashes = below_part 256 (hashes_at + mark_bytes) table_bytes b h;
        sizes = z.below;
        progress = p.below;
        refusal = r.below;
        lengths = n.below;
      }

-- ---- the claim

own-form : (b : List ℕ) → AllBelow 256 b → (s : State) → restored_of b ≡ Ok s → FormOf b s
unfolding restored_of
own-form b h s e = go (is_saved b) refl e
  where
    go : (t : Bool) → is_saved b ≡ t → pick t (Ok (state_in b)) (Err NoSavedForm) ≡ Ok s → FormOf b s
    go true is e =
        let i : state_in b ≡ s = cc in
        let f : FormOf b (state_in b) = record { typed = typed b h is; form = saved-again b h is } in
        rw i at f
    go false is e = absurd (cc)

one_number : (b : List ℕ) (reason : Reason) → restored_of b ≡ Err reason → number_of reason ≡ no_saved_form
unfolding restored_of
one_number b reason e = go (is_saved b) e
  where
    go : (t : Bool) → pick t (Ok (state_in b)) (Err NoSavedForm) ≡ Err reason → number_of reason ≡ no_saved_form
    go true e = absurd (cc)
    go false e =
        let i : NoSavedForm ≡ reason = cc in
        sym (ap number_of i)

no-form : (b : List ℕ) (reason : Reason) → restored_of b ≡ Err reason → (s : State) → FormOf b s → ⊥
no-form b reason e s f =
    let r : restored_of b ≡ Ok s = rw f.form at (read_back s f.typed) in
    cc

pub claim : SavedClaim
claim =
    record {
      typed = λ s a b c d e f g.
          record { hashes-length = a; sizes-length = b; hashes = c; sizes = d; progress = e; refusal = f; lengths = g };
      one-length = length-saved;
      read_back = read_back;
      own-form = own-form;
      one_number = one_number;
      no-form = no-form;
    }
